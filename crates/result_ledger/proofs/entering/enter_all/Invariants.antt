use Rattle.std.proofs.Common.{◌≡◌, ◌++◌, length}
use Rattle.std.specs.Vec.Iter.{into_iter_items, into_iter_len}
use Rattle.result_ledger.specs.Entered.{AreEnteredInTurn}
use Rattle.result_ledger.proofs.entering.enter_all.Given as goal

abbrev pub invariant-loop-settled : goal.invariant-loop-settled
invariant-loop-settled l =
    AreEnteredInTurn l.initial.ledger l.yielded l.ledger
    × (l.fn.results.items ≡ l.yielded ++ into_iter_items l.settled-iterator)
    × (into_iter_len l.settled-iterator ≡ length (into_iter_items l.settled-iterator))
