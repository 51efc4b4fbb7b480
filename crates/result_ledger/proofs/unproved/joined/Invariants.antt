use Rattle.std.proofs.Common.{◌≡◌, ◌++◌, length}
use Rattle.std.specs.Vec.Iter.{into_iter_items, into_iter_len}
use Rattle.result_ledger.specs.Pieces.{AreWithoutBetween, piece_start}
use Rattle.result_ledger.specs.Verdict.{HasProofAt}
use Rattle.result_ledger.proofs.unproved.joined.Given as goal

abbrev pub invariant-loop-piece : goal.invariant-loop-piece
invariant-loop-piece g l =
    AreWithoutBetween
    (HasProofAt (g.L.ClauseList.formula l.fn._formula).clauses l.fn._slots)
    0
    (piece_start l.fn._size (length l.fn._slots) (length l.yielded))
    l.all.items
    × (l.fn.pieces.items ≡ l.yielded ++ into_iter_items l.piece-iterator)
    × (into_iter_len l.piece-iterator ≡ length (into_iter_items l.piece-iterator))
