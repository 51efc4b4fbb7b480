use Rattle.std.proofs.Common.{◌≤◌}
use Rattle.std.specs.Prelude.{IfSome}
use Rattle.result_ledger.specs.Pieces.{AreWithoutBetween}
use Rattle.result_ledger.specs.Verdict.{HasProofAt, IsProofAnswer}
use Rattle.result_ledger.proofs.unproved.without_proof_between.Given as goal

abbrev pub invariant-loop-leaf : goal.invariant-loop-leaf
invariant-loop-leaf g l =
    AreWithoutBetween (HasProofAt (g.L.ClauseList.formula l.formula).clauses l.slots) l.from l.leaf l.leaves.items
    × (l.from ≤ l.leaf)
    × (l.leaf ≤ l.end)
    × IfSome l.known (λ first. IsProofAnswer (g.L.ClauseList.formula l.formula).clauses first.now)
