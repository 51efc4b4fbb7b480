use Rattle.std.proofs.Common.{◌≡◌, ◌≤◌, ℕ, take}
use Rattle.lrat_check.specs.Active.{at_start}
use Rattle.lrat_check.specs.ClauseAt.{clause_at}
use Rattle.lrat_check.specs.Counted.{AreFormulaCounts, HasRightChanges}
use Rattle.lrat_check.specs.Pieces.{after_all, IsAcceptedFrom}
use Rattle.lrat_check.proofs.pieces.check_piece.Given as goal

abbrev pub invariant-loop-i : goal.invariant-loop-i
invariant-loop-i g l =
    let clauses = (g.F.ClauseList.formula l.formula).clauses in
    ((id : ℕ) → clause_at clauses l.active.clauses id ≡ after_all (at_start clauses l.cube) (take l.i l.steps) id)
    × (IsAcceptedFrom clauses l.cube l.derivation l.i → IsAcceptedFrom clauses l.cube l.derivation l.from)
    × HasRightChanges clauses l.active
    × AreFormulaCounts clauses l.counts
