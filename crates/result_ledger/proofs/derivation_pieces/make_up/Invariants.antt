use Rattle.lrat_check.specs.Checked.{IsAccepted}
use Rattle.lrat_check.specs.Pieces.{IsAcceptedFrom}
use Rattle.result_ledger.proofs.derivation_pieces.make_up.Given as goal

abbrev pub invariant-loop-number : goal.invariant-loop-number
invariant-loop-number g l =
    let clauses = (g.L.ClauseList.formula l._formula).clauses in
    IsAcceptedFrom clauses l._cube l._derivation l.place → IsAccepted clauses l._cube l._derivation
