use Rattle.std.proofs.Common.{sym, subst}
use Rattle.std.specs.Prelude.{IfSome}
use Rattle.reason_clauses.specs.LastBarred.{IsGivenLate}
use Rattle.reason_clauses.proofs.LastLemmas.{late_front}
use Rattle.reason_clauses.proofs.last.late_witness.Goals as goal

pub returns-then-n-piece-clause-given : goal.returns-then-n-piece-clause-given
returns-then-n-piece-clause-given c t location given = late_front t location c.args.pieces.now c.of_process-piece.result c.of_process-piece.ensures.listed given

pub returns-clause-given : goal.returns-clause-given
returns-clause-given c t location given = subst (λ w. IfSome w (IsGivenLate t location)) (sym c.main_witness.ensures) given.main
