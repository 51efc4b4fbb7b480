use Rattle.std.proofs.Common.{subst, sym}
use Rattle.batch_report.specs.declared.piece_verdict.PieceVerdict.{PieceVerdict}
use Rattle.batch_report.specs.PieceVerdicts.{IsVerdictOf}
use Rattle.batch_report.proofs.VerdictLemmas.{surveyed_is}
use Rattle.batch_report.proofs.deciding.verdict_by_survey.Goals as goal

pub returns-in-Ok : goal.returns-in-Ok
returns-in-Ok g c = subst (λ (v : PieceVerdict). IsVerdictOf c.args.trace.now v) (sym c.verdict_of_surveyed.ensures) (surveyed_is c.args.options.now c.args.trace.now c.in-Ok.surveyed c.in-Ok.ensures.decided)
