use Rattle.std.proofs.Common.{refl}
use Rattle.std.specs.Prelude.{codes}
use Rattle.text_lines.specs.Words.{words_of}
use Rattle.reason_text.specs.LineFault.{HasKindFault, HasPiecesFault, InLastWriters}
use Rattle.reason_text.proofs.FaultLemmas.{handed_on}
use Rattle.reason_text.proofs.reason_line.read_last.Goals as goal

pub returns-in_err-pieces-clause-faulty : goal.returns-in_err-pieces-clause-faulty
returns-in_err-pieces-clause-faulty c =
    let t = c.args.table.now.trace.now in
    let rest = words_of c.in-Some.rest.now in
    handed_on c.args.table.now (HasPiecesFault t rest) (HasKindFault t (codes "l") (words_of c.args.line.now)) c.from_residual.result c.in_err-pieces.field-0.0 c.from_residual.ensures.1
    (λ cause h. InLastWriters refl c.in-Some.location.now rest c.in-Some.ensures.words h) c.in_err-pieces.ensures.faulty
