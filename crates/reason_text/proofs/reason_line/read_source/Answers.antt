use Rattle.std.proofs.Common.{refl}
use Rattle.std.specs.Prelude.{codes}
use Rattle.text_lines.specs.Words.{words_of}
use Rattle.reason_text.specs.LineFault.{HasKindFault, HasPiecesFault, InSources}
use Rattle.reason_text.proofs.FaultLemmas.{handed_on}
use Rattle.reason_text.proofs.reason_line.read_source.Goals as goal

pub returns-in_err-pieces-clause-faulty : goal.returns-in_err-pieces-clause-faulty
returns-in_err-pieces-clause-faulty c =
    let t = c.args.table.now.trace.now in
    let rest = words_of c.in_ok-reader.rest.now in
    handed_on c.args.table.now (HasPiecesFault t rest) (HasKindFault t (codes "s") (words_of c.args.line.now)) c.from_residual-in_err-pieces.result c.in_err-pieces.field-0.0 c.from_residual-in_err-pieces.ensures.1
    (λ cause h. InSources refl c.in_ok-reader.reader rest c.in_ok-reader.ensures.named c.in_ok-reader.ensures.known h) c.in_err-pieces.ensures.faulty
