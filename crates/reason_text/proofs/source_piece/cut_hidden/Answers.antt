use Rattle.text_lines.specs.Words.{words_of}
use Rattle.reason_text.specs.LineFault.{HasOperandFault, HasOperandsFault}
use Rattle.reason_text.proofs.FaultLemmas.{handed_on, second_wanted}
use Rattle.reason_text.proofs.source_piece.cut_hidden.Goals as goal

pub returns-in_err-bound-clause-faulty : goal.returns-in_err-bound-clause-faulty
returns-in_err-bound-clause-faulty c =
    let t = c.args.table.now.trace.now in
    let words = words_of c.args.rest.now in
    let after = words_of c.in_ok-witness.after.now in
    handed_on c.args.table.now (HasOperandFault t after) (HasOperandsFault t 2 words) c.from_residual-in_err-bound.result c.in_err-bound.field-0.0 c.from_residual-in_err-bound.ensures.1
    (λ cause h. second_wanted t c.in_ok-witness.witness words after cause c.in_ok-witness.ensures.named c.in_ok-witness.ensures.known h) c.in_err-bound.ensures.faulty
