use Rattle.std.proofs.Common.{◌≡◌, ◌∷◌, [], ◌∙◌, inl, inr}
use Rattle.std.specs.Prelude.{◌≢◌}
use Rattle.text_lines.specs.Words.{words_of}
use Rattle.reason_clauses.specs.declared.cause.ReasonCause.{ReasonCause}
use Rattle.reason_clauses.specs.declared.cause.ReasonCause.TheVariants.{BadLine}
use Rattle.reason_text.specs.LineFault.{HasOperandFault, HasPairFault}
use Rattle.reason_text.specs.OperationWord.{operation_word}
use Rattle.reason_text.proofs.FaultLemmas.{handed_on, second_wanted}
use Rattle.reason_text.proofs.line_words.read_pair.Goals as goal

pub returns-in_err-second-clause-faulty : goal.returns-in_err-second-clause-faulty
returns-in_err-second-clause-faulty c =
    let t = c.args.table.now.trace.now in
    let first = c.in_ok-first.first in
    let rest = words_of c.in_ok-first.rest.now in
    handed_on c.args.table.now (HasOperandFault t rest) (HasPairFault t (words_of c.args.line.now)) c.from_residual-in_err-second.result c.in_err-second.field-0.0 c.from_residual-in_err-second.ensures.1
    (λ cause h. inl (second_wanted t first (words_of c.args.line.now) rest cause c.in_ok-first.ensures.named c.in_ok-first.ensures.known h)) c.in_err-second.ensures.faulty

pub returns-in_err-want_end-clause-faulty : goal.returns-in_err-want_end-clause-faulty
returns-in_err-want_end-clause-faulty c =
    let t = c.args.table.now.trace.now in
    let first = c.in_ok-first.first in
    let second = c.in_ok-second.second in
    let rest = words_of c.in_ok-second.end.now in
    handed_on c.args.table.now (λ (cause : ReasonCause). (rest ≢ []) × (cause ≡ BadLine)) (HasPairFault t (words_of c.args.line.now)) c.from_residual-in_err-want_end.result c.in_err-want_end.field-0.0 c.from_residual-in_err-want_end.ensures.1
    (λ cause h. inr (first, second, rest, c.in_ok-first.ensures.named ∙ (λ i. operation_word t first ∷ c.in_ok-second.ensures.named i), c.in_ok-first.ensures.known, c.in_ok-second.ensures.known, h.0, h.1))
    (λ holds. c.in_err-want_end.ensures.faulty)
