-- Refusals that are handed on.
use Rattle.std.proofs.Common.{◌≡◌, sym, subst}
use Rattle.std.specs.Prelude.{Result, Ok, Err, IfErr, IsErrAnd}
use Rattle.text_lines.specs.declared.plain_fault.PlainFault.{PlainFault}
use Rattle.text_lines.specs.declared.plain_fault.PlainFault.TheVariants.{OutOfMemory, For}
use Rattle.reason_clauses.specs.RefusedBy.{IsRefusedBy}
use Rattle.reason_clauses.specs.declared.cause.ReasonCause.{ReasonCause}

module _ (P Q : ReasonCause → Type 0) where
  weaker : ((cause : ReasonCause) → P cause → Q cause) → (refusal : PlainFault ReasonCause) → IsRefusedBy P refusal → IsRefusedBy Q refusal
  weaker f OutOfMemory h = tt
  weaker f (For cause) h = f cause h

  -- a refusal is handed on, for a weaker cause
  pub refusal_on : {A : Type 0} (r : Result A (PlainFault ReasonCause)) (refusal : PlainFault ReasonCause) → IsErrAnd r (λ other. other ≡ refusal) → ((cause : ReasonCause) → P cause → Q cause) → IsRefusedBy P refusal → IfErr r (IsRefusedBy Q)
  refusal_on (Ok x) refusal e f h = absurd e
  refusal_on (Err other) refusal e f h = weaker f other (subst (λ o. IsRefusedBy P o) (sym e) h)

  -- a result is handed on, with a refusal for a weaker cause
  pub result_on : {A : Type 0} (r : Result A (PlainFault ReasonCause)) → ((cause : ReasonCause) → P cause → Q cause) → IfErr r (IsRefusedBy P) → IfErr r (IsRefusedBy Q)
  result_on (Ok x) f h = tt
  result_on (Err refusal) f h = weaker f refusal h
