-- Each list of names has one judgement.
use Rattle.std.proofs.Common.{◌≡◌, ℕ, ◌+◌, List, length, refl, sym, ◌∙◌, inl, inr}
use Rattle.std.specs.Prelude.{Option, Some, None}
use Rattle.text_lines.specs.FirstFault.{IsFaultless, IsFirstFault}
use Rattle.text_lines.proofs.FaultLemmas.{one_first, either, none_is_some}
use Rattle.trace_semantics.specs.declared.judgement.IllegalCause.{IllegalCause}
use Rattle.trace_semantics.specs.declared.judgement.Judgement.{Judgement}
use Rattle.trace_semantics.specs.declared.judgement.Judgement.TheVariants.{Legal, Illegal}
use Rattle.trace_semantics.specs.declared.operation.OpName.{OpName}
use Rattle.trace_semantics.specs.Judgement.{fault_at, fault_of_whole, IsJudgement}
use Rattle.trace_semantics.specs.Trace.{TraceValue}

never_both : (t : TraceValue) (names : List OpName) (place : ℕ) (cause : IllegalCause) → IsFirstFault (fault_at t) names place cause → IsFaultless (fault_at t) names → ⊥
never_both t names place cause first ok = none_is_some cause (sym (ok first.before first.item first.after first.parts) ∙ first.faulty)

not_legal : (t : TraceValue) (names : List OpName) (cause : IllegalCause) (place : ℕ) → IsJudgement t names Legal → IsJudgement t names (Illegal cause place) → ⊥
not_legal t names cause place h (inl first) = never_both t names place cause first h.0
not_legal t names cause place h (inr whole) = none_is_some cause (sym h.1 ∙ whole.1)

one_fault : (t : TraceValue) (names : List OpName) (c d : IllegalCause) (p q : ℕ) → IsJudgement t names (Illegal c p) → IsJudgement t names (Illegal d q) → Illegal c p ≡ Illegal d q
one_fault t names c d p q (inl h) (inl k) = let same = one_first (fault_at t) names p q c d h k in λ i. Illegal (same.1 i) (same.0 i)
one_fault t names c d p q (inl h) (inr k) = absurd (never_both t names p c h k.0)
one_fault t names c d p q (inr h) (inl k) = absurd (never_both t names q d k h.0)
one_fault t names c d p q (inr h) (inr k) = cc

pub one_judgement : (t : TraceValue) (names : List OpName) (j k : Judgement) → IsJudgement t names j → IsJudgement t names k → j ≡ k
one_judgement t names Legal Legal h k = refl
one_judgement t names Legal (Illegal d q) h k = absurd (not_legal t names d q h k)
one_judgement t names (Illegal c p) Legal h k = absurd (not_legal t names c p k h)
one_judgement t names (Illegal c p) (Illegal d q) h k = one_fault t names c d p q h k

of_whole : (t : TraceValue) (names : List OpName) → IsFaultless (fault_at t) names → (o : Option IllegalCause) → fault_of_whole t names ≡ o → (j : Judgement) × IsJudgement t names j
of_whole t names ok None e = (Legal, (ok, e))
of_whole t names ok (Some cause) e = (Illegal cause (length names + 1), inr (ok, e, refl))

pub some_judgement : (t : TraceValue) (names : List OpName) → (j : Judgement) × IsJudgement t names j
some_judgement t names =
    elim (either (fault_at t) names) [
      | inl ok ↦ of_whole t names ok (fault_of_whole t names) refl
      | inr (place, cause, first) ↦ (Illegal cause place, inl first)
    ]
