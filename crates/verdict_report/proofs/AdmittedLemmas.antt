-- Texts that are admitted, and texts that are not.
use Rattle.std.proofs.Common.{◌≡◌, ℕ, List, ◌<◌, ◌≤◌, ◌⊎◌, inl, inr, arith, ap, refl, subst, sym, ◌∙◌}
use Rattle.std.proofs.lemmas.Bool.{cases_order}
use Rattle.std.proofs.lemmas.List.{append_cancel_left}
use Rattle.trace_semantics.specs.Trace.{TraceValue, IsTrace, operation_count}
use Rattle.trace_text.specs.TraceText.{SpellsTrace}
use Rattle.trace_text.proofs.OneTraceLemmas.{one_spelled}
use Rattle.reducer.specs.Reduction.{kept_trace}
use Rattle.verdict_report.specs.Admitted.{Admits, IsTooLarge, cnf_of}
use Rattle.verdict_report.specs.CnfEngine.{Translates}
use Rattle.verdict_report.specs.Runs.{SourceRun, HandsOut}

-- what is kept of a trace is little or much
pub little_or_much : (text : List ℕ) (value : TraceValue) → IsTrace value → SpellsTrace text value → ((v : TraceValue) × Admits text v) ⊎ ((left : ℕ) × IsTooLarge text left)
little_or_much text value is_trace spelled = elim (cases_order (operation_count (kept_trace value)) 160) [
  | inl same ↦ inl (value, record { is_trace = is_trace; spelled = spelled; few = omega (arith, same) })
  | inr (inl less) ↦ inl (value, record { is_trace = is_trace; spelled = spelled; few = omega (arith, less) })
  | inr (inr more) ↦ inr (operation_count (kept_trace value), record { value = value; is_trace = is_trace; spelled = spelled; left_is = refl; many = more })
]

-- not both: it is one trace
pub not_both : (text : List ℕ) (value : TraceValue) (left : ℕ) → Admits text value → IsTooLarge text left → ⊥
not_both text value left a large =
    let same : value ≡ large.value = one_spelled text value large.value a.is_trace large.is_trace a.spelled large.spelled in
    let count : operation_count (kept_trace value) ≡ operation_count (kept_trace large.value) = ap (λ v. operation_count (kept_trace v)) same in
    let few : operation_count (kept_trace value) ≤ 160 = a.few in
    let many : 160 < left = large.many in
    let is : left ≡ operation_count (kept_trace large.value) = large.left_is in
    absurd (omega (arith, count, few, many, is))

-- a source that has handed out a text has handed out no other
one_text : (source : SourceRun) (text other : List ℕ) → HandsOut source text → HandsOut source other → text ≡ other
one_text source text other h o = append_cancel_left source.before text other (sym h.handed ∙ o.handed)

-- the clause list is that of the trace that the text spells
pub one_list : (first second : SourceRun) (text cnf other : List ℕ) → HandsOut first text → HandsOut second text → Translates first cnf → Translates second other → cnf ≡ other
one_list first second text cnf other h k a b =
    let texts : a.text ≡ b.text = one_text first a.text text a.handed h ∙ one_text second text b.text k b.handed in
    let spelled : SpellsTrace b.text a.value = subst (λ t. SpellsTrace t a.value) texts a.admitted.spelled in
    let same : a.value ≡ b.value = one_spelled b.text a.value b.value a.admitted.is_trace b.admitted.is_trace spelled b.admitted.spelled in
    a.cnf_is ∙ ap cnf_of same ∙ sym b.cnf_is
