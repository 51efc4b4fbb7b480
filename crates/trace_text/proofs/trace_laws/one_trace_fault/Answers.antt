use Rattle.std.proofs.Common.{◌≡◌, ℕ, List, ap, sym, ◌∙◌, inl, inr}
use Rattle.std.specs.Prelude.{Option, Some, None}
use Rattle.text_lines.specs.FirstFault.{IsFaultless, IsFirstFault}
use Rattle.text_lines.specs.Lines.{lines_of}
use Rattle.text_lines.specs.Kept.{kept}
use Rattle.text_lines.proofs.FaultLemmas.{one_first}
use Rattle.trace_text.specs.declared.trace_fault.TraceCause.{TraceCause}
use Rattle.trace_text.specs.TraceFault.{trace_line_fault, line_reference_fault, LacksHeader, HasReferenceFault, HasTraceFault}
use Rattle.trace_text.proofs.trace_laws.one_trace_fault.Goals as goal

-- Laws of trace texts.

clash : {A F : Type 0} (fault : List A → A → Option F) (items : List A) (place : ℕ) (found : F) → IsFirstFault fault items place found → IsFaultless fault items → ⊥
clash fault items place found h ok = let no : None ≡ Some found = sym (ok h.before h.item h.after h.parts) ∙ h.faulty in cc

no_reference : (text : List ℕ) (cause : TraceCause) (line : ℕ) → LacksHeader text → HasReferenceFault text cause line → ⊥
no_reference text cause line h r = let no : None ≡ Some cause = sym (ap (λ k. line_reference_fault k r.found.item) h.empty) ∙ r.found.faulty in cc

-- a text has one first fault at most
one_fault : (text : List ℕ) (cause other : TraceCause) (line other_line : ℕ) → HasTraceFault text cause line → HasTraceFault text other other_line → (line ≡ other_line) × (cause ≡ other)
one_fault text c d l m (inl h) (inl k) = one_first trace_line_fault (lines_of text) l m c d h k
one_fault text c d l m (inl h) (inr (inl k)) = absurd (clash trace_line_fault (lines_of text) l c h k.0.faultless)
one_fault text c d l m (inl h) (inr (inr k)) = absurd (clash trace_line_fault (lines_of text) l c h k.faultless)
one_fault text c d l m (inr (inl h)) (inl k) = absurd (clash trace_line_fault (lines_of text) m d k h.0.faultless)
one_fault text c d l m (inr (inl h)) (inr (inl k)) = (h.2 ∙ sym k.2, h.1 ∙ sym k.1)
one_fault text c d l m (inr (inl h)) (inr (inr k)) = absurd (no_reference text d m h.0 k)
one_fault text c d l m (inr (inr h)) (inl k) = absurd (clash trace_line_fault (lines_of text) m d k h.faultless)
one_fault text c d l m (inr (inr h)) (inr (inl k)) = absurd (no_reference text c l k.0 h)
one_fault text c d l m (inr (inr h)) (inr (inr k)) = one_first (λ _ here. line_reference_fault (kept (lines_of text)) here) (lines_of text) l m c d h.found k.found

pub returns : goal.returns
returns c = one_fault
