-- The laws of a derivation's text.
use Rattle.std.proofs.Common.{◌≡◌, ◌⊎◌, ℕ, List, [], ◌∷◌, ◌++◌, true, refl, ap, sym, ◌∙◌, subst, inl, inr, append_assoc, append-nil}
use Rattle.std.specs.Prelude.{None}
use Rattle.std.specs.List.{list_all, AllZip}
use Rattle.std.proofs.lemmas.Bool.{cases_Bool, cond-true, cond-false, and_parts}
use Rattle.text_lines.specs.FirstFault.{IsFaultless}
use Rattle.text_lines.specs.Kept.{is_dimacs_skipped, dimacs_kept}
use Rattle.text_lines.specs.Lines.{lines_of}
use Rattle.text_lines.specs.Words.{words_of}
use Rattle.text_lines.proofs.FaultLemmas.{none_is_some, one_first, either}
use Rattle.text_lines.proofs.Cutting.KeptLemmas.{kept_append, kept_more}
use Rattle.lrat_check.specs.LratFaults.{HasLratFault, line_fault, words_fault}
use Rattle.lrat_check.specs.LratRead.{IsSkippedLine, IsLineOf, IsWrittenStep}
use Rattle.lrat_check.specs.LratText.{SpellsDerivation, IsStepLine, is_lrat_step}
use Rattle.lrat_check.specs.declared.derivation.Step.{Step}
use Rattle.lrat_check.specs.declared.lrat_fault.LratCause.{LratCause}
use Rattle.lrat_check.proofs.DerivationText.ClearLemmas.{step_clear}
use Rattle.lrat_check.proofs.DerivationText.DerivationTextLemmas.{AreSteps, no_lines, push_skipped, push_step, spelled_by}
use Rattle.lrat_check.proofs.DerivationText.LratStepLemmas.{one_step, step_found}

-- the same lines, the same steps
same_steps : (lines : List (List (List ℕ))) (m n : List Step) → AllZip IsStepLine lines m → AllZip IsStepLine lines n → list_all is_lrat_step m ≡ true → list_all is_lrat_step n ≡ true → m ≡ n
same_steps [] [] [] h k a b = refl
same_steps [] [] (t ∷ n) h k a b = absurd k
same_steps [] (s ∷ m) n h k a b = absurd h
same_steps (l ∷ lines) [] n h k a b = absurd h
same_steps (l ∷ lines) (s ∷ m) [] h k a b = absurd k
same_steps (l ∷ lines) (s ∷ m) (t ∷ n) h k a b =
    let good = and_parts (is_lrat_step s) (list_all is_lrat_step m) a in
    let well = and_parts (is_lrat_step t) (list_all is_lrat_step n) b in
    let first = one_step l s t (record { is = h.0; written = good.0 }) (record { is = k.0; written = well.0 }) in
    let later = same_steps lines m n h.1 k.1 good.1 well.1 in
    (λ i. first i ∷ later i)

pub one_spelled : (text : List ℕ) (m n : List Step) → SpellsDerivation text m → SpellsDerivation text n → m ≡ n
one_spelled text m n h k = same_steps (dimacs_kept (lines_of text)) m n h.lines_are k.lines_are h.written k.written

pub one_refused : (text : List ℕ) (c d : LratCause) (p q : ℕ) → HasLratFault text c p → HasLratFault text d q → (c ≡ d) × (p ≡ q)
one_refused text c d p q h k = let same = one_first line_fault (lines_of text) p q c d h k in (same.1, same.0)

-- the step of a line
step_of : (before : List (List (List ℕ))) (words : List (List ℕ)) (after : List (List (List ℕ))) (steps : List Step) → AllZip IsStepLine (before ++ words ∷ after) steps → list_all is_lrat_step steps ≡ true →
    (step : Step) × IsWrittenStep words step
step_of [] words after [] h good = absurd h
step_of [] words after (s ∷ steps) h good = (s, record { is = h.0; written = (and_parts (is_lrat_step s) (list_all is_lrat_step steps) good).0 })
step_of (l ∷ before) words after [] h good = absurd h
step_of (l ∷ before) words after (s ∷ steps) h good = step_of before words after steps h.1 (and_parts (is_lrat_step s) (list_all is_lrat_step steps) good).1

-- no line of a derivation has a fault
spelled_clear : (text : List ℕ) (steps : List Step) → SpellsDerivation text steps → IsFaultless line_fault (lines_of text)
spelled_clear text steps h before line after e =
    elim (cases_Bool (is_dimacs_skipped (words_of line))) [
      | inl skipped ↦ cond-true (is_dimacs_skipped (words_of line)) None (words_fault (words_of line)) skipped
      | inr said ↦ (
          let all : dimacs_kept (lines_of text) ≡ dimacs_kept before ++ words_of line ∷ dimacs_kept after = ap dimacs_kept e ∙ kept_append is_dimacs_skipped before (line ∷ after) ∙ ap (λ l. dimacs_kept before ++ l) (kept_more is_dimacs_skipped line after said) in
          let s = step_of (dimacs_kept before) (words_of line) (dimacs_kept after) steps (subst (λ (ls : List (List (List ℕ))). AllZip IsStepLine ls steps) all h.lines_are) h.written in
          cond-false (is_dimacs_skipped (words_of line)) None (words_fault (words_of line)) said ∙ step_clear (words_of line) s.0 s.1)
    ]

pub never_both : (text : List ℕ) (steps : List Step) (cause : LratCause) (line : ℕ) → SpellsDerivation text steps → HasLratFault text cause line → ⊥
never_both text steps cause line h fault = none_is_some cause (sym (spelled_clear text steps h fault.before fault.item fault.after fault.parts) ∙ fault.faulty)

-- a line without a fault is skipped or is a step
line_read : (before : List (List ℕ)) (line : List ℕ) → line_fault before line ≡ None → IsSkippedLine line ⊎ ((step : Step) × IsLineOf line step)
line_read before line clear =
    elim (cases_Bool (is_dimacs_skipped (words_of line))) [
      | inl skipped ↦ inl skipped
      | inr said ↦ (
          let found = step_found (words_of line) said (sym (cond-false (is_dimacs_skipped (words_of line)) None (words_fault (words_of line)) said) ∙ clear) in
          inr (found.0, record { said = said; step_is = found.1 }))
    ]

-- lines without a fault are steps
steps_of : (lines done : List (List ℕ)) (steps : List Step) → AreSteps done steps → IsFaultless line_fault (done ++ lines) → (all : List Step) × AreSteps (done ++ lines) all
steps_of [] done steps h clear = (steps, subst (λ (l : List (List ℕ)). AreSteps l steps) (sym (append-nil done)) h)
steps_of (line ∷ lines) done steps h clear =
    let joined : (done ++ line ∷ []) ++ lines ≡ done ++ line ∷ lines = append_assoc done (line ∷ []) lines in
    let clear_on : IsFaultless line_fault ((done ++ line ∷ []) ++ lines) = subst (λ (l : List (List ℕ)). IsFaultless line_fault l) (sym joined) clear in
    elim (line_read done line (clear done line lines refl)) [
      | inl skipped ↦ subst (λ (l : List (List ℕ)). (all : List Step) × AreSteps l all) joined (steps_of lines (done ++ line ∷ []) steps (push_skipped done steps line h skipped) clear_on)
      | inr (step, new) ↦ subst (λ (l : List (List ℕ)). (all : List Step) × AreSteps l all) joined (steps_of lines (done ++ line ∷ []) (steps ++ step ∷ []) (push_step done steps line step h new) clear_on)
    ]

pub spelled_or_refused : (text : List ℕ) → ((steps : List Step) × SpellsDerivation text steps) ⊎ ((cause : LratCause) × (line : ℕ) × HasLratFault text cause line)
spelled_or_refused text =
    elim (either line_fault (lines_of text)) [
      | inl clear ↦ (let all = steps_of (lines_of text) [] [] no_lines clear in inl (all.0, spelled_by text all.0 all.1))
      | inr (place, found, h) ↦ inr (found, place, h)
    ]
