-- The lines of a derivation's text and the steps that they are.
use Rattle.std.proofs.Common.{◌≡◌, ℕ, ◌+◌, ◌<◌, ◌≤◌, List, [], ◌∷◌, ◌++◌, length, true, refl, ap, sym, ◌∙◌, subst, arith, append-nil}
use Rattle.std.specs.Prelude.{None}
use Rattle.std.specs.List.{list_all, AllZip}
use Rattle.std.proofs.lemmas.Bool.{and_from, cond-true, cond-false}
use Rattle.std.proofs.lemmas.List.{length_push}
use Rattle.std.proofs.lemmas.List.Folds.{list_all-append}
use Rattle.text_lines.specs.FirstFault.{IsFaultless}
use Rattle.text_lines.specs.Kept.{is_dimacs_skipped, dimacs_kept}
use Rattle.text_lines.specs.Lines.{lines_of}
use Rattle.text_lines.specs.Words.{words_of}
use Rattle.text_lines.proofs.FaultLemmas.{faultless_nil, faultless_push}
use Rattle.text_lines.proofs.Cutting.KeptLemmas.{kept_append, kept_skipped, kept_more}
use Rattle.text_lines.proofs.ListLemmas.{next_parts}
use Rattle.lrat_check.specs.LratFaults.{line_fault, words_fault}
use Rattle.lrat_check.specs.LratRead.{IsSkippedLine, IsLineOf}
use Rattle.lrat_check.specs.LratText.{IsStepLine, SpellsDerivation, is_lrat_step}
use Rattle.lrat_check.specs.declared.derivation.Step.{Step}
use Rattle.lrat_check.proofs.DerivationText.ClearLemmas.{step_clear}

-- two lists side by side, with one more
zip_push : (lines : List (List (List ℕ))) (steps : List Step) (words : List (List ℕ)) (step : Step) → AllZip IsStepLine lines steps → IsStepLine words step → AllZip IsStepLine (lines ++ words ∷ []) (steps ++ step ∷ [])
zip_push [] [] words step h k = (k, tt)
zip_push [] (s ∷ steps) words step h k = absurd h
zip_push (l ∷ lines) [] words step h k = absurd h
zip_push (l ∷ lines) (s ∷ steps) words step h k = (h.0, zip_push lines steps words step h.1 k)

-- the lines are these steps, and none has a fault
pub record AreSteps (lines : List (List ℕ)) (steps : List Step) : Type 0 where
  pub lines_are : AllZip IsStepLine (dimacs_kept lines) steps
  pub written : list_all is_lrat_step steps ≡ true
  pub faultless : IsFaultless line_fault lines

pub no_lines : AreSteps [] []
no_lines = record { lines_are = tt; written = refl; faultless = faultless_nil line_fault }

-- one more line that is skipped
pub push_skipped : (lines : List (List ℕ)) (steps : List Step) (line : List ℕ) → AreSteps lines steps → IsSkippedLine line → AreSteps (lines ++ line ∷ []) steps
push_skipped lines steps line h skipped =
    let same : dimacs_kept (lines ++ line ∷ []) ≡ dimacs_kept lines = kept_append is_dimacs_skipped lines (line ∷ []) ∙ ap (λ l. dimacs_kept lines ++ l) (kept_skipped is_dimacs_skipped line [] skipped) ∙ append-nil (dimacs_kept lines) in
    record {
      lines_are = subst (λ (ls : List (List (List ℕ))). AllZip IsStepLine ls steps) (sym same) h.lines_are;
      written = h.written;
      faultless = faultless_push line_fault lines line h.faultless (cond-true (is_dimacs_skipped (words_of line)) None (words_fault (words_of line)) skipped);
    }

-- the line of a step has no fault
pub line_clear : (before : List (List ℕ)) (line : List ℕ) (step : Step) → IsLineOf line step → line_fault before line ≡ None
line_clear before line step h = cond-false (is_dimacs_skipped (words_of line)) None (words_fault (words_of line)) h.said ∙ step_clear (words_of line) step h.step_is

-- one more line that is a step
pub push_step : (lines : List (List ℕ)) (steps : List Step) (line : List ℕ) (step : Step) → AreSteps lines steps → IsLineOf line step → AreSteps (lines ++ line ∷ []) (steps ++ step ∷ [])
push_step lines steps line step h new =
    let more : dimacs_kept (lines ++ line ∷ []) ≡ dimacs_kept lines ++ words_of line ∷ [] = kept_append is_dimacs_skipped lines (line ∷ []) ∙ ap (λ l. dimacs_kept lines ++ l) (kept_more is_dimacs_skipped line [] new.said) in
    record {
      lines_are = subst (λ (ls : List (List (List ℕ))). AllZip IsStepLine ls (steps ++ step ∷ [])) (sym more) (zip_push (dimacs_kept lines) steps (words_of line) step h.lines_are new.step_is.is);
      written = list_all-append is_lrat_step steps (step ∷ []) ∙ and_from _ _ h.written (and_from _ true new.step_is.written refl);
      faultless = faultless_push line_fault lines line h.faultless (line_clear lines line step new);
    }

-- what a reader has read of the text
pub record IsReadSoFar (text : List ℕ) (number : ℕ) (rest : List ℕ) (steps : List Step) : Type 0 where
  pub done : List (List ℕ)
  pub parts : lines_of text ≡ done ++ lines_of rest
  pub counted : number ≡ length done
  pub spelled : AreSteps done steps
  pub behind : number + length rest ≤ length text

pub at_start : (text : List ℕ) → IsReadSoFar text 0 text []
at_start text = record { done = []; parts = refl; counted = refl; spelled = no_lines; behind = omega arith }

pub turn_skipped : (text : List ℕ) (number : ℕ) (rest : List ℕ) (steps : List Step) (line after : List ℕ) → IsReadSoFar text number rest steps →
    lines_of rest ≡ line ∷ lines_of after → length after < length rest → IsSkippedLine line → IsReadSoFar text (number + 1) after steps
turn_skipped text number rest steps line after h cut shorter skipped =
    record {
      done = h.done ++ line ∷ [];
      parts = next_parts (lines_of text) h.done line (lines_of rest) (lines_of after) h.parts cut;
      counted = omega (arith, h.counted, length_push h.done line);
      spelled = push_skipped h.done steps line h.spelled skipped;
      behind = omega (arith, h.behind, shorter);
    }

pub turn_step : (text : List ℕ) (number : ℕ) (rest : List ℕ) (steps : List Step) (line after : List ℕ) (step : Step) → IsReadSoFar text number rest steps →
    lines_of rest ≡ line ∷ lines_of after → length after < length rest → IsLineOf line step → IsReadSoFar text (number + 1) after (steps ++ step ∷ [])
turn_step text number rest steps line after step h cut shorter new =
    record {
      done = h.done ++ line ∷ [];
      parts = next_parts (lines_of text) h.done line (lines_of rest) (lines_of after) h.parts cut;
      counted = omega (arith, h.counted, length_push h.done line);
      spelled = push_step h.done steps line step h.spelled new;
      behind = omega (arith, h.behind, shorter);
    }

-- steps of all lines are the derivation
pub spelled_by : (text : List ℕ) (steps : List Step) → AreSteps (lines_of text) steps → SpellsDerivation text steps
spelled_by text steps h = record { lines_are = h.lines_are; written = h.written }
