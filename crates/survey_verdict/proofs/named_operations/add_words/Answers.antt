use Rattle.std.proofs.Common.{ℕ, List, ◌||◌, ap, sym, ◌∙◌}
use Rattle.std.specs.List.{list_any}
use Rattle.std.specs.Str.{bytes_eq}
use Rattle.survey_verdict.specs.WordSet.{has}
use Rattle.text_lines.specs.Words.{words_of}
use Rattle.survey_verdict.proofs.NamedLemmas.{moved}
use Rattle.survey_verdict.proofs.named_operations.add_words.Goals as goal

pub loop-word-preserved : goal.loop-word-preserved
loop-word-preserved c = λ word.
    let f = λ (other : List ℕ). bytes_eq other word in
    ap (λ h. list_any f (words_of c.in-Some.after.now) || h) (c.in_ok-insert.ensures word)
    ∙ sym (moved (f c.in-Some.word.now) (list_any f (words_of c.in-Some.after.now)) (has c.loop-word.words word))
    ∙ ap (λ (ws : List (List ℕ)). list_any f ws || has c.loop-word.words word) (sym c.in-Some.ensures.words)
    ∙ c.loop-word.invariant word

pub returns : goal.returns
returns c = λ word.
    let f = λ (other : List ℕ). bytes_eq other word in
    ap (λ (ws : List (List ℕ)). list_any f ws || has c.loop-word.words word) (sym c.in_default.ensures.words)
    ∙ c.loop-word.invariant word
