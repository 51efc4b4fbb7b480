use Rattle.std.proofs.Common.{ℕ, List, ◌||◌, ap, sym, ◌∙◌}
use Rattle.survey_verdict.specs.Named.{has_word, is_mark, mentions}
use Rattle.survey_verdict.specs.WordSet.{has}
use Rattle.text_lines.specs.Lines.{lines_of}
use Rattle.text_lines.specs.Words.{words_of}
use Rattle.survey_verdict.proofs.NamedLemmas.{read_line, read_none}
use Rattle.survey_verdict.proofs.named_operations.add_lines.Goals as goal

pub loop-line-preserved : goal.loop-line-preserved
loop-line-preserved c = λ word.
    let line = c.in-Some.line.now in
    let after = lines_of c.in-Some.after.now in
    let there = has c.loop-line.words word in
    ap (λ h. mentions word after || h) (c.in_ok-add_line.ensures word)
    ∙ read_line (is_mark (words_of line)) (has_word word line) (mentions word after) there (sym c.is_of_derivation.ensures ∙ c.if-is_of_derivation.false)
    ∙ ap (λ (ls : List (List ℕ)). mentions word ls || there) (sym c.in-Some.ensures.lines)
    ∙ c.loop-line.invariant word

pub returns-then-is_of_derivation : goal.returns-then-is_of_derivation
returns-then-is_of_derivation c = λ word.
    let line = c.in-Some.line.now in
    let after = lines_of c.in-Some.after.now in
    let there = has c.loop-line.words word in
    read_none (is_mark (words_of line)) (has_word word line || mentions word after) there (sym c.is_of_derivation.ensures ∙ c.if-is_of_derivation.true)
    ∙ ap (λ (ls : List (List ℕ)). mentions word ls || there) (sym c.in-Some.ensures.lines)
    ∙ c.loop-line.invariant word

pub returns : goal.returns
returns c = λ word.
    ap (λ (ls : List (List ℕ)). mentions word ls || has c.loop-line.words word) (sym c.in_default.ensures.lines)
    ∙ c.loop-line.invariant word
