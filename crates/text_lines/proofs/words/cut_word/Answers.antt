use Rattle.std.proofs.Common.{◌≡◌, ◌∙◌, ◌∷◌, ◌-◌, sym, ap, take, drop, length}
use Rattle.std.specs.List.{before_first, after_first}
use Rattle.std.proofs.lemmas.List.{take_rest}
use Rattle.text_lines.specs.Words.{words_of, is_blank}
use Rattle.text_lines.proofs.Cutting.CutLemmas.{words_from, words_none, word_at, no_word}
use Rattle.text_lines.proofs.words.cut_word.Goals as goal

pub returns-in-Some-clause-words : goal.returns-in-Some-clause-words
returns-in-Some-clause-words c =
    let at = word_at c.args.line.now c.in-Some.start c.in-Some.ensures in
    let rest : take (length c.args.line.now - c.in-Some.start) (drop c.in-Some.start c.args.line.now) ≡ drop c.in-Some.start c.args.line.now = take_rest c.args.line.now c.in-Some.start in
    words_from c.args.line.now c.in-Some.start at.0 at.1
    ∙ (λ i. (ap (before_first is_blank) (sym rest) ∙ sym (c.cut_at.ensures.front is_blank c.find_blank.ensures)) i ∷ words_of ((ap (after_first is_blank) (sym rest) ∙ sym (c.cut_at.ensures.back is_blank c.find_blank.ensures)) i))

pub returns-in-None-clause-words : goal.returns-in-None-clause-words
returns-in-None-clause-words c = words_none c.args.line.now (no_word c.args.line.now c.in-None.ensures)

pub returns-in-None-clause-shorter : goal.returns-in-None-clause-shorter
returns-in-None-clause-shorter c = words_none c.args.line.now (no_word c.args.line.now c.in-None.ensures)
