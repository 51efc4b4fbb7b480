use Rattle.std.proofs.Common.{sym, ◌∙◌}
use Rattle.trace_text.specs.Said.{said}
use Rattle.trace_text.proofs.LineWords.TimedLemmas.{too_short, other_word, none_timed_behind, timed_behind}
use Rattle.trace_text.proofs.statement.read_timed_statement.Goals as goal

pub returns-then-words-lt3 : goal.returns-then-words-lt3
returns-then-words-lt3 c = sym (too_short c.args.words.now c.if-words-lt3.true)

pub returns-then-not-is_word : goal.returns-then-not-is_word
returns-then-not-is_word c = sym (other_word c.args.words.now _ c.is_word.result c.if-words-lt3.false c.is_word.ensures c.if-not-is_word.true)

pub returns-in-Some : goal.returns-in-Some
returns-in-Some c =
    c.with_times.ensures
    ∙ sym (timed_behind c.args.words.now _ _ _ c.is_word.result (said c.in-Some.statement) c.if-words-lt3.false c.is_word.ensures c.if-not-is_word.false c.in-Some.ensures)

pub returns-in-None : goal.returns-in-None
returns-in-None c = sym (none_timed_behind c.args.words.now _ c.is_word.result c.if-words-lt3.false c.is_word.ensures c.if-not-is_word.false c.in-None.ensures)
