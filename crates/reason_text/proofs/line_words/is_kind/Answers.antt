use Rattle.std.proofs.Common.{sym, ◌∙◌}
use Rattle.std.proofs.lemmas.Bool.{false≢true}
use Rattle.trace_semantics.proofs.NameLemmas.{bytes_same, same_bytes}
use Rattle.reason_text.proofs.line_words.is_kind.Goals as goal

pub returns-clause-same : goal.returns-clause-same
returns-clause-same c right = same_bytes c.args.word.now c.args.kind.now (sym c.is_word.ensures ∙ right)

pub returns-clause-other : goal.returns-clause-other
returns-clause-other c wrong same = false≢true (sym wrong ∙ c.is_word.ensures ∙ bytes_same c.args.word.now c.args.kind.now same)
