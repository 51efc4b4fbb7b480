use Rattle.std.proofs.Common.{ap, ◌∙◌}
use Rattle.std.specs.List.{filter}
use Rattle.trace_semantics.specs.declared.operation.OpName.{OpName}
use Rattle.trace_semantics.specs.Trace.{operation_names}
use Rattle.schedule_text.specs.ScheduleText.{name_word}
use Rattle.text_lines.specs.Lines.{lines_of}
use Rattle.survey_verdict.specs.Named.{mentions}
use Rattle.survey_verdict.specs.WordSet.{has}
use Rattle.survey_verdict.proofs.CoreNameLemmas.{kept_alike}
use Rattle.survey_verdict.proofs.NamedLemmas.{only_new}
use Rattle.survey_verdict.proofs.named_operations.named_operations.Goals as goal

pub returns : goal.returns
returns c =
    let words = c.add_lines.new.words in
    let text = c.args.text.now in
    let names = operation_names c.args.trace.now in
    c.in_ok-named.ensures
    ∙ ap (filter (λ (n : OpName). has words (name_word n))) (c.as_slice.ensures.value ∙ c.in_ok-names.ensures)
    ∙ kept_alike (λ (n : OpName). has words (name_word n)) (λ (n : OpName). mentions (name_word n) (lines_of text)) names
    (λ n within. only_new (mentions (name_word n) (lines_of text)) (has c.new-words.result (name_word n)) (has words (name_word n)) (c.in_ok-add_lines.ensures (name_word n)) (c.new-words.ensures (name_word n)))
