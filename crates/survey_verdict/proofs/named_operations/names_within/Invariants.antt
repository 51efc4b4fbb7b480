use Rattle.std.proofs.Common.{◌≡◌, take}
use Rattle.std.specs.List.{filter}
use Rattle.trace_semantics.specs.declared.operation.OpName.{OpName}
use Rattle.schedule_text.specs.ScheduleText.{name_word}
use Rattle.survey_verdict.specs.WordSet.{has}
use Rattle.survey_verdict.proofs.named_operations.names_within.Given as goal

abbrev pub invariant-loop-name : goal.invariant-loop-name
invariant-loop-name l = l.named.items ≡ filter (λ (n : OpName). has l.words (name_word n)) (take l.name-index l.names)
