use Rattle.std.proofs.Common.{◌≡◌, ℕ, List, true, take}
use Rattle.std.specs.List.{list_all}
use Rattle.trace_semantics.specs.Judgement.{is_held}
use Rattle.trace_semantics.specs.NameNumbers.{number_of}
use Rattle.schedule_judge.proofs.judge.holds_all.Given as goal

abbrev pub invariant-loop-entry : goal.invariant-loop-entry
invariant-loop-entry l = list_all (λ (entry : List ℕ × ℕ). is_held (number_of l.memory.values entry.0) entry.1) (take l.entry-index l.values) ≡ true
