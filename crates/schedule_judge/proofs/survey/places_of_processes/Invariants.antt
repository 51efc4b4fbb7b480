use Rattle.std.proofs.Common.{◌≡◌, ℕ, List, drop, find}
use Rattle.std.specs.List.{slice_get}
use Rattle.std.specs.Option.{option_and_then}
use Rattle.std.specs.Str.{bytes_eq}
use Rattle.trace_semantics.specs.NameNumbers.{number_of}
use Rattle.schedule_judge.proofs.survey.places_of_processes.Given as goal

abbrev pub invariant-loop-k : goal.invariant-loop-k
invariant-loop-k l = (name : List ℕ) → option_and_then (slice_get l.processes) (number_of l.places name) ≡ find (λ p. bytes_eq p.name name) (drop l.k l.processes)
