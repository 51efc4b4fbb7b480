-- The runs of a trace's clause list, in their order.
use Rattle.std.specs.Prelude.{ℕ, ◌+◌, List, [], ◌∷◌, ◌++◌, length, map, Option, Some, None, ◌==◌, if◌then◌else◌}
use Rattle.std.specs.List.{filter, flat_map, range_with_len}
use Rattle.trace_semantics.specs.Trace.{TraceValue}
use Rattle.var_layout.specs.declared.candidate.Candidate.{Candidate}
use Rattle.var_layout.specs.declared.candidate.Candidate.TheVariants.{InitialValue, Writer}
use Rattle.var_layout.specs.declared.candidate.FinalChoice.{FinalChoice}
use Rattle.var_layout.specs.declared.candidate.ReadsFromChoice.{ReadsFromChoice}
use Rattle.var_layout.specs.Candidates.{candidates}
use Rattle.var_layout.specs.ChoiceVariables.{choices, first_choice}
use Rattle.var_layout.specs.FinalVariables.{finals, void_final}
use Rattle.var_layout.specs.Numbers.{numbers, readers, in_one_process}
use Rattle.clause_meaning.specs.declared.run.ClauseRun.{ClauseRun}
use Rattle.clause_meaning.specs.declared.run.ClauseRun.TheVariants as run

-- program order: each operation that has a next one in its process
abbrev pub order_runs : TraceValue → List ClauseRun
order_runs t = map (λ i. run.ProgramOrder i) (filter (λ i. in_one_process t i (i + 1)) (numbers t))

-- transitivity: each operation as the lowest of three
abbrev pub triple_runs : TraceValue → List ClauseRun
triple_runs t = map (λ i. run.TriplesFrom i) (numbers t)

-- that the operation reads from there
abbrev pub run_from : ℕ → ℕ → Candidate → ClauseRun
run_from r v InitialValue = run.FromInitial r v
run_from r v (Writer w) = run.FromWriter r v w

abbrev pub runs_of_read : TraceValue → ℕ → List ClauseRun
runs_of_read t r = if length (candidates t r) == 0 then run.NoSource r (first_choice t r) ∷ []
    else run.HasSource r ∷ map (λ (c : ReadsFromChoice). run_from r c.variable c.candidate) (choices t r)

-- what is read: each reading operation
abbrev pub read_runs : TraceValue → List ClauseRun
read_runs t = flat_map (runs_of_read t) (readers t)

-- those of a final value, if it has this void variable or none
abbrev pub runs_unless_void : TraceValue → ℕ → Option ℕ → List ClauseRun
runs_unless_void t k (Some v) = run.NoLast k v ∷ []
runs_unless_void t k None = if length (finals t k) == 0 then []
    else run.HasLast k ∷ map (λ (c : FinalChoice). run.FromLast k c.variable c.writer) (finals t k)

abbrev pub runs_of_final : TraceValue → ℕ → List ClauseRun
runs_of_final t k = runs_unless_void t k (void_final t k)

-- final values, by their places
abbrev pub final_runs : TraceValue → List ClauseRun
final_runs t = flat_map (runs_of_final t) (range_with_len 0 (length t.final_values))

-- all runs
abbrev pub runs : TraceValue → List ClauseRun
runs t = order_runs t ++ (triple_runs t ++ (read_runs t ++ (final_runs t ++ run.BeforePairs ∷ [])))
