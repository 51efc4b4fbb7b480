-- The places at which the runs begin, and what the whole list says.
use Rattle.std.specs.Prelude.{◌≡◌, ℕ, ◌+◌, List, length, map, take}
use Rattle.std.specs.List.{flat_map, range_with_len}
use Rattle.trace_semantics.specs.Trace.{TraceValue}
use Rattle.clause_meaning.specs.declared.meaning.ClauseMeaning.{ClauseMeaning}
use Rattle.clause_meaning.specs.declared.run.ClauseRun.{ClauseRun}
use Rattle.clause_meaning.specs.Meanings.{meanings_of_run}
use Rattle.clause_meaning.specs.Runs.{runs}

-- what the clauses say, one after the other
abbrev pub meanings : TraceValue → List ClauseMeaning
meanings t = flat_map (meanings_of_run t) (runs t)

-- how many clauses stand before the run of this number, counted from 0
abbrev pub start_of : TraceValue → ℕ → ℕ
start_of t k = length (flat_map (meanings_of_run t) (take k (runs t)))

-- the runs, and where each begins, and after the last one how many clauses there are
pub record AreRuns (t : TraceValue) (all : List ClauseRun) (starts : List ℕ) : Type 0 where
  pub in_order : all ≡ runs t
  pub in_starts : starts ≡ map (start_of t) (range_with_len 0 (length (runs t) + 1))
