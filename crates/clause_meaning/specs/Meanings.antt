-- What the clauses of a run say, and the clause that says it.
use Rattle.std.specs.Prelude.{ℕ, ◌+◌, ℤ, pos, neg_ℤ, List, [], ◌∷◌, map, true, false, if◌then◌else◌}
use Rattle.std.specs.List.{flat_map}
use Rattle.trace_semantics.specs.Trace.{TraceValue, operation_count}
use Rattle.var_layout.specs.declared.candidate.FinalChoice.{FinalChoice}
use Rattle.var_layout.specs.declared.candidate.ReadsFromChoice.{ReadsFromChoice}
use Rattle.var_layout.specs.ChoiceVariables.{choices}
use Rattle.var_layout.specs.FinalVariables.{finals}
use Rattle.var_layout.specs.KnownPairs.{known_pairs}
use Rattle.var_layout.specs.Numbers.{others, other_writers}
use Rattle.var_layout.specs.OrderVariables.{numbers_above}
use Rattle.var_layout.specs.Tables.{final_writers}
use Rattle.clause_blocks.specs.Blocks.{implies, stands_before}
use Rattle.clause_meaning.specs.declared.meaning.ClauseMeaning.{ClauseMeaning}
use Rattle.clause_meaning.specs.declared.meaning.ClauseMeaning.TheVariants as say
use Rattle.clause_meaning.specs.declared.run.ClauseRun.{ClauseRun}
use Rattle.clause_meaning.specs.declared.run.ClauseRun.TheVariants as run

-- the clause that says this
abbrev pub clause_of : TraceValue → ClauseMeaning → List ℤ
clause_of t (say.ProgramOrder i) = stands_before t i (i + 1) ∷ []
clause_of t (say.NoCycle i j k second) = if second then stands_before t i j ∷ stands_before t j k ∷ neg_ℤ (stands_before t i k) ∷ []
    else neg_ℤ (stands_before t i j) ∷ neg_ℤ (stands_before t j k) ∷ stands_before t i k ∷ []
clause_of t (say.HasSource r) = map (λ (c : ReadsFromChoice). pos c.variable) (choices t r)
clause_of t (say.NoSource r v second) = if second then neg_ℤ (pos v) ∷ [] else pos v ∷ []
clause_of t (say.BeforeWriter r v w) = implies v (stands_before t r w ∷ [])
clause_of t (say.AfterSource r v s) = implies v (stands_before t s r ∷ [])
clause_of t (say.NotBetween r v s w) = implies v (stands_before t w s ∷ stands_before t r w ∷ [])
clause_of t (say.HasLast k) = map (λ (c : FinalChoice). pos c.variable) (finals t k)
clause_of t (say.NoLast k v second) = if second then neg_ℤ (pos v) ∷ [] else pos v ∷ []
clause_of t (say.BeforeLast k v l w) = implies v (stands_before t w l ∷ [])
clause_of t (say.BeforePair i j) = stands_before t i j ∷ []

-- the two clauses of three operations
abbrev pub of_three : ℕ → ℕ → ℕ → List ClauseMeaning
of_three i j k = say.NoCycle i j k false ∷ say.NoCycle i j k true ∷ []

-- those of a lowest operation of three, by the middle one and then the highest
abbrev pub triples_from : ℕ → ℕ → List ClauseMeaning
triples_from n i = flat_map (λ j. flat_map (of_three i j) (numbers_above n j)) (numbers_above n i)

-- what the clauses of a run say, one after the other
abbrev pub meanings_of_run : TraceValue → ClauseRun → List ClauseMeaning
meanings_of_run t (run.ProgramOrder i) = say.ProgramOrder i ∷ []
meanings_of_run t (run.TriplesFrom i) = triples_from (operation_count t) i
meanings_of_run t (run.HasSource r) = say.HasSource r ∷ []
meanings_of_run t (run.NoSource r v) = say.NoSource r v false ∷ say.NoSource r v true ∷ []
meanings_of_run t (run.FromInitial r v) = map (λ w. say.BeforeWriter r v w) (other_writers t r)
meanings_of_run t (run.FromWriter r v s) = say.AfterSource r v s ∷ map (λ w. say.NotBetween r v s w) (others s (other_writers t r))
meanings_of_run t (run.HasLast k) = say.HasLast k ∷ []
meanings_of_run t (run.NoLast k v) = say.NoLast k v false ∷ say.NoLast k v true ∷ []
meanings_of_run t (run.FromLast k v l) = map (λ w. say.BeforeLast k v l w) (others l (final_writers t k))
meanings_of_run t run.BeforePairs = map (λ (pair : ℕ × ℕ). say.BeforePair pair.0 pair.1) (known_pairs t)
