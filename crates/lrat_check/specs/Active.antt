-- The numbered active clauses: a function from an id to the clause that is active under it, if one is.
use Rattle.std.specs.Prelude.{ℕ, zero, suc, ℤ, List, [], ◌∷◌, ◌++◌, map, Option, Some, None, ◌==◌, if◌then◌else◌}
use Rattle.std.specs.List.{list_any, slice_get}
use Rattle.lrat_check.specs.declared.derivation.Step.{Step}
use Rattle.lrat_check.specs.declared.derivation.Step.TheVariants.{Addition, Deletion}

-- these clauses under the ids 1, 2 and so on
abbrev pub numbered : List (List ℤ) → ℕ → Option (List ℤ)
numbered clauses zero = None
numbered clauses (suc before) = slice_get clauses before

-- at the start: the formula's clauses, and then the cube's literals, each as a clause of one literal
abbrev pub at_start : List (List ℤ) → List ℤ → ℕ → Option (List ℤ)
at_start clauses cube = numbered (clauses ++ map (λ literal. literal ∷ []) cube)

-- with this clause under this id
abbrev pub with_clause : ℕ → List ℤ → (ℕ → Option (List ℤ)) → ℕ → Option (List ℤ)
with_clause id clause active other = if id == other then Some clause else active other

-- without the clauses of these ids
abbrev pub without : List ℕ → (ℕ → Option (List ℤ)) → ℕ → Option (List ℤ)
without ids active other = if list_any (λ id. id == other) ids then None else active other

-- after a step
abbrev pub after : (ℕ → Option (List ℤ)) → Step → ℕ → Option (List ℤ)
after active (Addition id literals hints) = with_clause id literals active
after active (Deletion first ids) = without ids active
