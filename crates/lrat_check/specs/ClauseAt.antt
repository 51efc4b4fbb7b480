-- The clauses that are active, as they are stored.
use Rattle.std.specs.Prelude.{ℕ, ℤ, List, Option, None, nat_le, if◌then◌else◌}
use Rattle.std.specs.Option.{option_or}
use Rattle.lrat_check.specs.Active.{at_start}
use Rattle.lrat_check.specs.AddedAt.{held_at, row_at}
use Rattle.lrat_check.specs.Hidden.{is_hidden}
use Rattle.lrat_check.specs.declared.active_clauses.ActiveClauses.{ActiveClauses}

-- the clause that was active under an id at the start, where it is not hidden
abbrev pub kept_at : List (List ℤ) → ActiveClauses → ℕ → Option (List ℤ)
kept_at clauses active id = if is_hidden active.hidden id then None else at_start clauses active.cube.now id

-- the clause that a step has added under an id, if one has
abbrev pub added_at : ActiveClauses → ℕ → Option (List ℤ)
added_at active = held_at active.added

-- the clause that is active under an id beside this formula's clauses, if one is
abbrev pub clause_at : List (List ℤ) → ActiveClauses → ℕ → Option (List ℤ)
clause_at clauses active id = option_or (kept_at clauses active id) (added_at active id)

-- the clause that is active under an id and does not stand in the tree of those added, with an id before this one if a step added it
abbrev pub early_at : List (List ℤ) → ActiveClauses → ℕ → ℕ → Option (List ℤ)
early_at clauses active next id = option_or (kept_at clauses active id) (if nat_le next id then None else row_at active.added id)

-- the same, whatever its id
abbrev pub in_front : List (List ℤ) → ActiveClauses → ℕ → Option (List ℤ)
in_front clauses active id = option_or (kept_at clauses active id) (row_at active.added id)
