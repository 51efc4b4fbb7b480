-- Derivations that serve more than one cube, since they do not rest on its literals.
use Rattle.std.specs.Prelude.{◌≡◌, ℕ, ◌+◌, ℤ, neg_ℤ, nat_abs, Bool, true, false, not, List, [], ◌∷◌, length, ◌&&◌, ◌||◌, nat_le, nat_lt}
use Rattle.std.specs.List.{list_all}
use Rattle.lrat_check.specs.Propagation.{has}
use Rattle.lrat_check.specs.declared.derivation.Step.{Step}
use Rattle.lrat_check.specs.declared.derivation.Step.TheVariants.{Addition, Deletion}

-- the id is not among those of a cube of this length, after this many clauses
abbrev pub is_outside : ℕ → ℕ → ℕ → Bool
is_outside clauses cube id = nat_le id clauses || nat_lt (clauses + cube) id

-- each id that the step names, as its own, in a hint or to be dropped, is none of the cube's
abbrev pub names_outside : ℕ → ℕ → Step → Bool
names_outside clauses cube (Addition id literals hints) = is_outside clauses cube id && list_all (λ hint. is_outside clauses cube (nat_abs hint)) hints
names_outside clauses cube (Deletion first ids) = list_all (is_outside clauses cube) ids

-- the cube has the negation of the clause's first literal, the pivot
abbrev pub opposes_pivot : List ℤ → List ℤ → Bool
opposes_pivot cube [] = false
opposes_pivot cube (pivot ∷ rest) = has cube (neg_ℤ pivot)

-- the second cube opposes the pivot of what the step adds only where the first does
abbrev pub opposes_no_more : List ℤ → List ℤ → Step → Bool
opposes_no_more first second (Addition id literals hints) = opposes_pivot first literals || not (opposes_pivot second literals)
opposes_no_more first second (Deletion ignored ids) = true

-- The cubes are as long as one another, and no step, after this many clauses, needs the first in place of the second: it names no id of the
-- cube, and the second opposes no more pivots.
abbrev pub AreServed : ℕ → List ℤ → List ℤ → List Step → Type 0
AreServed clauses first second steps =
    (length second ≡ length first) × (list_all (λ step. names_outside clauses (length first) step && opposes_no_more first second step) steps ≡ true)
