-- The clauses of three operations, by the place of the two higher ones among all pairs.
use Rattle.std.specs.Prelude.{ℕ, ◌/◌, ◌%◌, ℤ, neg_ℤ, List, [], ◌∷◌, Bool, nat_lt, ◌&&◌}
use Rattle.var_layout.specs.OrderVariables.{order_lit}
use Rattle.clause_blocks.specs.declared.parallel_transitivity.TripleClauses.{TripleClauses}

-- the two clauses of three operations
abbrev pub cycle_of : ℕ → ℕ → ℕ → ℕ → TripleClauses
cycle_of n i j k = record {
  first = neg_ℤ (order_lit n i j) ∷ neg_ℤ (order_lit n j k) ∷ order_lit n i k ∷ [];
  second = order_lit n i j ∷ order_lit n j k ∷ neg_ℤ (order_lit n i k) ∷ [];
}

-- one after the other
abbrev pub both : TripleClauses → List (List ℤ)
both c = c.first ∷ c.second ∷ []

-- the pairs of n operations are numbered: j and k are at j * n + k; the two are above i, and the second above the first
abbrev pub is_above : ℕ → ℕ → ℕ → Bool
is_above n i pair = nat_lt i (pair / n) && nat_lt (pair / n) (pair % n)

-- the clauses of i and the pair
abbrev pub cycle_at : ℕ → ℕ → ℕ → TripleClauses
cycle_at n i pair = cycle_of n i (pair / n) (pair % n)
