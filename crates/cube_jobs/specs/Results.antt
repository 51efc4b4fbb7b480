-- The results of a search.
use Rattle.std.specs.Prelude.{◌≡◌, ◌≢◌, ℕ, ◌<◌, ℤ, List, length, map, Some}
use Rattle.std.specs.List.{AllPairs, Contains, slice_get}
use Rattle.cube_jobs.specs.declared.job.Settled.{Settled}
use Rattle.cube_jobs.specs.declared.outcome.Outcome.TheVariants.{Skipped}
use Rattle.cube_jobs.specs.Models.{IsModelResult}

-- rising numbers of leaves, where these are the leaves' cubes
pub record AreLeaves (cubes : List (List ℤ)) (which : List ℕ) : Type 0 where
  pub rising : AllPairs (λ x y. x < y) which
  pub each : (leaf : ℕ) → Contains which leaf → leaf < length cubes

-- some result is a model of the clauses and makes its cube true
pub record HasModel (clauses : List (List ℤ)) (results : List Settled) : Type 0 where
  pub found : Settled
  pub among : Contains results found
  pub model : IsModelResult clauses found

-- among the results is one of a lower leaf that is a model of the clauses and makes that leaf's cube true
pub record HasModelBelow (clauses : List (List ℤ)) (results : List Settled) (leaf : ℕ) : Type 0 where
  pub lower : Settled
  pub among : Contains results lower
  pub below : lower.ticket < leaf
  pub model : IsModelResult clauses lower

-- One result for each of these leaves, with its cube, and no other, in some order. A leaf is skipped only where a lower one has
-- a model.
pub record AreResultsOf (clauses cubes : List (List ℤ)) (which : List ℕ) (results : List Settled) : Type 0 where
  pub each : (settled : Settled) → Contains results settled → Contains which settled.ticket × (slice_get cubes settled.ticket ≡ Some settled.cube)
  pub every : (leaf : ℕ) → Contains which leaf → Contains (map (λ (settled : Settled). settled.ticket) results) leaf
  pub once : AllPairs (λ x y. x ≢ y) (map (λ (settled : Settled). settled.ticket) results)
  pub skipped : (settled : Settled) → Contains results settled → settled.outcome ≡ Skipped → HasModelBelow clauses results settled.ticket
