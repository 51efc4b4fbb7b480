-- Sources that are kept, each once.
use Rattle.std.specs.Prelude.{◌≡◌, ◌≢◌, ◌<◌, ◌⊎◌, ◌==◌, ◌&&◌, ℕ, List, [], ◌++◌, map, length, slice_index_or, Option, Some}
use Rattle.std.specs.Borrow.{Bor}
use Rattle.std.specs.HashMap.{get_by}
use Rattle.std.specs.List.{AllPairs, Contains}
use Rattle.trace_semantics.specs.Trace.{TraceValue}
use Rattle.writer_table.specs.declared.operation_place.OperationPlace.{OperationPlace}
use Rattle.order_clauses.specs.Numbered.{named}
use Rattle.order_reasons.specs.Sources.{ValueSource, LeftBy, InitialAt}
use Rattle.reason_counting.specs.declared.distinct_sources.DistinctSources.{DistinctSources}

-- one of these is the location
abbrev pub HasLocation : List (Bor (List ℕ)) → List ℕ → Type 0
HasLocation locations location = (x : Bor (List ℕ)) × Contains locations x × (x.now ≡ location)

-- what was kept before is kept still
pub record HasAll (old new : DistinctSources) : Type 0 where
  pub operations : (n : OperationPlace) → Contains old.operations.items n → Contains new.operations.items n
  pub locations : (location : List ℕ) → HasLocation old.locations.items location → HasLocation new.locations.items location

-- nothing is kept
abbrev pub AreNone : DistinctSources → Type 0
AreNone kept = (kept.operations.items ≡ []) × (kept.locations.items ≡ [])

-- where the table says that the operation stands among those that are kept
abbrev pub place_kept : DistinctSources → OperationPlace → Option ℕ
place_kept kept n = get_by (λ k. (n.process == k.0) && (n.place == k.1)) kept.places

-- none is kept twice: the table says of each operation where it stands, and no two locations are the same
pub record AreApart (kept : DistinctSources) : Type 0 where
  pub operations : (i : ℕ) (d : OperationPlace) → i < length kept.operations.items → place_kept kept (slice_index_or kept.operations.items i d) ≡ Some i
  pub locations : AllPairs (λ (x y : Bor (List ℕ)). x.now ≢ y.now) kept.locations.items

-- what was not kept before are such operations and such locations, and none is kept twice
pub record KeptOnly (old new : DistinctSources) (Is : OperationPlace → Type 0) (Starts : List ℕ → Type 0) : Type 0 where
  pub operations : (n : OperationPlace) → Contains new.operations.items n → Contains old.operations.items n ⊎ Is n
  pub locations : (location : List ℕ) → HasLocation new.locations.items location → HasLocation old.locations.items location ⊎ Starts location
  pub apart : AreApart old → AreApart new

-- the sources of a trace that are kept
abbrev pub sources_kept : TraceValue → DistinctSources → List ValueSource
sources_kept t kept = map (λ n. LeftBy (named t n)) kept.operations.items ++ map (λ (x : Bor (List ℕ)). InitialAt x.now) kept.locations.items
