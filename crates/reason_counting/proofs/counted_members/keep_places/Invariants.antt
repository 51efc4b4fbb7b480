use Rattle.std.proofs.Common.{◌≤◌, ℕ, take}
use Rattle.std.specs.List.{All, Contains}
use Rattle.reason_clauses.specs.Numbered.{at_number}
use Rattle.reason_counting.specs.CountedMembers.{IsOfPlaces}
use Rattle.reason_counting.specs.DistinctSources.{HasAll, KeptOnly}
use Rattle.reason_counting.proofs.counted_members.keep_places.Given as goal

abbrev pub invariant-loop-place : goal.invariant-loop-place
invariant-loop-place l = HasAll l.fn.kept l.kept × All (λ (k : ℕ). l.stretch.first ≤ k → k ≤ l.stretch.last → Contains l.kept.operations.items (at_number l.process k)) (take l.place-index l.places) × KeptOnly l.fn.kept l.kept (IsOfPlaces l.stretch l.process l.places) (λ a. ⊥)
