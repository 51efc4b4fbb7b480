use Rattle.std.proofs.Common.{◌≡◌, ◌-◌, ℕ, List, length, take}
use Rattle.std.specs.List.{sum_by}
use Rattle.reducer.proofs.kept.count_kept.Given as goal

abbrev pub invariant-loop-bounds : goal.invariant-loop-bounds
invariant-loop-bounds l = l.count ≡ sum_by (λ (b : List ℕ). length b - 1) (take l.bounds-index l.all)
