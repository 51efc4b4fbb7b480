use Rattle.std.proofs.Common.{◌≡◌, ◌++◌, ℕ, map}
use Rattle.std.specs.List.{filter, range_with_len}
use Rattle.var_layout.specs.KnownPairs.{is_said}
use Rattle.var_layout.proofs.known_pairs.push_said_after.Given as goal

abbrev pub invariant-loop-j : goal.invariant-loop-j
invariant-loop-j l = l.said.items ≡ l.initial.said.items ++ map (λ (k : ℕ). (l.i, k)) (filter (is_said l.numbering l.i) (range_with_len 0 l.j))
