use Rattle.std.proofs.Common.{◌≡◌, ◌<◌, ◌++◌, ◌-◌}
use Rattle.restriction.specs.Left.{names_from}
use Rattle.reducer.proofs.expand.push_names.Given as goal

abbrev pub invariant-loop-place : goal.invariant-loop-place
invariant-loop-place l = (l.names.items ≡ l.initial.names.items ++ names_from l.process l.first (l.place - l.first)) × (l.end < l.first → l.place ≡ l.first)
