use Rattle.std.proofs.Common.{◌≡◌, take}
use Rattle.reducer.specs.Expansion.{expansion}
use Rattle.reducer.proofs.expand.expand.Given as goal

abbrev pub invariant-loop-k : goal.invariant-loop-k
invariant-loop-k l = l.names.items ≡ expansion l.reduced.whole (take l.k l.old)
