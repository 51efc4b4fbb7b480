use Rattle.std.proofs.Common.{◌≡◌, ◌++◌, take}
use Rattle.trace_part.specs.Told.{told_of}
use Rattle.trace_part.proofs.pairs.push_told_of.Given as goal

abbrev pub invariant-loop-k : goal.invariant-loop-k
invariant-loop-k l = l.pairs.items ≡ l.initial.pairs.items ++ told_of l.order l.m l.next (take l.k l.groups)
