use Rattle.std.proofs.Common.{◌≡◌, ◌++◌, take}
use Rattle.var_layout.specs.Numbered.{numbered_in}
use Rattle.var_layout.proofs.numbering.push_process.Given as goal

abbrev pub invariant-loop-k : goal.invariant-loop-k
invariant-loop-k l = l.operations.items ≡ l.initial.operations.items ++ take l.k (numbered_in l.process)
