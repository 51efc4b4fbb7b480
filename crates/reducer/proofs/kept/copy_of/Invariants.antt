use Rattle.std.proofs.Common.{◌≡◌, take}
use Rattle.reducer.proofs.kept.copy_of.Given as goal

abbrev pub invariant-loop-entry : goal.invariant-loop-entry
invariant-loop-entry l = l.new.items ≡ take l.entry-index l.values
