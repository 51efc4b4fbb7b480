use Rattle.std.proofs.Common.{◌≡◌, drop}
use Rattle.std.specs.Prelude.{slice_get}
use Rattle.var_layout.specs.Numbers.{others}
use Rattle.clause_meaning.proofs.within_run.other_at.Given as goal

abbrev pub invariant-loop-other : goal.invariant-loop-other
invariant-loop-other l = slice_get (others l.writer l.writers) l.place ≡ slice_get (others l.writer (drop l.other-index l.writers)) l.rest
