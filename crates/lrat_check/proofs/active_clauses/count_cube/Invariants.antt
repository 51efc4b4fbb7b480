use Rattle.std.proofs.Common.{List, take}
use Rattle.std.specs.Prelude.{ℤ}
use Rattle.lrat_check.specs.Active.{numbered, at_start}
use Rattle.lrat_check.specs.Counted.{AreChanges}
use Rattle.lrat_check.proofs.active_clauses.count_cube.Given as goal

abbrev pub invariant-loop-literal : goal.invariant-loop-literal
invariant-loop-literal l = (clauses : List (List ℤ)) → AreChanges clauses (numbered clauses) l.initial.changes → AreChanges clauses (at_start clauses (take l.literal-index l.cube)) l.changes
