use Rattle.std.proofs.Common.{take}
use Rattle.dimacs.specs.Assignment.{value_of}
use Rattle.dimacs.specs.Models.{IsModel}
use Rattle.trace_semantics.specs.Trace.{operation_count}
use Rattle.clause_blocks.specs.Blocks.{transitivity_from}
use Rattle.clause_blocks.proofs.trace_clauses.TraceClauses.eval_from.Given as goal

abbrev pub invariant-loop-place : goal.invariant-loop-place
invariant-loop-place l = IsModel (value_of l.assignment) (take l.place (transitivity_from (operation_count l.self) l.i))
