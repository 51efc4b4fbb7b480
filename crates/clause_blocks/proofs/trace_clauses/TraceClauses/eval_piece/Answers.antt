use Rattle.std.proofs.Common.{sym, subst}
use Rattle.dimacs.specs.Assignment.{value_of}
use Rattle.dimacs.specs.Models.{IsModel}
use Rattle.trace_semantics.specs.Trace.{operation_count}
use Rattle.clause_blocks.specs.Pieces.{clauses_in}
use Rattle.clause_blocks.proofs.ClauseList.PartLemmas.{from_whole}
use Rattle.clause_blocks.proofs.trace_clauses.TraceClauses.eval_piece.Goals as goal

pub returns-in-TransitivityFrom-clause-model : goal.returns-in-TransitivityFrom-clause-model
returns-in-TransitivityFrom-clause-model c =
    let value = value_of c.args.assignment.now in
    let n = operation_count c.args.self.now in
    subst (λ p. IsModel value (clauses_in n p)) (sym c.in-TransitivityFrom.is) (from_whole value n c.in-TransitivityFrom.field-0 (c.requires c.if-in_order.true))
