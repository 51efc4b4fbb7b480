use Rattle.std.proofs.Common.{◌∙◌, ap, arith}
use Rattle.trace_semantics.specs.Trace.{operation_count}
use Rattle.clause_blocks.proofs.ClauseList.ListLemmas.{piece_count}
use Rattle.clause_blocks.proofs.pieces.Pieces.piece_of_reads.Goals as goal

pub returns-clause-number : goal.returns-clause-number
returns-clause-number c = omega (arith, c.operations.ensures ∙ ap operation_count c.layout.ensures)

pub returns-clause-within : goal.returns-clause-within
returns-clause-within c = omega (arith, piece_count c.args.self.now, c.operations.ensures ∙ ap operation_count c.layout.ensures)
