use Rattle.std.proofs.Common.{◌+◌, ◌∙◌, ap, sym}
use Rattle.trace_semantics.specs.Trace.{operation_count}
use Rattle.clause_blocks.proofs.ClauseList.ListLemmas.{piece_count}
use Rattle.clause_blocks.proofs.pieces.Pieces.count.Goals as goal

pub returns : goal.returns
returns c = ap (λ m. m + 4) (c.operations.ensures ∙ ap operation_count c.layout.ensures) ∙ sym (piece_count c.args.self.now)
