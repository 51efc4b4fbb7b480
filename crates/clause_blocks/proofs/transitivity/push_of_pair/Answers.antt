use Rattle.std.proofs.Common.{◌∙◌, ◌++◌, ◌+◌, ◌∷◌, [], neg_ℤ}
use Rattle.trace_semantics.specs.Trace.{operation_count}
use Rattle.clause_blocks.specs.Blocks.{no_cycle}
use Rattle.clause_blocks.proofs.InPieces.StepLemmas.{flat_upto}
use Rattle.clause_blocks.proofs.transitivity.push_of_pair.Goals as goal

pub loop-k-preserved : goal.loop-k-preserved
loop-k-preserved c =
    let n = operation_count c.args.layout.now in
    c.in_ok-push_no_cycle.ensures
    ∙ (λ p. c.loop-k.invariant p ++ (neg_ℤ (c.order_lit-ij.ensures p) ∷ neg_ℤ (c.order_lit.ensures p) ∷ c.order_lit-in-loop-k.ensures p ∷ []) ∷ (c.order_lit-ij.ensures p ∷ c.order_lit.ensures p ∷ neg_ℤ (c.order_lit-in-loop-k.ensures p) ∷ []) ∷ [])
    ∙ flat_upto (no_cycle n c.args.i c.args.j) c.args.clauses.now.items (c.args.j + 1) c.loop-k.k c.loop-k.auto.k
