use Rattle.std.proofs.Common.{◌≡◌, ◌+◌, ◌++◌, ◌∙◌, refl, sym}
use Rattle.std.specs.List.{flat_map}
use Rattle.dimacs.specs.CnfText.{clause_line}
use Rattle.trace_semantics.specs.Trace.{operation_count}
use Rattle.clause_blocks.specs.Blocks.{no_cycle}
use Rattle.clause_blocks.proofs.InPieces.RangeSentLemmas.{cycle, lines_begun, lines_more}
use Rattle.clause_blocks.proofs.transitivity_lines.append_of_pair.Goals as goal

pub loop-k-init : goal.loop-k-init
loop-k-init c = sym (lines_begun c.args.lines.now (no_cycle (operation_count c.args.layout.now) c.args.i c.args.j) (c.args.j + 1) (c.args.j + 1) refl)

pub loop-k-preserved : goal.loop-k-preserved
loop-k-preserved c =
    let n = operation_count c.args.layout.now in
    let same : cycle c.order_lit-ij.result c.order_lit-jk.result c.order_lit-ik.result ≡ no_cycle n c.args.i c.args.j c.loop-k.k =
    λ p. cycle (c.order_lit-ij.ensures p) (c.order_lit-jk.ensures p) (c.order_lit-ik.ensures p) in
    c.in_ok-put_agreement.ensures.appended
    ∙ (λ p. c.loop-k.invariant p ++ flat_map clause_line (same p))
    ∙ lines_more c.args.lines.now (no_cycle n c.args.i c.args.j) (c.args.j + 1) c.loop-k.k c.loop-k.auto.k
