use Rattle.std.proofs.Common.{◌+◌, ◌++◌, ◌∙◌, refl, sym, ap}
use Rattle.std.specs.List.{flat_map}
use Rattle.dimacs.specs.CnfText.{clause_line}
use Rattle.trace_semantics.specs.Trace.{operation_count}
use Rattle.clause_blocks.proofs.InPieces.RangeSentLemmas.{of_pair, lines_begun, lines_more}
use Rattle.clause_blocks.proofs.transitivity_lines.append_from.Goals as goal

pub loop-j-init : goal.loop-j-init
loop-j-init c = sym (lines_begun c.args.lines.now (of_pair (operation_count c.args.layout.now) c.args.i) (c.args.i + 1) (c.args.i + 1) refl)

pub loop-j-preserved : goal.loop-j-preserved
loop-j-preserved c =
    let n = operation_count c.args.layout.now in
    c.in_ok-append_of_pair.ensures
    ∙ ap (λ lines. lines ++ flat_map clause_line (of_pair n c.args.i c.loop-j.j)) c.loop-j.invariant
    ∙ lines_more c.args.lines.now (of_pair n c.args.i) (c.args.i + 1) c.loop-j.j c.loop-j.auto.j
