use Rattle.std.proofs.Common.{rules, ◌≡◌, ◌++◌, ◌∙◌, refl, sym, ap}
use Rattle.std.specs.List.{flat_map}
use Rattle.dimacs.specs.CnfText.{clause_line}
use Rattle.trace_semantics.specs.Trace.{operation_count}
use Rattle.clause_blocks.specs.Blocks.{transitivity_from}
use Rattle.clause_blocks.proofs.InPieces.RangeSentLemmas.{lines_to, lines_begun, lines_more}
use Rattle.clause_blocks.proofs.transitivity_lines.append_of_neighbours.Goals as goal

pub loop-i-init : goal.loop-i-init
loop-i-init c = sym (lines_begun c.args.lines.now (transitivity_from (operation_count c.args.layout.now)) c.args.first c.args.first refl)

pub loop-i-preserved : goal.loop-i-preserved
loop-i-preserved c =
    let n = operation_count c.args.layout.now in
    c.in_ok-append_from.ensures
    ∙ ap (λ lines. lines ++ flat_map clause_line (transitivity_from n c.loop-i.i)) c.loop-i.invariant
    ∙ lines_more c.args.lines.now (transitivity_from n) c.args.first c.loop-i.i c.loop-i.auto.i

pub returns : goal.returns
returns c =
    let n = operation_count c.args.layout.now in
    let end : c.loop-i.i ≡ c.args.end = search rules in
    c.loop-i.invariant ∙ ap (lines_to c.args.lines.now (transitivity_from n) c.args.first) end
