use Rattle.std.proofs.Common.{List, subst, arith}
use Rattle.std.specs.List.{AllZip}
use Rattle.batch_report.specs.Blocks.{IsOnPlaced}
use Rattle.batch_report.specs.declared.block.PlacedPiece.{PlacedPiece}
use Rattle.batch_report.proofs.BlockLemmas.{on_cut_off, same_count}
use Rattle.batch_report.proofs.batch_engine.decide_block.Goals as goal

pub returns-clause-each : goal.returns-clause-each
returns-clause-each g c =
    let block = c.in_ok-block.block in
    let verdicts = c.in_ok-verdicts.verdicts.items in
    let each = subst (λ (ps : List PlacedPiece). AllZip IsOnPlaced ps verdicts) c.as_slice.ensures.value c.in_ok-verdicts.ensures in
    on_cut_off c.args.is_last c.args.before c.args.text.now block.pieces.items verdicts block.before block.rest.now c.in_ok-block.ensures.cut each

pub returns-clause-same : goal.returns-clause-same
returns-clause-same g c =
    let verdicts = c.in_ok-verdicts.verdicts.items in
    let each = subst (λ (ps : List PlacedPiece). AllZip IsOnPlaced ps verdicts) c.as_slice.ensures.value c.in_ok-verdicts.ensures in
    same_count c.in_ok-block.block.pieces.items verdicts each

pub returns-clause-few : goal.returns-clause-few
returns-clause-few g c =
    let verdicts = c.in_ok-verdicts.verdicts.items in
    let each = subst (λ (ps : List PlacedPiece). AllZip IsOnPlaced ps verdicts) c.as_slice.ensures.value c.in_ok-verdicts.ensures in
    let same = same_count c.in_ok-block.block.pieces.items verdicts each in
    omega (arith, same, c.in_ok-block.ensures.few)
