use Rattle.std.proofs.Common.{◌+◌, ◌∷◌, [], ◌∙◌, ℕ, List, length, refl, sym, ap, subst, arith}
use Rattle.std.proofs.lemmas.List.{length-append}
use Rattle.batch_report.specs.Blocks.{AreCutOff}
use Rattle.batch_report.specs.declared.block.PlacedPiece.{PlacedPiece}
use Rattle.batch_report.proofs.BlockLemmas.{cut_off_more, nothing_cut_off}
use Rattle.batch_report.proofs.block.cut_block.Goals as goal

pub loop-cut-init : goal.loop-cut-init
loop-cut-init c =
    let none = ap length c.new-pieces.ensures.items in (
      subst (λ (ps : List PlacedPiece). AreCutOff c.args.is_last c.args.before c.args.text.now ps c.args.before c.args.text.now) (sym c.new-pieces.ensures.items) (nothing_cut_off c.args.is_last c.args.before c.args.text.now),
      omega arith,
      omega (arith, none),
    )

pub loop-cut-preserved : goal.loop-cut-preserved
loop-cut-preserved c =
    let piece : PlacedPiece = record { text = c.in-Some.cut.piece; before = c.loop-cut.passed } in
    let count = ap length c.in_ok-push.ensures.items ∙ length-append c.loop-cut.pieces.items (piece ∷ []) in (
      rw c.in_ok-push.ensures.items (cut_off_more c.args.is_last c.args.before c.args.text.now c.loop-cut.pieces.items c.loop-cut.passed c.loop-cut.rest.now piece c.in-Some.cut.rest.now c.loop-cut.invariant.0 c.in-Some.ensures.cut refl (c.loop-cut.passed + c.in-Some.cut.lines) (ap (λ (n : ℕ). c.loop-cut.passed + n) c.in-Some.ensures.lines)),
      omega (arith, c.in-Some.ensures.few, c.loop-cut.invariant.1),
      omega (arith, count, c.in-Some.ensures.shorter, c.loop-cut.invariant.2),
    )
