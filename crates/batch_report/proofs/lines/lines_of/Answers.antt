use Rattle.std.proofs.Common.{◌≡◌, ◌+◌, ◌<◌, ℕ, [], length, take, refl, arith}
use Rattle.std.proofs.lemmas.List.{length-take-le}
use Rattle.batch_report.specs.declared.block.PlacedPiece.{PlacedPiece}
use Rattle.batch_report.specs.declared.piece_verdict.PieceVerdict.TheVariants.{Consistent}
use Rattle.batch_report.proofs.FormLemmas.{line_at, reaches_more}
use Rattle.batch_report.proofs.lines.lines_of.Goals as goal

abbrev no_piece : PlacedPiece
no_piece = record { text = record { ref_ptr = (0, 0); now = [] }; before = 0 }

pub loop-at-preserved : goal.loop-at-preserved
loop-at-preserved g c =
    let at = c.loop-at.at in
    let within : at < length c.args.verdicts.now = omega arith in
    let of_verdicts : length (take at c.args.verdicts.now) ≡ at = length-take-le at c.args.verdicts.now (omega (arith, within)) in
    let of_pieces : length (take at c.args.pieces.now) ≡ at = length-take-le at c.args.pieces.now (omega (arith, within, c.requires.same)) in
    record {
      said = line_at (g.F.LineForm.means.says c.args.run.now.file.now) c.args.before c.args.pieces.now c.args.verdicts.now at no_piece Consistent c.loop-at.text.items c.push_line.new.text.items within c.requires.same
          of_verdicts of_pieces c.loop-at.invariant.said c.in-Ok.ensures.said;
      moved = reaches_more g.F.LineForm.means.moves at 1 c.args.devices.now c.loop-at.devices c.push_line.new.devices c.loop-at.invariant.moved (_, refl, c.in-Ok.ensures.moved) (at + 1) refl;
    }
