use Rattle.std.proofs.Common.{◌≡◌, ◌+◌, ◌-◌, length, arith}
use Rattle.trace_pieces.proofs.ScanLemmas.{cut_off}
use Rattle.trace_pieces.proofs.cutting.cut_piece.Goals as goal

pub returns-clause-cut : goal.returns-clause-cut
returns-clause-cut c =
    let text = c.args.text.now in
    let rest = c.after_piece-lines.result.0.now in
    let few = c.after_piece-lines.ensures.few in
    let both : (length text - length rest) + length rest ≡ length text = omega (arith, few) in
    cut_off c.args.is_last text rest c.after_piece-lines.result.1 (length text - length rest) c.after_piece-lines.ensures both (c.ends_before.ensures.whole c.if-not-ends_before.false)
