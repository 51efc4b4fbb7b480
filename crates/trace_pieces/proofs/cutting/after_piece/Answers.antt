use Rattle.std.proofs.Common.{◌+◌, ◌<◌, length, sym, ◌∙◌, subst, arith}
use Rattle.std.proofs.lemmas.Bool.Decides.{nat_tests}
use Rattle.trace_pieces.proofs.ScanLemmas.{PassedOn, cut_here, pass_line, shorter}
use Rattle.trace_pieces.proofs.cutting.after_piece.Goals as goal

pub returns-then-begins_next : goal.returns-then-begins_next
returns-then-begins_next c =
    let some : 0 < length c.loop-line.rest.now = grind (arith, nat_tests, c.is_empty.ensures, c.loop-line-test.true) in
    cut_here c.args.text.now c.loop-line.rest.now c.loop-line.lines c.loop-line.said c.loop-line.invariant.0 c.first_line.result.0.now c.first_line.result.1.now some c.first_line.ensures (sym c.begins_next.ensures ∙ c.if-begins_next.true) c.loop-line.invariant.1

pub loop-line-preserved : goal.loop-line-preserved
loop-line-preserved c =
    let some : 0 < length c.loop-line.rest.now = grind (arith, nat_tests, c.is_empty.ensures, c.loop-line-test.true) in
    let fewer = shorter c.loop-line.rest.now c.first_line.result.0.now c.first_line.result.1.now some c.first_line.ensures in (
      subst (λ s. PassedOn c.args.text.now c.first_line.result.1.now (c.loop-line.lines + 1) s) (sym c.has_said-said.ensures)
          (pass_line c.args.text.now c.loop-line.rest.now c.loop-line.lines c.loop-line.said c.loop-line.invariant.0 c.first_line.result.0.now c.first_line.result.1.now some c.first_line.ensures (sym c.begins_next.ensures ∙ c.if-begins_next.false)),
      omega (arith, fewer, c.loop-line.invariant.1),
    )
