use Rattle.std.proofs.Common.{sym, ◌∙◌}
use Rattle.part_text.proofs.NameLineLemmas.{turn_skipped, turn_said}
use Rattle.part_text.proofs.name_line.line_of_place.Goals as goal

pub loop-line-preserved-else-said-place : goal.loop-line-preserved-else-said-place
loop-line-preserved-else-said-place c =
    turn_said c.args.text.now c.args.place c.loop-line.number c.loop-line.said c.loop-line.rest.now c.in-Some.line.now c.in-Some.after.now c.loop-line.invariant c.in-Some.ensures.lines c.in-Some.ensures.shorter
    (sym c.is_passed_over.ensures ∙ c.if-not-is_passed_over.true) c.if-said-place.false

pub loop-line-preserved : goal.loop-line-preserved
loop-line-preserved c =
    turn_skipped c.args.text.now c.args.place c.loop-line.number c.loop-line.said c.loop-line.rest.now c.in-Some.line.now c.in-Some.after.now c.loop-line.invariant c.in-Some.ensures.lines c.in-Some.ensures.shorter
    (sym c.is_passed_over.ensures ∙ c.if-not-is_passed_over.false)
