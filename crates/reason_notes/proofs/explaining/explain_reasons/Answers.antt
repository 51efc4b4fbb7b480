use Rattle.std.proofs.Common.{inr}
use Rattle.reason_notes.proofs.ExplainLemmas.{noted_has_none}
use Rattle.reason_notes.proofs.explaining.explain_reasons.Goals as goal

pub returns-in-Some : goal.returns-in-Some
returns-in-Some c =
    let noted = rw c.in-Some.is at c.in_ok-lines.ensures in
    record { explained = inr (noted_has_none c.args.trace.now c.args.text.now c.in-Some.lines.items c.accepted_has_no_schedule.ensures c.recall_invariant.ensures noted) }
