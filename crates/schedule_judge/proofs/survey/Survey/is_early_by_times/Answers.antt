use Rattle.std.proofs.Common.{◌∙◌}
use Rattle.std.specs.List.{slice_get}
use Rattle.schedule_judge.specs.Endings.{is_overtaken}
use Rattle.schedule_judge.proofs.OvertakenLemmas.{overtaken_is}
use Rattle.schedule_judge.proofs.survey.Survey.is_early_by_times.Goals as goal

pub returns : goal.returns
returns c = λ done n first known.
    let s = c.args.self.now in
    c.is_overtaken.ensures ∙ (λ i. is_overtaken (slice_get (c.as_slice.ensures.value i) c.args.next) (c.span.ensures i)) ∙ overtaken_is s.trace.now s.endings.items c.requires.endings done c.args.next first n c.args.op.now known
