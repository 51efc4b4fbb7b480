use Rattle.std.proofs.Common.{ap, ◌∙◌, is_some}
use Rattle.schedule_judge.proofs.EarlyLemmas.{early_is}
use Rattle.schedule_judge.proofs.survey.Survey.is_early_by_pairs.Goals as goal

pub returns : goal.returns
returns c = λ count at fresh.
    let s = c.args.self.now in
    c.is_some.ensures ∙ ap is_some c.of.ensures ∙ early_is s.trace.now s.names.now s.early count c.args.name.now c.requires.early at fresh
