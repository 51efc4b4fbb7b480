use Rattle.std.proofs.Common.{◌∙◌}
use Rattle.survey_verdict.proofs.FindingLemmas.{all_refuted, all_unrefuted}
use Rattle.survey_verdict.proofs.deciding.core_of_all.Goals as goal

pub returns-in-Some : goal.returns-in-Some
returns-in-Some g c = all_refuted c.args.run.now.options.now c.args.trace.now c.as_slice.result.now (c.as_slice.ensures.value ∙ c.in_ok-names.ensures) c.in_ok-core.core c.in_ok-core.ensures c.in-Some.all c.in-Some.is

pub returns-in-None : goal.returns-in-None
returns-in-None g c = all_unrefuted c.args.run.now.options.now c.args.trace.now c.as_slice.result.now (c.as_slice.ensures.value ∙ c.in_ok-names.ensures) c.in_ok-core.core c.in_ok-core.ensures c.args.refutation c.requires.decided c.requires.few c.in-None.is
