use Rattle.std.proofs.Common.{◌∙◌, sym}
use Rattle.survey_verdict.proofs.CoreNameLemmas.{in_order}
use Rattle.survey_verdict.proofs.SurveyedLemmas.{core_refuted, core_unrefuted}
use Rattle.survey_verdict.proofs.deciding.refuted_core.Goals as goal

pub part_in_order-requires : goal.part_in_order-requires
part_in_order-requires g c = in_order c.args.trace.now c.as_slice.result.now c.args.found.now (c.as_slice.ensures.value ∙ c.in_ok-names.ensures)

pub returns-in-Some : goal.returns-in-Some
returns-in-Some g c =
    core_refuted c.args.run.now.options.now c.args.trace.now c.as_slice.result.now c.args.found.now (c.as_slice.ensures.value ∙ c.in_ok-names.ensures) c.in_ok-part.part c.in_ok-part.ensures
    c.trace.result.now c.trace.ensures c.in_ok-refuted.refuted c.in_ok-refuted.ensures c.recall_invariant.ensures c.unschedulable_where_its_part_is.ensures
    c.new.result (c.new.ensures ∙ sym c.as_slice.ensures.value) c.in-Some.refutation c.in-Some.is

pub returns-in-None : goal.returns-in-None
returns-in-None g c =
    core_unrefuted c.args.run.now.options.now c.args.trace.now c.as_slice.result.now c.args.found.now (c.as_slice.ensures.value ∙ c.in_ok-names.ensures) c.in_ok-part.part c.in_ok-part.ensures
    c.trace.result.now c.trace.ensures c.in_ok-refuted.refuted c.in_ok-refuted.ensures c.in-None.is
