use Rattle.std.proofs.Common.{take, sym, ◌∙◌}
use Rattle.text_lines.proofs.FaultLemmas.{faultless_nil}
use Rattle.trace_part.specs.Choice.{fault_of_choice}
use Rattle.trace_part.proofs.ChoiceLemmas.{come_more, choice_more, first_fault}
use Rattle.trace_part.proofs.choice.chosen_ops.Goals as goal

pub loop-k-init : goal.loop-k-init
loop-k-init c = (c.new-set.ensures, faultless_nil (fault_of_choice c.args.trace.now))

pub loop-k-preserved : goal.loop-k-preserved
loop-k-preserved c = (
  λ n. c.in_ok-insert.ensures n ∙ come_more c.args.names.now c.loop-k.k c.index-names-k-in-loop-k.result n _ c.loop-k-test.true c.index-names-k-in-loop-k.is (c.loop-k.invariant.0 n),
  choice_more c.args.trace.now c.args.names.now c.loop-k.k c.index-names-k.result c.loop-k-test.true c.index-names-k.is c.loop-k.invariant.1
      (sym (c.fault_of_name.ensures (take c.loop-k.k c.args.names.now) c.loop-k.invariant.0) ∙ c.in_default.is),
)

pub returns-in-Some-clause-refused : goal.returns-in-Some-clause-refused
returns-in-Some-clause-refused c =
    first_fault c.args.trace.now c.args.names.now c.loop-k.k c.index-names-k.result c.in-Some.cause c.loop-k-test.true c.index-names-k.is c.loop-k.invariant.1
    (sym (c.fault_of_name.ensures (take c.loop-k.k c.args.names.now) c.loop-k.invariant.0) ∙ c.in-Some.is)
