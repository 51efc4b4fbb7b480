use Rattle.std.proofs.Common.{◌≡◌, ◌+◌, refl, ap, subst, sym, ◌∙◌, arith, take, length, Some, None}
use Rattle.std.specs.Option.{option_copied}
use Rattle.trace_semantics.specs.declared.judgement.IllegalCause.TheVariants.{UnknownOp}
use Rattle.trace_semantics.specs.Judgement.{fault_of_named}
use Rattle.trace_semantics.specs.Trace.{TraceValue, operation_at}
use Rattle.trace_semantics.specs.NameNumbers.{number_of}
use Rattle.schedule_judge.specs.Come.{IsCountSet}
use Rattle.schedule_judge.specs.Walk.{IsWalk}
use Rattle.schedule_judge.proofs.WalkLemmas.{walk_none, walk_more, ended_more, judged_here, judged_whole, judged_legal, found}
use Rattle.schedule_judge.proofs.judge.judge.Goals as goal

pub loop-i-init : goal.loop-i-init
loop-i-init c =
    let s = c.in_ok-survey.survey in
    record {
      walk = walk_none s c.new-come.result.counts.items c.in_ok-memory.memory c.new-come.ensures (c.in_ok-memory.ensures s.trace.now s.names.now (ap (λ (t : TraceValue). t.initial) c.in_ok-survey.ensures.trace ∙ sym c.initial.ensures));
      ended = refl;
    }

pub returns-in_default : goal.returns-in_default
returns-in_default c =
    let s = c.in_ok-survey.survey in
    let n = c.index-names-i.result in
    let at = found s.names.now c.names-names.result.now c.loop-i.i n c.in_ok-survey.ensures.names c.loop-i-test.true c.index-names-i.is in
    let unknown : operation_at s.trace.now n ≡ None = sym c.operation_at.ensures ∙ ap option_copied c.in_default.is in
    judged_here s c.loop-i.come.counts.items c.loop-i.memory c.loop-i.i n UnknownOp c.args.trace.now c.args.schedule.now c.in_ok-survey.ensures.trace (c.in_ok-survey.ensures.names ∙ c.names-names.ensures) c.loop-i.invariant.walk at (ap (fault_of_named s.trace.now (take c.loop-i.i s.names.now) n) unknown)

pub fault_of_op-requires-clause-name : goal.fault_of_op-requires-clause-name
fault_of_op-requires-clause-name c = found c.in_ok-survey.survey.names.now c.names-names.result.now c.loop-i.i c.index-names-i.result c.in_ok-survey.ensures.names c.loop-i-test.true c.index-names-i.is

pub fault_of_op-requires-clause-op : goal.fault_of_op-requires-clause-op
fault_of_op-requires-clause-op c = sym c.operation_at.ensures ∙ ap option_copied c.in-Some.is

pub returns-in-Some-fault_of_op : goal.returns-in-Some-fault_of_op
returns-in-Some-fault_of_op c =
    let s = c.in_ok-survey.survey in
    let n = c.index-names-i.result in
    let at = found s.names.now c.names-names.result.now c.loop-i.i n c.in_ok-survey.ensures.names c.loop-i-test.true c.index-names-i.is in
    let known : operation_at s.trace.now n ≡ Some c.in-Some.op.now = sym c.operation_at.ensures ∙ ap option_copied c.in-Some.is in
    judged_here s c.loop-i.come.counts.items c.loop-i.memory c.loop-i.i n c.in-Some-fault_of_op.cause c.args.trace.now c.args.schedule.now c.in_ok-survey.ensures.trace (c.in_ok-survey.ensures.names ∙ c.names-names.ensures) c.loop-i.invariant.walk at (ap (fault_of_named s.trace.now (take c.loop-i.i s.names.now) n) known ∙ sym c.fault_of_op.ensures ∙ c.in-Some-fault_of_op.is)

pub loop-i-preserved : goal.loop-i-preserved
loop-i-preserved c =
    let s = c.in_ok-survey.survey in
    let n = c.index-names-i.result in
    let at = found s.names.now c.names-names.result.now c.loop-i.i n c.in_ok-survey.ensures.names c.loop-i-test.true c.index-names-i.is in
    let known : operation_at s.trace.now n ≡ Some c.in-Some.op.now = sym c.operation_at.ensures ∙ ap option_copied c.in-Some.is in
    let row : c.row_of-row.result ≡ number_of s.processes n.process = c.row_of-row.ensures ∙ ap (number_of s.processes) c.as_bytes.ensures in
    record {
      walk = walk_more s c.loop-i.come.counts.items c.take.new.self.counts.items c.loop-i.memory c.run.new.self c.loop-i.i n c.in-Some.op.now c.in_ok-survey.ensures.tables c.loop-i.invariant.walk at known (sym c.fault_of_op.ensures ∙ c.in_default-fault_of_op.is) c.in_ok-run.ensures (subst (λ o. IsCountSet c.loop-i.come.counts.items o n.place c.take.new.self.counts.items) row c.in_ok-take.ensures);
      ended = ended_more s c.first_missing-missing.result c.loop-i.i n c.first_missing-missing.ensures at;
    }

pub returns : goal.returns
returns c =
    let s = c.in_ok-survey.survey in
    let here : c.loop-i.i ≡ length c.names-names.result.now = omega arith in
    let all : c.loop-i.i ≡ length s.names.now = here ∙ ap length (sym c.in_ok-survey.ensures.names) in
    judged_whole s c.loop-i.come.counts.items c.loop-i.memory c.in-Some-fault_of_whole.cause c.loop-i.i (length c.names-names.result.now + 1) c.args.trace.now c.args.schedule.now c.in_ok-survey.ensures.trace (c.in_ok-survey.ensures.names ∙ c.names-names.ensures) c.loop-i.invariant.walk all (ap (λ l. l + 1) (sym here)) (sym c.fault_of_whole.ensures ∙ c.in-Some-fault_of_whole.is)

pub fault_of_whole-requires : goal.fault_of_whole-requires
fault_of_whole-requires c =
    let s = c.in_ok-survey.survey in
    let here : c.loop-i.i ≡ length c.names-names.result.now = omega arith in
    record { walk = subst (λ l. IsWalk s c.loop-i.come.counts.items c.loop-i.memory l) (here ∙ ap length (sym c.in_ok-survey.ensures.names)) c.loop-i.invariant.walk }

pub returns-in-None : goal.returns-in-None
returns-in-None c =
    let s = c.in_ok-survey.survey in
    let here : c.loop-i.i ≡ length c.names-names.result.now = omega arith in
    let all : c.loop-i.i ≡ length s.names.now = here ∙ ap length (sym c.in_ok-survey.ensures.names) in
    judged_legal s c.loop-i.come.counts.items c.loop-i.memory c.loop-i.i c.args.trace.now c.args.schedule.now c.in_ok-survey.ensures.trace (c.in_ok-survey.ensures.names ∙ c.names-names.ensures) c.loop-i.invariant.walk all (sym c.fault_of_whole.ensures ∙ c.in-None.is)
