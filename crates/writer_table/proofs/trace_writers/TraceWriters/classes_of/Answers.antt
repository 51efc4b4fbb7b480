use Rattle.std.proofs.Common.{take, ◌∙◌, subst}
use Rattle.std.specs.List.{All}
use Rattle.std.proofs.lemmas.List.{take_all}
use Rattle.std.proofs.lemmas.List.Elements.{All-more, All-weaker}
use Rattle.trace_semantics.specs.declared.trace.Process.{Process}
use Rattle.writer_table.specs.WriterClasses.{HasNumber}
use Rattle.writer_table.proofs.NumberLemmas.{all_have_still}
use Rattle.writer_table.proofs.trace_writers.TraceWriters.classes_of.Goals as goal

pub loop-process-preserved : goal.loop-process-preserved
loop-process-preserved c =
    let new = c.add_all.new.self in
    let old = c.loop-process.classes in
    let more = c.in_ok-add_all.ensures.more in (
      more.by_value ∙ c.loop-process.invariant.0,
      more.apart c.loop-process.invariant.1,
      All-more (λ (p : Process). All (HasNumber new) p.operations) c.args.processes.now c.loop-process.process-index c.process-item.result c.loop-process-test.true
          (All-weaker (λ (p : Process). All (HasNumber old) p.operations) (λ (p : Process). All (HasNumber new) p.operations) (all_have_still old new more) (take c.loop-process.process-index c.args.processes.now) c.loop-process.invariant.2)
          (subst (λ (p : Process). All (HasNumber new) p.operations) c.process-item.is (subst (All (HasNumber new)) c.as_slice.ensures c.in_ok-add_all.ensures.has)),
    )

pub returns-clause-have : goal.returns-clause-have
returns-clause-have c = subst (All (λ (p : Process). All (HasNumber c.loop-process.classes) p.operations)) (take_all c.loop-process.process-index c.args.processes.now c.loop-process-test.false) c.loop-process.invariant.2
