use Rattle.std.proofs.Common.{sym, ◌∙◌, length}
use Rattle.std.specs.List.{list_all}
use Rattle.std.proofs.Math.Seq.{take-length}
use Rattle.trace_semantics.specs.declared.trace.Process.{Process}
use Rattle.trace_semantics.specs.Judgement.{has_come}
use Rattle.trace_semantics.specs.Trace.{first_names}
use Rattle.schedule_judge.proofs.ProgramOrderLemmas.{fails_at}
use Rattle.schedule_judge.proofs.judge.has_all.Goals as goal

pub returns-then-not-have_come : goal.returns-then-not-have_come
returns-then-not-have_come c =
    let names = c.args.survey.now.names.now in
    sym (fails_at (has_come names) (λ (p : Process). first_names p.name (length p.operations)) c.args.processes.now c.loop-process.process-index c.process-item.result c.loop-process-test.true c.process-item.is ((λ i. list_all (has_come (sym (take-length names) i)) (first_names (sym c.as_bytes-name.ensures i) (length (sym c.as_slice-count.ensures i)))) ∙ sym c.have_come.ensures ∙ c.if-not-have_come.true))
