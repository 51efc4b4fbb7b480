use Rattle.std.proofs.Common.{subst}
use Rattle.std.specs.List.{All}
use Rattle.trace_semantics.specs.declared.trace.Process.{Process}
use Rattle.writer_table.specs.WriterClasses.{HasNumber}
use Rattle.writer_table.proofs.WriterLemmas.{holds_writers}
use Rattle.writer_table.proofs.trace_writers.TraceWriters.of.Goals as goal

pub returns-clause-holds : goal.returns-clause-holds
returns-clause-holds c =
    let classes = c.in_ok-classes.classes in
    holds_writers c.args.trace.now c.processes-processes.result.now (record { classes = classes; table = c.in_ok-table.table }) c.processes-processes.ensures c.in_ok-table.ensures c.in_ok-classes.ensures.apart
    (subst (All (λ (p : Process). All (HasNumber classes) p.operations)) c.processes-processes.ensures c.in_ok-classes.ensures.have)
