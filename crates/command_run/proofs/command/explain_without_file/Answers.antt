use Rattle.std.proofs.Common.{refl}
use Rattle.verdict_report.specs.Runs.{sink_run}
use Rattle.command_run.proofs.command.explain_without_file.Goals as goal

pub returns : goal.returns
returns g c = record {
  told = sink_run g.E.Sink.written g.E.Sink.failures c.args.err.now c.tell_fault.new.err;
  begins = record { same_begin = refl; same_failures = refl };
  tells = c.tell_fault.ensures;
  adds = c.explain_unmade.ensures;
}
