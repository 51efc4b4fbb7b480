use Rattle.std.proofs.Common.{refl}
use Rattle.verdict_report.specs.Runs.{sink_run}
use Rattle.command_run.proofs.explaining.tell_explained.Goals as goal

pub returns : goal.returns
returns g c = record {
  told = sink_run g.E.Sink.written g.E.Sink.failures c.args.err.now c.tell_outcome.new.err;
  begins = record { same_begin = refl; same_failures = refl };
  tells = c.tell_outcome.ensures;
  adds = c.write_notes.ensures;
}
