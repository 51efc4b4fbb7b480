use Rattle.std.proofs.Common.{◌≡◌, ◌≤◌, false, vec_len}
use Rattle.batch_report.specs.FormedBatch.{HasCome, device_run}
use Rattle.verdict_report.specs.Runs.{sink_run, source_run}
use Rattle.batch_report.proofs.batch_engine.run_batch_in.Given as goal

abbrev pub invariant-loop-block : goal.invariant-loop-block
invariant-loop-block g l = record {
  come : HasCome g.F.LineForm.means l.run.file.now l.fn.tally (source_run g.T.Source.handed_out g.T.Source.is_at_end g.T.Source.failures l.initial.traces l.traces) l.held.items false l.progress (device_run l.initial.devices l.devices) (sink_run g.W.Sink.written g.W.Sink.failures l.initial.out l.out);
  few : vec_len l.held ≤ 268435456;
  same_traces : g.T.Source.path l.traces ≡ g.T.Source.path l.initial.traces;
  same_out : g.W.Sink.path l.out ≡ g.W.Sink.path l.initial.out;
}
