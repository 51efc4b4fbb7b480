use Rattle.std.proofs.Common.{take}
use Rattle.clap.specs.Walk.{texts}
use Rattle.command_host.specs.Streams.{source_view}
use Rattle.command_run.specs.BatchRuns.{HasDecided}
use Rattle.verdict_report.specs.Runs.{sink_run}
use Rattle.command_run.proofs.batch_runs.decide_traces.Given as goal

abbrev pub invariant-loop-at : goal.invariant-loop-at
invariant-loop-at g l =
    HasDecided g.H.Host.calls (source_view g.H.Input.Source.handed_out g.H.Input.Source.is_at_end g.H.Input.Source.failures g.H.Input.Source.path) l.initial.host (texts (take l.at l.traces)) l.tally
    (sink_run g.W.Sink.written g.W.Sink.failures l.initial.out l.out) l.host
