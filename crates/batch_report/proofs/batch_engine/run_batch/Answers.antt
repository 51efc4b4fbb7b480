use Rattle.batch_report.proofs.PlainLemmas.{plain_run}
use Rattle.verdict_report.specs.Runs.{source_run}
use Rattle.batch_report.proofs.batch_engine.run_batch.Goals as goal

pub returns-clause-run : goal.returns-clause-run
returns-clause-run g c =
    plain_run _ _ (g.W.Sink.written c.args.out.now) (g.W.Sink.written c.run_batch_in.new.out) (g.W.Sink.failures c.args.out.now) (g.W.Sink.failures c.run_batch_in.new.out) c.args.run.now.file.now
    (source_run g.T.Source.handed_out g.T.Source.is_at_end g.T.Source.failures c.args.traces.now c.run_batch_in.new.traces) c.args.tally c.run_batch_in.result c.run_batch_in.ensures.run
