use Rattle.std.proofs.Common.{◌∙◌}
use Rattle.verdict_report.specs.Runs.{source_run}
use Rattle.command_run.proofs.RunLemmas.{reads_file}
use Rattle.command_run.proofs.engine_runs.decide_file.Goals as goal

pub returns : goal.returns
returns g c = record {
  file = source_run g.H.Input.Source.handed_out g.H.Input.Source.is_at_end g.H.Input.Source.failures c.open-trace.result.source c.run_verify-outcome.new.trace.source;
  between = c.open-trace.new.host;
  reads = reads_file c.open-trace.result.source c.run_verify-outcome.new.trace.source c.open-trace.ensures.opens c.open-trace.ensures.handed_out c.open-trace.ensures.is_at_end c.open-trace.ensures.failures (c.run_verify-outcome.ensures.same_trace ∙ c.open-trace.ensures.path);
  searches = c.begin_search.ensures;
  runs = c.run_verify-outcome.ensures.run;
  left_open = c.run_verify-outcome.ensures.unknown;
}
