use Rattle.std.proofs.Common.{◌∙◌}
use Rattle.verdict_report.specs.Runs.{source_run}
use Rattle.command_run.proofs.RunLemmas.{reads_file}
use Rattle.command_run.proofs.engine_runs.run_on_files.Goals as goal

pub returns : goal.returns
returns g c = record {
  first = source_run g.H.Input.Source.handed_out g.H.Input.Source.is_at_end g.H.Input.Source.failures c.open-first.result.source c.run_on_texts-outcome.new.first.source;
  between = c.open-first.new.host;
  reads_first = reads_file c.open-first.result.source c.run_on_texts-outcome.new.first.source c.open-first.ensures.opens c.open-first.ensures.handed_out c.open-first.ensures.is_at_end c.open-first.ensures.failures (c.run_on_texts-outcome.ensures.same_first ∙ c.open-first.ensures.path);
  second = source_run g.H.Input.Source.handed_out g.H.Input.Source.is_at_end g.H.Input.Source.failures c.open-second.result.source c.run_on_texts-outcome.new.second.source;
  reads_second = reads_file c.open-second.result.source c.run_on_texts-outcome.new.second.source c.open-second.ensures.opens c.open-second.ensures.handed_out c.open-second.ensures.is_at_end c.open-second.ensures.failures (c.run_on_texts-outcome.ensures.same_second ∙ c.open-second.ensures.path);
  runs = c.run_on_texts-outcome.ensures.run;
}
