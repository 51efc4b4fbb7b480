-- The files are the trace's and the hint's, and the options those that were reported.
use Rattle.std.proofs.Common.{◌∙◌, ◌≡◌, subst}
use Rattle.std.specs.Prelude.{Ok}
use Rattle.survey_report.specs.SurveyEngine.{TellsExtent}
use Rattle.verdict_report.specs.Runs.{sink_run, source_run}
use Rattle.verdict_report.specs.declared.status.Status.TheVariants.{Unknown}
use Rattle.command_run.proofs.AskedLemmas.{with_hint}
use Rattle.command_run.proofs.RunLemmas.{reads_file}
use Rattle.command_run.proofs.hinted_runs.certify_opened.Goals as goal

pub returns-clause-runs : goal.returns-clause-runs
returns-clause-runs g c =
    let handed_out = g.H.Input.Source.handed_out in
    let is_at_end = g.H.Input.Source.is_at_end in
    let failures = g.H.Input.Source.failures in
    let trace = source_run handed_out is_at_end failures c.open-trace.result.source c.run_certified_survey-outcome.new.trace.source in
    let out = sink_run g.W.Sink.written g.W.Sink.failures c.args.out.now c.run_certified_survey-outcome.new.out in
    record {
      file = trace;
      between = c.open-trace.new.host;
      reads = reads_file c.open-trace.result.source c.run_certified_survey-outcome.new.trace.source c.open-trace.ensures.opens c.open-trace.ensures.handed_out c.open-trace.ensures.is_at_end c.open-trace.ensures.failures (c.run_certified_survey-outcome.ensures.same_trace ∙ c.open-trace.ensures.path);
      certifies =
          with_hint g.H.Host.calls handed_out is_at_end failures g.H.Input.Source.path _ c.open-trace.new.host c.open_asked-hint.new.host c.args.asked.now.inputs.hint c.open_asked-hint.result c.run_certified_survey-outcome.new.hint
          c.open_asked-hint.ensures c.run_certified_survey-outcome.ensures.same_hint
          (record {
            searches = c.begin_search.ensures;
            runs = c.run_certified_survey-outcome.ensures.run;
            left_open = subst (λ options. c.run_certified_survey-outcome.result ≡ Ok Unknown → TellsExtent options trace out) c.survey_run-run.ensures c.run_certified_survey-outcome.ensures.unknown;
          });
    }
