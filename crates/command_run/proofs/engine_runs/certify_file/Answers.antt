-- The recorder passes on what it takes, so the file itself took the certificate.
use Rattle.std.proofs.Common.{◌∙◌, ◌≡◌, ap, inr, subst, sym}
use Rattle.verdict_report.specs.Runs.{sink_run, source_run}
use Rattle.verdict_report.specs.VerifyEngine.{IsRunOfCertifiedVerify}
use Rattle.command_run.proofs.RunLemmas.{reads_file}
use Rattle.command_run.proofs.engine_runs.certify_file.Goals as goal

pub returns : goal.returns
returns g c =
    let written = g.H.Output.Sink.written in
    let failures = g.H.Output.Sink.failures in
    let trace = source_run g.H.Input.Source.handed_out g.H.Input.Source.is_at_end g.H.Input.Source.failures c.open-trace.result.source c.run_certified_verify-outcome.new.trace.source in
    let out = sink_run g.W.Sink.written g.W.Sink.failures c.args.out.now c.run_certified_verify-outcome.new.out in
    inr (record {
      before = c.in-Ok.file;
      after = c.into_sink.result;
      made = c.create.new.self;
      makes = c.in-Ok.ensures.makes;
      no_byte_before = c.in-Ok.ensures.written;
      no_failure_before = c.in-Ok.ensures.failures;
      path_is = ap g.H.Output.Sink.path c.into_sink.ensures ∙ c.run_certified_verify-outcome.ensures.same_cert ∙ ap g.H.Output.Sink.path c.counting-file.ensures ∙ c.in-Ok.ensures.path;
      file = trace;
      opened = c.open-trace.new.host;
      reads = reads_file c.open-trace.result.source c.run_certified_verify-outcome.new.trace.source c.open-trace.ensures.opens c.open-trace.ensures.handed_out c.open-trace.ensures.is_at_end c.open-trace.ensures.failures (c.run_certified_verify-outcome.ensures.same_trace ∙ c.open-trace.ensures.path);
      searched = c.begin_search.new.self;
      searches = c.begin_search.ensures;
      runs =
          subst (λ after. IsRunOfCertifiedVerify trace (sink_run written failures c.in-Ok.file after) out c.run_certified_verify-outcome.result) (sym c.into_sink.ensures)
          (subst (λ before. IsRunOfCertifiedVerify trace (sink_run written failures before c.run_certified_verify-outcome.new.cert.sink) out c.run_certified_verify-outcome.result) c.counting-file.ensures
          c.run_certified_verify-outcome.ensures.run);
      left_open = c.run_certified_verify-outcome.ensures.unknown;
      closes = c.close.ensures;
    })
