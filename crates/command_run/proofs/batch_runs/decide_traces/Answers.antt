use Rattle.std.specs.Borrow.{Bor}
use Rattle.std.proofs.Common.{◌<◌, ◌≡◌, ◌∙◌, List, ℕ, [], drop, get_or, length, subst, suc, sym, take, take_all, arith}
use Rattle.clap.specs.Walk.{texts}
use Rattle.command_host.specs.Streams.{source_view}
use Rattle.command_run.specs.BatchRuns.{HasDecided}
use Rattle.verdict_report.specs.Runs.{sink_run, source_run}
use Rattle.command_run.proofs.BatchLemmas.{decides_more, finishes, none_decided, stops_here, texts_around, texts_more}
use Rattle.command_run.proofs.RunLemmas.{reads_file}
use Rattle.command_run.proofs.batch_runs.decide_traces.Goals as goal

abbrev no_path : Bor (List ℕ)
no_path = record { ref_ptr = (0, 0); now = [] }

pub loop-at-init : goal.loop-at-init
loop-at-init g c =
    let read = source_view g.H.Input.Source.handed_out g.H.Input.Source.is_at_end g.H.Input.Source.failures g.H.Input.Source.path in
    subst (λ t. HasDecided g.H.Host.calls read c.args.host.now [] t (sink_run g.W.Sink.written g.W.Sink.failures c.args.out.now c.args.out.now) c.args.host.now) (sym c.new-tally.ensures)
    (none_decided g.H.Host.calls read c.args.host.now (g.W.Sink.written c.args.out.now) (g.W.Sink.failures c.args.out.now))

pub loop-at-preserved : goal.loop-at-preserved
loop-at-preserved g c =
    let read = source_view g.H.Input.Source.handed_out g.H.Input.Source.is_at_end g.H.Input.Source.failures g.H.Input.Source.path in
    let written = g.W.Sink.written in
    let failures = g.W.Sink.failures in
    let path = (get_or c.args.traces.now c.loop-at.at no_path).now in
    let file = source_run g.H.Input.Source.handed_out g.H.Input.Source.is_at_end g.H.Input.Source.failures c.open-file.result.source c.run_batch.new.traces.source in
    let within : c.loop-at.at < length c.args.traces.now = omega arith in
    subst (λ paths. HasDecided g.H.Host.calls read c.args.host.now paths c.in-Ok.counted (sink_run written failures c.args.out.now c.run_batch.new.out) c.open-file.new.host) (texts_more c.args.traces.now c.loop-at.at no_path within)
    (decides_more g.H.Host.calls read c.args.host.now c.loop-at.host c.open-file.new.host (texts (take c.loop-at.at c.args.traces.now)) path c.loop-at.tally
    (written c.args.out.now) (written c.loop-at.out) (written c.run_batch.new.out) (failures c.args.out.now) (failures c.loop-at.out) (failures c.run_batch.new.out)
    c.loop-at.invariant c.in-Ok.counted (record {
      file = file;
      reads = reads_file c.open-file.result.source c.run_batch.new.traces.source c.open-file.ensures.opens c.open-file.ensures.handed_out c.open-file.ensures.is_at_end c.open-file.ensures.failures
          (c.in-Ok.ensures.same_traces ∙ c.open-file.ensures.path);
      runs = c.in-Ok.ensures.run;
    }))

pub returns-in-Err : goal.returns-in-Err
returns-in-Err g c =
    let read = source_view g.H.Input.Source.handed_out g.H.Input.Source.is_at_end g.H.Input.Source.failures g.H.Input.Source.path in
    let written = g.W.Sink.written in
    let failures = g.W.Sink.failures in
    let path = (get_or c.args.traces.now c.loop-at.at no_path).now in
    let file = source_run g.H.Input.Source.handed_out g.H.Input.Source.is_at_end g.H.Input.Source.failures c.open-file.result.source c.run_batch.new.traces.source in
    let within : c.loop-at.at < length c.args.traces.now = omega arith in
    stops_here g.H.Host.calls read c.args.host.now c.loop-at.host c.open-file.new.host (texts (take c.loop-at.at c.args.traces.now)) path c.loop-at.tally
    (written c.args.out.now) (written c.loop-at.out) (written c.run_batch.new.out) (failures c.args.out.now) (failures c.loop-at.out) (failures c.run_batch.new.out)
    c.loop-at.invariant (texts c.args.traces.now) (texts (drop (suc c.loop-at.at) c.args.traces.now)) (texts_around c.args.traces.now c.loop-at.at no_path within)
    c.in-Err.fault (record {
      file = file;
      reads = reads_file c.open-file.result.source c.run_batch.new.traces.source c.open-file.ensures.opens c.open-file.ensures.handed_out c.open-file.ensures.is_at_end c.open-file.ensures.failures
          (c.in-Err.ensures.same_traces ∙ c.open-file.ensures.path);
      runs = c.in-Err.ensures.run;
    })
    c.refusal_of_sink.result c.refusal_of_sink.ensures

pub returns : goal.returns
returns g c =
    let read = source_view g.H.Input.Source.handed_out g.H.Input.Source.is_at_end g.H.Input.Source.failures g.H.Input.Source.path in
    let out = sink_run g.W.Sink.written g.W.Sink.failures c.args.out.now c.loop-at.out in
    let all : take c.loop-at.at c.args.traces.now ≡ c.args.traces.now = take_all c.loop-at.at c.args.traces.now (omega arith) in
    let come = subst (λ (l : List (Bor (List ℕ))). HasDecided g.H.Host.calls read c.args.host.now (texts l) c.loop-at.tally out c.loop-at.host) all c.loop-at.invariant in
    finishes g.H.Host.calls read c.args.host.now c.loop-at.host (texts c.args.traces.now) c.loop-at.tally out come c.outcome.result c.outcome.ensures
