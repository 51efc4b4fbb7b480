-- The folder comes first, and then the files, with the form that is asked for.
use Rattle.std.proofs.Common.{◌∙◌, refl, sym}
use Rattle.clap.specs.Walk.{texts}
use Rattle.command_host.specs.Streams.{source_view}
use Rattle.verdict_report.specs.Runs.{sink_run}
use Rattle.command_run.specs.FormedRuns.{asks_more}
use Rattle.command_run.proofs.FormedLemmas.{plain_alone, with_folder, with_more, without_folder}
use Rattle.command_run.proofs.formed_runs.decide_batch.Goals as goal

pub returns-then-not-asks_more : goal.returns-then-not-asks_more
returns-then-not-asks_more g c =
    let read = source_view g.H.Input.Source.handed_out g.H.Input.Source.is_at_end g.H.Input.Source.failures g.H.Input.Source.path in
    let out = sink_run g.W.Sink.written g.W.Sink.failures c.args.out.now c.decide_traces.new.out in
    plain_alone g.H.Host.calls read c.args.host.now (texts c.args.traces.now) out c.decide_traces.result c.decide_traces.new.host c.args.output (asks_more c.args.output) (sym c.asks_more.ensures ∙ c.if-not-asks_more.true) c.decide_traces.ensures

pub returns-in_default : goal.returns-in_default
returns-in_default g c =
    let read = source_view g.H.Input.Source.handed_out g.H.Input.Source.is_at_end g.H.Input.Source.failures g.H.Input.Source.path in
    let out = sink_run g.W.Sink.written g.W.Sink.failures c.args.out.now c.args.out.now in
    with_more g.H.Host.calls read c.args.host.now (texts c.args.traces.now) out _ c.make_asked_folder.new.host c.args.output (asks_more c.args.output) (sym c.asks_more.ensures ∙ c.if-not-asks_more.false) c.args.output.json refl
    (without_folder g.H.Host.calls _ out c.args.host.now c.make_asked_folder.new.host c.args.output.keep (refl, refl) c.in_default.ensures.failed)

pub returns-then-output : goal.returns-then-output
returns-then-output g c =
    let read = source_view g.H.Input.Source.handed_out g.H.Input.Source.is_at_end g.H.Input.Source.failures g.H.Input.Source.path in
    let out = sink_run g.W.Sink.written g.W.Sink.failures c.args.out.now c.decide_traces_in.new.out in
    with_more g.H.Host.calls read c.args.host.now (texts c.args.traces.now) out c.decide_traces_in.result c.decide_traces_in.new.host c.args.output (asks_more c.args.output) (sym c.asks_more.ensures ∙ c.if-not-asks_more.false) _ c.if-output.true
    (with_folder g.H.Host.calls _ out c.args.host.now c.make_asked_folder.new.host c.args.output.keep c.decide_traces_in.result c.decide_traces_in.new.host c.in-Ok.ensures.makes c.decide_traces_in.ensures)

pub returns-else-output : goal.returns-else-output
returns-else-output g c =
    let read = source_view g.H.Input.Source.handed_out g.H.Input.Source.is_at_end g.H.Input.Source.failures g.H.Input.Source.path in
    let out = sink_run g.W.Sink.written g.W.Sink.failures c.args.out.now c.decide_traces_in-else-output.new.out in
    with_more g.H.Host.calls read c.args.host.now (texts c.args.traces.now) out c.decide_traces_in-else-output.result c.decide_traces_in-else-output.new.host c.args.output (asks_more c.args.output) (sym c.asks_more.ensures ∙ c.if-not-asks_more.false) _ c.if-output.false
    (with_folder g.H.Host.calls _ out c.args.host.now c.make_asked_folder.new.host c.args.output.keep c.decide_traces_in-else-output.result c.decide_traces_in-else-output.new.host c.in-Ok.ensures.makes c.decide_traces_in-else-output.ensures)
