use Rattle.std.proofs.Common.{Bool, subst}
use Rattle.command_host.specs.Streams.{sink_view, source_view}
use Rattle.verdict_report.specs.Runs.{sink_run}
use Rattle.command_run.specs.CommandRun.{TellsEnded}
use Rattle.command_run.proofs.AskedLemmas.{ends_asked, ends_drawn}
use Rattle.command_run.proofs.command.run_drawn.Goals as goal

pub returns-clause-ends : goal.returns-clause-ends
returns-clause-ends g c =
    let read = source_view g.H.Input.Source.handed_out g.H.Input.Source.is_at_end g.H.Input.Source.failures g.H.Input.Source.path in
    let wrote = sink_view g.H.Output.Sink.written g.H.Output.Sink.failures g.H.Output.Sink.path in
    let out = sink_run g.O.Sink.written g.O.Sink.failures c.args.out.now c.run_engine-outcome.new.out in
    let err = sink_run g.E.Sink.written g.E.Sink.failures c.args.err.now c.tell_ended.new.err in
    let outcome = c.run_engine-outcome.result in
    let status = c.exit_status-status.result in
    let made = c.make_asked.new.host in
    let ran = c.run_engine-outcome.new.host in
    let tells = subst (λ (explains : Bool). TellsEnded explains err outcome) c.is_wanted-explains.ensures c.tell_ended.ensures in
    ends_drawn g.H.Host.calls g.H.Output.Sink.written g.H.Output.Sink.failures g.H.Output.Sink.path read c.args.program.now.is_terminal c.args.asked.now out err status c.args.host.now made ran c.close_asked.new.host
    c.args.asked.now.picture c.in-Ok.file c.draw_outcome.new.file
    c.in-Ok.ensures.makes c.draw_outcome.ensures.same
    (ends_asked g.H.Host.calls read wrote _ c.args.asked.now.line out err outcome status made ran c.run_engine-outcome.ensures tells c.exit_status-status.ensures)
    c.draw_outcome.ensures.drawn c.close_asked.ensures
