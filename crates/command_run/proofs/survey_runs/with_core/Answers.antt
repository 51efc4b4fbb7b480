-- What was made is given back in the other order, also where a later file could not be made. An exit before the survey has taken nothing.
use Rattle.std.proofs.Common.{refl}
use Rattle.command_run.proofs.AskedLemmas.{with_file, without_file}
use Rattle.command_run.proofs.survey_runs.with_core.Goals as goal

pub returns-in_default-make_asked : goal.returns-in_default-make_asked
returns-in_default-make_asked g c =
    let calls = g.H.Host.calls in
    let written = g.H.Output.Sink.written in
    let failures = g.H.Output.Sink.failures in
    let path = g.H.Output.Sink.path in
    let files = c.args.asked.now.files in
    with_file calls written failures path _ _ c.args.host.now c.make_asked.new.host c.make_asked-2.new.host c.close_asked.new.host files.cert c.in-Ok.cert c.in-Ok.cert _
    c.in-Ok.ensures.makes refl
    (without_file calls written failures path _ _ c.make_asked.new.host c.make_asked-2.new.host files.names ((refl, refl), ((refl, refl), tt)) c.in_default-make_asked.ensures.failed)
    c.close_asked.ensures

pub returns-in_default-make_asked-2 : goal.returns-in_default-make_asked-2
returns-in_default-make_asked-2 g c =
    let calls = g.H.Host.calls in
    let written = g.H.Output.Sink.written in
    let failures = g.H.Output.Sink.failures in
    let path = g.H.Output.Sink.path in
    let files = c.args.asked.now.files in
    with_file calls written failures path _ _ c.args.host.now c.make_asked.new.host c.close_asked-in_default-make_asked-2.new.host c.close_asked-in_default-make_asked-2-2.new.host files.cert c.in-Ok.cert c.in-Ok.cert _
    c.in-Ok.ensures.makes refl
    (with_file calls written failures path _ _ c.make_asked.new.host c.make_asked-2.new.host c.make_asked-3.new.host c.close_asked-in_default-make_asked-2.new.host files.names c.in-Ok-make_asked.names c.in-Ok-make_asked.names _
    c.in-Ok-make_asked.ensures.makes refl
    (without_file calls written failures path _ _ c.make_asked-2.new.host c.make_asked-3.new.host files.part ((refl, refl), ((refl, refl), ((refl, refl), tt))) c.in_default-make_asked-2.ensures.failed)
    c.close_asked-in_default-make_asked-2.ensures)
    c.close_asked-in_default-make_asked-2-2.ensures

pub returns : goal.returns
returns g c =
    let calls = g.H.Host.calls in
    let written = g.H.Output.Sink.written in
    let failures = g.H.Output.Sink.failures in
    let path = g.H.Output.Sink.path in
    let files = c.args.asked.now.files in
    let sinks = c.certify_opened-outcome.new.sinks in
    let outcome = c.certify_opened-outcome.result in
    let ran = c.certify_opened-outcome.new.host in
    with_file calls written failures path _ _ c.args.host.now c.make_asked.new.host c.close_asked-3.new.host c.close_asked-4.new.host files.cert c.in-Ok.cert sinks.cert outcome
    c.in-Ok.ensures.makes c.certify_opened-outcome.ensures.same_cert
    (with_file calls written failures path _ _ c.make_asked.new.host c.make_asked-2.new.host c.close_asked-2.new.host c.close_asked-3.new.host files.names c.in-Ok-make_asked.names sinks.names outcome
    c.in-Ok-make_asked.ensures.makes c.certify_opened-outcome.ensures.same_names
    (with_file calls written failures path _ _ c.make_asked-2.new.host c.make_asked-3.new.host ran c.close_asked-2.new.host files.part c.in-Ok-make_asked-2.part sinks.part outcome
    c.in-Ok-make_asked-2.ensures.makes c.certify_opened-outcome.ensures.same_part c.certify_opened-outcome.ensures.runs c.close_asked-2.ensures)
    c.close_asked-3.ensures)
    c.close_asked-4.ensures
