use Rattle.std.proofs.Common.{refl, rules, [], ◌∷◌}
use Rattle.std.proofs.lemmas.Result.{err_from_is_err_and}
use Rattle.verdict_report.specs.Engine.{AtOnce, HandOut, of_two}
use Rattle.part_text.specs.PartText.{part_text}
use Rattle.part_report.specs.PartEngine.{MakeUp, IsSaidOfChoice, part_status}
use Rattle.verdict_report.specs.Runs.{SourceRun, SinkRun, source_run, sink_run}
use Rattle.verdict_report.proofs.EngineLemmas.{unread, refused, written}
use Rattle.part_report.proofs.PartLemmas.{shown}
use Rattle.part_report.proofs.part_engine.run_part.Goals as goal

pub returns-clause-run : goal.returns-clause-run
returns-clause-run g c =
    let first : SourceRun = source_run g.T.Source.handed_out g.T.Source.is_at_end g.T.Source.failures c.args.trace.now c.read_two.new.first in
    let second : SourceRun = source_run g.N.Source.handed_out g.N.Source.is_at_end g.N.Source.failures c.args.names.now c.read_two.new.second in
    let out : SinkRun = sink_run g.W.Sink.written g.W.Sink.failures c.args.out.now c.put_part.new.out in
    written (of_two IsSaidOfChoice) (part_text c.args.shows_names) part_status (first ∷ second ∷ []) out (c.in_ok-texts.texts.0.items ∷ c.in_ok-texts.texts.1.items ∷ []) (search rules) c.in_ok-part.part (search rules) c.put_part.result c.put_part.ensures.run

pub returns-in_err-texts-clause-run : goal.returns-in_err-texts-clause-run
returns-in_err-texts-clause-run g c =
    let first : SourceRun = source_run g.T.Source.handed_out g.T.Source.is_at_end g.T.Source.failures c.args.trace.now c.read_two.new.first in
    let second : SourceRun = source_run g.N.Source.handed_out g.N.Source.is_at_end g.N.Source.failures c.args.names.now c.read_two.new.second in
    let out : SinkRun = sink_run g.W.Sink.written g.W.Sink.failures c.args.out.now c.args.out.now in
    let p = err_from_is_err_and c.from_residual.result c.from_residual.ensures.1 in
    rw (p.1, p.2) (unread (of_two IsSaidOfChoice) (λ a. part_text c.args.shows_names a ∷ []) part_status (first ∷ second ∷ []) AtOnce (out ∷ []) ((refl, refl), tt) c.in_err-texts.field-0.0 (search rules))

pub returns-in_err-part-clause-run : goal.returns-in_err-part-clause-run
returns-in_err-part-clause-run g c =
    let first : SourceRun = source_run g.T.Source.handed_out g.T.Source.is_at_end g.T.Source.failures c.args.trace.now c.read_two.new.first in
    let second : SourceRun = source_run g.N.Source.handed_out g.N.Source.is_at_end g.N.Source.failures c.args.names.now c.read_two.new.second in
    let out : SinkRun = sink_run g.W.Sink.written g.W.Sink.failures c.args.out.now c.args.out.now in
    let p = err_from_is_err_and c.from_residual-in_err-part.result c.from_residual-in_err-part.ensures.1 in
    rw (p.1, p.2) (refused (of_two IsSaidOfChoice) (λ a. part_text c.args.shows_names a ∷ []) part_status (first ∷ second ∷ []) AtOnce (out ∷ []) ((refl, refl), tt) (c.in_ok-texts.texts.0.items ∷ c.in_ok-texts.texts.1.items ∷ []) (search rules) (λ s. s) (λ s. s) c.in_err-part.field-0.0 (search rules))

pub returns-clause-meaning : goal.returns-clause-meaning
returns-clause-meaning g c =
    let first : SourceRun = source_run g.T.Source.handed_out g.T.Source.is_at_end g.T.Source.failures c.args.trace.now c.read_two.new.first in
    let second : SourceRun = source_run g.N.Source.handed_out g.N.Source.is_at_end g.N.Source.failures c.args.names.now c.read_two.new.second in
    let out : SinkRun = sink_run g.W.Sink.written g.W.Sink.failures c.args.out.now c.put_part.new.out in
    let handed : HandOut (first ∷ second ∷ []) (c.in_ok-texts.texts.0.items ∷ c.in_ok-texts.texts.1.items ∷ []) = search rules in
    let made_up : MakeUp c.in_ok-texts.texts.0.items c.in_ok-texts.texts.1.items c.in_ok-part.part = search rules in
    shown c.args.shows_names first out c.in_ok-texts.texts.0.items c.in_ok-texts.texts.1.items c.in_ok-part.part handed.0.0 made_up c.put_part.result c.put_part.ensures.run
