use Rattle.std.proofs.Common.{refl, rules, [], ◌∷◌}
use Rattle.std.proofs.lemmas.Result.{err_from_is_err_and}
use Rattle.verdict_report.specs.Engine.{AtOnce, of_two}
use Rattle.verdict_report.specs.Fault.{status_after}
use Rattle.verdict_report.specs.JudgeEngine.{IsSaidOfTexts, judgement_line}
use Rattle.verdict_report.specs.Runs.{SourceRun, SinkRun, source_run, sink_run}
use Rattle.verdict_report.proofs.EngineLemmas.{unread, refused, written}
use Rattle.verdict_report.proofs.judge_engine.run_judge.Goals as goal

pub returns-clause-run : goal.returns-clause-run
returns-clause-run g c =
    let first : SourceRun = source_run g.T.Source.handed_out g.T.Source.is_at_end g.T.Source.failures c.args.trace.now c.read_two.new.first in
    let second : SourceRun = source_run g.S.Source.handed_out g.S.Source.is_at_end g.S.Source.failures c.args.schedule.now c.read_two.new.second in
    let out : SinkRun = sink_run g.W.Sink.written g.W.Sink.failures c.args.out.now c.write_judgement.new.out in
    written (of_two IsSaidOfTexts) judgement_line status_after (first ∷ second ∷ []) out (c.in_ok-texts.texts.0.items ∷ c.in_ok-texts.texts.1.items ∷ []) (search rules) c.in_ok-judgement.judgement (search rules) c.write_judgement.result c.write_judgement.ensures.run

pub returns-in_err-texts-clause-run : goal.returns-in_err-texts-clause-run
returns-in_err-texts-clause-run g c =
    let first : SourceRun = source_run g.T.Source.handed_out g.T.Source.is_at_end g.T.Source.failures c.args.trace.now c.read_two.new.first in
    let second : SourceRun = source_run g.S.Source.handed_out g.S.Source.is_at_end g.S.Source.failures c.args.schedule.now c.read_two.new.second in
    let out : SinkRun = sink_run g.W.Sink.written g.W.Sink.failures c.args.out.now c.args.out.now in
    let p = err_from_is_err_and c.from_residual.result c.from_residual.ensures.1 in
    rw (p.1, p.2) (unread (of_two IsSaidOfTexts) (λ a. judgement_line a ∷ []) status_after (first ∷ second ∷ []) AtOnce (out ∷ []) ((refl, refl), tt) c.in_err-texts.field-0.0 (search rules))

pub returns-in_err-judgement-clause-run : goal.returns-in_err-judgement-clause-run
returns-in_err-judgement-clause-run g c =
    let first : SourceRun = source_run g.T.Source.handed_out g.T.Source.is_at_end g.T.Source.failures c.args.trace.now c.read_two.new.first in
    let second : SourceRun = source_run g.S.Source.handed_out g.S.Source.is_at_end g.S.Source.failures c.args.schedule.now c.read_two.new.second in
    let out : SinkRun = sink_run g.W.Sink.written g.W.Sink.failures c.args.out.now c.args.out.now in
    let p = err_from_is_err_and c.from_residual-in_err-judgement.result c.from_residual-in_err-judgement.ensures.1 in
    rw (p.1, p.2) (refused (of_two IsSaidOfTexts) (λ a. judgement_line a ∷ []) status_after (first ∷ second ∷ []) AtOnce (out ∷ []) ((refl, refl), tt) (c.in_ok-texts.texts.0.items ∷ c.in_ok-texts.texts.1.items ∷ []) (search rules) (λ s. s) (λ s. s) c.in_err-judgement.field-0.0 (search rules))
