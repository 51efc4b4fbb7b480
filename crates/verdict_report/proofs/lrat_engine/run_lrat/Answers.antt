use Rattle.std.proofs.Common.{refl, rules, [], ◌∷◌}
use Rattle.std.proofs.lemmas.Result.{err_from_is_err_and}
use Rattle.verdict_report.specs.Engine.{AtOnce, of_two}
use Rattle.verdict_report.specs.LratEngine.{IsSaidOfProof, accepted_line, accepted_status}
use Rattle.verdict_report.specs.Runs.{SourceRun, SinkRun, source_run, sink_run}
use Rattle.verdict_report.proofs.EngineLemmas.{unread, refused, written}
use Rattle.verdict_report.proofs.lrat_engine.run_lrat.Goals as goal

pub returns-clause-run : goal.returns-clause-run
returns-clause-run g c =
    let first : SourceRun = source_run g.C.Source.handed_out g.C.Source.is_at_end g.C.Source.failures c.args.cnf.now c.read_two.new.first in
    let second : SourceRun = source_run g.P.Source.handed_out g.P.Source.is_at_end g.P.Source.failures c.args.proof.now c.read_two.new.second in
    let out : SinkRun = sink_run g.W.Sink.written g.W.Sink.failures c.args.out.now c.write_accepted.new.out in
    written (of_two IsSaidOfProof) accepted_line accepted_status (first ∷ second ∷ []) out (c.in_ok-texts.texts.0.items ∷ c.in_ok-texts.texts.1.items ∷ []) (search rules) c.in_ok-accepted.accepted (search rules) c.write_accepted.result c.write_accepted.ensures.run

pub returns-in_err-texts-clause-run : goal.returns-in_err-texts-clause-run
returns-in_err-texts-clause-run g c =
    let first : SourceRun = source_run g.C.Source.handed_out g.C.Source.is_at_end g.C.Source.failures c.args.cnf.now c.read_two.new.first in
    let second : SourceRun = source_run g.P.Source.handed_out g.P.Source.is_at_end g.P.Source.failures c.args.proof.now c.read_two.new.second in
    let out : SinkRun = sink_run g.W.Sink.written g.W.Sink.failures c.args.out.now c.args.out.now in
    let p = err_from_is_err_and c.from_residual.result c.from_residual.ensures.1 in
    rw (p.1, p.2) (unread (of_two IsSaidOfProof) (λ a. accepted_line a ∷ []) accepted_status (first ∷ second ∷ []) AtOnce (out ∷ []) ((refl, refl), tt) c.in_err-texts.field-0.0 (search rules))

pub returns-in_err-accepted-clause-run : goal.returns-in_err-accepted-clause-run
returns-in_err-accepted-clause-run g c =
    let first : SourceRun = source_run g.C.Source.handed_out g.C.Source.is_at_end g.C.Source.failures c.args.cnf.now c.read_two.new.first in
    let second : SourceRun = source_run g.P.Source.handed_out g.P.Source.is_at_end g.P.Source.failures c.args.proof.now c.read_two.new.second in
    let out : SinkRun = sink_run g.W.Sink.written g.W.Sink.failures c.args.out.now c.args.out.now in
    let p = err_from_is_err_and c.from_residual-in_err-accepted.result c.from_residual-in_err-accepted.ensures.1 in
    rw (p.1, p.2) (refused (of_two IsSaidOfProof) (λ a. accepted_line a ∷ []) accepted_status (first ∷ second ∷ []) AtOnce (out ∷ []) ((refl, refl), tt) (c.in_ok-texts.texts.0.items ∷ c.in_ok-texts.texts.1.items ∷ []) (search rules) (λ s. s) (λ s. s) c.in_err-accepted.field-0.0 (search rules))
