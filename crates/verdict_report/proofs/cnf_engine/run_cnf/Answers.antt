use Rattle.std.proofs.Common.{refl, rules, subst, [], ◌∷◌}
use Rattle.std.proofs.lemmas.Result.{err_from_is_err_and}
use Rattle.clause_blocks.specs.Clauses.{formula_of}
use Rattle.dimacs.specs.CnfText.{cnf_text}
use Rattle.dimacs.specs.Sink.{AppendsFront}
use Rattle.trace_semantics.specs.Trace.{TraceValue}
use Rattle.reducer.specs.Reduced.{ReducedValue}
use Rattle.verdict_report.specs.Admitted.{Admits, IsReducedFrom, cnf_of}
use Rattle.verdict_report.specs.CnfEngine.{cnf_status}
use Rattle.verdict_report.specs.Engine.{InPieces, of_one}
use Rattle.verdict_report.specs.Runs.{SourceRun, SinkRun, source_run, sink_run}
use Rattle.verdict_report.proofs.EngineLemmas.{unread, refused, cut_off}
use Rattle.verdict_report.proofs.MeaningLemmas.{kept_of_reduced, of_reduced}
use Rattle.verdict_report.proofs.cnf_engine.run_cnf.Goals as goal

pub returns-clause-run : goal.returns-clause-run
returns-clause-run g c = record {
  answer = c.in_ok-reduced.reduced;
  reads = record { texts = c.in_ok-text.text.items ∷ []; handed = search rules; is_said = search rules };
  whole = search rules;
  status_is = refl;
}

pub returns-in_err-text-clause-run : goal.returns-in_err-text-clause-run
returns-in_err-text-clause-run g c =
    let trace : SourceRun = source_run g.T.Source.handed_out g.T.Source.is_at_end g.T.Source.failures c.args.trace.now c.read_one.new.source in
    let out : SinkRun = sink_run g.W.Sink.written g.W.Sink.failures c.args.out.now c.args.out.now in
    let p = err_from_is_err_and c.from_residual.result c.from_residual.ensures.1 in
    rw (p.1, p.2) (unread (of_one IsReducedFrom) (λ (r : ReducedValue). cnf_of r.whole ∷ []) cnf_status (trace ∷ []) InPieces (out ∷ []) ((refl, refl), tt) c.in_err-text.field-0.0 (search rules))

pub returns-in_err-reduced-clause-run : goal.returns-in_err-reduced-clause-run
returns-in_err-reduced-clause-run g c =
    let trace : SourceRun = source_run g.T.Source.handed_out g.T.Source.is_at_end g.T.Source.failures c.args.trace.now c.read_one.new.source in
    let out : SinkRun = sink_run g.W.Sink.written g.W.Sink.failures c.args.out.now c.args.out.now in
    let p = err_from_is_err_and c.from_residual-in_err-reduced.result c.from_residual-in_err-reduced.ensures.1 in
    rw (p.1, p.2) (refused (of_one IsReducedFrom) (λ (r : ReducedValue). cnf_of r.whole ∷ []) cnf_status (trace ∷ []) InPieces (out ∷ []) ((refl, refl), tt) (c.in_ok-text.text.items ∷ []) (search rules) (λ s. s) (λ s. s) c.in_err-reduced.field-0.0 (search rules))

pub returns-in_err-stream_cnf-clause-run : goal.returns-in_err-stream_cnf-clause-run
returns-in_err-stream_cnf-clause-run g c =
    let trace : SourceRun = source_run g.T.Source.handed_out g.T.Source.is_at_end g.T.Source.failures c.args.trace.now c.read_one.new.source in
    let out : SinkRun = sink_run g.W.Sink.written g.W.Sink.failures c.args.out.now c.stream_cnf.new.sink in
    let front : AppendsFront out.before out.now (cnf_of c.in_ok-reduced.reduced.whole) =
    subst (λ (t : TraceValue). AppendsFront out.before out.now (cnf_text (formula_of t))) c.in_ok-reduced.ensures.0.reduction c.in_err-stream_cnf.ensures.front in
    let p = err_from_is_err_and c.from_residual-in_err-stream_cnf.result c.from_residual-in_err-stream_cnf.ensures.1 in
    rw (p.1, p.2) (cut_off (of_one IsReducedFrom) (λ (r : ReducedValue). cnf_of r.whole) cnf_status (trace ∷ []) out (c.in_ok-text.text.items ∷ []) (search rules) c.in_ok-reduced.reduced (search rules) c.in_err-stream_cnf.field-0.0 front c.in_err-stream_cnf.ensures.failed)

pub returns-clause-meaning : goal.returns-clause-meaning
returns-clause-meaning g c =
    let admitted : Admits c.in_ok-text.text.items c.in_ok-reduced.reduced.whole = search rules in
    record {
      text = c.in_ok-text.text.items;
      handed = search rules;
      value = c.in_ok-reduced.reduced.whole;
      is_trace = admitted.is_trace;
      spelled = admitted.spelled;
      formula = formula_of c.in_ok-reduced.reduced.kept;
      is_over = c.formula_is_over_its_variables.ensures c.in_ok-reduced.reduced.kept (kept_of_reduced c.in_ok-reduced.reduced c.in_ok-reduced.ensures.0 admitted.is_trace);
      whole = search rules;
      meaning = of_reduced c.in_ok-reduced.reduced c.in_ok-reduced.ensures.0 (c.satisfiable_exactly_where_schedulable.ensures c.in_ok-text.text.items c.in_ok-reduced.reduced.whole admitted);
    }
