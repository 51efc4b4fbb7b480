use Rattle.std.proofs.Common.{◌≡◌, ◌∙◌, List, ℕ, sym, subst, arith}
use Rattle.std.proofs.lemmas.Result.{err_from_is_err_and}
use Rattle.text_lines.specs.FirstFault.{IsFaultless}
use Rattle.text_lines.specs.Lines.{lines_of}
use Rattle.trace_semantics.specs.declared.trace.Process.{Process}
use Rattle.trace_semantics.specs.Trace.{TraceValue, IsTrace}
use Rattle.trace_text.specs.Gathered.{processes_of, trace_of, IsArranged}
use Rattle.trace_text.specs.References.{fault_of_line, IsRefusedByReferences}
use Rattle.trace_text.specs.TraceText.{SpellsTrace}
use Rattle.trace_text.specs.declared.trace_builder.TraceBuilder.{TraceBuilder}
use Rattle.trace_text.specs.declared.trace_reader.TraceReader.{TraceReader}
use Rattle.trace_text.specs.Read.{IsAllRead}
use Rattle.trace_text.proofs.LineWords.KnownLemmas.{refused_by_references}
use Rattle.trace_text.proofs.Reading.ArrangedLemmas.{AreGathered, trace_arranged, spells_arranged}
use Rattle.trace_text.proofs.trace_reader.finish.Goals as goal
use Rattle.trace_text.specs.declared.version.Version.{Version}
use Rattle.trace_text.specs.Version.{limits_of}

-- The trace of all lines.

-- the same parts make the same trace
same_trace : (old new : TraceBuilder) → processes_of new ≡ processes_of old → new.initial ≡ old.initial → new.final_values ≡ old.final_values → new.before ≡ old.before → trace_of new ≡ trace_of old
same_trace old new p a f b = λ i. record { processes = p i; initial = (a i).items; final_values = (f i).items; before = (b i).items }

-- what the reader has gathered
gathered : (text : List ℕ) (version : Version) (reader : TraceReader) → (r : IsAllRead text version reader) → AreGathered (limits_of version) r.ss (trace_of reader.gathered)
gathered text version reader r =
    let seen = r.progress.seen in
    let g = r.progress.gathered in
    record {
      processes = g.processes;
      initial = g.initial;
      final_values = g.final_values;
      before = g.before;
      processes_apart = r.progress.distinct.processes;
      initial_apart = r.progress.distinct.initial;
      finals_apart = r.progress.distinct.final_values;
      written = record { processes = r.progress.written.processes; initial = r.progress.written.initial; final_values = r.progress.written.final_values; before = r.progress.written.before };
      few_processes = omega (arith, seen.few_processes, seen.process_count);
      few_operations = omega (arith, seen.few_operations, seen.operation_count);
      few_before = omega (arith, seen.few_before, seen.before_count);
      few_locations = omega (arith, seen.few_locations, seen.location_count);
    }

-- what is gathered, in order, is a trace
is_trace : (text : List ℕ) (version : Version) (reader : TraceReader) (t : TraceValue) → IsAllRead text version reader → IsArranged (trace_of reader.gathered) t → IsFaultless (λ (before : List (List ℕ)) (here : List ℕ). fault_of_line version t.processes here) (lines_of text) → IsTrace t
is_trace text version reader t r a f = trace_arranged version (lines_of text) r.ss (trace_of reader.gathered) t r.said (gathered text version reader r) a f

spells : (text : List ℕ) (version : Version) (reader : TraceReader) (t : TraceValue) → IsAllRead text version reader → IsArranged (trace_of reader.gathered) t → IsFaultless (λ (before : List (List ℕ)) (here : List ℕ). fault_of_line version t.processes here) (lines_of text) → SpellsTrace text t
spells text version reader t r a f = spells_arranged version text r.ss (trace_of reader.gathered) t r.said (gathered text version reader r) a f

pub returns-in_err-check_references-clause-refused : goal.returns-in_err-check_references-clause-refused
returns-in_err-check_references-clause-refused c =
    let p = err_from_is_err_and c.from_residual-in_err-check_references.result c.from_residual-in_err-check_references.ensures.1 in
    let same : c.processes.result.now ≡ processes_of c.args.reader.gathered = c.processes.ensures ∙ c.in_ok-close_process.ensures.processes in
    rw (p.1, p.2) (refused_by_references c.args.version c.args.text.now c.requires.ss (processes_of c.args.reader.gathered) c.in_err-check_references.field-0.0 c.requires.said c.requires.progress.gathered.processes c.requires.faultless
    (subst (λ (ps : List Process). IsRefusedByReferences c.args.version ps c.args.text.now c.in_err-check_references.field-0.0) same c.in_err-check_references.ensures.refused))

pub into_trace-requires-clause-trace : goal.into_trace-requires-clause-trace
into_trace-requires-clause-trace c =
    let all = same_trace c.args.reader.gathered c.close_process.new.self c.in_ok-close_process.ensures.processes c.close_process.ensures.initial c.close_process.ensures.final_values c.close_process.ensures.before in
    is_trace c.args.text.now c.args.version c.args.reader (trace_of c.arrange.new.self) c.requires (subst (λ (u : TraceValue). IsArranged u (trace_of c.arrange.new.self)) all c.in_ok-arrange.ensures.arranged)
    (subst (λ (ps : List Process). IsFaultless (λ (before : List (List ℕ)) (here : List ℕ). fault_of_line c.args.version ps here) (lines_of c.args.text.now)) (c.processes.ensures ∙ sym c.in_ok-arrange.ensures.arranged.processes) c.in_ok-check_references.ensures.fine)

pub returns-clause-spelled : goal.returns-clause-spelled
returns-clause-spelled c =
    let all = same_trace c.args.reader.gathered c.close_process.new.self c.in_ok-close_process.ensures.processes c.close_process.ensures.initial c.close_process.ensures.final_values c.close_process.ensures.before in
    subst (λ (t : TraceValue). SpellsTrace c.args.text.now t) (sym c.into_trace.ensures) (spells c.args.text.now c.args.version c.args.reader (trace_of c.arrange.new.self) c.requires
    (subst (λ (u : TraceValue). IsArranged u (trace_of c.arrange.new.self)) all c.in_ok-arrange.ensures.arranged)
    (subst (λ (ps : List Process). IsFaultless (λ (before : List (List ℕ)) (here : List ℕ). fault_of_line c.args.version ps here) (lines_of c.args.text.now)) (c.processes.ensures ∙ sym c.in_ok-arrange.ensures.arranged.processes) c.in_ok-check_references.ensures.fine))
