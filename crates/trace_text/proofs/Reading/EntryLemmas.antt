-- What is written in one more entry.
use Rattle.std.proofs.Common.{◌≡◌, ℕ, ◌^◌, List, [], ◌∷◌, ◌++◌, Bool, true, ◌&&◌, refl, ap, ◌∙◌}
use Rattle.std.specs.Prelude.{nat_lt}
use Rattle.std.specs.List.{list_all}
use Rattle.std.proofs.lemmas.List.Folds.{list_all-append}
use Rattle.std.proofs.lemmas.Bool.{and_from, and_parts}
use Rattle.trace_text.specs.declared.entry.Entry.{Entry}
use Rattle.trace_text.specs.declared.entry.Entry.TheVariants.{Initial as InitialEntry, Final as FinalEntry, Process as ProcessEntry, Operation as OperationEntry, Before as BeforeEntry}
use Rattle.trace_text.specs.declared.trace_builder.TraceBuilder.{TraceBuilder}
use Rattle.trace_semantics.specs.declared.operation.Op.{Op}
use Rattle.trace_semantics.specs.declared.operation.Op.TheVariants.{Read as ReadOp, Write as WriteOp, Update as UpdateOp}
use Rattle.trace_semantics.specs.declared.operation.OpName.{OpName}
use Rattle.trace_semantics.specs.declared.operation.Origin.{Origin}
use Rattle.trace_semantics.specs.declared.operation.Origin.TheVariants.{Any, Initial, Operation}
use Rattle.trace_semantics.specs.declared.trace.Process.{Process}
use Rattle.trace_text.specs.Entry.{op_statement, source_of, statement_for, fits_value, fits_place, origin_fits, span_fits, op_fits, entry_fits}
use Rattle.trace_text.specs.Gathered.{with_operation, processes_of, processes_with, initial_with, final_with, before_with, Adds}
use Rattle.trace_semantics.specs.Names.{is_name}
use Rattle.trace_text.specs.Progress.{IsWrittenSoFar}
use Rattle.trace_text.specs.Seen.{names_of_source}
use Rattle.trace_semantics.specs.Trace.{is_written_value, is_written_origin, is_written_span, is_written_op, is_written_process, is_written_pair}
use Rattle.trace_text.specs.TraceFault.{names_of}
use Rattle.trace_text.proofs.LineWords.SpanLemmas.{span_from_fits}

-- one more that passes
pub all_push : {A : Type 0} (p : A → Bool) (xs : List A) (x : A) → list_all p xs ≡ true → p x ≡ true → list_all p (xs ++ x ∷ []) ≡ true
all_push p xs x h k = list_all-append p xs (x ∷ []) ∙ and_from (list_all p xs) (p x && true) h (and_from (p x) true k refl)

origin_written : (o : Origin) → list_all is_name (names_of_source (source_of o)) ≡ true → origin_fits o ≡ true → is_written_origin o ≡ true
origin_written Any h k = refl
origin_written Initial h k = refl
origin_written (Operation n) h k = and_from (is_name n.process) (fits_place n.place) (and_parts (is_name n.process) true h).0 k

op_written : (op : Op) → list_all is_name (names_of (op_statement op)) ≡ true → op_fits op ≡ true → is_written_op op ≡ true
op_written (ReadOp a d o span) h k =
    let names = and_parts (is_name a) (list_all is_name (names_of_source (source_of o))) h in
    let fits = and_parts (fits_value d) (origin_fits o && span_fits span) k in
    let last = and_parts (origin_fits o) (span_fits span) fits.1 in
    and_from (is_name a) (nat_lt d (2 ^ 64) && (is_written_origin o && is_written_span span)) names.0
    (and_from (nat_lt d (2 ^ 64)) (is_written_origin o && is_written_span span) fits.0
    (and_from (is_written_origin o) (is_written_span span) (origin_written o names.1 last.0) (span_from_fits span last.1)))
op_written (WriteOp a d span) h k =
    let fits = and_parts (fits_value d) (span_fits span) k in
    and_from (is_name a) (nat_lt d (2 ^ 64) && is_written_span span) (and_parts (is_name a) true h).0 (and_from (nat_lt d (2 ^ 64)) (is_written_span span) fits.0 (span_from_fits span fits.1))
op_written (UpdateOp a d e o span) h k =
    let names = and_parts (is_name a) (list_all is_name (names_of_source (source_of o))) h in
    let fits = and_parts (fits_value d) (fits_value e && (origin_fits o && span_fits span)) k in
    let more = and_parts (fits_value e) (origin_fits o && span_fits span) fits.1 in
    let last = and_parts (origin_fits o) (span_fits span) more.1 in
    and_from (is_name a) (nat_lt d (2 ^ 64) && (nat_lt e (2 ^ 64) && (is_written_origin o && is_written_span span))) names.0
    (and_from (nat_lt d (2 ^ 64)) (nat_lt e (2 ^ 64) && (is_written_origin o && is_written_span span)) fits.0
    (and_from (nat_lt e (2 ^ 64)) (is_written_origin o && is_written_span span) more.0
    (and_from (is_written_origin o) (is_written_span span) (origin_written o names.1 last.0) (span_from_fits span last.1))))

written_with : (ps : List Process) (op : Op) → list_all is_written_process ps ≡ true → is_written_op op ≡ true → list_all is_written_process (with_operation ps op) ≡ true
written_with [] op w o = refl
written_with (p ∷ []) op w o =
    let parts = and_parts (is_name p.name) (list_all is_written_op p.operations) (and_parts (is_written_process p) true w).0 in
    and_from (is_name p.name && list_all is_written_op (p.operations ++ op ∷ [])) true
    (and_from (is_name p.name) (list_all is_written_op (p.operations ++ op ∷ [])) parts.0 (all_push is_written_op p.operations op parts.1 o)) refl
written_with (p ∷ q ∷ ps) op w o =
    let parts = and_parts (is_written_process p) (list_all is_written_process (q ∷ ps)) w in
    and_from (is_written_process p) (list_all is_written_process (with_operation (q ∷ ps) op)) parts.0 (written_with (q ∷ ps) op parts.1 o)

pub processes_written : (e : Entry) (ps : List Process) → list_all is_name (names_of (statement_for e)) ≡ true → entry_fits e ≡ true → list_all is_written_process ps ≡ true → list_all is_written_process (processes_with ps e) ≡ true
processes_written (InitialEntry a d) ps h k w = w
processes_written (FinalEntry a d) ps h k w = w
processes_written (ProcessEntry name) ps h k w = all_push is_written_process ps (record { name = name; operations = [] }) w (and_from (is_name name) true (and_parts (is_name name) true h).0 refl)
processes_written (OperationEntry op) ps h k w = written_with ps op w (op_written op h k)
processes_written (BeforeEntry m n) ps h k w = w

pub initial_written : (e : Entry) (xs : List (List ℕ × ℕ)) → list_all is_name (names_of (statement_for e)) ≡ true → entry_fits e ≡ true → list_all is_written_value xs ≡ true → list_all is_written_value (initial_with xs e) ≡ true
initial_written (InitialEntry a d) xs h k w = all_push is_written_value xs (a, d) w (and_from (is_name a) (nat_lt d (2 ^ 64)) (and_parts (is_name a) true h).0 k)
initial_written (FinalEntry a d) xs h k w = w
initial_written (ProcessEntry name) xs h k w = w
initial_written (OperationEntry op) xs h k w = w
initial_written (BeforeEntry m n) xs h k w = w

pub final_written : (e : Entry) (xs : List (List ℕ × ℕ)) → list_all is_name (names_of (statement_for e)) ≡ true → entry_fits e ≡ true → list_all is_written_value xs ≡ true → list_all is_written_value (final_with xs e) ≡ true
final_written (InitialEntry a d) xs h k w = w
final_written (FinalEntry a d) xs h k w = all_push is_written_value xs (a, d) w (and_from (is_name a) (nat_lt d (2 ^ 64)) (and_parts (is_name a) true h).0 k)
final_written (ProcessEntry name) xs h k w = w
final_written (OperationEntry op) xs h k w = w
final_written (BeforeEntry m n) xs h k w = w

pub before_written : (e : Entry) (xs : List (OpName × OpName)) → list_all is_name (names_of (statement_for e)) ≡ true → entry_fits e ≡ true → list_all is_written_pair xs ≡ true → list_all is_written_pair (before_with xs e) ≡ true
before_written (InitialEntry a d) xs h k w = w
before_written (FinalEntry a d) xs h k w = w
before_written (ProcessEntry name) xs h k w = w
before_written (OperationEntry op) xs h k w = w
before_written (BeforeEntry m n) xs h k w =
    let names = and_parts (is_name m.process) (is_name n.process && true) h in
    let fits = and_parts (fits_place m.place) (fits_place n.place) k in
    all_push is_written_pair xs (m, n) w (and_from (is_name m.process && fits_place m.place) (is_name n.process && fits_place n.place)
    (and_from (is_name m.process) (fits_place m.place) names.0 fits.0) (and_from (is_name n.process) (fits_place n.place) (and_parts (is_name n.process) true names.1).0 fits.1))

-- one more entry
pub written_more : (e : Entry) (old new : TraceBuilder) → list_all is_name (names_of (statement_for e)) ≡ true → entry_fits e ≡ true → IsWrittenSoFar old → Adds old new e → IsWrittenSoFar new
written_more e old new h k w a = record {
  processes = ap (list_all is_written_process) a.processes ∙ processes_written e (processes_of old) h k w.processes;
  initial = ap (list_all is_written_value) a.initial ∙ initial_written e old.initial.items h k w.initial;
  final_values = ap (list_all is_written_value) a.final_values ∙ final_written e old.final_values.items h k w.final_values;
  before = ap (list_all is_written_pair) a.before ∙ before_written e old.before.items h k w.before;
}
