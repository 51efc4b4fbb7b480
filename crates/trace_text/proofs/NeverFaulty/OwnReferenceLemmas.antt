-- The operations that a trace names are its own, and no pair is of an operation and itself.
use Rattle.std.proofs.Common.{◌≡◌, [], ◌∷◌, length, true, false, not, ◌&&◌, refl, ap, sym, ◌∙◌, arith}
use Rattle.std.specs.Prelude.{Some, None, IsSome, nat_le, if◌then◌else◌}
use Rattle.std.specs.Fmt.{decimal}
use Rattle.std.specs.List.{All, list_all}
use Rattle.std.specs.Str.{bytes_eq}
use Rattle.std.proofs.lemmas.Bool.{and_parts, and_from, le-leb, false_from_ne_true}
use Rattle.std.proofs.lemmas.Fmt.{decimal_injective}
use Rattle.std.proofs.lemmas.List.Elements.{All-contains}
use Rattle.trace_text.specs.declared.entry.Entry.{Entry}
use Rattle.trace_text.specs.declared.entry.Entry.TheVariants.{Initial as InitialEntry, Final as FinalEntry, Process as ProcessEntry, Operation as OperationEntry, Before as BeforeEntry}
use Rattle.trace_semantics.specs.declared.operation.Op.{Op}
use Rattle.trace_semantics.specs.declared.operation.Op.TheVariants.{Read as ReadOp, Write as WriteOp, Update as UpdateOp}
use Rattle.trace_semantics.specs.declared.operation.OpName.{OpName}
use Rattle.trace_semantics.specs.declared.operation.Origin.{Origin}
use Rattle.trace_semantics.specs.declared.operation.Origin.TheVariants.{Any, Initial, Operation}
use Rattle.trace_semantics.specs.declared.trace.Process.{Process}
use Rattle.trace_text.specs.declared.trace_fault.TraceCause.TheVariants.{NoSuchOp, BeforeItself}
use Rattle.trace_text.specs.Entry.{op_statement, source_of, statement_for}
use Rattle.trace_semantics.specs.Operation.{origin_of}
use Rattle.trace_text.specs.References.{is_of, some_is_of, is_among, fault_of_references}
use Rattle.trace_text.specs.Statement.{Statement}
use Rattle.trace_semantics.specs.Trace.{TraceValue, IsTrace, operation_at, IsKnownOrigin, is_written_name, is_written_origin, is_written_op}
use Rattle.trace_text.specs.TraceFault.{references_of, references_of_source, is_before_itself}
use Rattle.trace_semantics.proofs.ElementLemmas.{passes_some}
use Rattle.trace_semantics.proofs.NameLemmas.{known_named, same_bytes, bytes_same}
use Rattle.trace_text.proofs.NeverFaulty.StatedLemmas.{IsHad}
use Rattle.trace_text.proofs.NeverFaulty.ToldLemmas.{Has, has_writable}
use Rattle.trace_text.proofs.Writing.WritableLemmas.{name_parts, place_decimal, read_origin, update_origin}

-- a known operation is among those of the processes
among : (t : TraceValue) (n : OpName) → is_written_name n ≡ true → IsSome (operation_at t n) → is_among t.processes (n.process, decimal n.place) ≡ true
among t n w h =
    let parts = name_parts n w in
    let at = known_named t n h in
    ap (some_is_of t.processes n.process) (place_decimal n parts)
    ∙ passes_some (is_of n.process n.place) t.processes at.process at.listed
    (and_from (bytes_eq at.process.name n.process) (nat_le n.place (length at.process.operations)) (bytes_same at.process.name n.process at.called) (le-leb n.place (length at.process.operations) at.most))

one_among : (t : TraceValue) (n : OpName) → is_written_name n ≡ true → IsSome (operation_at t n) → list_all (is_among t.processes) ((n.process, decimal n.place) ∷ []) ≡ true
one_among t n w h = and_from (is_among t.processes (n.process, decimal n.place)) true (among t n w h) refl

origin_among : (t : TraceValue) (o : Origin) → is_written_origin o ≡ true → IsKnownOrigin t o → list_all (is_among t.processes) (references_of_source (source_of o)) ≡ true
origin_among t Any w h = refl
origin_among t Initial w h = refl
origin_among t (Operation n) w h = one_among t n w h

op_among : (t : TraceValue) (op : Op) → is_written_op op ≡ true → IsKnownOrigin t (origin_of op) → list_all (is_among t.processes) (references_of (op_statement op)) ≡ true
op_among t (ReadOp a d o span) w h = origin_among t o (read_origin a d o span w) h
op_among t (WriteOp a d span) w h = refl
op_among t (UpdateOp a d e o span) w h = origin_among t o (update_origin a d e o span w) h

-- an entry of the trace names operations of it
entry_among : (t : TraceValue) (e : Entry) → IsTrace t → Has t e → list_all (is_among t.processes) (references_of (statement_for e)) ≡ true
entry_among t (InitialEntry a d) ok h = refl
entry_among t (FinalEntry a d) ok h = refl
entry_among t (ProcessEntry name) ok h = refl
entry_among t (OperationEntry op) ok h = op_among t op (has_writable t (OperationEntry op) ok.written h)
    (All-contains (λ (o : Op). IsKnownOrigin t (origin_of o)) h.0.operations op (All-contains (λ (p : Process). All (λ (o : Op). IsKnownOrigin t (origin_of o)) p.operations) t.processes h.0 ok.origins h.1) h.2)
entry_among t (BeforeEntry m n) ok h =
    let parts = and_parts (is_written_name m) (is_written_name n) (has_writable t (BeforeEntry m n) ok.written h) in
    let known = All-contains (λ (pair : OpName × OpName). IsSome (operation_at t pair.0) × IsSome (operation_at t pair.1)) t.before (m, n) ok.known h in
    and_from (is_among t.processes (m.process, decimal m.place)) (is_among t.processes (n.process, decimal n.place) && true) (among t m parts.0 known.0) (one_among t n parts.1 known.1)

op_not_itself : (op : Op) → is_before_itself (op_statement op) ≡ false
op_not_itself (ReadOp a d o span) = refl
op_not_itself (WriteOp a d span) = refl
op_not_itself (UpdateOp a d e o span) = refl

entry_not_itself : (t : TraceValue) (e : Entry) → IsTrace t → Has t e → is_before_itself (statement_for e) ≡ false
entry_not_itself t (InitialEntry a d) ok h = refl
entry_not_itself t (FinalEntry a d) ok h = refl
entry_not_itself t (ProcessEntry name) ok h = refl
entry_not_itself t (OperationEntry op) ok h = op_not_itself op
entry_not_itself t (BeforeEntry m n) ok h = false_from_ne_true (bytes_eq m.process n.process && bytes_eq (decimal m.place) (decimal n.place)) (λ (b : (bytes_eq m.process n.process && bytes_eq (decimal m.place) (decimal n.place)) ≡ true).
    let parts = and_parts (bytes_eq m.process n.process) (bytes_eq (decimal m.place) (decimal n.place)) b in
    let written = and_parts (is_written_name m) (is_written_name n) (has_writable t (BeforeEntry m n) ok.written h) in
    let first = name_parts m written.0 in
    let second = name_parts n written.1 in
    let process = same_bytes m.process n.process parts.0 in
    let place = decimal_injective m.place n.place (omega (arith, first.most)) (omega (arith, second.most)) (same_bytes (decimal m.place) (decimal n.place) parts.1) in
    All-contains (λ (pair : OpName × OpName). pair.0 ≡ pair.1 → ⊥) t.before (m, n) ok.before_apart h (λ i. record { process = process i; place = place i }))

-- no statement of the trace names an operation wrongly
pub references_clear : (t : TraceValue) (s : Statement) → IsTrace t → IsHad t s → fault_of_references t.processes (Some s) ≡ None
references_clear t s ok (e, h, same) =
    let known : list_all (is_among t.processes) (references_of s) ≡ true = ap (λ (u : Statement). list_all (is_among t.processes) (references_of u)) (sym same) ∙ entry_among t e ok h in
    let other : is_before_itself s ≡ false = ap is_before_itself (sym same) ∙ entry_not_itself t e ok h in
    λ i. if not (known i) then Some NoSuchOp else if other i then Some BeforeItself else None
