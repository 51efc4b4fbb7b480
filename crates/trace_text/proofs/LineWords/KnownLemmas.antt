-- The operations that statements name are operations of their processes.
use Rattle.std.proofs.Common.{◌≡◌, ◌≢◌, ℕ, ◌^◌, ◌<◌, List, length, map, Bool, true, false, not, ◌&&◌, refl, inr, ap, sym, ◌∙◌, arith, subst}
use Rattle.std.specs.Prelude.{Option, Some, None, IsSome, is_some, nat_le, nat_lt, if◌then◌else◌}
use Rattle.std.specs.Fmt.{decimal}
use Rattle.std.specs.List.{AllPairs, Contains, filter, flat_map, list_any, list_all}
use Rattle.std.specs.Option.{option_and_then}
use Rattle.std.specs.Str.{bytes_eq}
use Rattle.std.proofs.lemmas.Bool.Decides.{nat_tests}
use Rattle.std.proofs.lemmas.Bool.{and_parts, not-true, and_from}
use Rattle.text_lines.specs.Fault.{IsRefusal}
use Rattle.text_lines.specs.FirstFault.{IsFaultless}
use Rattle.text_lines.specs.Lines.{lines_of}
use Rattle.text_lines.specs.Words.{words_of}
use Rattle.text_lines.proofs.Decimals.PlainLemmas.{decimal_is_plain}
use Rattle.trace_semantics.specs.declared.operation.Op.{Op}
use Rattle.trace_semantics.specs.declared.operation.Op.TheVariants.{Read as ReadOp, Write as WriteOp, Update as UpdateOp}
use Rattle.trace_semantics.specs.declared.operation.OpName.{OpName}
use Rattle.trace_semantics.specs.declared.operation.Origin.{Origin}
use Rattle.trace_semantics.specs.declared.operation.Origin.TheVariants.{Any, Initial, Operation}
use Rattle.trace_semantics.specs.declared.trace.Process.{Process}
use Rattle.trace_text.specs.declared.trace_fault.TraceCause.{TraceCause}
use Rattle.trace_text.specs.declared.trace_fault.TraceCause.TheVariants.{NoSuchOp, BeforeItself}
use Rattle.text_lines.specs.declared.fault.PlacedFault.{PlacedFault}
use Rattle.text_lines.specs.declared.fault.PlacedFault.TheVariants.{OutOfMemory, At}
use Rattle.trace_text.specs.Entry.{before_statement, op_statement, source_of}
use Rattle.trace_text.specs.Gathered.{is_of_process, process_statements}
use Rattle.text_lines.specs.Kept.{is_skipped, kept}
use Rattle.trace_semantics.specs.Names.{is_name}
use Rattle.trace_semantics.specs.Operation.{origin_of}
use Rattle.trace_text.specs.Read.{AreSaid}
use Rattle.trace_text.specs.References.{is_of, some_is_of, is_among, fault_of_references, fault_of_line, IsRefusedByReferences}
use Rattle.trace_text.specs.Statement.{Statement, Proc, statement_of, words_for}
use Rattle.trace_semantics.specs.Trace.{TraceValue, operation_at, at_place, IsKnownOrigin, is_written_name, is_written_origin, is_written_span, is_written_op, is_written_process, is_written_pair}
use Rattle.trace_semantics.specs.Place.{place_of}
use Rattle.trace_text.specs.TraceFault.{has_operation_at, references_of, references_of_source, is_before, is_before_itself, reference_fault, line_reference_fault, trace_line_fault, statements_of, HasTraceFault}
use Rattle.trace_text.specs.TraceText.{header_line}
use Rattle.trace_semantics.proofs.ElementLemmas.{placed, tail_in, from_filter, from_map, to_map, to_flat_map, some_passes, same_from_key, finds, all_pass}
use Rattle.trace_text.proofs.LineWords.LineLemmas.{version_is}
use Rattle.trace_semantics.proofs.NameLemmas.{Named, same_bytes, bytes_same, within_place}
use Rattle.trace_text.proofs.LineWords.ReferenceLemmas.{has_operation-listed}
use Rattle.trace_text.proofs.LineWords.SaidLemmas.{statements_said}
use Rattle.trace_text.proofs.LineWords.SpellLemmas.{said_each}
use Rattle.trace_text.specs.declared.version.Version.{Version}

-- a place that is written is read
pub place_read : (i : ℕ) → nat_le 1 i ≡ true → nat_le i 4294967295 ≡ true → place_of (decimal i) ≡ Some i
place_read i low high =
    let small : i < 2 ^ 64 = grind (arith, nat_tests) in
    ap (λ o. option_and_then (λ n. if nat_le 1 n then Some n else None) (option_and_then (λ n. if nat_le n 4294967295 then Some n else None) o)) (decimal_is_plain i small)
    ∙ ap (λ b. option_and_then (λ n. if nat_le 1 n then Some n else None) (if b then Some i else None)) high
    ∙ ap (λ b. if b then Some i else None) low

-- a name whose process is there and long enough names an operation
named_known : (t : TraceValue) → AllPairs (λ (p q : Process). p.name ≢ q.name) t.processes → (n : OpName) → Named t n → IsSome (operation_at t n)
named_known t distinct n at =
    let only : (q : Process) → Contains t.processes q → bytes_eq q.name n.process ≡ true → q ≡ at.process = λ q c same.
    same_from_key (λ (p : Process). p.name) t.processes distinct q at.process c at.listed (same_bytes q.name n.process same ∙ sym at.called) in
    let finds_it = finds (λ (q : Process). bytes_eq q.name n.process) t.processes at.process (bytes_same at.process.name n.process at.called) only at.listed in
    ap (λ o. is_some (option_and_then (λ (p : Process). at_place p.operations n.place) o)) finds_it ∙ within_place at.process.operations n.place at.least at.most

pub among_known : (t : TraceValue) → AllPairs (λ (p q : Process). p.name ≢ q.name) t.processes → (n : OpName) → is_written_name n ≡ true → is_among t.processes (n.process, decimal n.place) ≡ true → IsSome (operation_at t n)
among_known t distinct n w h =
    let range = and_parts (nat_le 1 n.place) (nat_le n.place 4294967295) (and_parts (is_name n.process) (nat_le 1 n.place && nat_le n.place 4294967295) w).1 in
    let there : list_any (is_of n.process n.place) t.processes ≡ true = ap (some_is_of t.processes n.process) (sym (place_read n.place range.0 range.1)) ∙ h in
    let at = some_passes (is_of n.process n.place) t.processes there in
    let parts = and_parts (bytes_eq at.0.name n.process) (nat_le n.place (length at.0.operations)) at.2 in
    named_known t distinct n (record {
      process = at.0;
      listed = at.1;
      called = same_bytes at.0.name n.process parts.0;
      least = (let low : nat_le 1 n.place ≡ true = range.0 in grind (arith, nat_tests));
      most = (let high : nat_le n.place (length at.0.operations) ≡ true = parts.1 in grind (arith, nat_tests));
    })

-- no statement names an operation wrongly where no line does
pub each_known : (version : Version) (lines : List (List ℕ)) (ss : List Statement) (ps : List Process) → AreSaid version lines ss → IsFaultless (λ (before : List (List ℕ)) (here : List ℕ). fault_of_line version ps here) lines →
    (s : Statement) → Contains ss s → fault_of_references ps (Some s) ≡ None
each_known version lines ss ps a f s c =
    let in_kept : Contains (kept lines) (words_for s) = subst (λ (l : List (List (List ℕ))). Contains l (words_for s)) (sym a.kept_lines) (tail_in (header_line version) (map words_for ss) (words_for s) (to_map words_for ss s c)) in
    let unskipped = from_filter (λ ws. not (is_skipped ws)) (map words_of lines) (words_for s) in_kept in
    let line = from_map words_of lines (words_for s) unskipped.0 in
    let at = placed lines line.0 line.1 in
    let none : fault_of_line version ps line.0 ≡ None = f at.front line.0 at.back at.parts in
    let skip : is_skipped (words_of line.0) ≡ false = ap is_skipped line.2 ∙ not-true (is_skipped (words_for s)) unskipped.1 in
    ap (fault_of_references ps) (sym (ap (statement_of version) line.2 ∙ said_each version ss s a.said c))
    ∙ sym (ap (λ b. if b then None else fault_of_references ps (statement_of version (words_of line.0))) skip) ∙ none

no_such : (b c : Bool) → (if not b then Some NoSuchOp else if c then Some BeforeItself else None) ≡ None → b ≡ true
no_such true c h = refl
no_such false c h = absurd (cc)

-- the pairs are of known operations
pub pairs_known : (t : TraceValue) (pairs : List (OpName × OpName)) (version : Version) (lines : List (List ℕ)) (ss : List Statement) → AllPairs (λ (p q : Process). p.name ≢ q.name) t.processes → AreSaid version lines ss → filter is_before ss ≡ map before_statement pairs → list_all is_written_pair pairs ≡ true →
    IsFaultless (λ (before : List (List ℕ)) (here : List ℕ). fault_of_line version t.processes here) lines → (pair : OpName × OpName) → Contains pairs pair → IsSome (operation_at t pair.0) × IsSome (operation_at t pair.1)
pairs_known t pairs version lines ss distinct a e w f pair c =
    let there : Contains ss (before_statement pair) = (from_filter is_before ss (before_statement pair) (subst (λ (l : List Statement). Contains l (before_statement pair)) (sym e) (to_map before_statement pairs pair c))).0 in
    let none = each_known version lines ss t.processes a f (before_statement pair) there in
    let known = no_such (list_all (is_among t.processes) (references_of (before_statement pair))) (is_before_itself (before_statement pair)) none in
    let first = and_parts (is_among t.processes (pair.0.process, decimal pair.0.place)) (is_among t.processes (pair.1.process, decimal pair.1.place) && true) known in
    let written = and_parts (is_written_name pair.0) (is_written_name pair.1) (all_pass is_written_pair pairs w pair c) in
    (among_known t distinct pair.0 written.0 first.0, among_known t distinct pair.1 written.1 (and_parts (is_among t.processes (pair.1.process, decimal pair.1.place)) true first.1).0)

not_itself : (b c : Bool) → (if not b then Some NoSuchOp else if c then Some BeforeItself else None) ≡ None → c ≡ false
not_itself true true h = absurd (cc)
not_itself true false h = refl
not_itself false c h = absurd (cc)

-- and of two
pub pairs_apart : (pairs : List (OpName × OpName)) (version : Version) (lines : List (List ℕ)) (ss : List Statement) (ps : List Process) → AreSaid version lines ss → filter is_before ss ≡ map before_statement pairs →
    IsFaultless (λ (before : List (List ℕ)) (here : List ℕ). fault_of_line version ps here) lines → (pair : OpName × OpName) → Contains pairs pair → pair.0 ≢ pair.1
pairs_apart pairs version lines ss ps a e f pair c same =
    let there : Contains ss (before_statement pair) = (from_filter is_before ss (before_statement pair) (subst (λ (l : List Statement). Contains l (before_statement pair)) (sym e) (to_map before_statement pairs pair c))).0 in
    let none = each_known version lines ss ps a f (before_statement pair) there in
    let other : is_before_itself (before_statement pair) ≡ false = not_itself (list_all (is_among ps) (references_of (before_statement pair))) (is_before_itself (before_statement pair)) none in
    let one : is_before_itself (before_statement pair) ≡ true = (λ i. bytes_eq pair.0.process (sym same i).process && bytes_eq (decimal pair.0.place) (decimal (sym same i).place)) ∙ and_from (bytes_eq pair.0.process pair.0.process) (bytes_eq (decimal pair.0.place) (decimal pair.0.place)) (bytes_same pair.0.process pair.0.process refl) (bytes_same (decimal pair.0.place) (decimal pair.0.place) refl) in
    let clash : true ≡ false = sym one ∙ other in cc

-- an origin names a known operation
origin_known : (t : TraceValue) → AllPairs (λ (p q : Process). p.name ≢ q.name) t.processes → (o : Origin) → is_written_origin o ≡ true → list_all (is_among t.processes) (references_of_source (source_of o)) ≡ true → IsKnownOrigin t o
origin_known t distinct Any w h = tt
origin_known t distinct Initial w h = tt
origin_known t distinct (Operation n) w h = among_known t distinct n w (and_parts (is_among t.processes (n.process, decimal n.place)) true h).0

op_known : (t : TraceValue) → AllPairs (λ (p q : Process). p.name ≢ q.name) t.processes → (op : Op) → is_written_op op ≡ true → list_all (is_among t.processes) (references_of (op_statement op)) ≡ true → IsKnownOrigin t (origin_of op)
op_known t distinct (ReadOp a d o span) w h = origin_known t distinct o (and_parts (is_written_origin o) (is_written_span span) (and_parts (nat_lt d (2 ^ 64)) (is_written_origin o && is_written_span span) (and_parts (is_name a) (nat_lt d (2 ^ 64) && (is_written_origin o && is_written_span span)) w).1).1).0 h
op_known t distinct (WriteOp a d span) w h = tt
op_known t distinct (UpdateOp a d e o span) w h =
    let values = and_parts (nat_lt d (2 ^ 64)) (nat_lt e (2 ^ 64) && (is_written_origin o && is_written_span span)) (and_parts (is_name a) (nat_lt d (2 ^ 64) && (nat_lt e (2 ^ 64) && (is_written_origin o && is_written_span span))) w).1 in
    origin_known t distinct o (and_parts (is_written_origin o) (is_written_span span) (and_parts (nat_lt e (2 ^ 64)) (is_written_origin o && is_written_span span) values.1).1).0 h

-- each origin names a known operation
pub origins_known : (t : TraceValue) (version : Version) (lines : List (List ℕ)) (ss : List Statement) → AllPairs (λ (p q : Process). p.name ≢ q.name) t.processes → AreSaid version lines ss → filter is_of_process ss ≡ flat_map process_statements t.processes → list_all is_written_process t.processes ≡ true →
    IsFaultless (λ (before : List (List ℕ)) (here : List ℕ). fault_of_line version t.processes here) lines → (p : Process) → Contains t.processes p → (op : Op) → Contains p.operations op → IsKnownOrigin t (origin_of op)
origins_known t version lines ss distinct a e w f p c op d =
    let listed : Contains (flat_map process_statements t.processes) (op_statement op) = to_flat_map process_statements t.processes p (op_statement op) c (tail_in (Proc p.name) (map op_statement p.operations) (op_statement op) (to_map op_statement p.operations op d)) in
    let there : Contains ss (op_statement op) = (from_filter is_of_process ss (op_statement op) (subst (λ (l : List Statement). Contains l (op_statement op)) (sym e) listed)).0 in
    let known = no_such (list_all (is_among t.processes) (references_of (op_statement op))) (is_before_itself (op_statement op)) (each_known version lines ss t.processes a f (op_statement op) there) in
    let written = and_parts (is_name p.name) (list_all is_written_op p.operations) (all_pass is_written_process t.processes w p c) in
    op_known t distinct op (all_pass is_written_op p.operations written.1 op d) known

-- statements have an operation where their processes have it, at a place that is written or is none
same_place : (ss : List Statement) (ps : List Process) (process : List ℕ) (place : Option ℕ) → filter is_of_process ss ≡ flat_map process_statements ps → has_operation_at ss process place ≡ some_is_of ps process place
same_place ss ps process None h = refl
same_place ss ps process (Some place) h = has_operation-listed ss ps process place h

-- the faults of references are those of the text
same_references : (ss : List Statement) (ps : List Process) (o : Option Statement) → filter is_of_process ss ≡ flat_map process_statements ps → reference_fault ss o ≡ fault_of_references ps o
same_references ss ps None h = refl
same_references ss ps (Some s) h = λ i. if not (list_all (λ (r : List ℕ × List ℕ). same_place ss ps r.0 (place_of r.1) h i) (references_of s)) then Some NoSuchOp else if is_before_itself s then Some BeforeItself else None

pub same_fault : (version : Version) (lines : List (List ℕ)) (ss : List Statement) (ps : List Process) (line : List ℕ) → AreSaid version lines ss → filter is_of_process ss ≡ flat_map process_statements ps →
    line_reference_fault (kept lines) line ≡ fault_of_line version ps line
same_fault version lines ss ps line a h =
    ap (λ k. line_reference_fault k line) a.kept_lines
    ∙ ap (λ (v : Version). if is_skipped (words_of line) then None else reference_fault (statements_of v (map words_for ss)) (statement_of v (words_of line))) (version_is version)
    ∙ ap (λ l. if is_skipped (words_of line) then None else reference_fault l (statement_of version (words_of line))) (statements_said version ss a.said)
    ∙ ap (λ f. if is_skipped (words_of line) then None else f) (same_references ss ps (statement_of version (words_of line)) h)

-- a refusal by references is one of the text
pub refused_by_references : (version : Version) (text : List ℕ) (ss : List Statement) (ps : List Process) (fault : PlacedFault TraceCause) → AreSaid version (lines_of text) ss → filter is_of_process ss ≡ flat_map process_statements ps → IsFaultless trace_line_fault (lines_of text) →
    IsRefusedByReferences version ps text fault → IsRefusal (HasTraceFault text) fault
refused_by_references version text ss ps OutOfMemory a h f r = tt
refused_by_references version text ss ps (At cause line) a h f r = inr (inr (record {
  faultless = f;
  found = record {
    before = r.before;
    item = r.item;
    after = r.after;
    parts = r.parts;
    counted = r.counted;
    faulty = same_fault version (lines_of text) ss ps r.item a h ∙ r.faulty;
    first = λ b x c e. same_fault version (lines_of text) ss ps x a h ∙ r.first b x c e;
  };
}))
