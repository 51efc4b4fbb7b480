-- No statement of a text that spells a trace has a fault.
use Rattle.std.proofs.Common.{◌≡◌, ℕ, ◌+◌, ◌≤◌, List, [], ◌∷◌, ◌++◌, length, map, Bool, true, false, not, ◌&&◌, ◌||◌, refl, inl, inr, ap, sym, ◌∙◌, subst, arith}
use Rattle.std.specs.Prelude.{Option, Some, None, IsSome, nat_le, if◌then◌else◌}
use Rattle.std.specs.List.{All, Contains, sum_by, filter, filter_map, flat_map, list_any, list_all}
use Rattle.std.proofs.lemmas.Bool.{le-leb, lt-leb, and_from, or_parts, false_from_ne_true, or_right}
use Rattle.std.proofs.lemmas.List.Elements.{Contains-append_left, Contains-append_right, Contains-append_cases, All-contains}
use Rattle.text_lines.specs.FirstFault.{IsFaultless}
use Rattle.trace_text.specs.declared.entry.Entry.{Entry}
use Rattle.trace_text.specs.declared.entry.Entry.TheVariants.{Initial as InitialEntry, Final as FinalEntry, Process as ProcessEntry, Operation as OperationEntry, Before as BeforeEntry}
use Rattle.trace_semantics.specs.declared.trace.Process.{Process}
use Rattle.trace_text.specs.declared.trace_fault.TraceCause.{TraceCause}
use Rattle.trace_text.specs.declared.trace_fault.TraceCause.TheVariants.{BadName, BadNumber, OpOutsideProc, LateHeaderLine, TooManyProcs, TooManyOps, TooManyLocations, TooManyBefore, EndsBeforeStart}
use Rattle.trace_text.specs.Entry.{statement_for, has_numbers}
use Rattle.trace_text.specs.Gathered.{is_init, is_final, is_of_process, process_statements}
use Rattle.trace_semantics.specs.Locations.{distinct, holds_name}
use Rattle.trace_semantics.specs.Names.{is_name}
use Rattle.trace_semantics.specs.Operation.{location_of, origin_of, span_of}
use Rattle.trace_text.specs.Statement.{Statement, Proc}
use Rattle.trace_semantics.specs.Trace.{TraceValue, IsTrace, IsSpan, IsKnownOrigin, operation_at, locations_of}
use Rattle.trace_text.specs.TraceFault.{is_proc, is_operation, is_before, is_value_line, names_of, location_named, times_of, are_turned, repeats, twice_cause, limit_fault, is_location_too_many, or_else, shape_fault, statement_fault}
use Rattle.trace_text.proofs.NeverFaulty.ApartLemmas.{unrepeated, room, filter_cut, from_filter_map}
use Rattle.trace_text.proofs.Reading.CountLemmas.{procs_within, no_proc, count_procs, count_operations}
use Rattle.trace_semantics.proofs.ElementLemmas.{head_in, none_in, cases_in, in_middle, passes_some, from_filter, to_map, to_flat_map}
use Rattle.trace_semantics.proofs.DistinctLemmas.{few_named}
use Rattle.trace_text.proofs.LineWords.SpanLemmas.{op_straight}
use Rattle.trace_text.proofs.Reading.LocationLemmas.{op_named}
use Rattle.trace_text.proofs.Reading.SeenLemmas.{distinct_push}
use Rattle.trace_text.proofs.NeverFaulty.StatedLemmas.{IsHad, AreStated}
use Rattle.trace_text.proofs.NeverFaulty.ToldLemmas.{Has, has_writable}
use Rattle.trace_text.proofs.Writing.WritableLemmas.{is_writable, is_origin_within, is_entry_within, entry_names, entry_numbers}
use Rattle.trace_semantics.specs.declared.limits.Limits.{Limits}
use Rattle.trace_semantics.specs.Limits.{max_operations, max_locations, max_pairs, max_place}
use Rattle.trace_semantics.proofs.LimitLemmas.{all_named}
use Rattle.trace_semantics.proofs.NameLemmas.{known_named}
use Rattle.trace_semantics.specs.declared.operation.Op.{Op}
use Rattle.trace_semantics.specs.declared.operation.Op.TheVariants.{Read as ReadOp, Write as WriteOp, Update as UpdateOp}
use Rattle.trace_semantics.specs.declared.operation.OpName.{OpName}
use Rattle.trace_semantics.specs.declared.operation.Origin.{Origin}
use Rattle.trace_semantics.specs.declared.operation.Origin.TheVariants.{Any, Initial, Operation}
use Rattle.std.proofs.lemmas.List.Sums.{sum_by-cons}
use Rattle.trace_text.specs.declared.version.Version.{Version}
use Rattle.trace_text.specs.TraceText.{FitsIn}
use Rattle.trace_text.specs.Version.{limits_of}

-- tests of an if-chain that fail
never_and : (a b : Bool) → (a ≡ true → b ≡ false) → (a && b) ≡ false
never_and true b h = h refl
never_and false b h = refl

if_not : (b : Bool) (cause : TraceCause) (rest : Option TraceCause) → b ≡ false → rest ≡ None → (if b then Some cause else rest) ≡ None
if_not true cause rest h k = absurd (cc)
if_not false cause rest h k = k

-- an operation stands after the beginning of its process
begun_by : (ps : List Process) (front : List Statement) (s : Statement) (back : List Statement) → flat_map process_statements ps ≡ front ++ s ∷ back → is_operation s ≡ true → (y : Statement) × Contains front y × (is_proc y ≡ true)
begun_by [] [] s back e h = absurd (cc)
begun_by [] (f ∷ front) s back e h = absurd (cc)
begun_by (p ∷ ps) [] s back e h =
    let first : Proc p.name ≡ s = cc in
    absurd (let clash : false ≡ true = ap is_operation first ∙ h in cc)
begun_by (p ∷ ps) (f ∷ front) s back e h =
    let first : Proc p.name ≡ f = cc in
    (f, head_in f front, ap is_proc (sym first))

operation_of_process : (s : Statement) → is_operation s ≡ true → (is_proc s || is_operation s) ≡ true
operation_of_process s h = or_right (is_proc s) (is_operation s) h

-- an entry of the trace names one of its locations
named_had : (t : TraceValue) (e : Entry) → Has t e → (q : List ℕ) → location_named (statement_for e) ≡ Some q → Contains (locations_of t) q
named_had t (InitialEntry a d) h q e =
    let same : a ≡ q = cc in
    subst (λ (l : List ℕ). Contains (locations_of t) l) same (Contains-append_left (map (λ (entry : List ℕ × ℕ). entry.0) t.initial) _ a (to_map (λ (entry : List ℕ × ℕ). entry.0) t.initial (a, d) h))
named_had t (FinalEntry a d) h q e =
    let same : a ≡ q = cc in
    subst (λ (l : List ℕ). Contains (locations_of t) l) same (Contains-append_right (map (λ (entry : List ℕ × ℕ). entry.0) t.initial) _ a
    (Contains-append_left (map (λ (entry : List ℕ × ℕ). entry.0) t.final_values) (flat_map (λ (p : Process). map location_of p.operations) t.processes) a (to_map (λ (entry : List ℕ × ℕ). entry.0) t.final_values (a, d) h)))
named_had t (ProcessEntry name) h q e = absurd (cc)
named_had t (OperationEntry op) h q e =
    let found : Some (location_of op) ≡ Some q = sym (op_named op) ∙ e in
    let same : location_of op ≡ q = cc in
    subst (λ (l : List ℕ). Contains (locations_of t) l) same (Contains-append_right (map (λ (entry : List ℕ × ℕ). entry.0) t.initial) _ (location_of op)
    (Contains-append_right (map (λ (entry : List ℕ × ℕ). entry.0) t.final_values) (flat_map (λ (p : Process). map location_of p.operations) t.processes) (location_of op)
    (to_flat_map (λ (p : Process). map location_of p.operations) t.processes h.0 (location_of op) h.1 (to_map location_of h.0.operations op h.2))))
named_had t (BeforeEntry m n) h q e = absurd (cc)

had_named : (t : TraceValue) (s : Statement) → IsHad t s → (q : List ℕ) → location_named s ≡ Some q → Contains (locations_of t) q
had_named t s (e, h, same) q n = named_had t e h q (ap location_named same ∙ n)

-- the statements that begin processes
procs_are : (ps : List Process) → filter is_proc (flat_map process_statements ps) ≡ map (λ (p : Process). Proc p.name) ps
procs_are [] = refl
procs_are (p ∷ ps) = ap (λ l. Proc p.name ∷ l) (no_proc p.operations (flat_map process_statements ps) ∙ procs_are ps)

-- the places that an entry of the trace names are no higher than the limits allow
name_within : (limits : Limits) (t : TraceValue) → FitsIn limits t → (n : OpName) → IsSome (operation_at t n) → nat_le n.place (max_place limits) ≡ true
name_within limits t fits n known =
    let at = known_named t n known in
    le-leb n.place (max_place limits) (omega (arith, at.most, few_places at.process t.processes at.listed, fits.few_operations, all_named limits))
  where
    few_places : (p : Process) (ps : List Process) → Contains ps p → length p.operations ≤ sum_by (λ (r : Process). length r.operations) ps
    few_places p [] c = absurd (none_in p c)
    few_places p (r ∷ ps) c =
        elim (cases_in r ps p c) [
          | inl e ↦ (let same : length r.operations ≡ length p.operations = ap (λ (s : Process). length s.operations) e in omega (arith, same, sum_by-cons (λ (s : Process). length s.operations) r ps))
          | inr d ↦ omega (arith, few_places p ps d, sum_by-cons (λ (s : Process). length s.operations) r ps)
        ]

origin_within : (limits : Limits) (t : TraceValue) → FitsIn limits t → (o : Origin) → IsKnownOrigin t o → is_origin_within limits o ≡ true
origin_within limits t fits Any h = refl
origin_within limits t fits Initial h = refl
origin_within limits t fits (Operation n) h = name_within limits t fits n h

op_within : (limits : Limits) (t : TraceValue) → FitsIn limits t → (op : Op) → IsKnownOrigin t (origin_of op) → is_entry_within limits (OperationEntry op) ≡ true
op_within limits t fits (ReadOp a d o span) h = origin_within limits t fits o h
op_within limits t fits (WriteOp a d span) h = refl
op_within limits t fits (UpdateOp a d e o span) h = origin_within limits t fits o h

entry_within : (limits : Limits) (t : TraceValue) → IsTrace t → FitsIn limits t → (e : Entry) → Has t e → is_entry_within limits e ≡ true
entry_within limits t ok fits (InitialEntry a d) h = refl
entry_within limits t ok fits (FinalEntry a d) h = refl
entry_within limits t ok fits (ProcessEntry name) h = refl
entry_within limits t ok fits (OperationEntry op) h = op_within limits t fits op
    (All-contains (λ (o : Op). IsKnownOrigin t (origin_of o)) h.0.operations op (All-contains (λ (p : Process). All (λ (o : Op). IsKnownOrigin t (origin_of o)) p.operations) t.processes h.0 ok.origins h.1) h.2)
entry_within limits t ok fits (BeforeEntry m n) h =
    let known = All-contains (λ (pair : OpName × OpName). IsSome (operation_at t pair.0) × IsSome (operation_at t pair.1)) t.before (m, n) ok.known h in
    and_from (nat_le m.place (max_place limits)) (nat_le n.place (max_place limits)) (name_within limits t fits m known.0) (name_within limits t fits n known.1)

-- the times that an entry says are not turned
entry_straight : (t : TraceValue) (e : Entry) → IsTrace t → is_writable e ≡ true → Has t e → are_turned (times_of (statement_for e)) ≡ false
entry_straight t (InitialEntry a d) ok w h = refl
entry_straight t (FinalEntry a d) ok w h = refl
entry_straight t (ProcessEntry name) ok w h = refl
entry_straight t (OperationEntry op) ok w h = op_straight op w
    (All-contains (λ (o : Op). IsSpan (span_of o)) h.0.operations op (All-contains (λ (p : Process). All (λ (o : Op). IsSpan (span_of o)) p.operations) t.processes h.0 ok.spans h.1) h.2)
entry_straight t (BeforeEntry m n) ok w h = refl

-- a statement of the text, between those before it and those after it
module _ (t : TraceValue) (version : Version) (body : List (List (List ℕ))) (ok : IsTrace t) (fits : FitsIn (limits_of version) t) (st : AreStated t version body) (front : List Statement) (s : Statement) (back : List Statement) (parts : st.ss ≡ front ++ s ∷ back) where
  listed : Contains st.ss s
  listed = subst (λ (l : List Statement). Contains l s) (sym parts) (in_middle front s back)

  had : IsHad t s
  had = st.each s listed

  writable : is_writable had.0 ≡ true
  writable = has_writable t had.0 ok.written had.1

  names : list_all is_name (names_of s) ≡ true
  names = ap (λ (u : Statement). list_all is_name (names_of u)) (sym had.2) ∙ entry_names had.0 writable

  numbers : has_numbers (limits_of version) s ≡ true
  numbers = ap (has_numbers (limits_of version)) (sym had.2) ∙ entry_numbers (limits_of version) had.0 writable (entry_within (limits_of version) t ok fits had.0 had.1)

  straight : are_turned (times_of s) ≡ false
  straight = ap (λ (u : Statement). are_turned (times_of u)) (sym had.2) ∙ entry_straight t had.0 ok writable had.1

  in_time : (is_value_line s && list_any is_proc front) ≡ false
  in_time = never_and (is_value_line s) (list_any is_proc front) (λ (v : is_value_line s ≡ true). false_from_ne_true (list_any is_proc front) (λ (p : list_any is_proc front ≡ true).
      let none = (or_parts (is_value_line s) (list_any is_value_line back) (st.in_front front (s ∷ back) parts p)).0 in
      let clash : true ≡ false = sym v ∙ none in cc))

  inside : (is_operation s && not (list_any is_proc front)) ≡ false
  inside = never_and (is_operation s) (not (list_any is_proc front)) (λ (o : is_operation s ≡ true).
      let of : is_of_process s ≡ true = operation_of_process s o in
      let begun = begun_by t.processes (filter is_of_process front) s (filter is_of_process back) (sym st.processes ∙ ap (filter is_of_process) parts ∙ filter_cut is_of_process front s back of) o in
      ap not (passes_some is_proc front begun.0 (from_filter is_of_process front begun.0 begun.1).0 begun.2))

  shape : shape_fault (limits_of version) front s ≡ None
  shape = if_not (is_value_line s && list_any is_proc front) LateHeaderLine _ in_time
      (if_not (is_operation s && not (list_any is_proc front)) OpOutsideProc _ inside
      (if_not (not (list_all is_name (names_of s))) BadName _ (ap not names)
      (if_not (not (has_numbers (limits_of version) s)) BadNumber _ (ap not numbers)
      (if_not (are_turned (times_of s)) EndsBeforeStart None straight refl))))

  once : list_any (repeats s) front ≡ false
  once = unrepeated front s back t.processes st.initial st.finals (record {
    procs = ap (filter is_proc) (sym parts) ∙ procs_within st.ss ∙ ap (filter is_proc) st.processes ∙ procs_are t.processes;
    procs_apart = ok.distinct;
    initial_are = ap (filter is_init) (sym parts) ∙ st.initial_are;
    initial_apart = st.initial_apart;
    finals_are = ap (filter is_final) (sym parts) ∙ st.finals_are;
    finals_apart = st.finals_apart;
  })

  limited : limit_fault (limits_of version) front s ≡ None
  limited = if_not (is_proc s && nat_le 64 (length (filter is_proc front))) TooManyProcs _
      (never_and (is_proc s) (nat_le 64 (length (filter is_proc front))) (room is_proc front s back 64 (omega (arith, ok.few_processes, count_procs st.ss t.processes st.processes, ap (λ l. length (filter is_proc l)) parts))))
      (if_not (is_operation s && nat_le (max_operations (limits_of version)) (length (filter is_operation front))) TooManyOps _
      (never_and (is_operation s) (nat_le (max_operations (limits_of version)) (length (filter is_operation front))) (room is_operation front s back (max_operations (limits_of version)) (omega (arith, fits.few_operations, count_operations st.ss t.processes st.processes, ap (λ l. length (filter is_operation l)) parts))))
      (if_not (is_before s && nat_le (max_pairs (limits_of version)) (length (filter is_before front))) TooManyBefore None
      (never_and (is_before s) (nat_le (max_pairs (limits_of version)) (length (filter is_before front))) (room is_before front s back (max_pairs (limits_of version)) (omega (arith, st.few_before, ap (λ l. length (filter is_before l)) parts)))) refl))

  earlier_named : (q : List ℕ) → Contains (filter_map location_named front) q → Contains (locations_of t) q
  earlier_named q c =
      let at = from_filter_map location_named front q c in
      had_named t at.from (st.each at.from (subst (λ (l : List Statement). Contains l at.from) (sym parts) (Contains-append_left front (s ∷ back) at.from at.listed))) q at.gives

  few_locations : (a : List ℕ) → location_named s ≡ Some a → (not (holds_name (filter_map location_named front) a) && nat_le (max_locations (limits_of version)) (length (distinct (filter_map location_named front)))) ≡ false
  few_locations a e =
      let earlier = filter_map location_named front in
      never_and (not (holds_name earlier a)) (nat_le (max_locations (limits_of version)) (length (distinct earlier))) (λ (new : not (holds_name earlier a) ≡ true).
      let one : length (distinct (earlier ++ a ∷ [])) ≡ length (distinct earlier) + 1 = distinct_push earlier a ∙ ap (λ b. if b then length (distinct earlier) + 1 else length (distinct earlier)) new in
      let within : (q : List ℕ) → Contains (earlier ++ a ∷ []) q → Contains (locations_of t) q = λ (q : List ℕ) (c : Contains (earlier ++ a ∷ []) q). elim (Contains-append_cases earlier (a ∷ []) q c) [
        | inl old ↦ earlier_named q old
        | inr last ↦ elim (cases_in a [] q last) [
          | inl same ↦ had_named t s had q (e ∙ ap Some same)
          | inr none ↦ absurd (none_in q none)
        ]
      ] in
      lt-leb (max_locations (limits_of version)) (length (distinct earlier)) (omega (arith, fits.few_locations, one, few_named (earlier ++ a ∷ []) (locations_of t) within)))

  located : (o : Option (List ℕ)) → location_named s ≡ o → is_location_too_many (limits_of version) front o ≡ false
  located None e = refl
  located (Some a) e = few_locations a e

  clear : statement_fault (limits_of version) front s ≡ None
  clear = λ i. or_else (shape i) (if once i then Some (twice_cause s) else or_else (limited i) (if located (location_named s) refl i then Some TooManyLocations else None))

-- no statement has a fault
pub statements_clear : (t : TraceValue) (version : Version) (body : List (List (List ℕ))) → IsTrace t → FitsIn (limits_of version) t → (st : AreStated t version body) → IsFaultless (statement_fault (limits_of version)) st.ss
statements_clear t version body ok fits st front s back parts = clear t version body ok fits st front s back parts
