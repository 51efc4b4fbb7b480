-- What remains of a trace is a trace: its processes and their operations.
use Rattle.std.proofs.Common.{◌≡◌, ◌≢◌, ◌≤◌, ◌^◌, ℕ, List, [], ◌∷◌, length, map, true, ◌&&◌, refl, ap, sym, ◌∙◌, arith, inl, inr, subst}
use Rattle.std.specs.Prelude.{Option, Some, None, IsSome, is_some, nat_le, nat_lt}
use Rattle.std.specs.List.{All, AllPairs, Contains, filter_map, cons_option, flat_map, list_all, sum_by}
use Rattle.std.specs.Option.{option_and_then}
use Rattle.std.specs.Str.{bytes_eq}
use Rattle.std.proofs.lemmas.Bool.{and_parts, and_from, le-leb, leb-true}
use Rattle.std.proofs.lemmas.List.{length-map}
use Rattle.std.proofs.lemmas.List.Elements.{All-contains}
use Rattle.std.proofs.lemmas.List.Sums.{sum_by-cons}
use Rattle.std.proofs.lemmas.Option.{option_and_then_some}
use Rattle.text_lines.proofs.ListLemmas.{few_pass}
use Rattle.trace_semantics.specs.declared.operation.Op.{Op}
use Rattle.trace_semantics.specs.declared.operation.Op.TheVariants.{Read, Write, Update}
use Rattle.trace_semantics.specs.declared.operation.OpName.{OpName}
use Rattle.trace_semantics.specs.declared.operation.Origin.{Origin}
use Rattle.trace_semantics.specs.declared.operation.Origin.TheVariants.{Any, Initial, Operation}
use Rattle.trace_semantics.specs.declared.operation.Span.{Span}
use Rattle.trace_semantics.specs.declared.trace.Process.{Process}
use Rattle.trace_semantics.specs.KnownOrder.{span_at}
use Rattle.trace_semantics.specs.Names.{is_name}
use Rattle.trace_semantics.specs.Operation.{location_of, origin_of, span_of}
use Rattle.trace_semantics.specs.Trace.{TraceValue, IsTrace, IsKnownOrigin, IsSpan, at_place, process_named, operation_at, first_names, is_written_name, is_written_origin, is_written_span, is_written_op, is_written_process}
use Rattle.trace_semantics.proofs.ElementLemmas.{none_in, cases_in, head_in, tail_in, all_pass, pass_all, from_map, to_map, from_flat_map, to_flat_map, found}
use Rattle.trace_semantics.proofs.NameLemmas.{some_value, known_named}
use Rattle.restriction.specs.Left.{is_left, new_name, new_origin, new_op, names_of, left_process}
use Rattle.restriction.proofs.LeftLemmas.{known_old, old_left, listed_name, higher}
use Rattle.restriction.proofs.OrderedPairLemmas.{all_from, pairs_mapped}
use Rattle.restriction.specs.Restriction.{KeepsSpans}
use Rattle.restriction.proofs.PlaceLemmas.{length_names, in_list}
use Rattle.restriction.proofs.SpanLemmas.{same_span}
use Rattle.restriction.proofs.WriterLemmas.{same_location}

pub from_filter_map : {A B : Type 0} (f : A → Option B) (xs : List A) (y : B) → Contains (filter_map f xs) y → (x : A) × Contains xs x × (f x ≡ Some y)
from_filter_map f [] y c = absurd (none_in y c)
from_filter_map {A} {B} f (x ∷ xs) y c = at (f x) refl c (λ d. from_filter_map f xs y d)
  where
    at : (o : Option B) → f x ≡ o → Contains (cons_option o (filter_map f xs)) y → (Contains (filter_map f xs) y → (z : A) × Contains xs z × (f z ≡ Some y)) → (z : A) × Contains (x ∷ xs) z × (f z ≡ Some y)
    at None e d more = let rest = more d in (rest.0, tail_in x xs rest.0 rest.1, rest.2)
    at (Some z) e d more =
        elim (cases_in z (filter_map f xs) y d) [
          | inl same ↦ (x, head_in x xs, e ∙ ap Some same)
          | inr there ↦ (let rest = more there in (rest.0, tail_in x xs rest.0 rest.1, rest.2))
        ]

few_mapped : {A B : Type 0} (f : A → Option B) (xs : List A) → length (filter_map f xs) ≤ length xs
few_mapped f [] = omega arith
few_mapped {A} {B} f (x ∷ xs) = at (f x) (few_mapped f xs)
  where
    at : (o : Option B) → length (filter_map f xs) ≤ length xs → length (cons_option o (filter_map f xs)) ≤ length (x ∷ xs)
    at None l = omega (arith, l)
    at (Some y) l = omega (arith, l)

few_left : (stays : OpName → Option Op) (p : Process) → length (left_process stays p).operations ≤ length p.operations
few_left stays p =
    let same = length-map (filter_map stays (names_of p)) (new_op stays) in
    omega (arith, same, few_mapped stays (names_of p), length_names p.name 1 (length p.operations))

pub few_in_all : (stays : OpName → Option Op) (ps : List Process) → sum_by (λ (p : Process). length p.operations) (map (left_process stays) ps) ≤ sum_by (λ (p : Process). length p.operations) ps
few_in_all stays [] = omega arith
few_in_all stays (p ∷ ps) =
    omega (arith, few_in_all stays ps, few_left stays p, sum_by-cons (λ (q : Process). length q.operations) p ps, sum_by-cons (λ (q : Process). length q.operations) (left_process stays p) (map (left_process stays) ps))

pub same_origin : (stays : OpName → Option Op) (op : Op) → origin_of (new_op stays op) ≡ new_origin stays (origin_of op)
same_origin stays (Read location value origin span) = refl
same_origin stays (Write location value span) = refl
same_origin stays (Update location read left origin span) = refl

-- an operation of the trace is one of a process
pub record Listed (t : TraceValue) (op : Op) : Type 0 where
  pub process : Process
  pub listed : Contains t.processes process
  pub there : Contains process.operations op

pub op_listed : (t : TraceValue) (n : OpName) (op : Op) → operation_at t n ≡ Some op → Listed t op
op_listed t n op e =
    option_and_then_some (λ (p : Process). at_place p.operations n.place) (process_named t n.process) op e (λ p named placed. record {
      process = p;
      listed = (found (λ (q : Process). bytes_eq q.name n.process) t.processes p named).0;
      there = in_list p.operations n.place op placed;
    })

-- no operation ends before it starts
pub fine_span : (t : TraceValue) → IsTrace t → (n : OpName) → IsSpan (span_at t n)
fine_span t ok n = at (operation_at t n) refl
  where
    at : (o : Option Op) → operation_at t n ≡ o → IsSpan (option_and_then span_of o)
    at None e = tt
    at (Some op) e =
        let there = op_listed t n op e in
        All-contains (λ (o : Op). IsSpan (span_of o)) there.process.operations op
        (All-contains (λ (p : Process). All (λ (o : Op). IsSpan (span_of o)) p.operations) t.processes there.process ok.spans there.listed) there.there

-- what a function keeps that says what stays, so that what remains is a trace
pub record StaysWell (t : TraceValue) (stays : OpName → Option Op) : Type 0 where
  pub known : (n : OpName) → is_left stays n ≡ true → IsSome (operation_at t n)
  pub location : (n : OpName) (op new : Op) → operation_at t n ≡ Some op → stays n ≡ Some new → location_of new ≡ location_of op
  pub written : (n : OpName) (op new : Op) → operation_at t n ≡ Some op → stays n ≡ Some new → is_written_op op ≡ true → is_written_op new ≡ true
  pub origin : (n : OpName) (new : Op) (w : OpName) → stays n ≡ Some new → origin_of new ≡ Operation w → is_left stays w ≡ true
  pub spans : KeepsSpans t stays

module _ (t q : TraceValue) (ok : IsTrace t) (stays : OpName → Option Op) (made : q.processes ≡ map (left_process stays) t.processes) (well : StaysWell t stays) where
  -- the operation of which an operation of q is what remains
  record From (r : Process) (op : Op) : Type 0 where
    name : OpName
    whole : Op
    old : Op
    known : operation_at t name ≡ Some whole
    stays_it : stays name ≡ Some old
    renamed : new_op stays old ≡ op

  left_from : (r : Process) → Contains (map (left_process stays) t.processes) r → (op : Op) → Contains r.operations op → From r op
  left_from r c op d =
      let p = from_map (left_process stays) t.processes r c in
      let e = subst (λ (s : Process). Contains s.operations op) (sym p.2) d in
      let at = from_map (new_op stays) (filter_map stays (names_of p.0)) op e in
      let name = from_filter_map stays (names_of p.0) at.0 at.1 in
      let whole = some_value (operation_at t name.0) (listed_name t ok p.0 p.1 name.0 name.1) in
      record { name = name.0; whole = whole.0; old = at.0; known = whole.1; stays_it = name.2; renamed = at.2 }

  pub known_new : (n : OpName) → is_left stays n ≡ true → IsSome (operation_at q (new_name stays n))
  known_new n h = old_left t q ok stays made (new_name stays n) n (known_old t ok stays n (well.known n h) h)

  pub distinct_names : AllPairs (λ (p r : Process). p.name ≢ r.name) (map (left_process stays) t.processes)
  distinct_names = pairs_mapped (λ (p r : Process). p.name ≢ r.name) (λ (p r : Process). p.name ≢ r.name) (left_process stays) t.processes ok.distinct (λ p r c d h. h)

  origin_new : (o : Origin) → ((w : OpName) → o ≡ Operation w → is_left stays w ≡ true) → IsKnownOrigin q (new_origin stays o)
  origin_new Any k = tt
  origin_new Initial k = tt
  origin_new (Operation w) k = known_new w (k w refl)

  pub origins_known : All (λ (p : Process). All (λ (op : Op). IsKnownOrigin q (origin_of op)) p.operations) (map (left_process stays) t.processes)
  origins_known = all_from (λ (p : Process). All (λ (op : Op). IsKnownOrigin q (origin_of op)) p.operations) (map (left_process stays) t.processes) (λ r c.
      all_from (λ (op : Op). IsKnownOrigin q (origin_of op)) r.operations (λ op d.
      let at = left_from r c op d in
      subst (λ (o : Op). IsKnownOrigin q (origin_of o)) at.renamed (subst (λ o. IsKnownOrigin q o) (sym (same_origin stays at.old))
      (origin_new (origin_of at.old) (λ w e. well.origin at.name at.old w at.stays_it e)))))

  -- what remains does not end before it starts
  span_fine : (n : OpName) (old : Op) → stays n ≡ Some old → IsSpan (span_of (new_op stays old))
  span_fine n old stays_it =
      let same : span_of (new_op stays old) ≡ span_at t n = same_span stays old ∙ ap (option_and_then span_of) (sym stays_it) ∙ well.spans n (ap is_some stays_it) in
      subst IsSpan (sym same) (fine_span t ok n)

  pub spans_fine : All (λ (p : Process). All (λ (op : Op). IsSpan (span_of op)) p.operations) (map (left_process stays) t.processes)
  spans_fine = all_from (λ (p : Process). All (λ (op : Op). IsSpan (span_of op)) p.operations) (map (left_process stays) t.processes) (λ r c.
      all_from (λ (op : Op). IsSpan (span_of op)) r.operations (λ op d.
      let at = left_from r c op d in
      subst (λ (o : Op). IsSpan (span_of o)) at.renamed (span_fine at.name at.old at.stays_it)))

  -- names, values and places as they can be written
  fewer_places : (n : OpName) → (new_name stays n).place ≤ n.place
  fewer_places n = let few = few_pass (is_left stays) (first_names n.process n.place) in omega (arith, few, length_names n.process 1 n.place)

  pub written_name : (n : OpName) → is_left stays n ≡ true → is_written_name n ≡ true → is_written_name (new_name stays n) ≡ true
  written_name n left h =
      let parts = and_parts (is_name n.process) (nat_le 1 n.place && nat_le n.place 4294967295) h in
      let places = and_parts (nat_le 1 n.place) (nat_le n.place 4294967295) parts.1 in
      let low = leb-true 1 n.place places.0 in
      let high = leb-true n.place 4294967295 places.1 in
      let start : OpName = record { process = n.process; place = 0 } in
      let above = higher stays start n refl (omega (arith, low)) left in
      and_from (is_name n.process) (nat_le 1 (new_name stays n).place && nat_le (new_name stays n).place 4294967295) parts.0
      (and_from (nat_le 1 (new_name stays n).place) (nat_le (new_name stays n).place 4294967295) (le-leb 1 (new_name stays n).place (omega (arith, above))) (le-leb (new_name stays n).place 4294967295 (omega (arith, fewer_places n, high))))

  written_origin : (o : Origin) → ((w : OpName) → o ≡ Operation w → is_left stays w ≡ true) → is_written_origin o ≡ true → is_written_origin (new_origin stays o) ≡ true
  written_origin Any k h = refl
  written_origin Initial k h = refl
  written_origin (Operation n) k h = written_name n (k n refl) h

  written_end : (o : Origin) (span : Option Span) → ((w : OpName) → o ≡ Operation w → is_left stays w ≡ true) → (is_written_origin o && is_written_span span) ≡ true → (is_written_origin (new_origin stays o) && is_written_span span) ≡ true
  written_end o span k h =
      let parts = and_parts (is_written_origin o) (is_written_span span) h in
      and_from (is_written_origin (new_origin stays o)) (is_written_span span) (written_origin o k parts.0) parts.1

  written_op : (op : Op) → ((w : OpName) → origin_of op ≡ Operation w → is_left stays w ≡ true) → is_written_op op ≡ true → is_written_op (new_op stays op) ≡ true
  written_op (Read location value origin span) k h =
      let parts = and_parts (is_name location) (nat_lt value (2 ^ 64) && (is_written_origin origin && is_written_span span)) h in
      let rest = and_parts (nat_lt value (2 ^ 64)) (is_written_origin origin && is_written_span span) parts.1 in
      and_from (is_name location) (nat_lt value (2 ^ 64) && (is_written_origin (new_origin stays origin) && is_written_span span)) parts.0
      (and_from (nat_lt value (2 ^ 64)) (is_written_origin (new_origin stays origin) && is_written_span span) rest.0 (written_end origin span k rest.1))
  written_op (Write location value span) k h = h
  written_op (Update location read left origin span) k h =
      let parts = and_parts (is_name location) (nat_lt read (2 ^ 64) && (nat_lt left (2 ^ 64) && (is_written_origin origin && is_written_span span))) h in
      let values = and_parts (nat_lt read (2 ^ 64)) (nat_lt left (2 ^ 64) && (is_written_origin origin && is_written_span span)) parts.1 in
      let rest = and_parts (nat_lt left (2 ^ 64)) (is_written_origin origin && is_written_span span) values.1 in
      and_from (is_name location) (nat_lt read (2 ^ 64) && (nat_lt left (2 ^ 64) && (is_written_origin (new_origin stays origin) && is_written_span span))) parts.0
      (and_from (nat_lt read (2 ^ 64)) (nat_lt left (2 ^ 64) && (is_written_origin (new_origin stays origin) && is_written_span span)) values.0
      (and_from (nat_lt left (2 ^ 64)) (is_written_origin (new_origin stays origin) && is_written_span span) rest.0 (written_end origin span k rest.1)))

  written_in : (p : Process) → Contains t.processes p → (is_name p.name ≡ true) × (list_all is_written_op p.operations ≡ true)
  written_in p c = and_parts (is_name p.name) (list_all is_written_op p.operations) (all_pass is_written_process t.processes ok.written.processes p c)

  written_whole : (n : OpName) (op : Op) → operation_at t n ≡ Some op → is_written_op op ≡ true
  written_whole n op e = let at = op_listed t n op e in all_pass is_written_op at.process.operations (written_in at.process at.listed).1 op at.there

  pub written_process : (r : Process) → Contains (map (left_process stays) t.processes) r → is_written_process r ≡ true
  written_process r c =
      let p = from_map (left_process stays) t.processes r c in
      and_from (is_name r.name) (list_all is_written_op r.operations) (ap (λ (s : Process). is_name s.name) (sym p.2) ∙ (written_in p.0 p.1).0)
      (pass_all is_written_op r.operations (λ op d.
      let at = left_from r c op d in
      ap is_written_op (sym at.renamed) ∙ written_op at.old (λ w e. well.origin at.name at.old w at.stays_it e)
      (well.written at.name at.whole at.old at.known at.stays_it (written_whole at.name at.whole at.known))))

  pub name_written : (n : OpName) → IsSome (operation_at t n) → is_written_name n ≡ true
  name_written n h =
      let at = known_named t n h in
      let few = written_in at.process at.listed in
      and_from (is_name n.process) (nat_le 1 n.place && nat_le n.place 4294967295) (ap is_name (sym at.called) ∙ few.0)
      (and_from (nat_le 1 n.place) (nat_le n.place 4294967295) (le-leb 1 n.place at.least) (le-leb n.place 4294967295 (omega (arith, at.most, few_places at.process t.processes at.listed, ok.few_operations))))
    where
      few_places : (p : Process) (ps : List Process) → Contains ps p → length p.operations ≤ sum_by (λ (r : Process). length r.operations) ps
      few_places p [] c = absurd (none_in p c)
      few_places p (r ∷ ps) c =
          elim (cases_in r ps p c) [
            | inl e ↦ (let same : length r.operations ≡ length p.operations = ap (λ (s : Process). length s.operations) e in omega (arith, same, sum_by-cons (λ (s : Process). length s.operations) r ps))
            | inr d ↦ omega (arith, few_places p ps d, sum_by-cons (λ (s : Process). length s.operations) r ps)
          ]

  -- the locations of what remains are locations of the trace
  abbrev locations_in : Process → List (List ℕ)
  locations_in p = map location_of p.operations

  pub location_there : (a : List ℕ) → Contains (flat_map locations_in (map (left_process stays) t.processes)) a → Contains (flat_map locations_in t.processes) a
  location_there a c =
      let p = from_flat_map locations_in (map (left_process stays) t.processes) a c in
      let op = from_map location_of p.0.operations a p.2 in
      let at = left_from p.0 p.1 op.0 op.1 in
      let there = op_listed t at.name at.whole at.known in
      let same : location_of at.whole ≡ a = sym (well.location at.name at.whole at.old at.known at.stays_it) ∙ sym (same_location stays at.old) ∙ ap location_of at.renamed ∙ op.2 in
      subst (λ l. Contains (flat_map locations_in t.processes) l) same
      (to_flat_map locations_in t.processes there.process (location_of at.whole) there.listed (to_map location_of there.process.operations at.whole there.there))
