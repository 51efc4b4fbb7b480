-- A part of a trace is a trace.
use Rattle.std.proofs.Common.{◌≡◌, ◌≢◌, ◌<◌, ◌≤◌, ◌^◌, ℕ, List, ◌++◌, length, map, take, Bool, true, false, cond, not, ◌&&◌, refl, ap, sym, ◌∙◌, arith, inl, inr, subst}
use Rattle.std.specs.Prelude.{Option, Some, None, IsSome, is_some, nat_lt}
use Rattle.std.specs.Cmp.Lexicographic.{slice_cmp}
use Rattle.std.specs.declared.cmp.Ordering.TheVariants.{Less}
use Rattle.std.specs.List.{All, AllPairs, Contains, filter, flat_map}
use Rattle.std.specs.Option.{option_and_then}
use Rattle.std.specs.Ordering.{nat_cmp}
use Rattle.std.specs.Str.{bytes_eq}
use Rattle.std.proofs.lemmas.Bool.{and_parts, and_from, not-true, both_ways}
use Rattle.std.proofs.lemmas.List.{length-map, length-take}
use Rattle.std.proofs.lemmas.List.Elements.{Contains-append_cases, Contains-append_left, Contains-append_right}
use Rattle.std.proofs.lemmas.List.Kept.{AllPairs-filter}
use Rattle.std.proofs.lemmas.Option.{same_Some}
use Rattle.trace_semantics.specs.declared.operation.Op.{Op}
use Rattle.trace_semantics.specs.declared.operation.Op.TheVariants.{Read, Write, Update}
use Rattle.trace_semantics.specs.declared.operation.OpName.{OpName}
use Rattle.trace_semantics.specs.declared.operation.Origin.TheVariants.{Any, Operation}
use Rattle.trace_semantics.specs.declared.trace.Process.{Process}
use Rattle.trace_semantics.specs.KnownOrder.{ended_before}
use Rattle.trace_semantics.specs.Names.{is_name}
use Rattle.trace_semantics.specs.Operation.{location_of, written_value, origin_of}
use Rattle.trace_semantics.specs.PairOrder.{order_of, pair_order, ArePairsRising}
use Rattle.trace_semantics.specs.declared.limits.Limits.TheVariants.{Large}
use Rattle.trace_semantics.specs.Limits.{max_pairs}
use Rattle.trace_semantics.specs.Trace.{TraceValue, IsTrace, operation_at, operation_names, is_written_value, is_written_name, is_written_origin, is_written_span, is_written_op, is_written_process, is_written_pair, locations_of}
use Rattle.trace_semantics.proofs.DistinctLemmas.{few_named}
use Rattle.trace_semantics.proofs.ElementLemmas.{all_pass, pass_all, from_map, to_map, from_filter, from_flat_map}
use Rattle.trace_semantics.proofs.NameLemmas.{bytes_same, from_first}
use Rattle.restriction.specs.Left.{is_left, new_name, new_pair, names_of, left_process}
use Rattle.part_law.specs.Part.{keeps_read, stays_of, stays, stays_final, left_names, left_pairs, is_nearest, is_told, part}
use Rattle.restriction.proofs.OrderedPairLemmas.{all_from, pairs_in_front, pairs_flat, pairs_mapped, IsEarlierName, IsEarlierPair, pair_less, processes_rise, names_rise}
use Rattle.part_law.proofs.PartLemmas.{comes, part_spans, HowItStays, Whole, Unread, how_it_stays}
use Rattle.restriction.proofs.PlaceLemmas.{in_front}
use Rattle.restriction.proofs.TraceLeftLemmas.{StaysWell, few_in_all, distinct_names, origins_known, spans_fine, written_process, known_new, name_written, written_name, location_there}

-- what stays in a part
module _ (t : TraceValue) (ordered : OpName → OpName → Bool) (chosen : OpName → Bool) where
  origin_left : (w : OpName) (o : Option Op) → operation_at t w ≡ o → chosen w ≡ true → is_some (option_and_then written_value o) ≡ true → is_left (stays t ordered chosen) w ≡ true
  origin_left w o e h k = (λ i. is_some (cond (h i) (option_and_then (stays_of t ordered chosen w) (e i)) None)) ∙ by_op o k
    where
      by_op : (p : Option Op) → is_some (option_and_then written_value p) ≡ true → is_some (option_and_then (stays_of t ordered chosen w) p) ≡ true
      by_op None l = absurd (cc)
      by_op (Some (Read place value origin span)) l = absurd (cc)
      by_op (Some (Write place value span)) l = refl
      by_op (Some (Update place read left origin span)) l = refl

  stays_location : (n : OpName) (op new : Op) → stays_of t ordered chosen n op ≡ Some new → location_of new ≡ location_of op
  stays_location n (Read place value origin span) new h = at (keeps_read t ordered chosen n place value origin) h
    where
      at : (b : Bool) → cond b (Some (Read place value origin span)) None ≡ Some new → location_of new ≡ place
      at true k = ap location_of (sym (same_Some (Read place value origin span) new k))
      at false k = absurd (cc)
  stays_location n (Write place value span) new h = ap location_of (sym (same_Some (Write place value span) new h))
  stays_location n (Update place read left origin span) new h = at (keeps_read t ordered chosen n place read origin) h
    where
      at : (b : Bool) → Some (cond b (Update place read left origin span) (Write place left span)) ≡ Some new → location_of new ≡ place
      at true k = ap location_of (sym (same_Some (Update place read left origin span) new k))
      at false k = ap location_of (sym (same_Some (Write place left span) new k))

  stays_written : (n : OpName) (op new : Op) → stays_of t ordered chosen n op ≡ Some new → is_written_op op ≡ true → is_written_op new ≡ true
  stays_written n (Read place value origin span) new h w = at (keeps_read t ordered chosen n place value origin) h
    where
      at : (b : Bool) → cond b (Some (Read place value origin span)) None ≡ Some new → is_written_op new ≡ true
      at true k = ap is_written_op (sym (same_Some (Read place value origin span) new k)) ∙ w
      at false k = absurd (cc)
  stays_written n (Write place value span) new h w = ap is_written_op (sym (same_Some (Write place value span) new h)) ∙ w
  stays_written n (Update place read left origin span) new h w =
      let parts = and_parts (is_name place) (nat_lt read (2 ^ 64) && (nat_lt left (2 ^ 64) && (is_written_origin origin && is_written_span span))) w in
      let values = and_parts (nat_lt read (2 ^ 64)) (nat_lt left (2 ^ 64) && (is_written_origin origin && is_written_span span)) parts.1 in
      let rest = and_parts (nat_lt left (2 ^ 64)) (is_written_origin origin && is_written_span span) values.1 in
      let times = and_parts (is_written_origin origin) (is_written_span span) rest.1 in
      at (keeps_read t ordered chosen n place read origin) (and_from (is_name place) (nat_lt left (2 ^ 64) && is_written_span span) parts.0 (and_from (nat_lt left (2 ^ 64)) (is_written_span span) rest.0 times.1)) h
    where
      at : (b : Bool) → is_written_op (Write place left span) ≡ true → Some (cond b (Update place read left origin span) (Write place left span)) ≡ Some new → is_written_op new ≡ true
      at true l k = ap is_written_op (sym (same_Some (Update place read left origin span) new k)) ∙ w
      at false l k = ap is_written_op (sym (same_Some (Write place left span) new k)) ∙ l

  stays_from : (n : OpName) (op new : Op) (w : OpName) → HowItStays t ordered chosen n op new → origin_of new ≡ Operation w → is_left (stays t ordered chosen) w ≡ true
  stays_from n op new w (Unread location d span same) e = absurd (let clash : Any ≡ Operation w = ap origin_of same ∙ e in cc)
  stays_from n (Write location value span) new w (Whole same keeps) e = absurd (let clash : Any ≡ Operation w = ap origin_of same ∙ e in cc)
  stays_from n (Read location value origin span) new w (Whole same keeps) e =
      let named : origin ≡ Operation w = ap origin_of same ∙ e in
      let kept = and_parts (chosen w) (is_some (option_and_then written_value (operation_at t w))) (ap (keeps_read t ordered chosen n location value) (sym named) ∙ keeps value refl) in
      origin_left w (operation_at t w) refl kept.0 kept.1
  stays_from n (Update location read left origin span) new w (Whole same keeps) e =
      let named : origin ≡ Operation w = ap origin_of same ∙ e in
      let kept = and_parts (chosen w) (is_some (option_and_then written_value (operation_at t w))) (ap (keeps_read t ordered chosen n location read) (sym named) ∙ keeps read refl) in
      origin_left w (operation_at t w) refl kept.0 kept.1

  -- what stays of an operation is what stays of the one that is known
  stays_known : (n : OpName) (op new : Op) → operation_at t n ≡ Some op → stays t ordered chosen n ≡ Some new → stays_of t ordered chosen n op ≡ Some new
  stays_known n op new e h =
      let at = comes t ordered chosen n (ap is_some h) in
      let same : at.op ≡ op = same_Some at.op op (sym at.known ∙ e) in
      ap (stays_of t ordered chosen n) (sym same) ∙ sym at.stays_is ∙ h

  pub part_stays_well : StaysWell t (stays t ordered chosen)
  part_stays_well = record {
    known = λ n h. (let at = comes t ordered chosen n h in ap is_some at.known);
    location = λ n op new e h. stays_location n op new (stays_known n op new e h);
    written = λ n op new e h w. stays_written n op new (stays_known n op new e h) w;
    origin = λ n new w h e. (let at = comes t ordered chosen n (ap is_some h) in stays_from n at.op new w (how_it_stays t ordered chosen n at.op new (sym at.stays_is ∙ h)) e);
    spans = part_spans t ordered chosen;
  }

-- the pairs of a part
module _ (t : TraceValue) (ok : IsTrace t) (ordered : OpName → OpName → Bool) (left : OpName → Option Op) where
  names_in_order : AllPairs (IsEarlierName t.processes) (operation_names t)
  names_in_order =
      pairs_flat (λ (p r : Process). order_of t.processes p.name < order_of t.processes r.name) (IsEarlierName t.processes) names_of t.processes (processes_rise t.processes ok.distinct)
      (λ p c. names_rise t.processes p.name 1 (length p.operations))
      (λ p r c d less m n e f. (
      let first = from_first p.name (length p.operations) m e in
      let second = from_first r.name (length r.operations) n f in
      let a : order_of t.processes m.process ≡ order_of t.processes p.name = ap (order_of t.processes) first.0 in
      let b : order_of t.processes n.process ≡ order_of t.processes r.name = ap (order_of t.processes) second.0 in
      inl (omega (arith, less, a, b))))

  abbrev told : List (OpName × OpName)
  told = take 4096 (filter (is_told t ordered left) (left_pairs t left))

  pairs_in_order : AllPairs (IsEarlierPair t.processes) told
  pairs_in_order =
      let names = AllPairs-filter (IsEarlierName t.processes) (is_left left) (operation_names t) names_in_order in
      pairs_in_front (IsEarlierPair t.processes) 4096 (filter (is_told t ordered left) (left_pairs t left)) (AllPairs-filter (IsEarlierPair t.processes) (is_told t ordered left) (left_pairs t left)
      (pairs_flat (IsEarlierName t.processes) (IsEarlierPair t.processes) (λ m. map (λ (n : OpName). (m, n)) (left_names t left)) (left_names t left) names
      (λ m c. pairs_mapped (IsEarlierName t.processes) (IsEarlierPair t.processes) (λ (n : OpName). (m, n)) (left_names t left) names (λ x y d e less. inr (refl, less)))
      (λ x y c d less a b e f. (
      let first = from_map (λ (n : OpName). (x, n)) (left_names t left) a e in
      let second = from_map (λ (n : OpName). (y, n)) (left_names t left) b f in
      let m : x ≡ a.0 = ap (λ (p : OpName × OpName). p.0) first.2 in
      let n : y ≡ b.0 = ap (λ (p : OpName × OpName). p.0) second.2 in
      inl (subst (λ z. IsEarlierName t.processes z b.0) m (subst (λ z. IsEarlierName t.processes x z) n less))))))

  record Told (pair : OpName × OpName) : Type 0 where
    first : is_left left pair.0 ≡ true
    second : is_left left pair.1 ≡ true
    apart : bytes_eq pair.0.process pair.1.process ≡ false

  told_of : (pair : OpName × OpName) → Contains told pair → Told pair
  told_of pair c =
      let there = from_filter (is_told t ordered left) (left_pairs t left) pair (in_front 4096 (filter (is_told t ordered left) (left_pairs t left)) pair c) in
      let first = from_flat_map (λ m. map (λ (n : OpName). (m, n)) (left_names t left)) (left_names t left) pair there.0 in
      let second = from_map (λ (n : OpName). (first.0, n)) (left_names t left) pair first.2 in
      let m_is : first.0 ≡ pair.0 = ap (λ (p : OpName × OpName). p.0) second.2 in
      let n_is : second.0 ≡ pair.1 = ap (λ (p : OpName × OpName). p.1) second.2 in
      let parts = and_parts (ordered pair.0 pair.1) _ (and_parts (is_nearest t ordered left pair) (not (ended_before t pair.0 pair.1)) there.1).0 in
      let other = and_parts (not (bytes_eq pair.0.process pair.1.process)) _ parts.1 in
      record {
        first = ap (is_left left) (sym m_is) ∙ (from_filter (is_left left) (operation_names t) first.0 first.1).1;
        second = ap (is_left left) (sym n_is) ∙ (from_filter (is_left left) (operation_names t) second.0 second.1).1;
        apart = not-true (bytes_eq pair.0.process pair.1.process) other.0;
      }

  few_told : length told ≤ max_pairs Large
  few_told = omega (arith, length-take 4096 (filter (is_told t ordered left) (left_pairs t left)))

-- its fields
module _ (t : TraceValue) (ok : IsTrace t) (ordered : OpName → OpName → Bool) (chosen : OpName → Bool) where
  abbrev q : TraceValue
  q = part t ordered chosen

  abbrev of_part : OpName → Option Op
  of_part = stays t ordered chosen

  abbrev told_here : List (OpName × OpName)
  told_here = take 4096 (filter (is_told t ordered of_part) (left_pairs t of_part))

  well : StaysWell t of_part
  well = part_stays_well t ordered chosen

  pairs_known : All (λ (pair : OpName × OpName). IsSome (operation_at q pair.0) × IsSome (operation_at q pair.1)) q.before
  pairs_known = all_from (λ (pair : OpName × OpName). IsSome (operation_at q pair.0) × IsSome (operation_at q pair.1)) q.before (λ pair c.
      let at = from_map (new_pair of_part) told_here pair c in
      let told = told_of t ok ordered of_part at.0 at.1 in
      subst (λ (p : OpName × OpName). IsSome (operation_at q p.0) × IsSome (operation_at q p.1)) at.2
      (known_new t q ok of_part refl well at.0.0 told.first, known_new t q ok of_part refl well at.0.1 told.second))

  pairs_apart : All (λ (pair : OpName × OpName). pair.0 ≢ pair.1) q.before
  pairs_apart = all_from (λ (pair : OpName × OpName). pair.0 ≢ pair.1) q.before (λ pair c e.
      let at = from_map (new_pair of_part) told_here pair c in
      let told = told_of t ok ordered of_part at.0 at.1 in
      let first : at.0.0.process ≡ pair.0.process = ap (λ (p : OpName × OpName). p.0.process) at.2 in
      let second : at.0.1.process ≡ pair.1.process = ap (λ (p : OpName × OpName). p.1.process) at.2 in
      both_ways (bytes_eq at.0.0.process at.0.1.process) told.apart (bytes_same at.0.0.process at.0.1.process (first ∙ ap (λ (n : OpName). n.process) e ∙ sym second)))

  pairs_rise : ArePairsRising q.processes q.before
  pairs_rise =
      pairs_mapped (IsEarlierPair t.processes) (λ (x y : OpName × OpName). slice_cmp nat_cmp (pair_order q.processes x) (pair_order q.processes y) ≡ Less) (new_pair of_part) told_here (pairs_in_order t ok ordered of_part)
      (λ x y c d less. let told = told_of t ok ordered of_part y d in pair_less of_part t.processes q.processes x y refl told.first told.second less)

  written_pair : (pair : OpName × OpName) → Contains q.before pair → is_written_pair pair ≡ true
  written_pair pair c =
      let at = from_map (new_pair of_part) told_here pair c in
      let told = told_of t ok ordered of_part at.0 at.1 in
      let first = name_written t q ok of_part refl well at.0.0 (well.known at.0.0 told.first) in
      let second = name_written t q ok of_part refl well at.0.1 (well.known at.0.1 told.second) in
      ap is_written_pair (sym at.2) ∙ and_from (is_written_name (new_name of_part at.0.0)) (is_written_name (new_name of_part at.0.1))
      (written_name t q ok of_part refl well at.0.0 told.first first) (written_name t q ok of_part refl well at.0.1 told.second second)

  final_there : (entry : List ℕ × ℕ) → Contains q.final_values entry → Contains t.final_values entry
  final_there entry c = (from_filter (stays_final t ordered chosen) t.final_values entry c).0

  abbrev in_processes : List Process → List (List ℕ)
  in_processes ps = flat_map (λ (p : Process). map location_of p.operations) ps

  abbrev named_in : List (List ℕ × ℕ) → List (List ℕ)
  named_in values = map (λ (entry : List ℕ × ℕ). entry.0) values

  locations_there : (a : List ℕ) → Contains (locations_of q) a → Contains (locations_of t) a
  locations_there a c =
      elim (Contains-append_cases (named_in t.initial) (named_in q.final_values ++ in_processes q.processes) a c) [
        | inl here ↦ Contains-append_left (named_in t.initial) (named_in t.final_values ++ in_processes t.processes) a here
        | inr more ↦ elim (Contains-append_cases (named_in q.final_values) (in_processes q.processes) a more) [
          | inl here ↦ (
              let at = from_map (λ (entry : List ℕ × ℕ). entry.0) q.final_values a here in
              let there = subst (λ l. Contains (named_in t.final_values) l) at.2 (to_map (λ (entry : List ℕ × ℕ). entry.0) t.final_values at.0 (final_there at.0 at.1)) in
              Contains-append_right (named_in t.initial) (named_in t.final_values ++ in_processes t.processes) a (Contains-append_left (named_in t.final_values) (in_processes t.processes) a there))
          | inr there ↦ Contains-append_right (named_in t.initial) (named_in t.final_values ++ in_processes t.processes) a (Contains-append_right (named_in t.final_values) (in_processes t.processes) a (location_there t q ok of_part refl well a there))
        ]
      ]

pub part_is_trace : (t : TraceValue) → IsTrace t → (ordered : OpName → OpName → Bool) (chosen : OpName → Bool) → IsTrace (part t ordered chosen)
part_is_trace t ok ordered chosen =
    let well = part_stays_well t ordered chosen in
    let processes = length-map t.processes (left_process (stays t ordered chosen)) in
    let pairs = length-map (told t ok ordered (stays t ordered chosen)) (new_pair (stays t ordered chosen)) in
    record {
      distinct = distinct_names t (part t ordered chosen) ok (stays t ordered chosen) refl well;
      few_processes = omega (arith, processes, ok.few_processes);
      few_operations = omega (arith, few_in_all (stays t ordered chosen) t.processes, ok.few_operations);
      initial = ok.initial;
      final_values = AllPairs-filter (λ (x y : List ℕ × ℕ). x.0 ≢ y.0) (stays_final t ordered chosen) t.final_values ok.final_values;
      few_pairs = omega (arith, pairs, few_told t ok ordered (stays t ordered chosen));
      known = pairs_known t ok ordered chosen;
      written = record {
        processes = pass_all is_written_process (part t ordered chosen).processes (written_process t (part t ordered chosen) ok (stays t ordered chosen) refl well);
        initial = ok.written.initial;
        final_values = pass_all is_written_value (part t ordered chosen).final_values (λ entry c. all_pass is_written_value t.final_values ok.written.final_values entry (final_there t ok ordered chosen entry c));
        before = pass_all is_written_pair (part t ordered chosen).before (written_pair t ok ordered chosen);
      };
      initial_order = ok.initial_order;
      final_order = AllPairs-filter (λ (x y : List ℕ × ℕ). slice_cmp nat_cmp x.0 y.0 ≡ Less) (stays_final t ordered chosen) t.final_values ok.final_order;
      before_apart = pairs_apart t ok ordered chosen;
      origins = origins_known t (part t ordered chosen) ok (stays t ordered chosen) refl well;
      spans = spans_fine t (part t ordered chosen) ok (stays t ordered chosen) refl well;
      before_order = pairs_rise t ok ordered chosen;
      few_locations = omega (arith, few_named (locations_of (part t ordered chosen)) (locations_of t) (locations_there t ok ordered chosen), ok.few_locations);
    }
