-- What want a value and what its sources are, and how many there are of each.
use Rattle.std.proofs.Common.{◌≡◌, ◌≢◌, ◌<◌, ◌≤◌, ◌+◌, ◌&&◌, ℕ, suc, List, [], ◌∷◌, ◌++◌, map, length, Bool, true, false, cond, refl, ap, sym, ◌∙◌, arith, inl, inr, subst, append_assoc}
use Rattle.std.specs.Prelude.{Option, Some, None, IsSome, is_some, if◌then◌else◌}
use Rattle.std.specs.List.{AllPairs, Contains, filter, flat_map, list_any, range_with_len, slice_get}
use Rattle.std.specs.Option.{option_and_then}
use Rattle.std.specs.Str.{bytes_eq}
use Rattle.std.proofs.lemmas.Bool.{and_parts}
use Rattle.std.proofs.lemmas.List.{length-append, length-map, map-append}
use Rattle.std.proofs.lemmas.List.Elements.{Contains-append_left, Contains-append_right, Contains-append_cases}
use Rattle.std.proofs.lemmas.List.Kept.{AllPairs-filter}
use Rattle.text_lines.proofs.ListLemmas.{get_behind}
use Rattle.trace_semantics.specs.declared.operation.Op.{Op}
use Rattle.trace_semantics.specs.declared.operation.OpName.{OpName}
use Rattle.trace_semantics.specs.declared.trace.Process.{Process}
use Rattle.trace_semantics.specs.Judgement.{is_held}
use Rattle.trace_semantics.specs.Operation.{location_of, value_read}
use Rattle.trace_semantics.specs.PairOrder.{order_of}
use Rattle.trace_semantics.specs.Trace.{TraceValue, IsTrace, at_place, process_named, operation_at, operation_names, first_names, value_of}
use Rattle.trace_semantics.specs.ValueAfter.{value_left_at}
use Rattle.trace_semantics.proofs.CauseLemmas.{same_held, held_same}
use Rattle.trace_semantics.proofs.ElementLemmas.{head_in, tail_in, none_in, cases_in, from_map, to_map, from_filter, to_filter, some_passes, finds, same_from_key}
use Rattle.trace_semantics.proofs.NameLemmas.{same_bytes, bytes_same, from_first, known_listed}
use Rattle.restriction.specs.Restriction.{left_by}
use Rattle.restriction.proofs.OrderedPairLemmas.{IsEarlierName, pairs_joined, pairs_flat, pairs_mapped, processes_rise, names_rise}
use Rattle.order_reasons.specs.Counting.{NeedsSource, Update, End, BarsAllBut}
use Rattle.order_reasons.specs.Orders.{HoldsOfSchedules}
use Rattle.order_reasons.specs.Reasons.{value_read_at}
use Rattle.order_reasons.specs.Sources.{ValueSource, LeftBy, InitialAt}
use Rattle.order_reasons.proofs.CountReasons.{counted}
use Rattle.reason_clauses.specs.Makers.{read_by}
use Rattle.reason_counting.specs.declared.tally.Tally.{Tally}
use Rattle.reason_counting.specs.Counts.{is_writer, is_wanting, is_end_wanting, needs_of, sources_of, AreTooFew}
use Rattle.reason_counting.specs.Tallies.{IsTallyOf, does_write, does_want, does_leave}
use Rattle.reason_counting.proofs.TallyLemmas.{operations_in}

pub at_most_one : (b : Bool) → cond {A = ℕ} b 1 0 ≤ 1
at_most_one true = omega arith
at_most_one false = omega arith

-- names and their operations are counted alike
module _ (t : TraceValue) (g : OpName → Bool) (f : Op → Bool) (alike : (n : OpName) (op : Op) → operation_at t n ≡ Some op → g n ≡ f op) where
  pub counted_alike : (names : List OpName) (ops : List Op) → map (operation_at t) names ≡ map Some ops → length (filter g names) ≡ length (filter f ops)
  counted_alike [] [] e = refl
  counted_alike [] (op ∷ ops) e = absurd (cc)
  counted_alike (n ∷ names) [] e = absurd (cc)
  counted_alike (n ∷ names) (op ∷ ops) e =
      let here : operation_at t n ≡ Some op = cc in
      let more = counted_alike names ops (cc) in
      by_test (g n) (f op) (alike n op here) more
    where
      by_test : (a b : Bool) → a ≡ b → length (filter g names) ≡ length (filter f ops) → length (cond a (n ∷ filter g names) (filter g names)) ≡ length (cond b (op ∷ filter f ops) (filter f ops))
      by_test true true same more = ap suc more
      by_test false false same more = more
      by_test true false same more = absurd (cc)
      by_test false true same more = absurd (cc)

  pub some_alike : (names : List OpName) (ops : List Op) → map (operation_at t) names ≡ map Some ops → list_any g names ≡ list_any f ops
  some_alike [] [] e = refl
  some_alike [] (op ∷ ops) e = absurd (cc)
  some_alike (n ∷ names) [] e = absurd (cc)
  some_alike (n ∷ names) (op ∷ ops) e =
      let here : operation_at t n ≡ Some op = cc in
      let first = alike n op here in
      let more = some_alike names ops (cc) in
      cc

module _ (t : TraceValue) (ok : IsTrace t) where
  process_found : (p : Process) → Contains t.processes p → process_named t p.name ≡ Some p
  process_found p listed =
      finds (λ (x : Process). bytes_eq x.name p.name) t.processes p (bytes_same p.name p.name refl)
      (λ x c same. same_from_key (λ (y : Process). y.name) t.processes ok.distinct x p c listed (same_bytes x.name p.name same)) listed

  -- the operations of a process from some place on
  behind : (p : Process) → Contains t.processes p → (front rest : List Op) (a : ℕ) → a ≡ suc (length front) → p.operations ≡ front ++ rest →
      map (operation_at t) (map (λ k. record { process = p.name; place = k }) (range_with_len a (length rest))) ≡ map Some rest
  behind p listed front [] a at parts = refl
  behind p listed front (op ∷ rest) a at parts =
      let here : operation_at t (record { process = p.name; place = a }) ≡ Some op = ap (option_and_then (λ (x : Process). at_place x.operations a)) (process_found p listed) ∙ ap (at_place p.operations) at ∙ ap (λ l. slice_get l (length front)) parts ∙ get_behind front op rest in
      let long = length-append front (op ∷ []) in
      let more = behind p listed (front ++ op ∷ []) rest (a + 1) (omega (arith, at, long)) (parts ∙ sym (append_assoc front (op ∷ []) rest)) in
      λ i. here i ∷ more i

  operations_from : (ps : List Process) → ((p : Process) → Contains ps p → Contains t.processes p) → map (operation_at t) (flat_map (λ p. first_names p.name (length p.operations)) ps) ≡ map Some (operations_in ps)
  operations_from [] all = refl
  operations_from (p ∷ ps) all =
      let first = behind p (all p (head_in p ps)) [] p.operations 1 refl refl in
      let more = operations_from ps (λ x c. all x (tail_in p ps x c)) in
      map-append (operation_at t) (first_names p.name (length p.operations)) (flat_map (λ (x : Process). first_names x.name (length x.operations)) ps) ∙ (λ i. first i ++ more i) ∙ sym (map-append Some p.operations (operations_in ps))

  pub named_operations : map (operation_at t) (operation_names t) ≡ map Some (operations_in t.processes)
  named_operations = operations_from t.processes (λ p c. c)

  names_in_order : AllPairs (IsEarlierName t.processes) (operation_names t)
  names_in_order =
      pairs_flat (λ (p r : Process). order_of t.processes p.name < order_of t.processes r.name) (IsEarlierName t.processes) (λ (p : Process). first_names p.name (length p.operations)) t.processes (processes_rise t.processes ok.distinct)
      (λ p c. names_rise t.processes p.name 1 (length p.operations))
      (λ p r c d less m n e f. (
      let first = from_first p.name (length p.operations) m e in
      let second = from_first r.name (length r.operations) n f in
      let a : order_of t.processes m.process ≡ order_of t.processes p.name = ap (order_of t.processes) first.0 in
      let b : order_of t.processes n.process ≡ order_of t.processes r.name = ap (order_of t.processes) second.0 in
      inl (omega (arith, less, a, b))))

  earlier_differs : (m n : OpName) → IsEarlierName t.processes m n → m ≢ n
  earlier_differs m n (inl less) e = (let same : order_of t.processes m.process ≡ order_of t.processes n.process = ap (λ (x : OpName). order_of t.processes x.process) e in omega (arith, less, same))
  earlier_differs m n (inr less) e = (let same : m.place ≡ n.place = ap (λ (x : OpName). x.place) e in let lower = less.1 in omega (arith, lower, same))

  pub names_apart : AllPairs (λ (m n : OpName). m ≢ n) (operation_names t)
  names_apart i j d low most = earlier_differs _ _ (names_in_order i j d low most)

  module _ (location : List ℕ) (value : ℕ) where
    abbrev wanting : List OpName
    wanting = filter (is_wanting t location value) (operation_names t)

    abbrev leaving : List OpName
    leaving = filter (λ n. is_held (value_left_at t location n) value) (operation_names t)

    abbrev end_alone : Bool → List NeedsSource
    end_alone b = if b then End location ∷ [] else []

    end_apart : (b : Bool) → AllPairs (λ (x y : NeedsSource). x ≢ y) (end_alone b)
    end_apart true i j d low most = absurd (omega (arith, low, most))
    end_apart false i j d low most = absurd (omega (arith, low, most))

    is_end : (b : Bool) (y : NeedsSource) → Contains (end_alone b) y → (y ≡ End location) × (b ≡ true)
    is_end true y c = elim (cases_in (End location) [] y c) [
      | inl e ↦ (sym e, refl)
      | inr d ↦ absurd (none_in y d)
    ]
    is_end false y c = absurd (none_in y c)

    distinct_needs : AllPairs (λ (x y : NeedsSource). x ≢ y) (needs_of t location value)
    distinct_needs =
        pairs_joined (λ (x y : NeedsSource). x ≢ y) (map Update wanting) (end_alone (is_end_wanting t location value))
        (pairs_mapped (λ (m n : OpName). m ≢ n) (λ (x y : NeedsSource). x ≢ y) Update wanting (AllPairs-filter (λ (m n : OpName). m ≢ n) (is_wanting t location value) (operation_names t) names_apart)
        (λ m n c d other same. other (let is : m ≡ n = cc in is)))
        (end_apart (is_end_wanting t location value))
        (λ x y c d same. (
        let update = from_map Update wanting x c in
        let last = is_end (is_end_wanting t location value) y d in
        let clash : Update update.0 ≡ End location = update.2 ∙ same ∙ last.0 in
        absurd (cc)))

    abbrev start_alone : Bool → List ValueSource
    start_alone b = if b then InitialAt location ∷ [] else []

    known_writer : (w : OpName) → (o : Option Op) → operation_at t w ≡ o → option_and_then (left_by location) o ≡ Some value → IsSome (operation_at t w)
    known_writer w None e h = absurd (cc)
    known_writer w (Some op) e h = ap is_some e

    writer_listed : (w : OpName) → value_left_at t location w ≡ Some value → Contains (sources_of t location value) (LeftBy w)
    writer_listed w h =
        Contains-append_left (map LeftBy leaving) (start_alone (is_held (value_of t.initial location) value)) (LeftBy w)
        (to_map LeftBy leaving w (to_filter (λ n. is_held (value_left_at t location n) value) (operation_names t) w (same_held (value_left_at t location w) value h) (known_listed t w (known_writer w (operation_at t w) refl h))))

    start_there : (b : Bool) → b ≡ true → Contains (start_alone b) (InitialAt location)
    start_there true e = head_in (InitialAt location) []
    start_there false e = absurd (cc)

    initial_listed : value_of t.initial location ≡ Some value → Contains (sources_of t location value) (InitialAt location)
    initial_listed h = Contains-append_right (map LeftBy leaving) (start_alone (is_held (value_of t.initial location) value)) (InitialAt location) (start_there (is_held (value_of t.initial location) value) (same_held (value_of t.initial location) value h))

    read_there : (op : Op) (b : Bool) → bytes_eq (location_of op) location ≡ b → cond b (value_read op) None ≡ Some value → (location_of op ≡ location) × (value_read op ≡ Some value)
    read_there op true e h = (same_bytes (location_of op) location e, h)
    read_there op false e h = absurd (cc)

    reader_at : (r : OpName) (o : Option Op) → operation_at t r ≡ o → option_and_then (read_by location) o ≡ Some value → (op : Op) × (operation_at t r ≡ Some op) × (location_of op ≡ location) × (value_read op ≡ Some value)
    reader_at r None e h = absurd (cc)
    reader_at r (Some op) e h = let at = read_there op (bytes_eq (location_of op) location) refl h in (op, e, at.0, at.1)

    update_bars : (r : OpName) → is_wanting t location value r ≡ true → BarsAllBut t [] (sources_of t location value) (Update r)
    update_bars r h =
        let parts = and_parts (is_held (value_read_at t location r) value) (is_writer t location r) h in
        let at = reader_at r (operation_at t r) refl (held_same (value_read_at t location r) value parts.0) in (
          (location, parts.1),
          record {
            op = at.0;
            value = value;
            known = at.1;
            reads = at.3;
            writers = λ w leaves allowed. inr (writer_listed w (subst (λ l. value_left_at t l w ≡ Some value) at.2 leaves));
            initial = λ held allowed. inr (subst (λ l. Contains (sources_of t location value) (InitialAt l)) (sym at.2) (initial_listed (subst (λ l. value_of t.initial l ≡ Some value) at.2 held)));
          },
        )

    end_bars : is_end_wanting t location value ≡ true → BarsAllBut t [] (sources_of t location value) (End location)
    end_bars h =
        let parts = and_parts (is_held (value_of t.final_values location) value) (list_any (is_writer t location) (operation_names t)) h in
        let held = held_same (value_of t.final_values location) value parts.0 in
        let writer = some_passes (is_writer t location) (operation_names t) parts.1 in
        record {
          writer = writer.0;
          writes = writer.2;
          writers = λ w e leaves only. inr (writer_listed w (leaves ∙ ap Some (sym (only value held))));
        }

    each_bars : (x : NeedsSource) → Contains (needs_of t location value) x → BarsAllBut t [] (sources_of t location value) x
    each_bars x c =
        elim (Contains-append_cases (map Update wanting) (end_alone (is_end_wanting t location value)) x c) [
          | inl d ↦ (let at = from_map Update wanting x d in subst (λ y. BarsAllBut t [] (sources_of t location value) y) at.2 (update_bars at.0 (from_filter (is_wanting t location value) (operation_names t) at.0 at.1).1))
          | inr d ↦ (let last = is_end (is_end_wanting t location value) x d in subst (λ y. BarsAllBut t [] (sources_of t location value) y) (sym last.0) (end_bars last.1))
        ]

    pub too_few : AreTooFew t location value → HoldsOfSchedules t []
    too_few less names legal = counted t names legal [] (needs_of t location value) (sources_of t location value) (record { distinct = distinct_needs; bars = each_bars; more = less })

    -- the counts are those of the tally
    module _ (tally : Tally) (h : IsTallyOf location value (operations_in t.processes) tally) where
      alone_length : (b : Bool) → length (end_alone b) ≡ cond {A = ℕ} b 1 0
      alone_length true = refl
      alone_length false = refl

      start_length : (b : Bool) → length (start_alone b) ≡ cond {A = ℕ} b 1 0
      start_length true = refl
      start_length false = refl

      pub needs_counted : length (needs_of t location value) ≡ tally.wanting + cond {A = ℕ} (is_held (value_of t.final_values location) value && tally.is_written) 1 0
      needs_counted =
          let end = is_end_wanting t location value in
          let long : length (needs_of t location value) ≡ length (map Update wanting) + length (end_alone end) = length-append (map Update wanting) (end_alone end) in
          let mapped : length (map Update wanting) ≡ length wanting = length-map wanting Update in
          let updates : length wanting ≡ tally.wanting = counted_alike t (is_wanting t location value) (does_want location value) (λ n op e. ap (λ o. is_held (option_and_then (read_by location) o) value && is_some (option_and_then (left_by location) o)) e) (operation_names t) (operations_in t.processes) named_operations ∙ sym h.wanting in
          let written : list_any (is_writer t location) (operation_names t) ≡ tally.is_written = some_alike t (is_writer t location) (does_write location) (λ n op e. ap (λ o. is_some (option_and_then (left_by location) o)) e) (operation_names t) (operations_in t.processes) named_operations ∙ sym h.is_written in
          let one : length (end_alone end) ≡ cond {A = ℕ} (is_held (value_of t.final_values location) value && tally.is_written) 1 0 = alone_length end ∙ ap (λ b. cond {A = ℕ} (is_held (value_of t.final_values location) value && b) 1 0) written in
          omega (arith, long, mapped, updates, one)

      pub sources_counted : length (sources_of t location value) ≡ tally.leaving + cond {A = ℕ} (is_held (value_of t.initial location) value) 1 0
      sources_counted =
          let start = is_held (value_of t.initial location) value in
          let long : length (sources_of t location value) ≡ length (map LeftBy leaving) + length (start_alone start) = length-append (map LeftBy leaving) (start_alone start) in
          let mapped : length (map LeftBy leaving) ≡ length leaving = length-map leaving LeftBy in
          let writers : length leaving ≡ tally.leaving = counted_alike t (λ n. is_held (value_left_at t location n) value) (does_leave location value) (λ n op e. ap (λ o. is_held (option_and_then (left_by location) o) value) e) (operation_names t) (operations_in t.processes) named_operations ∙ sym h.leaving in
          let one = start_length start in
          omega (arith, long, mapped, writers, one)
