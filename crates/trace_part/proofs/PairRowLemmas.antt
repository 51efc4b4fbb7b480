-- Rows of what remains say of pairs what the names say.
use Rattle.std.proofs.Common.{◌≡◌, ◌<◌, ◌+◌, ℕ, zero, suc, List, [], ◌∷◌, ◌++◌, length, map, take, get_or, Bool, true, false, cond, not, ◌&&◌, ◌||◌, refl, ap, sym, ◌∙◌, min, arith, inl, inr, subst}
use Rattle.std.specs.Prelude.{Option, Some, IsSome, nat_lt}
use Rattle.std.specs.List.{AllPairs, Contains, filter, flat_map, list_any, slice_get}
use Rattle.std.proofs.lemmas.Bool.{cases_lt}
use Rattle.std.proofs.lemmas.Option.{slice_get-get_or}
use Rattle.std.proofs.Math.Seq.{take-length}
use Rattle.std.proofs.lemmas.List.{take_all}
use Rattle.std.proofs.lemmas.List.{length-map, map-append, map_more, take_more, get_or-map, get_or_default}
use Rattle.std.proofs.lemmas.List.Kept.{AllPairs-filter, AllPairs-cons}
use Rattle.std.proofs.lemmas.List.Elements.{Contains-get_or, filter-append}
use Rattle.trace_semantics.specs.declared.operation.Op.{Op}
use Rattle.trace_semantics.specs.declared.operation.OpName.{OpName}
use Rattle.trace_semantics.specs.declared.trace.Process.{Process}
use Rattle.trace_semantics.specs.KnownOrder.{ends_before, ended_before}
use Rattle.trace_semantics.specs.PairOrder.{order_of}
use Rattle.trace_semantics.specs.Trace.{TraceValue, IsTrace, operation_at, operation_names, first_names}
use Rattle.trace_semantics.proofs.ElementLemmas.{head_in, tail_in, from_filter, from_map, from_flat_map}
use Rattle.trace_semantics.proofs.NameLemmas.{from_first, known_named}
use Rattle.trace_part.specs.declared.left_names.LeftName.{LeftName}
use Rattle.trace_part.specs.Told.{groups_of, is_untimed, told_pairs}
use Rattle.restriction.specs.Left.{is_left, new_name, new_pair, names_of, names_from}
use Rattle.restriction.specs.PlacesLeft.{ArePlacesLeft}
use Rattle.part_law.specs.Part.{left_names, left_pairs, is_nearer, is_nearest, is_told}
use Rattle.forced_order.specs.Rows.{OrderValue, stands_by, numbered, ordered_by}
use Rattle.trace_part.specs.Rows.{LeftValue, left_value, Leaves, left_row, row_is_nearer, row_is_told, told_rows, row_at_place}
use Rattle.forced_order.proofs.TimeLemmas.{span_numbered}
use Rattle.restriction.proofs.CountLemmas.{counted}
use Rattle.restriction.proofs.LeftLemmas.{process_of}
use Rattle.restriction.proofs.OrderedPairLemmas.{all_from, pairs_nil, pairs_mapped}
use Rattle.restriction.proofs.PlaceLemmas.{in_names}
use Rattle.trace_part.proofs.RowLemmas.{order_is, same_number}
use Rattle.trace_part.proofs.ToldLemmas.{IsGroup, AreGroupsFrom, joined, told_are_rows}

-- lists that are mapped
same_map : {X Y : Type 0} (f g : X → Y) (xs : List X) → ((x : X) → Contains xs x → f x ≡ g x) → map f xs ≡ map g xs
same_map f g [] h = refl
same_map f g (x ∷ xs) h = λ i. h x (head_in x xs) i ∷ same_map f g xs (λ y c. h y (tail_in x xs y c)) i

pub map_twice : {X Y Z : Type 0} (f : Y → Z) (g : X → Y) (xs : List X) → map f (map g xs) ≡ map (λ x. f (g x)) xs
map_twice f g [] = refl
map_twice f g (x ∷ xs) = ap (λ l. f (g x) ∷ l) (map_twice f g xs)

filter_mapped : {X Y : Type 0} (q : Y → Bool) (p : X → Bool) (g : X → Y) (xs : List X) → ((x : X) → Contains xs x → q (g x) ≡ p x) → filter q (map g xs) ≡ map g (filter p xs)
filter_mapped q p g [] h = refl
filter_mapped q p g (x ∷ xs) h =
    ap (λ b. cond b (g x ∷ filter q (map g xs)) (filter q (map g xs))) (h x (head_in x xs)) ∙ at (p x) (filter_mapped q p g xs (λ y c. h y (tail_in x xs y c)))
  where
    at : (b : Bool) → filter q (map g xs) ≡ map g (filter p xs) → cond b (g x ∷ filter q (map g xs)) (filter q (map g xs)) ≡ map g (cond b (x ∷ filter p xs) (filter p xs))
    at true more = ap (λ l. g x ∷ l) more
    at false more = more

filter_twice : {X : Type 0} (q p : X → Bool) (xs : List X) → filter q (filter p xs) ≡ filter (λ x. p x && q x) xs
filter_twice q p [] = refl
filter_twice q p (x ∷ xs) = at (p x) (filter_twice q p xs)
  where
    at : (b : Bool) → filter q (filter p xs) ≡ filter (λ y. p y && q y) xs →
        filter q (cond b (x ∷ filter p xs) (filter p xs)) ≡ cond (b && q x) (x ∷ filter (λ y. p y && q y) xs) (filter (λ y. p y && q y) xs)
    at true more = ap (λ l. cond (q x) (x ∷ l) l) more
    at false more = more

any_mapped : {X Y : Type 0} (q : Y → Bool) (p : X → Bool) (g : X → Y) (xs : List X) → ((x : X) → Contains xs x → q (g x) ≡ p x) → list_any q (map g xs) ≡ list_any p xs
any_mapped q p g [] h = refl
any_mapped q p g (x ∷ xs) h = λ i. h x (head_in x xs) i || any_mapped q p g xs (λ y c. h y (tail_in x xs y c)) i

places_rise : (process : List ℕ) (low n : ℕ) → AllPairs (λ (x y : OpName). x.place < y.place) (names_from process low n)
places_rise process low zero = pairs_nil (λ (x y : OpName). x.place < y.place)
places_rise process low (suc n) =
    AllPairs-cons (λ (x y : OpName). x.place < y.place) (record { process = process; place = low }) (names_from process (low + 1) n)
    (all_from (λ (y : OpName). low < y.place) (names_from process (low + 1) n) (λ m c. let at = in_names process (low + 1) n m c in omega (arith, at.1)))
    (places_rise process (low + 1) n)

-- the places of what is left
pub places_left : (t : TraceValue) (stays : OpName → Option Op) (all : List LeftValue) (places : List (List ℕ)) → Leaves t stays all → places ≡ map (λ (left : LeftValue). left.places) all → ArePlacesLeft t stays places
places_left t stays all places given e =
    record { values = e ∙ ap (map (λ (left : LeftValue). left.places)) given.values ∙ map_twice (λ (left : LeftValue). left.places) (λ (p : Process). left_value stays (names_of p)) t.processes; known = given.known }

-- the rows of one process
pub rows_of_left : (t : TraceValue) → IsTrace t → (stays : OpName → Option Op) (all : List LeftValue) (given : Leaves t stays all) (k : ℕ) (p : Process) (left : LeftValue) → k < length t.processes → p ≡ get_or t.processes k p → left ≡ left_value stays (names_of p) →
    map (row_at_place k left.places) left.places ≡ map (left_row t stays) (filter (is_left stays) (names_of p))
rows_of_left t ok stays all given k p left l at is =
    let listed : Contains t.processes p = subst (λ q. Contains t.processes q) (sym at) (Contains-get_or t.processes k p l) in
    let found = process_of t ok p listed in
    let order : order_of t.processes p.name ≡ k = ap (λ (q : Process). order_of t.processes q.name) at ∙ order_is t.processes ok.distinct k p l in
    ap (λ (v : LeftValue). map (row_at_place k v.places) v.places) is
    ∙ map_twice (row_at_place k (left_value stays (names_of p)).places) (λ (n : OpName). n.place) (filter (is_left stays) (names_of p))
    ∙ same_map (λ (n : OpName). row_at_place k (left_value stays (names_of p)).places n.place) (left_row t stays) (filter (is_left stays) (names_of p)) (λ n c.
    let there = from_first p.name (length p.operations) n (from_filter (is_left stays) (names_of p) n c).0 in
    let number : k ≡ order_of t.processes n.process = sym order ∙ ap (order_of t.processes) (sym there.0) in
    let new = counted t stays given.known p found n.place ∙ ap (λ q. length (filter (is_left stays) (first_names q n.place))) (sym there.0) in
    λ i. record { name = record { process = number i; place = n.place }; new = new i })

-- the rows of one more process
pub more_groups : (t : TraceValue) → IsTrace t → (stays : OpName → Option Op) (all : List LeftValue) → Leaves t stays all → (k : ℕ) (left : LeftValue) (group : List LeftName) (old new : List (List LeftName)) → k < length all → left ≡ get_or all k left →
    old ≡ take k (groups_of t stays) → group ≡ map (row_at_place k left.places) left.places → new ≡ old ++ group ∷ [] → new ≡ take (k + 1) (groups_of t stays)
more_groups t ok stays all given k left group old new l at e g f =
    let long : length all ≡ length t.processes = ap length given.values ∙ length-map t.processes (λ (q : Process). left_value stays (names_of q)) in
    let inside : k < length t.processes = omega (arith, l, long) in
    let d : Process = record { name = []; operations = [] } in
    let p : Process = get_or t.processes k d in
    let same : get_or t.processes k d ≡ get_or t.processes k (get_or t.processes k d) = get_or_default t.processes k d (get_or t.processes k d) inside in
    let is : left ≡ left_value stays (names_of (get_or t.processes k d)) = at ∙ ap (λ vs. get_or vs k left) given.values ∙ get_or-map (λ (q : Process). left_value stays (names_of q)) t.processes k d left inside in
    let many : k < length (groups_of t stays) = (let m = length-map t.processes (λ (q : Process). map (left_row t stays) (filter (is_left stays) (names_of q))) in omega (arith, inside, m)) in
    let here : get_or (groups_of t stays) k group ≡ group = get_or-map (λ (q : Process). map (left_row t stays) (filter (is_left stays) (names_of q))) t.processes k d group inside ∙ sym (g ∙ rows_of_left t ok stays all given k p left inside same is) in
    f ∙ (λ i. e i ++ sym here i ∷ []) ∙ sym (take_more (groups_of t stays) k group many)

-- what rows say of pairs
module _ (t : TraceValue) (ok : IsTrace t) (order : OrderValue) (stays : OpName → Option Op) (all : List LeftValue) (given : Leaves t stays all) where
  known_left : (n : OpName) → Contains (left_names t stays) n → IsSome (operation_at t n)
  known_left n c = given.known n (from_filter (is_left stays) (operation_names t) n c).1

  told_alike : (m n : OpName) → Contains (left_names t stays) m → Contains (left_names t stays) n → row_is_told order (map (left_row t stays) (left_names t stays)) (left_row t stays m) (left_row t stays n) ≡ is_nearest t (ordered_by t order) stays (m, n)
  told_alike m n c d =
      λ i. stands_by order (numbered t.processes m) (numbered t.processes n) && (not (same_number t m n (known_left m c) (known_left n d) i)
      && not (any_mapped (row_is_nearer order (left_row t stays m) (left_row t stays n)) (is_nearer (ordered_by t order) (m, n)) (left_row t stays) (left_names t stays) (λ x e j.
      (same_number t x m (known_left x e) (known_left m c) j && (nat_lt m.place x.place && stands_by order (numbered t.processes x) (numbered t.processes n)))
      || (same_number t x n (known_left x e) (known_left n d) j && (nat_lt x.place n.place && stands_by order (numbered t.processes m) (numbered t.processes x)))) i))

  abbrev pair_row : OpName × OpName → LeftName × LeftName
  pair_row pair = (left_row t stays pair.0, left_row t stays pair.1)

  pairs_with : (m : OpName) (names : List OpName) → map (λ (y : LeftName). (left_row t stays m, y)) (map (left_row t stays) names) ≡ map pair_row (map (λ (n : OpName). (m, n)) names)
  pairs_with m [] = refl
  pairs_with m (n ∷ names) = ap (λ l. (left_row t stays m, left_row t stays n) ∷ l) (pairs_with m names)

  all_pairs : (names others : List OpName) → flat_map (λ (x : LeftName). map (λ (y : LeftName). (x, y)) (map (left_row t stays) others)) (map (left_row t stays) names) ≡ map pair_row (flat_map (λ (m : OpName). map (λ (n : OpName). (m, n)) others) names)
  all_pairs [] others = refl
  all_pairs (m ∷ names) others =
      (λ i. pairs_with m others i ++ all_pairs names others i) ∙ sym (map-append pair_row (map (λ (n : OpName). (m, n)) others) (flat_map (λ (k : OpName). map (λ (n : OpName). (k, n)) others) names))

  in_pairs : (pair : OpName × OpName) → Contains (left_pairs t stays) pair → Contains (left_names t stays) pair.0 × Contains (left_names t stays) pair.1
  in_pairs pair c =
      let first = from_flat_map (λ m. map (λ (n : OpName). (m, n)) (left_names t stays)) (left_names t stays) pair c in
      let second = from_map (λ (n : OpName). (first.0, n)) (left_names t stays) pair first.2 in
      (subst (λ n. Contains (left_names t stays) n) (ap (λ (p : OpName × OpName). p.0) second.2) first.1, subst (λ n. Contains (left_names t stays) n) (ap (λ (p : OpName × OpName). p.1) second.2) second.1)

  pub told_are : told_rows order (map (left_row t stays) (left_names t stays)) ≡ map pair_row (filter (is_nearest t (ordered_by t order) stays) (left_pairs t stays))
  told_are =
      let rows : List LeftName = map (left_row t stays) (left_names t stays) in
      ap (filter (λ (pair : LeftName × LeftName). row_is_told order (map (left_row t stays) (left_names t stays)) pair.0 pair.1)) (all_pairs (left_names t stays) (left_names t stays))
      ∙ filter_mapped (λ (pair : LeftName × LeftName). row_is_told order (map (left_row t stays) (left_names t stays)) pair.0 pair.1) (is_nearest t (ordered_by t order) stays) pair_row (left_pairs t stays) (λ pair c.
      let both = in_pairs pair c in told_alike pair.0 pair.1 both.0 both.1)

  -- the groups make up all names that remain, each of one process and in program order
  pub joined_are : (ps : List Process) → joined (map (λ (p : Process). map (left_row t stays) (filter (is_left stays) (names_of p))) ps) ≡ map (left_row t stays) (filter (is_left stays) (flat_map names_of ps))
  joined_are [] = refl
  joined_are (p ∷ ps) =
      ap (λ l. map (left_row t stays) (filter (is_left stays) (names_of p)) ++ l) (joined_are ps)
      ∙ sym (map-append (left_row t stays) (filter (is_left stays) (names_of p)) (filter (is_left stays) (flat_map names_of ps)))
      ∙ ap (map (left_row t stays)) (sym (filter-append (is_left stays) (names_of p) (flat_map names_of ps)))

  group_is : (number : ℕ) (p : Process) → order_of t.processes p.name ≡ number → IsGroup number (map (left_row t stays) (filter (is_left stays) (names_of p)))
  group_is number p e = record {
    process = λ x c. (
        let n = from_map (left_row t stays) (filter (is_left stays) (names_of p)) x c in
        let there = from_first p.name (length p.operations) n.0 (from_filter (is_left stays) (names_of p) n.0 n.1).0 in
        ap (λ (r : LeftName). r.name.process) (sym n.2) ∙ ap (order_of t.processes) there.0 ∙ e);
    rising = pairs_mapped (λ (m n : OpName). m.place < n.place) (λ (x y : LeftName). x.name.place < y.name.place) (left_row t stays) (filter (is_left stays) (names_of p))
        (AllPairs-filter (λ (m n : OpName). m.place < n.place) (is_left stays) (names_of p) (places_rise p.name 1 (length p.operations))) (λ m n c d l. l);
  }

  groups_from : (number : ℕ) (ps : List Process) → ((k : ℕ) (d : Process) → k < length ps → order_of t.processes (get_or ps k d).name ≡ number + k) → AreGroupsFrom number (map (λ (p : Process). map (left_row t stays) (filter (is_left stays) (names_of p))) ps)
  groups_from number [] h = tt
  groups_from number (p ∷ ps) h =
      let first : number + 0 ≡ number = omega arith in
      (group_is number p (h 0 p (omega arith) ∙ first), groups_from (number + 1) ps (λ k d l. (let e = h (suc k) d (omega (arith, l)) in let f : number + suc k ≡ number + 1 + k = omega arith in e ∙ f)))

  pub groups_are : AreGroupsFrom 0 (groups_of t stays)
  groups_are = groups_from 0 t.processes (λ k d l. (let e : k ≡ 0 + k = omega arith in order_is t.processes ok.distinct k d l ∙ e))

  nearest_by_groups : told_pairs order (groups_of t stays) ≡ map pair_row (filter (is_nearest t (ordered_by t order) stays) (left_pairs t stays))
  nearest_by_groups =
      told_are_rows order (groups_of t stays) 0 groups_are
      ∙ ap (told_rows order) (joined_are t.processes)
      ∙ told_are

  -- times say of rows what they say of names
  untimed_alike : (pair : OpName × OpName) → is_untimed t.processes (pair_row pair) ≡ not (ended_before t pair.0 pair.1)
  untimed_alike pair i = not (ends_before (sym (span_numbered t pair.0) i) (sym (span_numbered t pair.1) i))

  pub told_by_groups : filter (is_untimed t.processes) (told_pairs order (groups_of t stays)) ≡ map pair_row (filter (is_told t (ordered_by t order) stays) (left_pairs t stays))
  told_by_groups =
      ap (filter (is_untimed t.processes)) nearest_by_groups
      ∙ filter_mapped (is_untimed t.processes) (λ (pair : OpName × OpName). not (ended_before t pair.0 pair.1)) pair_row (filter (is_nearest t (ordered_by t order) stays) (left_pairs t stays)) (λ pair c. untimed_alike pair)
      ∙ ap (map pair_row) (filter_twice (λ (pair : OpName × OpName). not (ended_before t pair.0 pair.1)) (is_nearest t (ordered_by t order) stays) (left_pairs t stays))

  -- the name of a row
  named_at : (n : OpName) → IsSome (operation_at t n) → (p : Process) × (slice_get t.processes (order_of t.processes n.process) ≡ Some p) × (p.name ≡ n.process)
  named_at n h =
      let at = known_named t n h in
      let i = at.listed.0 in
      let d : Process = get_or t.processes at.listed.0 at.process in
      let order : order_of t.processes n.process ≡ at.listed.0 = ap (order_of t.processes) (sym at.called) ∙ ap (λ (q : Process). order_of t.processes q.name) (sym at.listed.2) ∙ order_is t.processes ok.distinct at.listed.0 at.process at.listed.1 in
      (at.process, ap (slice_get t.processes) order ∙ slice_get-get_or t.processes at.listed.0 at.process at.listed.1 ∙ ap Some at.listed.2, at.called)

  row_named : (n new : OpName) → IsSome (operation_at t n) → ((p : Process) → slice_get t.processes (left_row t stays n).name.process ≡ Some p → new ≡ record { process = p.name; place = (left_row t stays n).new }) → new ≡ new_name stays n
  row_named n new h given_name =
      let at = named_at n h in
      given_name at.0 at.1 ∙ (λ i. record { process = at.2 i; place = (new_name stays n).place })

  abbrev told : List (OpName × OpName)
  told = filter (is_told t (ordered_by t order) stays) (left_pairs t stays)

  -- one more pair
  pub one_more_told : (few : List (LeftName × LeftName)) (k : ℕ) (row : LeftName × LeftName) (first second : OpName) (old new : List (OpName × OpName)) → few ≡ map pair_row told → k < length few →
      ((p : Process) → slice_get t.processes (get_or few k row).0.name.process ≡ Some p → first ≡ record { process = p.name; place = (get_or few k row).0.new }) →
      ((p : Process) → slice_get t.processes (get_or few k row).1.name.process ≡ Some p → second ≡ record { process = p.name; place = (get_or few k row).1.new }) →
      old ≡ map (new_pair stays) (take k told) → new ≡ old ++ (first, second) ∷ [] → new ≡ map (new_pair stays) (take (k + 1) told)
  one_more_told few k row first second old new are l named_first named_second e f =
      let long : length few ≡ length told = ap length are ∙ length-map told pair_row in
      let inside : k < length told = omega (arith, l, long) in
      let none : OpName = record { process = []; place = 0 } in
      let pair : OpName × OpName = get_or told k (none, none) in
      let there : Contains (left_pairs t stays) pair = (from_filter (is_told t (ordered_by t order) stays) (left_pairs t stays) pair (Contains-get_or told k (none, none) inside)).0 in
      let both = in_pairs pair there in
      let row_is : get_or few k row ≡ pair_row pair = ap (λ rs. get_or rs k row) are ∙ get_or-map pair_row told k (none, none) row inside in
      let first_is : first ≡ new_name stays pair.0 = row_named pair.0 first (known_left pair.0 both.0) (subst (λ (r : LeftName × LeftName). (p : Process) → slice_get t.processes r.0.name.process ≡ Some p → first ≡ record { process = p.name; place = r.0.new }) row_is named_first) in
      let second_is : second ≡ new_name stays pair.1 = row_named pair.1 second (known_left pair.1 both.1) (subst (λ (r : LeftName × LeftName). (p : Process) → slice_get t.processes r.1.name.process ≡ Some p → second ≡ record { process = p.name; place = r.1.new }) row_is named_second) in
      f ∙ (λ i. e i ++ (first_is i, second_is i) ∷ []) ∙ sym (map_more (new_pair stays) told k (none, none) inside)

  pub told_in_all : (few : List (LeftName × LeftName)) (count : ℕ) → few ≡ map pair_row told → count ≡ min (length few) 4096 → map (new_pair stays) (take count told) ≡ map (new_pair stays) (take 4096 told)
  told_in_all few count are e =
      let long : length few ≡ length told = ap length are ∙ length-map told pair_row in
      ap (map (new_pair stays)) (elim (cases_lt (length told) 4096) [
        | inl less ↦ (let here : count ≡ length told = omega (arith, e, long, less) in ap (λ k. take k told) here ∙ take-length told ∙ sym (take_all 4096 told (omega (arith, less))))
        | inr other ↦ (let here : count ≡ 4096 = omega (arith, e, long, other) in ap (λ k. take k told) here)
      ])
