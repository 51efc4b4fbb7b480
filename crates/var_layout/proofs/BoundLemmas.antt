-- An upper bound of the number of variables.
use Rattle.std.proofs.Common.{◌≡◌, ℕ, suc, ◌+◌, ◌*◌, ◌^◌, ◌<◌, ◌≤◌, List, [], ◌∷◌, length, map, take, Bool, true, false, refl, ap, sym, ◌∙◌, arith, get_or, eqb, ◌++◌}
use Rattle.std.specs.Prelude.{slice_get, Option, Some, None, is_some, not, max, ◌≢◌, ◌==◌, ◌&&◌, if◌then◌else◌}
use Rattle.std.specs.List.{All, enumerate_from, filter, flat_map, range_with_len, sum_by}
use Rattle.std.specs.Option.{option_map_or, option_and_then}
use Rattle.std.proofs.lemmas.Nat.{mul-le}
use Rattle.std.proofs.lemmas.List.FromFn.{length-range_with_len, length-enumerate_from}
use Rattle.std.proofs.lemmas.List.Sums.{sum_by-cons, sum_by-le, sum_by-take-le, sum_by_more}
use Rattle.std.proofs.lemmas.List.Elements.{Contains-append_left, Contains-append_right}
use Rattle.std.proofs.lemmas.Bool.{eqb-true, eqb-false, and_parts, or_from}
use Rattle.std.proofs.lemmas.Option.{slice_get-get_or}
use Rattle.std.specs.Str.{bytes_eq}
use Rattle.text_lines.proofs.ListLemmas.{few_pass}
use Rattle.trace_semantics.proofs.NameLemmas.{same_bytes}
use Rattle.trace_semantics.proofs.DistinctLemmas.{few_named}
use Rattle.trace_semantics.specs.declared.operation.Op.{Op}
use Rattle.trace_semantics.specs.Operation.{location_of}
use Rattle.trace_semantics.specs.declared.trace.Process.{Process}
use Rattle.trace_semantics.specs.Judgement.{is_held}
use Rattle.trace_semantics.specs.Locations.{distinct, holds_name}
use Rattle.trace_semantics.specs.Trace.{TraceValue, IsTrace, IsOneEach, value_of, locations_of, location_count, operation_count}
use Rattle.var_layout.specs.declared.candidate.Candidate.{Candidate}
use Rattle.var_layout.specs.declared.candidate.ReadsFromChoice.{ReadsFromChoice}
use Rattle.var_layout.specs.declared.candidate.Candidate.TheVariants.{Writer}
use Rattle.var_layout.specs.declared.candidate.FinalChoice.{FinalChoice}
use Rattle.var_layout.specs.Candidates.{candidates, sources, is_candidate}
use Rattle.var_layout.specs.ChoiceVariables.{choice_count, all_choices, first_choice, choices}
use Rattle.var_layout.specs.FinalVariables.{final_candidates, is_untouched, final_count, first_final, final_choices, void_of, variable_count}
use Rattle.var_layout.specs.Numbers.{numbers, read_at, op_at, writers, others, other_writers, left_at}
use Rattle.var_layout.specs.OrderVariables.{order_count}
use Rattle.var_layout.specs.Tables.{OpTableValue, op_table, FinalTableValue, final_table, final_table_of}
use Rattle.var_layout.proofs.ListLemmas.{sum_more}
use Rattle.var_layout.proofs.OrderLemmas.{order_small}
use Rattle.var_layout.proofs.WrittenOnceLemmas.{written_in, none_written, more_written, few_written}
use Rattle.trace_semantics.specs.declared.limits.Limits.TheVariants.{Large}
use Rattle.trace_semantics.specs.Limits.{max_locations}

length_mapped : {A B : Type 0} (f : A → B) (xs : List A) → length (map f xs) ≡ length xs
length_mapped f [] = refl
length_mapped f (x ∷ xs) = ap suc (length_mapped f xs)

pub few_writers : (t : TraceValue) (location : List ℕ) → length (writers t location) ≤ operation_count t
few_writers t location = omega (arith, few_pass (λ i. is_some (left_at t location i)) (numbers t), length-range_with_len 0 (operation_count t))

few_others_of : (t : TraceValue) (i : ℕ) (o : Option Op) → length (option_map_or (λ (op : Op). others i (writers t (location_of op))) o []) ≤ operation_count t
few_others_of t i None = omega arith
few_others_of t i (Some op) = omega (arith, few_pass (λ x. not (x == i)) (writers t (location_of op)), few_writers t (location_of op))

pub few_others : (t : TraceValue) (i : ℕ) → length (other_writers t i) ≤ operation_count t
few_others t i = few_others_of t i (op_at t i)

few_sources : (t : TraceValue) (r : ℕ) → length (sources t r) ≤ operation_count t + 1
few_sources t r = omega (arith, few_others t r, length_mapped Writer (other_writers t r))

few_candidates_of : (t : TraceValue) (r : ℕ) (o : Option Op) → length (option_map_or (λ (op : Op). filter (is_candidate t op) (sources t r)) o []) ≤ operation_count t + 1
few_candidates_of t r None = omega arith
few_candidates_of t r (Some op) = omega (arith, few_pass (is_candidate t op) (sources t r), few_sources t r)

pub few_candidates : (t : TraceValue) (r : ℕ) → length (candidates t r) ≤ operation_count t + 1
few_candidates t r = few_candidates_of t r (op_at t r)

few_if : (b : Bool) (m n : ℕ) → m ≤ n → (if b then max 1 m else 0) ≤ n + 1
few_if true m n h = omega (arith, h)
few_if false m n h = omega arith

few_choices : (t : TraceValue) (r : ℕ) → choice_count t r ≤ operation_count t + 2
few_choices t r = omega (arith, few_if (is_some (read_at t r)) (length (candidates t r)) (operation_count t + 1) (few_candidates t r))

-- a sum over the first numbers
few_in_all : (f : ℕ → ℕ) (m n : ℕ) → ((i : ℕ) → f i ≤ m) → sum_by f (range_with_len 0 n) ≤ n * m
few_in_all f m n h =
    let all : sum_by f (range_with_len 0 n) ≤ length (range_with_len 0 n) * m = sum_by-le f m (range_with_len 0 n) (λ k d l. h (get_or (range_with_len 0 n) k d)) in
    rw length-range_with_len at all

pub few_before : (t : TraceValue) (r : ℕ) → operation_count t ≤ 160 → r ≤ operation_count t → sum_by (choice_count t) (range_with_len 0 r) ≤ 25920
few_before t r few within =
    let m = operation_count t + 2 in
    let all : sum_by (choice_count t) (range_with_len 0 r) ≤ r * m = few_in_all (choice_count t) m r (few_choices t) in
    let most : r * m ≤ 160 * 162 = mul-le r m 160 162 (omega arith) (omega arith) in
    omega (arith, all, most)

-- the numbers of an operation's variables
pub few_first : (t : TraceValue) (r : ℕ) → operation_count t ≤ 160 → r ≤ operation_count t → first_choice t r ≤ 38641
few_first t r few within = omega (arith, order_small (operation_count t) few, few_before t r few within)

pub choices_fit : (t : TraceValue) (r first : ℕ) → first ≡ first_choice t r → operation_count t ≤ 160 → r < operation_count t → first + length (candidates t r) < 2 ^ 32
choices_fit t r first e few within = omega (arith, few_first t r few (omega arith), few_candidates t r, e)

length_choices : (t : TraceValue) (r : ℕ) → length (choices t r) ≡ length (candidates t r)
length_choices t r =
    let choice : ℕ × Candidate → ReadsFromChoice = λ numbered. record { candidate = numbered.1; variable = numbered.0 } in
    length_mapped choice (enumerate_from (first_choice t r) (candidates t r)) ∙ length-enumerate_from (first_choice t r) (candidates t r)

-- how many variables a table of an operation has
pub count_in_table : (t : TraceValue) (i : ℕ) (table : OpTableValue) → table ≡ op_table t i → (if table.reads then max 1 (length table.choices) else 0) ≡ choice_count t i
count_in_table t i table e =
    ap (λ (x : OpTableValue). if x.reads then max 1 (length x.choices) else 0) e ∙ ap (λ n. if is_some (read_at t i) then max 1 n else 0) (length_choices t i)

pub few_in_table : (t : TraceValue) (i : ℕ) (table : OpTableValue) → table ≡ op_table t i → operation_count t ≤ 160 → length table.choices ≤ 161
few_in_table t i table e few =
    let same : length table.choices ≡ length (candidates t i) = ap (λ (x : OpTableValue). length x.choices) e ∙ length_choices t i in
    omega (arith, same, few_candidates t i)

regroup : (a s f more : ℕ) → more ≡ s + f → a + s + 1 + f ≡ a + more + 1
regroup a s f more e = omega (arith, e)

pub next_choice : (t : TraceValue) (r : ℕ) → first_choice t r + choice_count t r ≡ first_choice t (r + 1)
next_choice t r = regroup (order_count (operation_count t)) (sum_by (choice_count t) (range_with_len 0 r)) (choice_count t r) (sum_by (choice_count t) (range_with_len 0 (r + 1))) (sum_more (choice_count t) r)

-- the first variable after those of an operation
pub next_is : (t : TraceValue) (i next count : ℕ) (table : OpTableValue) → next ≡ first_choice t i → table ≡ op_table t i → count ≡ (if table.reads then max 1 (length table.choices) else 0) → next + count ≡ first_choice t (i + 1)
next_is t i next count table e same f = (λ k. e k + f k) ∙ ap (λ n. first_choice t i + n) (count_in_table t i table same) ∙ next_choice t i

other_bytes : (x a : List ℕ) (b : Bool) → bytes_eq x a ≡ b → a ≢ x → b ≡ false
other_bytes x a true e apart = absurd (apart (sym (same_bytes x a e)))
other_bytes x a false e apart = refl

-- the names of values at different locations are as many as these
none_among : (a : List ℕ) (values : List (List ℕ × ℕ)) → All (λ (y : List ℕ × ℕ). a ≢ y.0) values → holds_name (map (λ (entry : List ℕ × ℕ). entry.0) values) a ≡ false
none_among a [] apart = refl
none_among a (y ∷ values) apart =
    or_from (bytes_eq y.0 a) (holds_name (map (λ (entry : List ℕ × ℕ). entry.0) values) a) (other_bytes y.0 a (bytes_eq y.0 a) refl (apart 0 y (omega arith)))
    (none_among a values (λ k d l. apart (suc k) d (omega arith)))

one_each_counted : (values : List (List ℕ × ℕ)) → IsOneEach values → length (distinct (map (λ (entry : List ℕ × ℕ). entry.0) values)) ≡ length values
one_each_counted [] each = refl
one_each_counted (x ∷ values) each =
    let names = map (λ (entry : List ℕ × ℕ). entry.0) values in
    ap (λ b. length (if b then distinct names else x.0 ∷ distinct names)) (none_among x.0 values (λ k d l. each 0 (suc k) d (omega arith) (omega arith)))
    ∙ ap suc (one_each_counted values (λ i j d l m. each (suc i) (suc j) d (omega arith) (omega arith)))

pub few_finals : (t : TraceValue) → IsTrace t → length t.final_values ≤ max_locations Large
few_finals t ok =
    let names = map (λ (entry : List ℕ × ℕ). entry.0) t.final_values in
    let few : length (distinct names) ≤ location_count t = few_named names (locations_of t) (λ q c. Contains-append_right (map (λ (entry : List ℕ × ℕ). entry.0) t.initial) (names ++ flat_map (λ (p : Process). map location_of p.operations) t.processes) q
    (Contains-append_left names (flat_map (λ (p : Process). map location_of p.operations) t.processes) q c)) in
    omega (arith, few, one_each_counted t.final_values ok.final_values, ok.few_locations)

pub few_leavers : (t : TraceValue) (entry : List ℕ × ℕ) → length (final_candidates t entry) ≤ operation_count t
few_leavers t entry = omega (arith, few_pass (λ w. is_held (left_at t entry.0 w) entry.1) (writers t entry.0), few_writers t entry.0)

at_most_one_more : (u : Bool) (m n : ℕ) → m ≤ n → (if u then 0 else max 1 m) ≤ 1 + n
at_most_one_more true m n h = omega arith
at_most_one_more false m n h = omega (arith, h)

few_final_count : (t : TraceValue) (entry : List ℕ × ℕ) → final_count t entry ≤ 1 + length (writers t entry.0)
few_final_count t entry = at_most_one_more (is_untouched t entry) (length (final_candidates t entry)) (length (writers t entry.0)) (few_pass (λ w. is_held (left_at t entry.0 w) entry.1) (writers t entry.0))

final_sum_by : (t : TraceValue) (values : List (List ℕ × ℕ)) → sum_by (final_count t) values ≤ length values + written_in t values
final_sum_by t [] = omega (arith, none_written t)
final_sum_by t (entry ∷ values) = omega (arith, sum_by-cons (final_count t) entry values, few_final_count t entry, final_sum_by t values, more_written t entry values)

final_sum : (t : TraceValue) → IsTrace t → operation_count t ≤ 160 → sum_by (final_count t) t.final_values ≤ 655360
final_sum t ok few = omega (arith, final_sum_by t t.final_values, few_finals t ok, few_written t ok, few)

in_all : (a b c : ℕ) → a ≤ 12720 → b ≤ 25920 → c ≤ 655360 → a + b + c ≤ 694000
in_all a b c p q r = omega arith

pub few_first_final : (t : TraceValue) (k : ℕ) → IsTrace t → operation_count t ≤ 160 → first_final t k ≤ 694001
few_first_final t k ok few =
    let front : sum_by (final_count t) (take k t.final_values) ≤ sum_by (final_count t) t.final_values = sum_by-take-le (final_count t) t.final_values k in
    let most = in_all (order_count (operation_count t)) (all_choices t) (sum_by (final_count t) (take k t.final_values)) (order_small (operation_count t) few) (few_before t (operation_count t) few (omega arith))
    (omega (arith, front, final_sum t ok few)) in
    omega (arith, most)

pub few_variables : (t : TraceValue) → IsTrace t → operation_count t ≤ 160 → variable_count t ≤ 694000
few_variables t ok few = in_all (order_count (operation_count t)) (all_choices t) (sum_by (final_count t) t.final_values) (order_small (operation_count t) few) (few_before t (operation_count t) few (omega arith)) (final_sum t ok few)

pub finals_fit : (t : TraceValue) (k first : ℕ) (entry : List ℕ × ℕ) → IsTrace t → operation_count t ≤ 160 → first ≡ first_final t k → first + length (final_candidates t entry) < 2 ^ 32
finals_fit t k first entry ok few e = omega (arith, few_first_final t k ok few, few_leavers t entry, e)

pub length_finals : (t : TraceValue) (k : ℕ) (entry : List ℕ × ℕ) → length (final_choices t k entry) ≡ length (final_candidates t entry)
length_finals t k entry =
    let choice : ℕ × ℕ → FinalChoice = λ numbered. record { writer = numbered.1; variable = numbered.0 } in
    length_mapped choice (enumerate_from (first_final t k) (final_candidates t entry)) ∙ length-enumerate_from (first_final t k) (final_candidates t entry)

pub few_in_final : (t : TraceValue) (k : ℕ) (entry : List ℕ × ℕ) (table : FinalTableValue) → table ≡ final_table_of t k entry → operation_count t ≤ 160 → length table.choices ≤ 160
few_in_final t k entry table e few =
    let same : length table.choices ≡ length (final_candidates t entry) = ap (λ (x : FinalTableValue). length x.choices) e ∙ length_finals t k entry in
    omega (arith, same, few_leavers t entry)

count_plain : (u z : Bool) (n f : ℕ) → eqb n 0 ≡ z → (u ≡ true → n ≡ 0) → (if is_some (if not u && z then Some f else None) then 1 else n) ≡ (if u then 0 else max 1 n)
count_plain true z n f e h = h refl
count_plain false true n f e h = omega (arith, eqb-true n 0 e)
count_plain false false n f e h = omega (arith, eqb-false n 0 e)

pub none_left : (p : ℕ → Bool) (ws : List ℕ) (held : Bool) → (eqb (length ws) 0 && held) ≡ true → length (filter p ws) ≡ 0
none_left p ws held e = omega (arith, few_pass p ws, eqb-true (length ws) 0 (and_parts (eqb (length ws) 0) held e).0)

count_in_final : (t : TraceValue) (k : ℕ) (entry : List ℕ × ℕ) (table : FinalTableValue) → table ≡ final_table_of t k entry → (if is_some table.void then 1 else length table.choices) ≡ final_count t entry
count_in_final t k entry table e =
    ap (λ (x : FinalTableValue). if is_some x.void then 1 else length x.choices) e
    ∙ ap (λ n. if is_some (void_of t k entry) then 1 else n) (length_finals t k entry)
    ∙ count_plain (is_untouched t entry) (length (final_candidates t entry) == 0) (length (final_candidates t entry)) (first_final t k) refl
    (none_left (λ w. is_held (left_at t entry.0 w) entry.1) (writers t entry.0) (is_held (value_of t.initial entry.0) entry.1))

pub next_final : (t : TraceValue) (k : ℕ) (entry : List ℕ × ℕ) → k < length t.final_values → entry ≡ get_or t.final_values k entry → first_final t k + final_count t entry ≡ first_final t (k + 1)
next_final t k entry within e =
    regroup (order_count (operation_count t) + all_choices t) (sum_by (final_count t) (take k t.final_values)) (final_count t entry) (sum_by (final_count t) (take (k + 1) t.final_values))
    (sum_by_more (final_count t) t.final_values k entry within ∙ ap (λ x. sum_by (final_count t) (take k t.final_values) + final_count t x) (sym e))

pub next_final_is : (t : TraceValue) (k next count : ℕ) (entry : List ℕ × ℕ) (table : FinalTableValue) → k < length t.final_values → entry ≡ get_or t.final_values k entry →
    next ≡ first_final t k → table ≡ final_table_of t k entry → count ≡ (if is_some table.void then 1 else length table.choices) → next + count ≡ first_final t (k + 1)
next_final_is t k next count entry table within here e same f = (λ i. e i + f i) ∙ ap (λ n. first_final t k + n) (count_in_final t k entry table same) ∙ next_final t k entry within here

pub table_at : (t : TraceValue) (k : ℕ) (entry : List ℕ × ℕ) → k < length t.final_values → entry ≡ get_or t.final_values k entry → final_table_of t k entry ≡ final_table t k
table_at t k entry within here =
    let at : slice_get t.final_values k ≡ Some entry = slice_get-get_or t.final_values k entry within ∙ ap Some (sym here) in
    let of : Option (List ℕ × ℕ) → FinalTableValue = λ o. record { writers = option_map_or (λ (x : List ℕ × ℕ). writers t x.0) o []; choices = option_map_or (final_choices t k) o []; void = option_and_then (void_of t k) o } in
    ap of (sym at)
