-- Choices, final choices and void variables are of the variables that a trace has.
use Rattle.std.proofs.Common.{◌≡◌, ℕ, zero, suc, ◌+◌, ◌-◌, ◌<◌, ◌≤◌, List, [], ◌∷◌, length, map, take, Bool, true, false, refl, ap, sym, ◌∙◌, arith, inl, inr, subst, add-zero}
use Rattle.std.specs.Prelude.{Option, Some, None, is_some, max, not, ◌==◌, ◌&&◌, ◌≢◌, if◌then◌else◌, slice_get}
use Rattle.std.specs.List.{Contains, enumerate_from, filter, range_with_len, sum_by}
use Rattle.std.specs.Option.{option_and_then, option_map_or}
use Rattle.std.proofs.lemmas.Bool.{cases_lt, and_parts, not-true}
use Rattle.std.proofs.lemmas.List.Sums.{sum_by-take-le}
use Rattle.std.proofs.lemmas.Option.{slice_get_within, get_or_from_slice_get}
use Rattle.dimacs.specs.Literal.{is_literal_up_to}
use Rattle.trace_semantics.specs.declared.operation.Op.{Op}
use Rattle.trace_semantics.specs.Judgement.{is_held}
use Rattle.trace_semantics.specs.Operation.{location_of, value_read, origin_of}
use Rattle.trace_semantics.specs.Trace.{TraceValue, value_of, operation_count}
use Rattle.trace_semantics.proofs.ElementLemmas.{none_in, cases_in, from_map, from_filter}
use Rattle.restriction.proofs.PlaceLemmas.{in_list}
use Rattle.var_layout.specs.declared.candidate.Candidate.{Candidate}
use Rattle.var_layout.specs.declared.candidate.Candidate.TheVariants.{InitialValue, Writer}
use Rattle.var_layout.specs.declared.candidate.ReadsFromChoice.{ReadsFromChoice}
use Rattle.var_layout.specs.declared.candidate.FinalChoice.{FinalChoice}
use Rattle.var_layout.specs.declared.layout.ReadsFromOwner.{ReadsFromOwner}
use Rattle.var_layout.specs.declared.layout.ReadsFromOwner.TheVariants.{Read, Final}
use Rattle.var_layout.specs.Candidates.{candidates, sources, is_candidate, is_read, is_allowed, value_from}
use Rattle.var_layout.specs.ChoiceVariables.{choice_count, all_choices, first_choice, choices, void_choice}
use Rattle.var_layout.specs.FinalVariables.{final_candidates, is_untouched, final_count, first_final, final_choices, finals, void_of, variable_count}
use Rattle.var_layout.specs.Numbers.{numbers, op_at, read_at, left_at, readers, writers, other_writers}
use Rattle.var_layout.specs.OrderVariables.{order_count, order_lit}
use Rattle.var_layout.specs.Ranges.{IsVariable, HasLiterals}
use Rattle.var_layout.specs.Tables.{final_writers}
use Rattle.var_layout.specs.VoidVariables.{void_variable}
use Rattle.var_layout.proofs.BoundLemmas.{next_choice, next_final, none_left}
use Rattle.var_layout.proofs.LayoutLemmas.{read_past}
use Rattle.var_layout.proofs.ListLemmas.{sum_more}
use Rattle.var_layout.proofs.NumberingLemmas.{at_enumerated}
use Rattle.var_layout.proofs.OrderLemmas.{positive, negative, order_literal_up_to}

pub have_literals : (t : TraceValue) (v : ℕ) → IsVariable t v → HasLiterals t v
have_literals t v (low, high) = (positive (variable_count t) v low high, negative (variable_count t) v low high)

pub orders_over : (t : TraceValue) (i j : ℕ) → i ≢ j → i < operation_count t → j < operation_count t → is_literal_up_to (variable_count t) (order_lit (operation_count t) i j) ≡ true
orders_over t i j = order_literal_up_to (variable_count t) (operation_count t) i j (front (order_count (operation_count t)) (all_choices t) (sum_by (final_count t) t.final_values))
  where
    front : (a b c : ℕ) → a ≤ a + b + c
    front a b c = omega arith

-- sums over more numbers are no less
sum_grows : (f : ℕ → ℕ) (r m : ℕ) → sum_by f (range_with_len 0 r) ≤ sum_by f (range_with_len 0 (r + m))
sum_grows f r zero = let same : r ≡ r + zero = omega arith in omega (arith, ap (λ n. sum_by f (range_with_len 0 n)) same)
sum_grows f r (suc m) =
    let same : r + suc m ≡ (r + m) + 1 = omega arith in
    omega (arith, sum_grows f r m, sum_more f (r + m), ap (λ n. sum_by f (range_with_len 0 n)) same)

sum_within : (f : ℕ → ℕ) (r n : ℕ) → r ≤ n → sum_by f (range_with_len 0 r) ≤ sum_by f (range_with_len 0 n)
sum_within f r n l =
    let same : r + (n - r) ≡ n = omega arith in
    omega (arith, sum_grows f r (n - r), ap (λ m. sum_by f (range_with_len 0 m)) same)

-- a place among the variables of one of many
within_all : (a s b c f count k : ℕ) → f ≡ a + s + 1 → f + count ≤ a + b + 1 → k < count → (1 ≤ f + k) × (f + k ≤ a + b + c)
within_all a s b c f count k e l h = (omega (arith, e), omega (arith, l, h))

choice_within : (t : TraceValue) (r k : ℕ) → r < operation_count t → k < choice_count t r → IsVariable t (first_choice t r + k)
choice_within t r k l h =
    let a = order_count (operation_count t) in
    let s = sum_by (choice_count t) (range_with_len 0 r) in
    let grown : sum_by (choice_count t) (range_with_len 0 (r + 1)) ≤ all_choices t = sum_within (choice_count t) (r + 1) (operation_count t) (omega (arith, l)) in
    within_all a s (all_choices t) (sum_by (final_count t) t.final_values) (first_choice t r) (choice_count t r) k refl (omega (arith, next_choice t r, grown)) h

-- a reading operation is one of the trace
reader_within : (t : TraceValue) (r : ℕ) → is_some (read_at t r) ≡ true → r < operation_count t
reader_within t r h =
    elim (cases_lt r (operation_count t)) [
      | inl l ↦ l
      | inr l ↦ absurd (let clash : true ≡ false = sym h ∙ ap is_some (read_past t r l) in cc)
    ]

reads_some : (value read : Option ℕ) → is_read value read ≡ true → is_some read ≡ true
reads_some None read h = absurd (cc)
reads_some (Some d) None h = absurd (cc)
reads_some (Some d) (Some e) h = refl

-- a candidate is of a reading operation, and is one of its sources
candidate_of : (t : TraceValue) (r : ℕ) (o : Option Op) (c : Candidate) → Contains (option_map_or (λ (op : Op). filter (is_candidate t op) (sources t r)) o []) c → (is_some (option_and_then value_read o) ≡ true) × Contains (sources t r) c
candidate_of t r None c h = absurd (none_in c h)
candidate_of t r (Some op) c h =
    let at = from_filter (is_candidate t op) (sources t r) c h in
    (reads_some (value_from t (location_of op) c) (value_read op) (and_parts (is_read (value_from t (location_of op) c) (value_read op)) (is_allowed t (origin_of op) c) at.1).0, at.0)

some_writer : (w : ℕ) (ws : List ℕ) → Contains (InitialValue ∷ map (λ x. Writer x) ws) (Writer w) → Contains ws w
some_writer w ws h =
    elim (cases_in InitialValue (map (λ x. Writer x) ws) (Writer w) h) [
      | inl e ↦ absurd (cc)
      | inr d ↦ (let at = from_map (λ x. Writer x) ws (Writer w) d in let same : at.0 ≡ w = (let e = at.2 in cc) in subst (λ x. Contains ws x) same at.1)
    ]

record Chosen (t : TraceValue) (r : ℕ) (c : ReadsFromChoice) : Type 0 where
  pub place : ℕ
  pub below : place < length (candidates t r)
  pub variable : c.variable ≡ first_choice t r + place
  pub candidate : Contains (candidates t r) c.candidate

chosen : (t : TraceValue) (r : ℕ) (c : ReadsFromChoice) → Contains (choices t r) c → Chosen t r c
chosen t r c h =
    let choice : ℕ × Candidate → ReadsFromChoice = λ numbered. record { candidate = numbered.1; variable = numbered.0 } in
    let from = from_map choice (enumerate_from (first_choice t r) (candidates t r)) c h in
    let at = at_enumerated (first_choice t r) (candidates t r) from.0 from.1 in
    record {
      place = at.0;
      below = slice_get_within (candidates t r) at.0 from.0.1 at.2;
      variable = ap (λ (x : ReadsFromChoice). x.variable) (sym from.2) ∙ at.1;
      candidate = subst (λ (x : ReadsFromChoice). Contains (candidates t r) x.candidate) from.2 (in_list (candidates t r) (suc at.0) from.0.1 at.2);
    }

count_reaches : (b : Bool) (n k : ℕ) → b ≡ true → k < max 1 n → k < (if b then max 1 n else 0)
count_reaches true n k e l = l
count_reaches false n k e l = absurd (cc)

pub choice_over : (t : TraceValue) (r : ℕ) (c : ReadsFromChoice) → Contains (choices t r) c → IsVariable t c.variable
choice_over t r c h =
    let at = chosen t r c h in
    let reads = (candidate_of t r (op_at t r) c.candidate at.candidate).0 in
    subst (IsVariable t) (sym at.variable) (choice_within t r at.place (reader_within t r reads) (count_reaches (is_some (read_at t r)) (length (candidates t r)) at.place reads (let below = at.below in omega (arith, below))))

pub choice_writer : (t : TraceValue) (r : ℕ) (c : ReadsFromChoice) (w : ℕ) → Contains (choices t r) c → c.candidate ≡ Writer w → Contains (other_writers t r) w
choice_writer t r c w h e =
    let at = chosen t r c h in
    some_writer w (other_writers t r) (subst (Contains (sources t r)) e (candidate_of t r (op_at t r) c.candidate at.candidate).1)

first_over : (t : TraceValue) (r : ℕ) → is_some (read_at t r) ≡ true → IsVariable t (first_choice t r)
first_over t r reads = subst (IsVariable t) (add-zero (first_choice t r)) (choice_within t r 0 (reader_within t r reads) (count_reaches (is_some (read_at t r)) (length (candidates t r)) 0 reads (omega arith)))

pub reader_over : (t : TraceValue) (r : ℕ) → Contains (readers t) r → IsVariable t (first_choice t r)
reader_over t r h = first_over t r (from_filter (λ i. is_some (read_at t i)) (numbers t) r h).1

record Picked (b : Bool) (f v : ℕ) : Type 0 where
  pub test : b ≡ true
  pub same : f ≡ v

picked : (b : Bool) (f v : ℕ) → (if b then Some f else None) ≡ Some v → Picked b f v
picked true f v e = record { test = refl; same = cc }
picked false f v e = absurd (cc)

void_choice_over : (t : TraceValue) (r v : ℕ) → void_choice t r ≡ Some v → IsVariable t v
void_choice_over t r v e =
    let at = picked (is_some (read_at t r) && (length (candidates t r) == 0)) (first_choice t r) v e in
    subst (IsVariable t) at.same (first_over t r (and_parts (is_some (read_at t r)) (length (candidates t r) == 0) at.test).0)

-- final values
final_within : (t : TraceValue) (k j : ℕ) (entry : List ℕ × ℕ) → slice_get t.final_values k ≡ Some entry → j < final_count t entry → IsVariable t (first_final t k + j)
final_within t k j entry e h =
    let a = order_count (operation_count t) + all_choices t in
    let s = sum_by (final_count t) (take k t.final_values) in
    let next = next_final t k entry (slice_get_within t.final_values k entry e) (sym (get_or_from_slice_get t.final_values k entry entry e)) in
    let grown : sum_by (final_count t) (take (k + 1) t.final_values) ≤ sum_by (final_count t) t.final_values = sum_by-take-le (final_count t) t.final_values (k + 1) in
    let over = within_all a s (sum_by (final_count t) t.final_values) 0 (first_final t k) (final_count t entry) j refl (omega (arith, next, grown)) h in
    (over.0, let high = over.1 in omega (arith, high))

reaches_final : (u : Bool) (n j : ℕ) → (u ≡ true → n ≡ 0) → j < n → j < (if u then 0 else max 1 n)
reaches_final true n j none l = omega (arith, none refl, l)
reaches_final false n j none l = omega (arith, l)

record FinalChosen (t : TraceValue) (k : ℕ) (entry : List ℕ × ℕ) (c : FinalChoice) : Type 0 where
  pub place : ℕ
  pub below : place < length (final_candidates t entry)
  pub variable : c.variable ≡ first_final t k + place
  pub candidate : Contains (final_candidates t entry) c.writer

final_chosen : (t : TraceValue) (k : ℕ) (entry : List ℕ × ℕ) (c : FinalChoice) → Contains (final_choices t k entry) c → FinalChosen t k entry c
final_chosen t k entry c h =
    let choice : ℕ × ℕ → FinalChoice = λ numbered. record { writer = numbered.1; variable = numbered.0 } in
    let from = from_map choice (enumerate_from (first_final t k) (final_candidates t entry)) c h in
    let at = at_enumerated (first_final t k) (final_candidates t entry) from.0 from.1 in
    record {
      place = at.0;
      below = slice_get_within (final_candidates t entry) at.0 from.0.1 at.2;
      variable = ap (λ (x : FinalChoice). x.variable) (sym from.2) ∙ at.1;
      candidate = subst (λ (x : FinalChoice). Contains (final_candidates t entry) x.writer) from.2 (in_list (final_candidates t entry) (suc at.0) from.0.1 at.2);
    }

final_over_at : (t : TraceValue) (k : ℕ) (c : FinalChoice) (o : Option (List ℕ × ℕ)) → slice_get t.final_values k ≡ o → Contains (option_map_or (final_choices t k) o []) c → IsVariable t c.variable
final_over_at t k c None e h = absurd (none_in c h)
final_over_at t k c (Some entry) e h =
    let at = final_chosen t k entry c h in
    subst (IsVariable t) (sym at.variable)
    (final_within t k at.place entry e (reaches_final (is_untouched t entry) (length (final_candidates t entry)) at.place
    (none_left (λ w. is_held (left_at t entry.0 w) entry.1) (writers t entry.0) (is_held (value_of t.initial entry.0) entry.1)) at.below))

pub final_over : (t : TraceValue) (k : ℕ) (c : FinalChoice) → Contains (finals t k) c → IsVariable t c.variable
final_over t k c h = final_over_at t k c (slice_get t.final_values k) refl h

final_writer_at : (t : TraceValue) (k : ℕ) (c : FinalChoice) (o : Option (List ℕ × ℕ)) → Contains (option_map_or (final_choices t k) o []) c → Contains (option_map_or (λ (entry : List ℕ × ℕ). writers t entry.0) o []) c.writer
final_writer_at t k c None h = absurd (none_in c h)
final_writer_at t k c (Some entry) h = (from_filter (λ w. is_held (left_at t entry.0 w) entry.1) (writers t entry.0) c.writer (final_chosen t k entry c h).candidate).0

pub final_writer : (t : TraceValue) (k : ℕ) (c : FinalChoice) → Contains (finals t k) c → Contains (final_writers t k) c.writer
final_writer t k c h = final_writer_at t k c (slice_get t.final_values k) h

one_at_least : (u : Bool) (n : ℕ) → u ≡ false → 0 < (if u then 0 else max 1 n)
one_at_least true n e = absurd (cc)
one_at_least false n e = omega arith

pub first_final_over : (t : TraceValue) (k : ℕ) (entry : List ℕ × ℕ) → slice_get t.final_values k ≡ Some entry → is_untouched t entry ≡ false → IsVariable t (first_final t k)
first_final_over t k entry e touched =
    subst (IsVariable t) (add-zero (first_final t k)) (final_within t k 0 entry e (one_at_least (is_untouched t entry) (length (final_candidates t entry)) touched))

void_final_at : (t : TraceValue) (k v : ℕ) (o : Option (List ℕ × ℕ)) → slice_get t.final_values k ≡ o → option_and_then (void_of t k) o ≡ Some v → IsVariable t v
void_final_at t k v None e h = absurd (cc)
void_final_at t k v (Some entry) e h =
    let at = picked (not (is_untouched t entry) && (length (final_candidates t entry) == 0)) (first_final t k) v h in
    subst (IsVariable t) at.same (first_final_over t k entry e (not-true (is_untouched t entry) (and_parts (not (is_untouched t entry)) (length (final_candidates t entry) == 0) at.test).0))

pub void_over : (t : TraceValue) (chooser : ReadsFromOwner) (v : ℕ) → void_variable t chooser ≡ Some v → IsVariable t v
void_over t (Read r) v e = void_choice_over t r v e
void_over t (Final k) v e = void_final_at t k v (slice_get t.final_values k) refl e

pub finals_of : (t : TraceValue) (k : ℕ) (entry : List ℕ × ℕ) → slice_get t.final_values k ≡ Some entry → finals t k ≡ final_choices t k entry
finals_of t k entry e = ap (λ o. option_map_or (final_choices t k) o []) e
