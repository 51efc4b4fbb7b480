-- What a name of the kept trace expands to: the names of the whole trace that have it as their new name.
use Rattle.std.proofs.Common.{◌≡◌, ◌≢◌, ◌<◌, ◌≤◌, ◌+◌, ◌-◌, ◌==◌, ℕ, zero, suc, List, [], ◌∷◌, ◌++◌, length, drop, Bool, true, false, cond, not, ◌&&◌, ◌||◌, refl, ap, sym, ◌∙◌, arith, inl, inr, subst, append_assoc}
use Rattle.std.specs.Prelude.{Option, Some, None, IsSome}
use Rattle.std.specs.List.{Contains, filter, take_while}
use Rattle.std.proofs.lemmas.Bool.{eqb-true, eq-eqb, ne_eqb, cases_lt}
use Rattle.std.proofs.lemmas.List.{length-append, drop_at}
use Rattle.std.proofs.lemmas.List.Sums.{take_while-cons}
use Rattle.std.proofs.lemmas.List.Elements.{filter-append, Contains-append_right}
use Rattle.std.specs.Option.{option_and_then}
use Rattle.trace_semantics.specs.declared.operation.OpName.{OpName}
use Rattle.trace_semantics.specs.declared.trace.Process.{Process}
use Rattle.trace_semantics.specs.Interleaving.{StandsBefore}
use Rattle.trace_semantics.specs.Trace.{TraceValue, IsTrace, at_place, process_named, operation_at, first_names}
use Rattle.trace_semantics.proofs.ElementLemmas.{head_in, tail_in, from_filter, to_filter}
use Rattle.trace_semantics.proofs.NameLemmas.{from_first, to_first, known_named, earlier_known, some_value, within_place}
use Rattle.reducer.specs.Expansion.{run_at, with_run, expanded}
use Rattle.restriction.specs.Left.{new_name, names_of, names_from}
use Rattle.restriction.proofs.LeftLemmas.{IsOld, found_process, process_of, listed_name, old_known, one_more_place, left_among, more_left, higher}
use Rattle.restriction.proofs.PlaceLemmas.{joined_names, length_names, in_names}
use Rattle.restriction.proofs.StandLemmas.{out_of_filter}
use Rattle.reducer.specs.Reduction.{repeats, is_in_pair, is_an_origin, is_dropped, kept_op, kept_names}
use Rattle.reducer.proofs.KeptTrace.KeptLemmas.{known_kept, dropped_goes}
use Rattle.reducer.proofs.PartsLemmas.{rising_places}

-- a later place is no lower in the kept trace
pub no_lower : (t : TraceValue) (m n : OpName) → m.process ≡ n.process → m.place ≤ n.place → (new_name (kept_op t) m).place ≤ (new_name (kept_op t) n).place
no_lower t m n same l =
    let e : m.place + (n.place - m.place) ≡ n.place = omega (arith, l) in
    let all : left_among (kept_op t) m.process (m.place + (n.place - m.place)) ≡ left_among (kept_op t) n.process n.place = λ i. left_among (kept_op t) (same i) (e i) in
    omega (arith, more_left (kept_op t) m.process m.place (n.place - m.place), all)

pub earlier : (t : TraceValue) (m n : OpName) → m.process ≡ n.process → (new_name (kept_op t) m).place < (new_name (kept_op t) n).place → m.place < n.place
earlier t m n same l =
    elim (cases_lt m.place n.place) [
      | inl less ↦ less
      | inr other ↦ absurd (let turned = no_lower t n m (sym same) (omega (arith, other)) in omega (arith, turned, l))
    ]

-- all of a list have this new place, or none
abbrev has_place : TraceValue → ℕ → OpName → Bool
has_place t v m = (new_name (kept_op t) m).place == v

none_pass : {A : Type 0} (p : A → Bool) (xs : List A) → ((x : A) → Contains xs x → p x ≡ false) → filter p xs ≡ []
none_pass p [] h = refl
none_pass {A} p (x ∷ xs) h = at (p x) (h x (head_in x xs)) (none_pass p xs (λ y c. h y (tail_in x xs y c)))
  where
    at : (b : Bool) → b ≡ false → filter p xs ≡ [] → cond b (x ∷ filter p xs) (filter p xs) ≡ []
    at true e more = absurd (cc)
    at false e more = more

other_place : (t : TraceValue) (v : ℕ) (m : OpName) → (new_name (kept_op t) m).place ≢ v → has_place t v m ≡ false
other_place t v m n = ne_eqb (new_name (kept_op t) m).place v n

-- after a name: the run of dropped ones are those with the same new place
run_by : (t : TraceValue) (process : List ℕ) (k e : ℕ) (b : Bool) → is_dropped t (record { process = process; place = k + 1 }) ≡ b → IsSome (operation_at t (record { process = process; place = k + 1 })) →
    (take_while (is_dropped t) (names_from process (k + 1 + 1) e) ≡ filter (has_place t (left_among (kept_op t) process (k + 1))) (names_from process (k + 1 + 1) e)) →
    take_while (is_dropped t) (names_from process (k + 1) (suc e)) ≡ filter (has_place t (left_among (kept_op t) process k)) (names_from process (k + 1) (suc e))
run_by t process k e true h known more =
    let m : OpName = record { process = process; place = k + 1 } in
    let same : left_among (kept_op t) process (k + 1) ≡ left_among (kept_op t) process k = one_more_place (kept_op t) process k false (dropped_goes t m h) ∙ omega arith in
    take_while-cons (is_dropped t) m (names_from process (k + 1 + 1) e)
    ∙ ap (λ (b : Bool). cond b (m ∷ take_while (is_dropped t) (names_from process (k + 1 + 1) e)) []) h
    ∙ ap (λ l. m ∷ l) (more ∙ ap (λ v. filter (has_place t v) (names_from process (k + 1 + 1) e)) same)
    ∙ sym (ap (λ (b : Bool). cond b (m ∷ filter (has_place t (left_among (kept_op t) process k)) (names_from process (k + 1 + 1) e)) (filter (has_place t (left_among (kept_op t) process k)) (names_from process (k + 1 + 1) e))) (eq-eqb (left_among (kept_op t) process (k + 1)) (left_among (kept_op t) process k) same))
run_by t process k e false h known more =
    let m : OpName = record { process = process; place = k + 1 } in
    let one : left_among (kept_op t) process (k + 1) ≡ left_among (kept_op t) process k + 1 = one_more_place (kept_op t) process k true (known_kept t m known ∙ ap not h) in
    let none : filter (has_place t (left_among (kept_op t) process k)) (names_from process (k + 1 + 1) e) ≡ [] = none_pass (has_place t (left_among (kept_op t) process k)) (names_from process (k + 1 + 1) e) (λ n c.
    let at = in_names process (k + 1 + 1) e n c in
    let above = no_lower t m n (sym at.0) (omega (arith, at.1)) in
    other_place t (left_among (kept_op t) process k) n (λ same. omega (arith, same, above, one))) in
    take_while-cons (is_dropped t) m (names_from process (k + 1 + 1) e)
    ∙ ap (λ (b : Bool). cond b (m ∷ take_while (is_dropped t) (names_from process (k + 1 + 1) e)) []) h
    ∙ sym none
    ∙ sym (ap (λ (b : Bool). cond b (m ∷ filter (has_place t (left_among (kept_op t) process k)) (names_from process (k + 1 + 1) e)) (filter (has_place t (left_among (kept_op t) process k)) (names_from process (k + 1 + 1) e))) (other_place t (left_among (kept_op t) process k) m (λ same. omega (arith, same, one))))

run_is : (t : TraceValue) (process : List ℕ) (k e : ℕ) → ((m : OpName) → Contains (names_from process (k + 1) e) m → IsSome (operation_at t m)) →
    take_while (is_dropped t) (names_from process (k + 1) e) ≡ filter (has_place t (left_among (kept_op t) process k)) (names_from process (k + 1) e)
run_is t process k zero known = refl
run_is t process k (suc e) known =
    let m : OpName = record { process = process; place = k + 1 } in
    let behind : List OpName = names_from process (k + 1 + 1) e in
    run_by t process k e (is_dropped t m) refl (known m (head_in m behind)) (run_is t process (k + 1) e (λ n c. known n (tail_in m behind n c)))

-- the place of the first name of x among the names of its process
pub record Standing (t : TraceValue) (x n : OpName) (p : Process) : Type 0 where
  pub listed : Contains t.processes p
  pub called : p.name ≡ n.process
  pub least : 1 ≤ n.place
  pub most : n.place ≤ length p.operations
  pub parts : names_of p ≡ first_names p.name (n.place - 1) ++ n ∷ names_from p.name (n.place + 1) (length p.operations - n.place)

pub standing : (t : TraceValue) → IsTrace t → (x n : OpName) (first : IsOld t (kept_op t) x n) → Standing t x n first.process
standing t ok x n first =
    let p = first.process in
    let known = old_known t ok (kept_op t) x n first in
    let named = known_named t n known.known in
    let listed = found_process t x.process p first.found in
    let process : x.process ≡ n.process = sym (ap (λ (m : OpName). m.process) known.renamed) in
    let found : process_named t x.process ≡ Some named.process = ap (process_named t) (process ∙ sym named.called) ∙ process_of t ok named.process named.listed in
    let same : named.process ≡ p = some_same named.process p (sym found ∙ first.found) in
    let most : n.place ≤ length p.operations = subst (λ (q : Process). n.place ≤ length q.operations) same named.most in
    let all : length p.operations ≡ (n.place - 1) + (1 + (length p.operations - n.place)) = omega (arith, named.least, most) in
    let here : 1 + (n.place - 1) ≡ n.place = omega (arith, named.least) in
    let called : p.name ≡ n.process = listed.1 ∙ process in
    let name : record { process = p.name; place = 1 + (n.place - 1) } ≡ n = λ i. record { process = called i; place = here i } in
    record {
      listed = listed.0;
      called = called;
      least = named.least;
      most = most;
      parts = ap (names_from p.name 1) all ∙ joined_names p.name 1 (n.place - 1) (1 + (length p.operations - n.place))
          ∙ ap (λ l. first_names p.name (n.place - 1) ++ l) (joined_names p.name (1 + (n.place - 1)) 1 (length p.operations - n.place)
          ∙ (λ i. name i ∷ names_from p.name (here i + 1) (length p.operations - n.place)));
    }
  where
    some_same : (p q : Process) → Some p ≡ Some q → p ≡ q
    some_same p q e = cc

pub behind_it : (t : TraceValue) (x n : OpName) (p : Process) → Standing t x n p → drop n.place (names_of p) ≡ names_from p.name (n.place + 1) (length p.operations - n.place)
behind_it t x n p s =
    let front : List OpName = first_names p.name (n.place - 1) ++ n ∷ [] in
    let long : length front ≡ n.place = length-append (first_names p.name (n.place - 1)) (n ∷ []) ∙ omega (arith, length_names p.name 1 (n.place - 1), s.least) in
    ap (drop n.place) (s.parts ∙ sym (append_assoc (first_names p.name (n.place - 1)) (n ∷ []) (names_from p.name (n.place + 1) (length p.operations - n.place))))
    ∙ drop_at front (names_from p.name (n.place + 1) (length p.operations - n.place)) n.place long

-- the names behind it are known
pub behind_known : (t : TraceValue) → IsTrace t → (x n : OpName) (p : Process) → Standing t x n p → (m : OpName) → Contains (names_from p.name (n.place + 1) (length p.operations - n.place)) m → IsSome (operation_at t m)
behind_known t ok x n p s m c =
    let front : List OpName = first_names p.name (n.place - 1) in
    let behind : List OpName = names_from p.name (n.place + 1) (length p.operations - n.place) in
    listed_name t ok p s.listed m (subst (λ l. Contains l m) (sym s.parts) (Contains-append_right front (n ∷ behind) m (tail_in n behind m c)))

pub expanded_first : (t : TraceValue) (x n : OpName) (first : IsOld t (kept_op t) x n) → expanded t x ≡ n ∷ take_while (is_dropped t) (drop n.place (names_of first.process))
expanded_first t x n first = ap (run_at t x) first.found ∙ ap (with_run t first.process) first.placed

-- what a name expands to are the names of its process that have its new place
pub expanded_is : (t : TraceValue) → IsTrace t → (x n : OpName) (first : IsOld t (kept_op t) x n) → expanded t x ≡ filter (has_place t x.place) (names_of first.process)
expanded_is t ok x n first =
    let p = first.process in
    let s = standing t ok x n first in
    let known = old_known t ok (kept_op t) x n first in
    let place : (new_name (kept_op t) n).place ≡ x.place = ap (λ (m : OpName). m.place) known.renamed in
    let value : left_among (kept_op t) p.name n.place ≡ x.place = ap (λ (q : List ℕ). left_among (kept_op t) q n.place) s.called ∙ place in
    let none : filter (has_place t x.place) (first_names p.name (n.place - 1)) ≡ [] = none_pass (has_place t x.place) (first_names p.name (n.place - 1)) (λ m c.
    let at = from_first p.name (n.place - 1) m c in
    let below = higher (kept_op t) m n (at.0 ∙ s.called) (omega (arith, at.1, at.2, s.least)) known.left in
    other_place t x.place m (λ same. omega (arith, same, below, place))) in
    let behind : List OpName = names_from p.name (n.place + 1) (length p.operations - n.place) in
    expanded_first t x n first
    ∙ ap (λ l. n ∷ take_while (is_dropped t) l) (behind_it t x n p s)
    ∙ ap (λ l. n ∷ l) (run_is t p.name n.place (length p.operations - n.place) (behind_known t ok x n p s) ∙ ap (λ v. filter (has_place t v) behind) value)
    ∙ sym (ap (λ (b : Bool). cond b (n ∷ filter (has_place t x.place) behind) (filter (has_place t x.place) behind)) (eq-eqb (new_name (kept_op t) n).place x.place place))
    ∙ sym (ap (λ l. l ++ filter (has_place t x.place) (n ∷ behind)) none)
    ∙ sym (filter-append (has_place t x.place) (first_names p.name (n.place - 1)) (n ∷ behind))
    ∙ ap (filter (has_place t x.place)) (sym s.parts)

-- a name of what x expands to
pub record Member (t : TraceValue) (x m : OpName) : Type 0 where
  pub known : IsSome (operation_at t m)
  pub renamed : new_name (kept_op t) m ≡ x

pub expanded_member : (t : TraceValue) → IsTrace t → (x n m : OpName) → IsOld t (kept_op t) x n → Contains (expanded t x) m → Member t x m
expanded_member t ok x n m first c =
    let p = first.process in
    let at = from_filter (has_place t x.place) (names_of p) m (subst (λ l. Contains l m) (expanded_is t ok x n first) c) in
    let listed = found_process t x.process p first.found in
    let named = from_first p.name (length p.operations) m at.0 in
    let process : (new_name (kept_op t) m).process ≡ x.process = named.0 ∙ listed.1 in
    let place : (new_name (kept_op t) m).place ≡ x.place = eqb-true (new_name (kept_op t) m).place x.place at.1 in
    record { known = listed_name t ok p listed.0 m at.0; renamed = λ i. record { process = process i; place = place i } }

pub expanded_rises : (t : TraceValue) → IsTrace t → (x n a b : OpName) → IsOld t (kept_op t) x n → StandsBefore (expanded t x) a b → a.place < b.place
expanded_rises t ok x n a b first s =
    let p = first.process in
    rising_places p.name 1 (length p.operations) a b (out_of_filter (has_place t x.place) (names_of p) a b (subst (λ l. StandsBefore l a b) (expanded_is t ok x n first) s))

-- the first operation of a process is not dropped
no_place : (o : Option Process) → option_and_then (λ (p : Process). at_place p.operations 0) o ≡ None
no_place None = refl
no_place (Some p) = refl

first_stays : (t : TraceValue) (process : List ℕ) → is_dropped t (record { process = process; place = 0 + 1 }) ≡ false
first_stays t process =
    let n : OpName = record { process = process; place = 0 + 1 } in
    ap (λ o. repeats o (operation_at t n) && not (is_in_pair t n || is_an_origin t n)) (no_place (process_named t process))

some_kept : (t : TraceValue) → IsTrace t → (m : OpName) → IsSome (operation_at t m) → 1 ≤ m.place → 1 ≤ (new_name (kept_op t) m).place
some_kept t ok m known l =
    let first : OpName = record { process = m.process; place = 0 + 1 } in
    let there = earlier_known t ok first m known refl (omega arith) (omega (arith, l)) in
    let one = one_more_place (kept_op t) m.process 0 true (known_kept t first there ∙ ap not (first_stays t m.process)) in
    let low = no_lower t first m refl (omega (arith, l)) in
    omega (arith, one, low)

-- each operation has a first name: that of the last kept operation up to it
pub record Belongs (t : TraceValue) (m : OpName) : Type 0 where
  pub first : OpName
  pub is_first : IsOld t (kept_op t) (new_name (kept_op t) m) first
  pub listed : Contains (expanded t (new_name (kept_op t) m)) m

pub belongs : (t : TraceValue) → IsTrace t → (m : OpName) → IsSome (operation_at t m) → Belongs t m
belongs t ok m known =
    let named = known_named t m known in
    let p = named.process in
    let x = new_name (kept_op t) m in
    let found : process_named t m.process ≡ Some p = ap (process_named t) (sym named.called) ∙ process_of t ok p named.listed in
    let e : m.place + (length p.operations - m.place) ≡ length p.operations = omega (arith, named.most) in
    let few : left_among (kept_op t) m.process m.place ≤ length (kept_names t p) =
    subst (λ k. left_among (kept_op t) m.process m.place ≤ k) ((λ i. left_among (kept_op t) (sym named.called i) (e i))) (more_left (kept_op t) m.process m.place (length p.operations - m.place)) in
    let n = some_value (at_place (kept_names t p) x.place) (within_place (kept_names t p) x.place (some_kept t ok m known named.least) few) in
    let first : IsOld t (kept_op t) x n.0 = record { process = p; found = found; placed = n.1 } in
    record {
      first = n.0;
      is_first = first;
      listed = subst (λ l. Contains l m) (sym (expanded_is t ok x n.0 first)) (to_filter (has_place t x.place) (names_of p) m (eq-eqb x.place x.place refl) (to_first p.name (length p.operations) m (sym named.called) named.least named.most));
    }
