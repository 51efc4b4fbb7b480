-- What a name of the kept trace expands to, by the bounds of the runs.
use Rattle.std.proofs.Common.{◌≡◌, ◌<◌, ◌≤◌, ◌+◌, ◌-◌, ℕ, zero, suc, List, [], ◌∷◌, ◌++◌, length, map, get_or, Bool, true, false, cond, not, ltb, refl, ap, sym, ◌∙◌, arith, subst, append_assoc, inl, inr, ◌⊎◌}
use Rattle.std.specs.Prelude.{Option, Some, None, IsSome, position}
use Rattle.std.specs.List.{Contains, filter, slice_get, take_while}
use Rattle.std.specs.Option.{option_and_then, option_map}
use Rattle.std.specs.Str.{bytes_eq}
use Rattle.std.proofs.lemmas.Bool.{cases_lt}
use Rattle.std.proofs.lemmas.List.{length-map, length-append, map-append, get_or_at, get_or-append-add}
use Rattle.std.proofs.lemmas.List.Sums.{take_while-cons}
use Rattle.std.proofs.lemmas.List.Elements.{filter-append}
use Rattle.trace_semantics.specs.declared.operation.OpName.{OpName}
use Rattle.trace_semantics.specs.declared.trace.Process.{Process}
use Rattle.trace_semantics.specs.Trace.{TraceValue, IsTrace, process_named, operation_at, first_names}
use Rattle.trace_semantics.proofs.ElementLemmas.{head_in, tail_in}
use Rattle.restriction.specs.Left.{names_from, left_process}
use Rattle.restriction.proofs.CountLemmas.{found_by_place}
use Rattle.restriction.proofs.LeftLemmas.{IsOld, old_known, one_more_place}
use Rattle.restriction.proofs.OrderedPairLemmas.{left_order_of}
use Rattle.restriction.proofs.PlaceLemmas.{joined_names}
use Rattle.reducer.specs.Expansion.{expanded}
use Rattle.reducer.specs.Reduced.{ReducedValue, IsReduced}
use Rattle.reducer.specs.Reduction.{is_dropped, kept_op, is_kept, kept_names, kept_trace}
use Rattle.reducer.specs.Runs.{bounds_of, AreBounds}
use Rattle.reducer.proofs.KeptTrace.KeptLemmas.{known_kept, kept_first}
use Rattle.reducer.proofs.RunLemmas.{standing, expanded_first, behind_it, behind_known}

-- the bounds are found by the names of the kept processes
kept_position : (t : TraceValue) (name : List ℕ) → position (λ (p : Process). bytes_eq p.name name) (kept_trace t).processes ≡ position (λ (p : Process). bytes_eq p.name name) t.processes
kept_position t name =
    let order = left_order_of (kept_op t) t.processes name in
    let long = length-map t.processes (left_process (kept_op t)) in
    λ i. cond (ltb (order i) (long i)) (Some (order i)) None

pub kept_bounds : (r : ReducedValue) (ps : List Process) (all : List (List ℕ)) (name other : List ℕ) (o : Option (List ℕ)) → r.kept ≡ kept_trace r.whole → ps ≡ r.kept.processes → AreBounds r.whole all → name ≡ other →
    o ≡ option_and_then (slice_get all) (position (λ (p : Process). bytes_eq p.name name) ps) → o ≡ option_map (bounds_of r.whole) (process_named r.whole other)
kept_bounds r ps all name other o kept same are e f =
    f ∙ (λ i. option_and_then (slice_get all) (position (λ (p : Process). bytes_eq p.name (e i)) ((same ∙ ap (λ (k : TraceValue). k.processes) kept) i)))
    ∙ ap (option_and_then (slice_get all)) (kept_position r.whole other)
    ∙ ap (λ l. option_and_then (slice_get l) (position (λ (p : Process). bytes_eq p.name other) r.whole.processes)) are
    ∙ found_by_place (bounds_of r.whole) (λ (p : Process). bytes_eq p.name other) r.whole.processes

-- the run of dropped operations ends at the next kept one
abbrev places_from : TraceValue → List ℕ → ℕ → ℕ → List ℕ
places_from t process low n = map (λ (m : OpName). m.place) (filter (is_kept t) (names_from process low n)) ++ (low + n) ∷ []

record Run (t : TraceValue) (process : List ℕ) (low n next : ℕ) : Type 0 where
  pub least : low ≤ next
  pub is : take_while (is_dropped t) (names_from process low n) ≡ names_from process low (next - low)

one_longer : (process : List ℕ) (low next : ℕ) → low + 1 ≤ next → record { process = process; place = low } ∷ names_from process (low + 1) (next - (low + 1)) ≡ names_from process low (next - low)
one_longer process low next l = let e : suc (next - (low + 1)) ≡ next - low = omega (arith, l) in ap (names_from process low) e

run_by : (t : TraceValue) (process : List ℕ) (low n : ℕ) (b : Bool) → is_dropped t (record { process = process; place = low }) ≡ b → Run t process (low + 1) n (get_or (places_from t process (low + 1) n) 0 0) →
    Run t process low (suc n) (get_or (map (λ (m : OpName). m.place) (cond (not b) (record { process = process; place = low } ∷ filter (is_kept t) (names_from process (low + 1) n)) (filter (is_kept t) (names_from process (low + 1) n))) ++ (low + suc n) ∷ []) 0 0)
run_by t process low n true h more =
    let m : OpName = record { process = process; place = low } in
    let last : low + 1 + n ≡ low + suc n = omega arith in
    let run : Run t process low (suc n) (get_or (places_from t process (low + 1) n) 0 0) = record {
      least = omega (arith, more.least);
      is = take_while-cons (is_dropped t) m (names_from process (low + 1) n) ∙ ap (λ b. cond b (m ∷ take_while (is_dropped t) (names_from process (low + 1) n)) []) h
          ∙ ap (λ l. m ∷ l) more.is ∙ one_longer process low (get_or (places_from t process (low + 1) n) 0 0) more.least;
    } in
    subst (λ k. Run t process low (suc n) (get_or (map (λ (x : OpName). x.place) (filter (is_kept t) (names_from process (low + 1) n)) ++ k ∷ []) 0 0)) last run
run_by t process low n false h more =
    let m : OpName = record { process = process; place = low } in
    let none : low - low ≡ 0 = omega arith in
    record {
      least = omega arith;
      is = take_while-cons (is_dropped t) m (names_from process (low + 1) n) ∙ ap (λ b. cond b (m ∷ take_while (is_dropped t) (names_from process (low + 1) n)) []) h ∙ ap (names_from process low) (sym none);
    }

run_next : (t : TraceValue) (process : List ℕ) (low n : ℕ) → ((m : OpName) → Contains (names_from process low n) m → IsSome (operation_at t m)) → Run t process low n (get_or (places_from t process low n) 0 0)
run_next t process low zero known =
    let none : low + zero - low ≡ 0 = omega arith in
    record { least = omega arith; is = ap (names_from process low) (sym none) }
run_next t process low (suc n) known =
    let m : OpName = record { process = process; place = low } in
    let behind : List OpName = names_from process (low + 1) n in
    let run = run_by t process low n (is_dropped t m) refl (run_next t process (low + 1) n (λ x c. known x (tail_in m behind x c))) in
    subst (λ b. Run t process low (suc n) (get_or (map (λ (x : OpName). x.place) (cond b (m ∷ filter (is_kept t) behind) (filter (is_kept t) behind)) ++ (low + suc n) ∷ []) 0 0)) (sym (known_kept t m (known m (head_in m behind)))) run

-- the bounds of a run
pub record RunHere (t : TraceValue) (x : OpName) (places : List ℕ) : Type 0 where
  pub least : 1 ≤ x.place
  pub most : x.place < length places
  pub is : names_from x.process (get_or places (x.place - 1) 0) (get_or places x.place 0 - get_or places (x.place - 1) 0) ≡ expanded t x

pub run_here : (t : TraceValue) → IsTrace t → (x n : OpName) (first : IsOld t (kept_op t) x n) (places : List ℕ) → places ≡ bounds_of t first.process → RunHere t x places
run_here t ok x n first places e =
    let p = first.process in
    let s = standing t ok x n first in
    let known = old_known t ok (kept_op t) x n first in
    let rest : ℕ = length p.operations - n.place in
    let front : List OpName = filter (is_kept t) (first_names p.name (n.place - 1)) in
    let back : List OpName = filter (is_kept t) (names_from p.name (n.place + 1) rest) in
    let low : List ℕ = map (λ (m : OpName). m.place) front in
    let high : List ℕ = map (λ (m : OpName). m.place) back ++ (length p.operations + 1) ∷ [] in
    let kept : kept_names t p ≡ front ++ n ∷ back =
    ap (filter (is_kept t)) s.parts ∙ filter-append (is_kept t) (first_names p.name (n.place - 1)) (n ∷ names_from p.name (n.place + 1) rest)
    ∙ ap (λ b. front ++ cond b (n ∷ back) back) known.left in
    let parts : places ≡ low ++ n.place ∷ high =
    e ∙ ap (λ l. map (λ (m : OpName). m.place) l ++ (length p.operations + 1) ∷ []) kept
    ∙ ap (λ l. l ++ (length p.operations + 1) ∷ []) (map-append (λ (m : OpName). m.place) front (n ∷ back))
    ∙ append_assoc low (n.place ∷ map (λ (m : OpName). m.place) back) ((length p.operations + 1) ∷ []) in
    let here : n.place - 1 + 1 ≡ n.place = omega (arith, s.least) in
    let name : record { process = p.name; place = n.place - 1 + 1 } ≡ n = λ i. record { process = s.called i; place = here i } in
    let place : x.place ≡ length front + 1 =
    sym (ap (λ (m : OpName). m.place) known.renamed)
    ∙ ap (λ (m : OpName). length (filter (is_kept t) (first_names m.process m.place))) (sym name)
    ∙ one_more_place (kept_op t) p.name (n.place - 1) true (ap (is_kept t) name ∙ known.left) in
    let long : length low ≡ length front = length-map front (λ (m : OpName). m.place) in
    let all : length places ≡ length low + suc (length high) = ap length parts ∙ length-append low (n.place ∷ high) in
    let behind : length high ≡ length (map (λ (m : OpName). m.place) back) + 1 = length-append (map (λ (m : OpName). m.place) back) ((length p.operations + 1) ∷ []) in
    let before : length low ≡ x.place - 1 = omega (arith, long, place) in
    let first_bound : get_or places (x.place - 1) 0 ≡ n.place = ap (λ l. get_or l (x.place - 1) 0) parts ∙ get_or_at low n.place high 0 (x.place - 1) before in
    let after : x.place ≡ length low + 1 = omega (arith, long, place) in
    let next_bound : get_or places x.place 0 ≡ get_or high 0 0 = (λ i. get_or (parts i) (after i) 0) ∙ get_or-append-add low (n.place ∷ high) 1 0 in
    let last : n.place + 1 + rest ≡ length p.operations + 1 = omega (arith, s.most) in
    let run : Run t p.name (n.place + 1) rest (get_or high 0 0) = subst (λ k. Run t p.name (n.place + 1) rest (get_or (map (λ (m : OpName). m.place) back ++ k ∷ []) 0 0)) last (run_next t p.name (n.place + 1) rest (behind_known t ok x n p s)) in
    let process : x.process ≡ p.name = sym (ap (λ (m : OpName). m.process) known.renamed) ∙ sym s.called in
    let one : record { process = p.name; place = n.place } ≡ n = λ i. record { process = s.called i; place = n.place } in
    record {
      least = omega (arith, place);
      most = omega (arith, place, long, all, behind);
      is = (λ i. names_from (process i) (first_bound i) (next_bound i - first_bound i))
          ∙ sym (one_longer p.name n.place (get_or high 0 0) run.least)
          ∙ (λ i. one i ∷ sym run.is i)
          ∙ ap (λ l. n ∷ take_while (is_dropped t) l) (sym (behind_it t x n p s))
          ∙ sym (expanded_first t x n first);
    }

-- of a reduced trace
first_of : (r : ReducedValue) → IsReduced r → (x : OpName) → IsSome (operation_at r.kept x) → (n : OpName) × IsOld r.whole (kept_op r.whole) x n
first_of r ok x known = kept_first r.whole ok.is_trace x (subst (λ k. IsSome (operation_at k x)) ok.reduction known)

pub run_of : (r : ReducedValue) → IsReduced r → (x : OpName) → IsSome (operation_at r.kept x) → (bounds places : List ℕ) → Some bounds ≡ option_map (bounds_of r.whole) (process_named r.whole x.process) → places ≡ bounds → RunHere r.whole x places
run_of r ok x known bounds places e f =
    let first = first_of r ok x known in
    let both : Some bounds ≡ Some (bounds_of r.whole first.1.process) = e ∙ ap (option_map (bounds_of r.whole)) first.1.found in
    let same : bounds ≡ bounds_of r.whole first.1.process = cc in
    run_here r.whole ok.is_trace x first.0 first.1 places (f ∙ same)

pub some_run : (r : ReducedValue) → IsReduced r → (x : OpName) → IsSome (operation_at r.kept x) → None ≡ option_map (bounds_of r.whole) (process_named r.whole x.process) → ⊥
some_run r ok x known e =
    let first = first_of r ok x known in
    let clash : None ≡ Some (bounds_of r.whole first.1.process) = e ∙ ap (option_map (bounds_of r.whole)) first.1.found in
    cc

pub one_more_between : (process : List ℕ) (first place : ℕ) (old : List OpName) (names : List OpName) → first ≤ place → names ≡ old ++ names_from process first (place - first) →
    names ++ record { process = process; place = place } ∷ [] ≡ old ++ names_from process first (place + 1 - first)
one_more_between process first place old names l e =
    let more : place + 1 - first ≡ place - first + 1 = omega (arith, l) in
    let here : first + (place - first) ≡ place = omega (arith, l) in
    ap (λ l. l ++ record { process = process; place = place } ∷ []) e
    ∙ append_assoc old (names_from process first (place - first)) (record { process = process; place = place } ∷ [])
    ∙ ap (λ l. old ++ l) (ap (λ (k : ℕ). names_from process first (place - first) ++ record { process = process; place = k } ∷ []) (sym here) ∙ sym (joined_names process first (place - first) 1) ∙ ap (names_from process first) (sym more))

pub all_between : (process : List ℕ) (first end place : ℕ) (old names : List OpName) → (first ≤ end → place ≤ end) → end ≤ place → (end < first → place ≡ first) → names ≡ old ++ names_from process first (place - first) → names ≡ old ++ names_from process first (end - first)
all_between process first end place old names m n none e =
    e ∙ ap (λ k. old ++ names_from process first k) (same (cases_lt end first))
  where
    same : (end < first) ⊎ (first ≤ end) → place - first ≡ end - first
    same (inl less) = omega (arith, none less, less)
    same (inr more) = omega (arith, m more, n)
