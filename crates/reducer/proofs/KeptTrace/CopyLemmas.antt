-- The kept operations, counted and copied one after the other.
use Rattle.std.proofs.Common.{◌≡◌, ◌<◌, ◌≤◌, ◌+◌, ◌-◌, ℕ, zero, suc, List, [], ◌∷◌, ◌++◌, length, map, take, get_or, true, cond, refl, ap, sym, ◌∙◌, arith}
use Rattle.std.specs.Prelude.{Option, Some, None, is_some}
use Rattle.std.specs.List.{Contains, filter, filter_map, cons_option, sum_by}
use Rattle.std.specs.Option.{option_and_then}
use Rattle.std.proofs.lemmas.List.{length-map, length-append, get_or-map, get_or_append_left, take_more, map_push, take_all, get_or_default}
use Rattle.std.proofs.lemmas.List.Elements.{Contains-get_or, filter_map-append}
use Rattle.std.proofs.lemmas.List.Sums.{sum_by-cons, sum_by_more_le}
use Rattle.std.proofs.lemmas.Option.{slice_get-get_or}
use Rattle.trace_semantics.specs.declared.operation.Op.{Op}
use Rattle.trace_semantics.specs.declared.operation.OpName.{OpName}
use Rattle.trace_semantics.specs.declared.trace.Process.{Process}
use Rattle.trace_semantics.specs.declared.limits.Limits.TheVariants.{Large}
use Rattle.trace_semantics.specs.Limits.{max_operations}
use Rattle.trace_semantics.specs.Trace.{TraceValue, IsTrace, at_place, process_named, operation_at, operation_count}
use Rattle.trace_semantics.proofs.ElementLemmas.{from_filter}
use Rattle.trace_semantics.proofs.NameLemmas.{from_first}
use Rattle.restriction.specs.Left.{names_of, new_op, left_process}
use Rattle.restriction.proofs.LeftLemmas.{process_of}
use Rattle.reducer.specs.Reduction.{kept_op, is_kept, kept_names, kept_trace}
use Rattle.reducer.specs.Runs.{bounds_of, AreBounds}
use Rattle.reducer.proofs.KeptTrace.KeptLemmas.{kept_whole}
use Rattle.reducer.proofs.KeptTrace.TraceLemmas.{kept_is_trace}

-- counts
module _ {A B : Type 0} (f : A → Option B) where
  mapped_once : (xs : List A) → length (filter_map f xs) ≡ length (filter (λ x. is_some (f x)) xs)
  mapped_once [] = refl
  mapped_once (x ∷ xs) = at (f x) (mapped_once xs)
    where
      at : (o : Option B) → length (filter_map f xs) ≡ length (filter (λ y. is_some (f y)) xs) →
          length (cons_option o (filter_map f xs)) ≡ length (cond (is_some o) (x ∷ filter (λ y. is_some (f y)) xs) (filter (λ y. is_some (f y)) xs))
      at None e = e
      at (Some y) e = ap suc e

  mapped_alike : (xs : List A) → filter_map f (filter (λ x. is_some (f x)) xs) ≡ filter_map f xs
  mapped_alike [] = refl
  mapped_alike (x ∷ xs) = at (f x) refl (mapped_alike xs)
    where
      at : (o : Option B) → f x ≡ o → filter_map f (filter (λ y. is_some (f y)) xs) ≡ filter_map f xs →
          filter_map f (cond (is_some o) (x ∷ filter (λ y. is_some (f y)) xs) (filter (λ y. is_some (f y)) xs)) ≡ cons_option o (filter_map f xs)
      at None e more = more
      at (Some y) e more = λ i. cons_option (e i) (more i)

pub length_bounds : (t : TraceValue) (p : Process) → length (bounds_of t p) ≡ length (kept_names t p) + 1
length_bounds t p =
    length-append (map (λ (n : OpName). n.place) (kept_names t p)) ((length p.operations + 1) ∷ []) ∙ ap (λ k. k + 1) (length-map (kept_names t p) (λ (n : OpName). n.place))

kept_count : (t : TraceValue) (p : Process) → length (bounds_of t p) - 1 ≡ length (left_process (kept_op t) p).operations
kept_count t p =
    let mapped = length-map (filter_map (kept_op t) (names_of p)) (new_op (kept_op t)) in
    omega (arith, length_bounds t p, mapped_once (kept_op t) (names_of p), mapped)

abbrev pub kept_in : List ℕ → ℕ
kept_in bounds = length bounds - 1

sum_kept : (t : TraceValue) (ps : List Process) → sum_by kept_in (map (bounds_of t) ps) ≡ sum_by (λ (p : Process). length p.operations) (map (left_process (kept_op t)) ps)
sum_kept t [] = refl
sum_kept t (p ∷ ps) =
    omega (
      arith,
      sum_kept t ps,
      kept_count t p,
      sum_by-cons kept_in (bounds_of t p) (map (bounds_of t) ps),
      sum_by-cons (λ (q : Process). length q.operations) (left_process (kept_op t) p) (map (left_process (kept_op t)) ps),
    )

pub sum_is : (t : TraceValue) (all : List (List ℕ)) → AreBounds t all → sum_by kept_in all ≡ operation_count (kept_trace t)
sum_is t all are = ap (sum_by kept_in) are ∙ sum_kept t t.processes

pub sum_all : (t : TraceValue) (all : List (List ℕ)) → AreBounds t all → (i count : ℕ) → length all ≤ i → count ≡ sum_by kept_in (take i all) → count ≡ operation_count (kept_trace t)
sum_all t all are i count l e = e ∙ ap (sum_by kept_in) (take_all i all l) ∙ sum_is t all are

pub some_bound : (t : TraceValue) (all : List (List ℕ)) → AreBounds t all → (i : ℕ) (bounds : List ℕ) → i < length all → bounds ≡ get_or all i bounds → 1 ≤ length bounds
some_bound t all are i bounds l e =
    let d : Process = record { name = []; operations = [] } in
    let m : i < length t.processes = omega (arith, l, ap length are, length-map t.processes (bounds_of t)) in
    let p = get_or t.processes i d in
    let here : bounds ≡ bounds_of t p = e ∙ ap (λ l. get_or l i bounds) are ∙ get_or-map (bounds_of t) t.processes i d bounds m in
    let long : length bounds ≡ length (bounds_of t p) = ap length here in
    omega (arith, long, length_bounds t p)

pub few_so_far : (t : TraceValue) → IsTrace t → (all : List (List ℕ)) → AreBounds t all → (i count : ℕ) (bounds : List ℕ) → i < length all → bounds ≡ get_or all i bounds → count ≡ sum_by kept_in (take i all) → count + (length bounds - 1) ≤ max_operations Large
few_so_far t ok all are i count bounds l at e =
    let more = sum_by_more_le kept_in all i bounds l in
    let here : kept_in bounds ≡ kept_in (get_or all i bounds) = ap kept_in at in
    omega (arith, more, here, e, sum_is t all are, (kept_is_trace t ok).few_operations)

-- the kept operation of a place
pub record OpHere (t : TraceValue) (p : Process) (places : List ℕ) (k : ℕ) : Type 0 where
  pub name : OpName
  pub within : k < length (kept_names t p)
  pub named : get_or (kept_names t p) k name ≡ name
  pub place : get_or places k 0 ≡ name.place
  pub least : 1 ≤ name.place
  pub most : name.place ≤ length p.operations
  pub called : name.process ≡ p.name
  pub kept : is_kept t name ≡ true

pub op_here : (t : TraceValue) (p : Process) (places : List ℕ) (k : ℕ) → places ≡ bounds_of t p → k < length places - 1 → OpHere t p places k
op_here t p places k e l =
    let d : OpName = record { process = []; place = 0 } in
    let long : length places ≡ length (bounds_of t p) = ap length e in
    let m : k < length (kept_names t p) = omega (arith, l, long, length_bounds t p) in
    let mapped = length-map (kept_names t p) (λ (n : OpName). n.place) in
    let name = get_or (kept_names t p) k d in
    let there = from_filter (is_kept t) (names_of p) name (Contains-get_or (kept_names t p) k d m) in
    let listed = from_first p.name (length p.operations) name there.0 in
    record {
      name = name;
      within = m;
      named = get_or_default (kept_names t p) k name d m;
      place = ap (λ l. get_or l k 0) e ∙ get_or_append_left (map (λ (n : OpName). n.place) (kept_names t p)) ((length p.operations + 1) ∷ []) 0 k (omega (arith, m, mapped))
          ∙ get_or-map (λ (n : OpName). n.place) (kept_names t p) k d 0 m;
      least = listed.1;
      most = listed.2;
      called = listed.0;
      kept = there.1;
    }

place_before : {X : Type 0} (xs : List X) (k : ℕ) (x : X) → 1 ≤ k → k ≤ length xs → x ≡ get_or xs (k - 1) x → at_place xs k ≡ Some x
place_before xs zero x low high e = absurd (omega (arith, low))
place_before xs (suc k) x low high e =
    let same : suc k - 1 ≡ k = omega arith in
    slice_get-get_or xs k x (omega (arith, high)) ∙ ap Some (ap (λ j. get_or xs j x) (sym same) ∙ sym e)

pub op_is : (t : TraceValue) → IsTrace t → (p : Process) → Contains t.processes p → (places : List ℕ) (k : ℕ) (here : OpHere t p places k) (old : List Op) (op : Op) → old ≡ p.operations → op ≡ get_or old (get_or places k 0 - 1) op → operation_at t here.name ≡ Some op
op_is t ok p c places k here old op same e =
    let found : process_named t here.name.process ≡ Some p = ap (process_named t) here.called ∙ process_of t ok p c in
    ap (option_and_then (λ (q : Process). at_place q.operations here.name.place)) found
    ∙ place_before p.operations here.name.place op here.least here.most (e ∙ (λ i. get_or (same i) (here.place i - 1) op))

pub one_more_op : (t : TraceValue) (p : Process) (places : List ℕ) (k : ℕ) (here : OpHere t p places k) (op : Op) → operation_at t here.name ≡ Some op →
    map (new_op (kept_op t)) (filter_map (kept_op t) (take (k + 1) (kept_names t p))) ≡ map (new_op (kept_op t)) (filter_map (kept_op t) (take k (kept_names t p))) ++ new_op (kept_op t) op ∷ []
one_more_op t p places k here op e =
    ap (λ l. map (new_op (kept_op t)) (filter_map (kept_op t) l)) (take_more (kept_names t p) k here.name here.within ∙ ap (λ n. take k (kept_names t p) ++ n ∷ []) here.named)
    ∙ ap (map (new_op (kept_op t))) (filter_map-append (kept_op t) (take k (kept_names t p)) (here.name ∷ []) ∙ ap (λ o. filter_map (kept_op t) (take k (kept_names t p)) ++ cons_option o []) (kept_whole t here.name here.kept ∙ e))
    ∙ map_push (new_op (kept_op t)) (filter_map (kept_op t) (take k (kept_names t p))) op

pub all_ops : (t : TraceValue) (p : Process) (places : List ℕ) (k : ℕ) → places ≡ bounds_of t p → length places - 1 ≤ k → map (new_op (kept_op t)) (filter_map (kept_op t) (take k (kept_names t p))) ≡ (left_process (kept_op t) p).operations
all_ops t p places k e l =
    let long : length places ≡ length (bounds_of t p) = ap length e in
    ap (λ l. map (new_op (kept_op t)) (filter_map (kept_op t) l)) (take_all k (kept_names t p) (omega (arith, l, long, length_bounds t p)))
    ∙ ap (map (new_op (kept_op t))) (mapped_alike (kept_op t) (names_of p))
