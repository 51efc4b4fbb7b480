-- The bounds of runs, one operation and one process after the other.
use Rattle.std.proofs.Common.{◌≡◌, ◌<◌, ◌≤◌, ◌+◌, ◌-◌, ℕ, List, [], ◌∷◌, ◌++◌, length, map, take, get_or, Bool, true, false, cond, not, ◌&&◌, refl, ap, sym, ◌∙◌, arith, subst}
use Rattle.std.specs.Prelude.{Some}
use Rattle.std.specs.List.{Contains, filter, sum_by}
use Rattle.std.specs.Option.{option_and_then}
use Rattle.std.proofs.Math.Seq.{take-append_seam}
use Rattle.std.proofs.lemmas.List.{length-append, map-append, map_more}
use Rattle.std.proofs.lemmas.List.Elements.{Contains-get_or, filter-append}
use Rattle.std.proofs.lemmas.List.Sums.{get_or-le-sum_by}
use Rattle.trace_semantics.specs.declared.operation.OpName.{OpName}
use Rattle.trace_semantics.specs.declared.trace.Process.{Process}
use Rattle.trace_semantics.specs.declared.limits.Limits.TheVariants.{Large}
use Rattle.trace_semantics.specs.Limits.{max_operations}
use Rattle.trace_semantics.specs.Trace.{TraceValue, IsTrace, at_place, process_named, operation_at, first_names}
use Rattle.trace_semantics.proofs.ElementLemmas.{head_in, tail_in}
use Rattle.trace_semantics.proofs.NameLemmas.{from_first}
use Rattle.restriction.specs.Left.{names_of}
use Rattle.restriction.specs.PlacesLeft.{places_of, ArePlacesLeft}
use Rattle.restriction.proofs.LeftLemmas.{process_of, listed_name}
use Rattle.restriction.proofs.PlaceLemmas.{one_more_name}
use Rattle.trace_semantics.specs.declared.op_set.OpSet.{OpSet}
use Rattle.reducer.specs.Named.{HasNamed}
use Rattle.reducer.specs.Reduction.{repeats, previous, kept_op, is_kept}
use Rattle.reducer.specs.Runs.{bounds_by, bounds_of, keeps, without_last, AreBounds}
use Rattle.reducer.proofs.KeptTrace.KeptLemmas.{kept_known, known_kept}

-- one more operation
one_filtered : (passes : OpName → Bool) (n : OpName) (b : Bool) → passes n ≡ b → map (λ (m : OpName). m.place) (filter passes (n ∷ [])) ≡ cond b (n.place ∷ []) []
one_filtered passes n true e = ap (λ (b : Bool). map (λ (m : OpName). m.place) (cond b (n ∷ []) [])) e
one_filtered passes n false e = ap (λ (b : Bool). map (λ (m : OpName). m.place) (cond b (n ∷ []) [])) e

pub one_more_bound : (passes : OpName → Bool) (process : List ℕ) (k : ℕ) (b : Bool) → passes (record { process = process; place = k + 1 }) ≡ b →
    map (λ (n : OpName). n.place) (filter passes (first_names process (k + 1))) ≡ map (λ (n : OpName). n.place) (filter passes (first_names process k)) ++ cond b ((k + 1) ∷ []) []
one_more_bound passes process k b e =
    ap (λ l. map (λ (n : OpName). n.place) (filter passes l)) (one_more_name process k)
    ∙ ap (map (λ (n : OpName). n.place)) (filter-append passes (first_names process k) (record { process = process; place = k + 1 } ∷ []))
    ∙ map-append (λ (n : OpName). n.place) (filter passes (first_names process k)) (filter passes (record { process = process; place = k + 1 } ∷ []))
    ∙ ap (λ l. map (λ (n : OpName). n.place) (filter passes (first_names process k)) ++ l) (one_filtered passes (record { process = process; place = k + 1 }) b e)

-- what the code keeps is what the reduction keeps
keeps_kept : (t : TraceValue) → IsTrace t → (set : OpSet) → HasNamed t set → (p : Process) → Contains t.processes p → (n : OpName) → Contains (names_of p) n → keeps set p n ≡ is_kept t n
keeps_kept t ok set named p c n d =
    let found : process_named t n.process ≡ Some p = ap (process_named t) (from_first p.name (length p.operations) n d).0 ∙ process_of t ok p c in
    let here : operation_at t n ≡ at_place p.operations n.place = ap (option_and_then (λ (q : Process). at_place q.operations n.place)) found in
    let before : operation_at t (previous n) ≡ at_place p.operations (n.place - 1) = ap (option_and_then (λ (q : Process). at_place q.operations (n.place - 1))) found in
    (λ i. not (repeats (sym before i) (sym here i) && not (named n i))) ∙ sym (known_kept t n (listed_name t ok p c n d))

same_filter : {A : Type 0} (p q : A → Bool) (xs : List A) → ((x : A) → Contains xs x → p x ≡ q x) → filter p xs ≡ filter q xs
same_filter p q [] h = refl
same_filter p q (x ∷ xs) h = λ i. cond (h x (head_in x xs) i) (x ∷ same_filter p q xs (λ y c. h y (tail_in x xs y c)) i) (same_filter p q xs (λ y c. h y (tail_in x xs y c)) i)

same_bounds : (t : TraceValue) → IsTrace t → (set : OpSet) → HasNamed t set → (p : Process) → Contains t.processes p → bounds_by (keeps set p) p ≡ bounds_of t p
same_bounds t ok set named p c =
    ap (λ l. map (λ (n : OpName). n.place) l ++ (length p.operations + 1) ∷ [])
    (same_filter (keeps set p) (is_kept t) (names_of p) (λ n d. keeps_kept t ok set named p c n d))

-- one more process
pub bounds_more : (t : TraceValue) → IsTrace t → (set : OpSet) → HasNamed t set → (ps : List Process) → ps ≡ t.processes → (i : ℕ) (p : Process) (all : List (List ℕ)) (bounds : List ℕ) → i < length ps → p ≡ get_or ps i p →
    all ≡ map (bounds_of t) (take i ps) → bounds ≡ bounds_by (keeps set p) p → all ++ bounds ∷ [] ≡ map (bounds_of t) (take (i + 1) ps)
bounds_more t ok set named ps same i p all bounds l at e f =
    let listed : Contains t.processes p = subst (λ qs. Contains qs p) same (subst (λ q. Contains ps q) (sym at) (Contains-get_or ps i p l)) in
    (λ k. e k ++ (f ∙ same_bounds t ok set named p listed) k ∷ [])
    ∙ ap (λ q. map (bounds_of t) (take i ps) ++ bounds_of t q ∷ []) at
    ∙ sym (map_more (bounds_of t) ps i p l)

pub few_operations : (t : TraceValue) → IsTrace t → (ps : List Process) → ps ≡ t.processes → (i : ℕ) (p : Process) → i < length ps → p ≡ get_or ps i p → length p.operations ≤ max_operations Large
few_operations t ok ps same i p l at =
    let one = get_or-le-sum_by (λ (q : Process). length q.operations) ps i p l in
    let here : length p.operations ≡ length (get_or ps i p).operations = ap (λ (q : Process). length q.operations) at in
    let all : sum_by (λ (q : Process). length q.operations) ps ≡ sum_by (λ (q : Process). length q.operations) t.processes = ap (sum_by (λ (q : Process). length q.operations)) same in
    omega (arith, one, here, all, ok.few_operations)

-- without their last, the bounds are the places of what remains
places_are : (t : TraceValue) (p : Process) → without_last (bounds_of t p) ≡ places_of (kept_op t) p
places_are t p =
    let kept : List ℕ = map (λ (n : OpName). n.place) (filter (is_kept t) (names_of p)) in
    let last : List ℕ = (length p.operations + 1) ∷ [] in
    let count : length (kept ++ last) - 1 ≡ length kept = omega (arith, length-append kept last) in
    ap (λ k. take k (kept ++ last)) count ∙ take-append_seam kept last

all_places : (t : TraceValue) (ps : List Process) → map without_last (map (bounds_of t) ps) ≡ map (places_of (kept_op t)) ps
all_places t [] = refl
all_places t (p ∷ ps) = λ i. places_are t p i ∷ all_places t ps i

pub places_kept : (t : TraceValue) (all places : List (List ℕ)) → AreBounds t all → places ≡ map without_last all → ArePlacesLeft t (kept_op t) places
places_kept t all places are e = record { values = e ∙ ap (map without_last) are ∙ all_places t t.processes; known = kept_known t }
