-- The new place of an operation counts the places of its process that remain.
use Rattle.std.proofs.Common.{◌≡◌, ◌≤◌, ◌+◌, ◌-◌, min, ℕ, zero, suc, List, [], ◌∷◌, ◌++◌, length, map, Bool, true, false, cond, not, ltb, refl, ap, sym, ◌∙◌, arith, inl, inr, append-nil}
use Rattle.std.specs.Prelude.{Option, Some, None, is_some, IsSome, nat_le, position}
use Rattle.std.specs.List.{Contains, filter, find, slice_get, position_or_len}
use Rattle.std.specs.Option.{option_and_then, option_map}
use Rattle.std.specs.Str.{bytes_eq}
use Rattle.std.proofs.lemmas.Bool.{le-leb, false_from_ne_true, leb-true, cases_lt, lt-ltb}
use Rattle.std.proofs.lemmas.Option.{same_Some, slice_get-map, slice_get_past}
use Rattle.std.proofs.lemmas.List.Elements.{filter-append}
use Rattle.text_lines.proofs.ListLemmas.{few_pass}
use Rattle.trace_semantics.specs.declared.operation.Op.{Op}
use Rattle.trace_semantics.specs.declared.operation.OpName.{OpName}
use Rattle.trace_semantics.specs.declared.trace.Process.{Process}
use Rattle.trace_semantics.specs.Trace.{TraceValue, at_place, process_named, operation_at, first_names}
use Rattle.trace_semantics.proofs.ElementLemmas.{head_in, tail_in}
use Rattle.trace_semantics.proofs.NameLemmas.{from_first}
use Rattle.restriction.specs.Left.{is_left, names_of, names_from}
use Rattle.restriction.specs.PlacesLeft.{places_of, ArePlacesLeft}
use Rattle.restriction.proofs.LeftLemmas.{found_process}
use Rattle.restriction.proofs.PlaceLemmas.{joined_names, in_names, length_names}

-- all pass, or none
all_in : {X : Type 0} (p : X → Bool) (xs : List X) → ((x : X) → Contains xs x → p x ≡ true) → filter p xs ≡ xs
all_in p [] h = refl
all_in p (x ∷ xs) h = ap (λ b. cond b (x ∷ filter p xs) (filter p xs)) (h x (head_in x xs)) ∙ ap (λ l. x ∷ l) (all_in p xs (λ y c. h y (tail_in x xs y c)))

pub none_in_it : {X : Type 0} (p : X → Bool) (xs : List X) → ((x : X) → Contains xs x → p x ≡ false) → filter p xs ≡ []
none_in_it p [] h = refl
none_in_it p (x ∷ xs) h = ap (λ b. cond b (x ∷ filter p xs) (filter p xs)) (h x (head_in x xs)) ∙ none_in_it p xs (λ y c. h y (tail_in x xs y c))

-- how many of the places of what passes are no higher
count_mapped : (keep : OpName → Bool) (e : ℕ) (names : List OpName) → length (filter (λ (k : ℕ). nat_le k e) (map (λ (n : OpName). n.place) (filter keep names))) ≡ length (filter keep (filter (λ (n : OpName). nat_le n.place e) names))
count_mapped keep e [] = refl
count_mapped keep e (n ∷ names) = at (keep n) refl (nat_le n.place e) refl (count_mapped keep e names)
  where
    at : (b : Bool) → keep n ≡ b → (c : Bool) → nat_le n.place e ≡ c → length (filter (λ (k : ℕ). nat_le k e) (map (λ (m : OpName). m.place) (filter keep names))) ≡ length (filter keep (filter (λ (m : OpName). nat_le m.place e) names)) →
        length (filter (λ (k : ℕ). nat_le k e) (map (λ (m : OpName). m.place) (cond b (n ∷ filter keep names) (filter keep names)))) ≡ length (filter keep (cond c (n ∷ filter (λ (m : OpName). nat_le m.place e) names) (filter (λ (m : OpName). nat_le m.place e) names)))
    at true f true g more =
        ap (λ d. length (cond d (n.place ∷ filter (λ (k : ℕ). nat_le k e) (map (λ (m : OpName). m.place) (filter keep names))) (filter (λ (k : ℕ). nat_le k e) (map (λ (m : OpName). m.place) (filter keep names))))) g
        ∙ ap suc more ∙ sym (ap (λ d. length (cond d (n ∷ filter keep (filter (λ (m : OpName). nat_le m.place e) names)) (filter keep (filter (λ (m : OpName). nat_le m.place e) names)))) f)
    at true f false g more =
        ap (λ d. length (cond d (n.place ∷ filter (λ (k : ℕ). nat_le k e) (map (λ (m : OpName). m.place) (filter keep names))) (filter (λ (k : ℕ). nat_le k e) (map (λ (m : OpName). m.place) (filter keep names))))) g ∙ more
    at false f true g more = more ∙ sym (ap (λ d. length (cond d (n ∷ filter keep (filter (λ (m : OpName). nat_le m.place e) names)) (filter keep (filter (λ (m : OpName). nat_le m.place e) names)))) f)
    at false f false g more = more

-- of the names of a process those up to a place
up_to : (process : List ℕ) (count e : ℕ) → e ≤ count → filter (λ (n : OpName). nat_le n.place e) (first_names process count) ≡ first_names process e
up_to process count e l =
    let all : e + (count - e) ≡ count = omega (arith, l) in
    let behind : List OpName = names_from process (1 + e) (count - e) in
    ap (λ k. filter (λ (n : OpName). nat_le n.place e) (first_names process k)) (sym all)
    ∙ ap (filter (λ (n : OpName). nat_le n.place e)) (joined_names process 1 e (count - e))
    ∙ filter-append (λ (n : OpName). nat_le n.place e) (first_names process e) behind
    ∙ (λ i. all_in (λ (n : OpName). nat_le n.place e) (first_names process e) (λ n c. le-leb n.place e (from_first process e n c).2) i
    ++ none_in_it (λ (n : OpName). nat_le n.place e) behind (λ n c. false_from_ne_true (nat_le n.place e) (λ h. let low = (in_names process (1 + e) (count - e) n c).1 in let high = leb-true n.place e h in omega (arith, low, high))) i)
    ∙ append-nil (first_names process e)

all_up_to : (process : List ℕ) (count e : ℕ) → count ≤ e → filter (λ (n : OpName). nat_le n.place e) (first_names process count) ≡ first_names process count
all_up_to process count e l = all_in (λ (n : OpName). nat_le n.place e) (first_names process count) (λ n c. let high = (from_first process count n c).2 in le-leb n.place e (omega (arith, high, l)))

-- an element by its place
found_there : {A : Type 0} (p : A → Bool) (xs : List A) → slice_get xs (position_or_len p xs) ≡ find p xs
found_there p [] = refl
found_there {A} p (x ∷ xs) = at (p x) (found_there p xs)
  where
    at : (b : Bool) → slice_get xs (position_or_len p xs) ≡ find p xs → slice_get (x ∷ xs) (cond (not b) (1 + position_or_len p xs) 0) ≡ cond b (Some x) (find p xs)
    at true e = refl
    at false e = let n : 1 + position_or_len p xs ≡ suc (position_or_len p xs) = omega arith in ap (slice_get (x ∷ xs)) n ∙ e

pub found_by_place : {A B : Type 0} (f : A → B) (p : A → Bool) (xs : List A) → option_and_then (slice_get (map f xs)) (position p xs) ≡ option_map f (find p xs)
found_by_place {A} {B} f p xs =
    elim (cases_lt (position_or_len p xs) (length xs)) [
      | inl l ↦ ap (λ b. option_and_then (slice_get (map f xs)) (cond b (Some (position_or_len p xs)) None)) (lt-ltb _ _ l) ∙ slice_get-map f xs (position_or_len p xs) ∙ ap (option_map f) (found_there p xs)
      | inr past ↦ at (ltb (position_or_len p xs) (length xs)) (sym (found_there p xs) ∙ slice_get_past xs (position_or_len p xs) past)
    ]
  where
    at : (b : Bool) → find p xs ≡ None → option_and_then (slice_get (map f xs)) (cond b (Some (position_or_len p xs)) None) ≡ option_map f (find p xs)
    at true e = slice_get-map f xs (position_or_len p xs) ∙ ap (option_map f) (found_there p xs)
    at false e = sym (ap (option_map f) e)

module _ (t : TraceValue) (stays : OpName → Option Op) (known : (n : OpName) → IsSome (stays n) → IsSome (operation_at t n)) where
  -- behind the last operation of a process nothing remains
  none_behind : (p : Process) → process_named t p.name ≡ Some p → (d : ℕ) → filter (is_left stays) (names_from p.name (1 + length p.operations) d) ≡ []
  none_behind p found d = none_in_it (is_left stays) (names_from p.name (1 + length p.operations) d) (λ n c. false_from_ne_true (is_left stays n) (λ h.
      let at = in_names p.name (1 + length p.operations) d n c in
      let missing : operation_at t n ≡ None = ap (option_and_then (λ (q : Process). at_place q.operations n.place)) (ap (process_named t) at.0 ∙ found) ∙ outside p.operations n.place at.1 in
      let clash : false ≡ true = sym (ap is_some missing) ∙ known n h in cc))
    where
      beyond : (ops : List Op) (k : ℕ) → length ops ≤ k → slice_get ops k ≡ None
      beyond [] k l = refl
      beyond (op ∷ ops) zero l = absurd (omega (arith, l))
      beyond (op ∷ ops) (suc k) l = beyond ops k (omega (arith, l))

      outside : (ops : List Op) (k : ℕ) → 1 + length ops ≤ k → at_place ops k ≡ None
      outside ops zero l = refl
      outside ops (suc k) l = beyond ops k (omega (arith, l))

  pub counted : (p : Process) → process_named t p.name ≡ Some p → (e : ℕ) → length (filter (λ (k : ℕ). nat_le k e) (places_of stays p)) ≡ length (filter (is_left stays) (first_names p.name e))
  counted p found e =
      count_mapped (is_left stays) e (names_of p)
      ∙ elim (cases_lt e (length p.operations)) [
        | inl less ↦ ap (λ l. length (filter (is_left stays) l)) (up_to p.name (length p.operations) e (omega (arith, less)))
        | inr other ↦ (
            let l : length p.operations ≤ e = omega (arith, other) in
            let whole : length p.operations + (e - length p.operations) ≡ e = omega (arith, l) in
            ap (λ l. length (filter (is_left stays) l)) (all_up_to p.name (length p.operations) e l)
            ∙ sym (ap length (append-nil (filter (is_left stays) (names_of p))))
            ∙ ap (λ l. length (filter (is_left stays) (names_of p) ++ l)) (sym (none_behind p found (e - length p.operations)))
            ∙ sym (ap length (filter-append (is_left stays) (names_of p) (names_from p.name (1 + length p.operations) (e - length p.operations))))
            ∙ sym (ap (λ l. length (filter (is_left stays) l)) (joined_names p.name 1 (length p.operations) (e - length p.operations)))
            ∙ ap (λ k. length (filter (is_left stays) (first_names p.name k))) whole)
      ]

  -- in a process that the trace does not have nothing remains
  none_there : (name : List ℕ) → process_named t name ≡ None → (e : ℕ) → length (filter (is_left stays) (first_names name e)) ≡ 0
  none_there name missing e = ap length (none_in_it (is_left stays) (first_names name e) (λ n c. false_from_ne_true (is_left stays n) (λ h.
      let at = from_first name e n c in
      let none : operation_at t n ≡ None = ap (option_and_then (λ (q : Process). at_place q.operations n.place)) (ap (process_named t) at.0 ∙ missing) in
      let clash : false ≡ true = sym (ap is_some none) ∙ known n h in cc)))

  pub place_some : (name : List ℕ) (e : ℕ) (p : Process) (left : List ℕ) → process_named t name ≡ Some p → left ≡ places_of stays p → length (filter (λ (k : ℕ). nat_le k e) left) ≡ length (filter (is_left stays) (first_names name e))
  place_some name e p left found is =
      let called = (found_process t name p found).1 in
      ap (λ (v : List ℕ). length (filter (λ (k : ℕ). nat_le k e) v)) is ∙ counted p (ap (process_named t) called ∙ found) e ∙ ap (λ q. length (filter (is_left stays) (first_names q e))) called

-- by the number of its process
module _ (t : TraceValue) (stays : OpName → Option Op) (all : List (List ℕ)) (given : ArePlacesLeft t stays all) where
  placed_as : (name other : List ℕ) (ps : List Process) (o : Option (List ℕ)) → other ≡ name → ps ≡ t.processes → o ≡ option_and_then (slice_get all) (position (λ (p : Process). bytes_eq p.name other) ps) →
      o ≡ option_map (places_of stays) (process_named t name)
  placed_as name other ps o e same h =
      h ∙ (λ i. option_and_then (slice_get (given.values i)) (position (λ (p : Process). bytes_eq p.name (e i)) (same i)))
      ∙ found_by_place (places_of stays) (λ (p : Process). bytes_eq p.name name) t.processes

  some_by : (name : List ℕ) (e : ℕ) (left : List ℕ) (o : Option Process) → process_named t name ≡ o → Some left ≡ option_map (places_of stays) o → length (filter (λ (k : ℕ). nat_le k e) left) ≡ length (filter (is_left stays) (first_names name e))
  some_by name e left None found h = absurd (cc)
  some_by name e left (Some p) found h = place_some t stays given.known name e p left found (same_Some left (places_of stays p) h)

  none_by : (name : List ℕ) (e : ℕ) (o : Option Process) → process_named t name ≡ o → None ≡ option_map (places_of stays) o → 0 ≡ length (filter (is_left stays) (first_names name e))
  none_by name e None found h = sym (none_there t stays given.known name found e)
  none_by name e (Some p) found h = absurd (cc)

  -- no more than the place itself
  up_to_place : (name : List ℕ) (e : ℕ) → length (filter (is_left stays) (first_names name e)) ≤ e
  up_to_place name e = omega (arith, few_pass (is_left stays) (first_names name e), length_names name 1 e)

  pub place_found : (name other : List ℕ) (ps : List Process) (e : ℕ) (left : List ℕ) → other ≡ name → ps ≡ t.processes → Some left ≡ option_and_then (slice_get all) (position (λ (p : Process). bytes_eq p.name other) ps) →
      min (length (filter (λ (k : ℕ). nat_le k e) left)) e ≡ length (filter (is_left stays) (first_names name e))
  place_found name other ps e left same there h =
      let count = some_by name e left (process_named t name) refl (placed_as name other ps (Some left) same there h) in
      omega (arith, count, up_to_place name e)

  pub place_missing : (name other : List ℕ) (ps : List Process) (e : ℕ) → other ≡ name → ps ≡ t.processes → None ≡ option_and_then (slice_get all) (position (λ (p : Process). bytes_eq p.name other) ps) → 0 ≡ length (filter (is_left stays) (first_names name e))
  place_missing name other ps e same there h = none_by name e (process_named t name) refl (placed_as name other ps None same there h)
