-- What is kept of sources, one after the other.
use Rattle.std.proofs.Common.{◌≡◌, ◌≢◌, ◌⊎◌, ◌≤◌, ◌<◌, ◌+◌, ◌==◌, ◌&&◌, ℕ, Bool, List, [], ◌∷◌, ◌++◌, true, false, cond, length, map, get_or, refl, ap, sym, ◌∙◌, arith, subst, inl, inr}
use Rattle.std.specs.Borrow.{Bor}
use Rattle.std.specs.Prelude.{Some}
use Rattle.std.specs.List.{AllPairs, Contains}
use Rattle.std.specs.Str.{bytes_eq}
use Rattle.std.proofs.lemmas.Bool.{and_parts, cases_order, eq-eqb, eqb-true}
use Rattle.std.proofs.lemmas.List.{get_or_default, get_or-map, get_or_append_left, get_or_push, length-map, length_push}
use Rattle.std.proofs.lemmas.List.Elements.{All-contains_itself, Contains-push_cases}
use Rattle.std.proofs.lemmas.List.Quantifiers.{all_pairs_push}
use Rattle.std.proofs.lemmas.Option.{same_Some}
use Rattle.trace_semantics.proofs.NameLemmas.{bytes_same}
use Rattle.restriction.proofs.OrderedPairLemmas.{pairs_nil}
use Rattle.writer_table.specs.declared.operation_place.OperationPlace.{OperationPlace}
use Rattle.writer_table.specs.declared.runs.Run.{Run}
use Rattle.writer_table.specs.declared.trace_writers.TraceWriters.{TraceWriters}
use Rattle.writer_table.specs.Writers.{runs_at}
use Rattle.reason_clauses.specs.Numbered.{at_number}
use Rattle.reason_counting.specs.CountedMembers.{IsOfPlaces, IsOfRuns, IsOfStretches}
use Rattle.reason_counting.specs.DistinctSources.{AreApart, AreNone, HasLocation, KeptOnly, place_kept}
use Rattle.reason_counting.specs.declared.distinct_sources.DistinctSources.{DistinctSources}
use Rattle.reason_counting.specs.declared.left_sources.LeftStretch.{LeftStretch}

-- the table says where an operation that is kept stands
pub place_of_kept : (kept : DistinctSources) (n : OperationPlace) → AreApart kept → (c : Contains kept.operations.items n) → place_kept kept n ≡ Some c.0
place_of_kept kept n apart c = subst (λ (m : OperationPlace). place_kept kept m ≡ Some c.0) c.2 (apart.operations c.0 n c.1)

-- the operation does not stand where the table says, and so it is not kept
pub other_at : (kept : DistinctSources) (n : OperationPlace) (place : ℕ) → place_kept kept n ≡ Some place → ((d : OperationPlace) → place < length kept.operations.items → get_or kept.operations.items place d ≡ n → ⊥) → AreApart kept → Contains kept.operations.items n → ⊥
other_at kept n place found other apart there =
    let same : there.0 ≡ place = same_Some there.0 place (sym (place_of_kept kept n apart there) ∙ found) in
    other n (subst (λ i. i < length kept.operations.items) same there.1) (subst (λ i. get_or kept.operations.items i n ≡ n) same there.2)

-- one more of the locations is another one
pub other_next : (locations : List (Bor (List ℕ))) (location : List ℕ) (k : ℕ) (x : Bor (List ℕ)) → ((j : ℕ) (d : Bor (List ℕ)) → j < k → (get_or locations j d).now ≡ location → ⊥) → k < length locations → bytes_eq (get_or locations k x).now location ≡ false →
    (j : ℕ) (d : Bor (List ℕ)) → j < k + 1 → (get_or locations j d).now ≡ location → ⊥
other_next locations location k x so low other j d less same =
    elim (cases_order j k) [
      | inl e ↦ here (ap (λ n. get_or locations n d) e ∙ get_or_default locations k d x low)
      | inr (inl lower) ↦ so j d lower same
      | inr (inr higher) ↦ omega (arith, less, higher)
    ]
  where
    here : get_or locations j d ≡ get_or locations k x → ⊥
    here e = (let clash : true ≡ false = sym (bytes_same (get_or locations k x).now location (sym (ap (λ (b : Bor (List ℕ)). b.now) e) ∙ same)) ∙ other in cc)

-- where nothing is kept, nothing is kept twice
pub apart_none : (kept : DistinctSources) → AreNone kept → AreApart kept
apart_none kept none = record {
  operations = subst (λ (l : List OperationPlace). (i : ℕ) (d : OperationPlace) → i < length l → place_kept kept (get_or l i d) ≡ Some i) (sym none.0) (λ i d low. absurd (omega (arith, low)));
  locations = subst (λ (l : List (Bor (List ℕ))). AllPairs (λ (x y : Bor (List ℕ)). x.now ≢ y.now) l) (sym none.1) (pairs_nil (λ (x y : Bor (List ℕ)). x.now ≢ y.now));
}

-- no operation is kept twice, and no location
pub operations_apart : (kept : DistinctSources) → AreApart kept → AllPairs (λ (x y : OperationPlace). x ≢ y) kept.operations.items
operations_apart kept apart i j d less low same =
    let first : place_kept kept (get_or kept.operations.items i d) ≡ Some i = apart.operations i d (omega (arith, less, low)) in
    let second : place_kept kept (get_or kept.operations.items j d) ≡ Some j = apart.operations j d low in
    let one : i ≡ j = same_Some i j (sym first ∙ ap (λ (n : OperationPlace). place_kept kept n) same ∙ second) in
    omega (arith, one, less)

pub locations_apart : (kept : DistinctSources) → AreApart kept → AllPairs (λ (x y : List ℕ). x ≢ y) (map (λ (x : Bor (List ℕ)). x.now) kept.locations.items)
locations_apart kept apart i j e less low same =
    let long = length-map kept.locations.items (λ (x : Bor (List ℕ)). x.now) in
    at (record { ref_ptr = (0, 0); now = e }) (omega (arith, low, long))
  where
    at : (d : Bor (List ℕ)) → j < length kept.locations.items → ⊥
    at d below =
        let first = get_or-map (λ (x : Bor (List ℕ)). x.now) kept.locations.items i d e (omega (arith, less, below)) in
        let second = get_or-map (λ (x : Bor (List ℕ)). x.now) kept.locations.items j d e below in
        apart.locations i j d less below (sym first ∙ same ∙ second)

-- an operation more that was not kept, which the table has
apart_pushed : (old new : DistinctSources) (n : OperationPlace) (place : ℕ) → new.operations.items ≡ old.operations.items ++ n ∷ [] → new.locations.items ≡ old.locations.items → place ≡ length old.operations.items →
    ((m : OperationPlace) → place_kept new m ≡ cond ((n.process == m.process) && (n.place == m.place)) (Some place) (place_kept old m)) → (AreApart old → Contains old.operations.items n → ⊥) → AreApart old → AreApart new
apart_pushed old new n place operations locations end table lone apart = record {
  operations = subst (λ (l : List OperationPlace). (i : ℕ) (d : OperationPlace) → i < length l → place_kept new (get_or l i d) ≡ Some i) (sym operations) at;
  locations = subst (λ (l : List (Bor (List ℕ))). AllPairs (λ (x y : Bor (List ℕ)). x.now ≢ y.now) l) (sym locations) apart.locations;
}
  where
    known : (m : OperationPlace) (i : ℕ) → place_kept old m ≡ Some i → Contains old.operations.items m → (b : Bool) → ((n.process == m.process) && (n.place == m.place)) ≡ b → cond b (Some place) (place_kept old m) ≡ Some i
    known m i is c false e = is
    known m i is c true e =
        let both = and_parts (n.process == m.process) (n.place == m.place) e in
        let process = eqb-true n.process m.process both.0 in
        let number = eqb-true n.place m.place both.1 in
        let same : n ≡ m = λ k. record { process = process k; place = number k } in
        absurd (lone apart (subst (λ (o : OperationPlace). Contains old.operations.items o) (sym same) c))

    last : (i : ℕ) → place ≡ i → (b : Bool) → ((n.process == n.process) && (n.place == n.place)) ≡ b → cond b (Some place) (place_kept old n) ≡ Some i
    last i e true is = ap Some e
    last i e false is = absurd (let same : ((n.process == n.process) && (n.place == n.place)) ≡ true = ap (λ b. b && (n.place == n.place)) (eq-eqb n.process n.process refl) ∙ eq-eqb n.place n.place refl in let clash : true ≡ false = sym same ∙ is in cc)

    at : (i : ℕ) (d : OperationPlace) → i < length (old.operations.items ++ n ∷ []) → place_kept new (get_or (old.operations.items ++ n ∷ []) i d) ≡ Some i
    at i d low =
        let long = length_push old.operations.items n in
        elim (cases_order i (length old.operations.items)) [
          | inl e ↦ ap (λ (m : OperationPlace). place_kept new m) (get_or_push old.operations.items n d i (sym e)) ∙ table n ∙ last i (end ∙ sym e) ((n.process == n.process) && (n.place == n.place)) refl
          | inr (inl lower) ↦ ap (λ (m : OperationPlace). place_kept new m) (get_or_append_left old.operations.items (n ∷ []) d i lower) ∙ table (get_or old.operations.items i d)
              ∙ known (get_or old.operations.items i d) i (apart.operations i d lower) (All-contains_itself old.operations.items i d lower) ((n.process == (get_or old.operations.items i d).process) && (n.place == (get_or old.operations.items i d).place)) refl
          | inr (inr higher) ↦ absurd (omega (arith, low, higher, long))
        ]

-- a location more that was not kept
apart_placed : (old new : DistinctSources) (x : Bor (List ℕ)) → new.operations.items ≡ old.operations.items → new.locations.items ≡ old.locations.items ++ x ∷ [] → ((m : OperationPlace) → place_kept new m ≡ place_kept old m) → (HasLocation old.locations.items x.now → ⊥) → AreApart old → AreApart new
apart_placed old new x operations locations table lone apart = record {
  operations = subst (λ (l : List OperationPlace). (i : ℕ) (d : OperationPlace) → i < length l → place_kept new (get_or l i d) ≡ Some i) (sym operations) (λ i d low. table (get_or old.operations.items i d) ∙ apart.operations i d low);
  locations = subst (λ (l : List (Bor (List ℕ))). AllPairs (λ (x y : Bor (List ℕ)). x.now ≢ y.now) l) (sym locations)
      (all_pairs_push (λ (x y : Bor (List ℕ)). x.now ≢ y.now) old.locations.items x apart.locations (λ k d low same. lone (get_or old.locations.items k d, All-contains_itself old.locations.items k d low, same)));
}

pub kept_none : (kept : DistinctSources) (Is : OperationPlace → Type 0) (Starts : List ℕ → Type 0) → KeptOnly kept kept Is Starts
kept_none kept Is Starts = record { operations = λ n c. inl c; locations = λ a h. inl h; apart = λ h. h }

pub kept_over : (old mid new : DistinctSources) (P Q : OperationPlace → Type 0) (S T : List ℕ → Type 0) → ((n : OperationPlace) → P n → Q n) → ((a : List ℕ) → S a → T a) → KeptOnly old mid Q T → KeptOnly mid new P S → KeptOnly old new Q T
kept_over old mid new P Q S T f g first second = record { operations = λ n c. operation n (second.operations n c); locations = λ a h. location a (second.locations a h); apart = λ h. second.apart (first.apart h) }
  where
    operation : (n : OperationPlace) → Contains mid.operations.items n ⊎ P n → Contains old.operations.items n ⊎ Q n
    operation n (inl c) = first.operations n c
    operation n (inr h) = inr (f n h)

    location : (a : List ℕ) → HasLocation mid.locations.items a ⊎ S a → HasLocation old.locations.items a ⊎ T a
    location a (inl h) = first.locations a h
    location a (inr h) = inr (g a h)

pub kept_weaker : (old new : DistinctSources) (P Q : OperationPlace → Type 0) (S T : List ℕ → Type 0) → ((n : OperationPlace) → P n → Q n) → ((a : List ℕ) → S a → T a) → KeptOnly old new P S → KeptOnly old new Q T
kept_weaker old new P Q S T f g h = kept_over old old new P Q S T f g (kept_none old Q T) h

-- one operation more
pub kept_pushed : (old new : DistinctSources) (n : OperationPlace) (place : ℕ) → new.operations.items ≡ old.operations.items ++ n ∷ [] → new.locations.items ≡ old.locations.items → place ≡ length old.operations.items →
    ((m : OperationPlace) → place_kept new m ≡ cond ((n.process == m.process) && (n.place == m.place)) (Some place) (place_kept old m)) → (AreApart old → Contains old.operations.items n → ⊥) → KeptOnly old new (λ m. m ≡ n) (λ a. ⊥)
kept_pushed old new n place operations locations end table lone = record {
  operations = λ m c. (elim (Contains-push_cases old.operations.items n m (subst (λ (l : List OperationPlace). Contains l m) operations c)) [
    | inl d ↦ inl d
    | inr e ↦ inr (sym e)
  ]);
  locations = λ a h. inl (subst (λ (l : List (Bor (List ℕ))). HasLocation l a) locations h);
  apart = apart_pushed old new n place operations locations end table lone;
}

-- one location more
pub kept_placed : (old new : DistinctSources) (x : Bor (List ℕ)) → new.operations.items ≡ old.operations.items → new.locations.items ≡ old.locations.items ++ x ∷ [] → ((m : OperationPlace) → place_kept new m ≡ place_kept old m) → (HasLocation old.locations.items x.now → ⊥) →
    KeptOnly old new (λ m. ⊥) (λ a. a ≡ x.now)
kept_placed old new x operations locations table lone = record {
  operations = λ m c. inl (subst (λ (l : List OperationPlace). Contains l m) operations c);
  locations = λ a h. at a h.0 h.2 (Contains-push_cases old.locations.items x h.0 (subst (λ (l : List (Bor (List ℕ))). Contains l h.0) locations h.1));
  apart = apart_placed old new x operations locations table lone;
}
  where
    at : (a : List ℕ) (y : Bor (List ℕ)) → y.now ≡ a → Contains old.locations.items y ⊎ (x ≡ y) → HasLocation old.locations.items a ⊎ (a ≡ x.now)
    at a y e (inl c) = inl (y, c, e)
    at a y e (inr same) = inr (subst (λ (z : Bor (List ℕ)). a ≡ z.now) (sym same) (sym e))

-- one place more
pub places_next : (stretch : LeftStretch) (process : ℕ) (places : List ℕ) (i d : ℕ) (old mid new : DistinctSources) → i < length places → KeptOnly old mid (IsOfPlaces stretch process places) (λ a. ⊥) →
    KeptOnly mid new (λ n. (n ≡ at_number process (get_or places i d)) × (stretch.first ≤ get_or places i d) × (get_or places i d ≤ stretch.last)) (λ a. ⊥) → KeptOnly old new (IsOfPlaces stretch process places) (λ a. ⊥)
places_next stretch process places i d old mid new low first second =
    kept_over old mid new (λ n. (n ≡ at_number process (get_or places i d)) × (stretch.first ≤ get_or places i d) × (get_or places i d ≤ stretch.last)) (IsOfPlaces stretch process places) (λ a. ⊥) (λ a. ⊥)
    (λ n h. (get_or places i d, All-contains_itself places i d low, h.0, h.1, h.2)) (λ a h. h) first second

-- one run more
pub runs_next : (stretch : LeftStretch) (runs : List Run) (run : Run) (old mid new : DistinctSources) → Contains runs run → KeptOnly old mid (IsOfRuns stretch runs) (λ a. ⊥) → KeptOnly mid new (λ n. (run.process ≡ stretch.process) × IsOfPlaces stretch run.process run.places n) (λ a. ⊥) →
    KeptOnly old new (IsOfRuns stretch runs) (λ a. ⊥)
runs_next stretch runs run old mid new listed first second =
    kept_over old mid new (λ n. (run.process ≡ stretch.process) × IsOfPlaces stretch run.process run.places n) (IsOfRuns stretch runs) (λ a. ⊥) (λ a. ⊥) (λ n h. (run, listed, h.0, h.1)) (λ a h. h) first second

-- one stretch more
pub stretches_next : (writers : TraceWriters) (location : List ℕ) (stretches : List LeftStretch) (i : ℕ) (d : LeftStretch) (old mid new : DistinctSources) → i < length stretches → KeptOnly old mid (IsOfStretches writers location stretches) (λ a. ⊥) →
    KeptOnly mid new (IsOfRuns (get_or stretches i d) (runs_at writers location (get_or stretches i d).value)) (λ a. ⊥) → KeptOnly old new (IsOfStretches writers location stretches) (λ a. ⊥)
stretches_next writers location stretches i d old mid new low first second =
    kept_over old mid new (IsOfRuns (get_or stretches i d) (runs_at writers location (get_or stretches i d).value)) (IsOfStretches writers location stretches) (λ a. ⊥) (λ a. ⊥)
    (λ n h. (get_or stretches i d, All-contains_itself stretches i d low, h)) (λ a h. h) first second
