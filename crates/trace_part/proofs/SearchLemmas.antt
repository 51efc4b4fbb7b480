-- In an order that is closed forward, the names of a process that a name stands before come after the others.
use Rattle.std.proofs.Common.{◌≡◌, ◌≤◌, ◌<◌, ℕ, zero, suc, List, [], ◌∷◌, length, get_or, Bool, true, false, cond, not, refl, ap, sym, ◌∙◌, arith, inl, inr, subst}
use Rattle.std.specs.Prelude.{Option, Some, IsSome}
use Rattle.std.specs.List.{Contains, find, slice_get}
use Rattle.std.specs.List.Sorted.{IsPartitionPoint}
use Rattle.std.proofs.lemmas.Bool.{cases_order}
use Rattle.std.proofs.lemmas.List.Elements.{Contains-get_or}
use Rattle.trace_semantics.specs.declared.operation.Op.{Op}
use Rattle.trace_semantics.specs.declared.operation.OpName.{OpName}
use Rattle.trace_semantics.specs.Trace.{TraceValue, IsTrace, operation_at, operation_names}
use Rattle.trace_semantics.proofs.ElementLemmas.{from_filter, from_map}
use Rattle.restriction.specs.Left.{is_left}
use Rattle.forced_order.specs.Order.{IsClosedForward}
use Rattle.forced_order.specs.Rows.{OrderValue, stands_by, numbered, ordered_by}
use Rattle.part_law.specs.Part.{left_names}
use Rattle.trace_part.specs.declared.left_names.LeftName.{LeftName}
use Rattle.trace_part.specs.Rows.{Leaves, LeftValue, left_row}
use Rattle.trace_part.specs.Told.{AreForward, groups_of}
use Rattle.trace_part.proofs.ForwardLemmas.{forward_names}
use Rattle.trace_part.proofs.PairRowLemmas.{groups_are, joined_are}
use Rattle.trace_part.proofs.ToldLemmas.{joined, whole_from}

-- the element at which a test begins to pass is the first that passes
pub found_at : {A : Type 0} (p : A → Bool) (xs : List A) (i : ℕ) → i ≤ length xs → IsPartitionPoint (λ y. not (p y) ≡ true) (λ y. not (p y) ≡ false) xs i → find p xs ≡ slice_get xs i
found_at p [] zero l at = refl
found_at p [] (suc i) l at = absurd (omega (arith, l))
found_at p (x ∷ xs) zero l at = ap (λ b. cond b (Some x) (find p xs)) (passes (p x) (at.1 0 x (omega arith) (omega arith)))
  where
    passes : (b : Bool) → not b ≡ false → b ≡ true
    passes true h = refl
    passes false h = absurd (cc)
found_at p (x ∷ xs) (suc i) l at =
    ap (λ b. cond b (Some x) (find p xs)) (fails (p x) (at.0 0 x (omega arith) (omega arith)))
    ∙ found_at p xs i (omega (arith, l)) ((λ k d low high. at.0 (suc k) d (omega arith) (omega (arith, high))), (λ k d low high. at.1 (suc k) d (omega (arith, low)) (omega (arith, high))))
  where
    fails : (b : Bool) → not b ≡ true → b ≡ false
    fails true h = absurd (cc)
    fails false h = refl

turned : (b c : Bool) → (b ≡ true → c ≡ true) → not c ≡ true → not b ≡ true
turned true true h f = absurd (cc)
turned true false h f = absurd (let g = h refl in cc)
turned false c h f = refl

module _ (t : TraceValue) (ok : IsTrace t) (order : OrderValue) (closed : IsClosedForward t (ordered_by t order)) (stays : OpName → Option Op) (all : List LeftValue) (given : Leaves t stays all) where
  -- the name of a row
  named : (x : LeftName) → Contains (joined (groups_of t stays)) x → (n : OpName) × IsSome (operation_at t n) × (left_row t stays n ≡ x)
  named x c =
      let n = from_map (left_row t stays) (left_names t stays) x (subst (λ l. Contains l x) (joined_are t ok order stays all given t.processes) c) in
      (n.0, given.known n.0 (from_filter (is_left stays) (operation_names t) n.0 n.1).1, n.2)

  no_later : (group : List LeftName) (i j : ℕ) (d : LeftName) → i ≤ j → j < length group → ((a b : ℕ) (e : LeftName) → a < b → b < length group → (get_or group a e).name.place < (get_or group b e).name.place) → (get_or group i d).name.place ≤ (get_or group j d).name.place
  no_later group i j d l inside rising =
      elim (cases_order i j) [
        | inl same ↦ (let e : (get_or group i d).name.place ≡ (get_or group j d).name.place = ap (λ k. (get_or group k d).name.place) same in omega (arith, e))
        | inr (inl less) ↦ (let e = rising i j d less inside in omega (arith, e))
        | inr (inr more) ↦ absurd (omega (arith, l, more))
      ]

  pub are_forward : AreForward order (groups_of t stays)
  are_forward names c m d group e i j n l inside h =
      let own = whole_from 0 (groups_of t stays) (groups_are t ok order stays all given) names c in
      let whole = whole_from 0 (groups_of t stays) (groups_are t ok order stays all given) group e in
      let x : LeftName = get_or group i n in
      let y : LeftName = get_or group j n in
      let first : Contains group x = Contains-get_or group i n (omega (arith, l, inside)) in
      let second : Contains group y = Contains-get_or group j n inside in
      let k = named m (own.among m d) in
      let a = named x (whole.among x first) in
      let b = named y (whole.among y second) in
      let process : (numbered t.processes a.0).process ≡ (numbered t.processes b.0).process = ap (λ (v : LeftName). v.name.process) a.2 ∙ whole.one_process x y first second ∙ sym (ap (λ (v : LeftName). v.name.process) b.2) in
      let low = no_later group i j n l inside whole.rising in
      let first_place : a.0.place ≡ x.name.place = ap (λ (v : LeftName). v.name.place) a.2 in
      let second_place : b.0.place ≡ y.name.place = ap (λ (v : LeftName). v.name.place) b.2 in
      turned (stands_by order m.name x.name) (stands_by order m.name y.name) (λ s.
      (λ v. stands_by order (sym k.2 v).name (sym b.2 v).name)
      ∙ forward_names t order closed k.0 a.0 b.0 k.1 a.1 b.1 process (omega (arith, low, first_place, second_place)) ((λ v. stands_by order (k.2 v).name (a.2 v).name) ∙ s)) h
