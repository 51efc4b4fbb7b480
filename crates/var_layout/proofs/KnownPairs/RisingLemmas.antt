-- The known pairs and the before pairs by number are in order, and two lists in one order that have the same elements are the same.
use Rattle.std.proofs.Common.{◌≡◌, ◌⊎◌, ◌<◌, ℕ, zero, suc, ◌+◌, List, [], ◌∷◌, length, map, get_or, refl, ap, sym, ◌∙◌, arith, inl, inr, subst}
use Rattle.std.specs.Prelude.{Some, IsSome}
use Rattle.std.specs.Cmp.Lexicographic.{slice_cmp}
use Rattle.std.specs.declared.cmp.Ordering.TheVariants.{Less}
use Rattle.std.specs.List.{AllPairs, Contains, filter, range_with_len}
use Rattle.std.specs.Ordering.{nat_cmp}
use Rattle.std.proofs.lemmas.Bool.{cases_order}
use Rattle.std.proofs.lemmas.List.Elements.{All-contains}
use Rattle.std.proofs.lemmas.List.Kept.{AllPairs-cons, AllPairs-filter}
use Rattle.std.proofs.lemmas.Option.{same_Some, slice_get-get_or}
use Rattle.trace_semantics.specs.declared.operation.OpName.{OpName}
use Rattle.trace_semantics.specs.declared.trace.Process.{Process}
use Rattle.trace_semantics.specs.PairOrder.{order_of, pair_order}
use Rattle.trace_semantics.specs.Trace.{TraceValue, IsTrace, operation_at, operation_names, operation_count, first_names}
use Rattle.trace_semantics.proofs.ElementLemmas.{head_in, tail_in, none_in, cases_in, from_map, from_range}
use Rattle.trace_semantics.proofs.NameLemmas.{from_first}
use Rattle.restriction.proofs.OrderedPairLemmas.{all_from, above_first, behind_first, pairs_nil, pairs_flat, pairs_mapped, IsEarlierName, processes_rise, names_rise}
use Rattle.reducer.proofs.KeptTrace.PairLemmas.{pair_earlier}
use Rattle.var_layout.specs.KnownPairs.{numbers_of, is_said, said_after, known_pairs}
use Rattle.var_layout.specs.Numbers.{numbers, name_at, number_of}
use Rattle.var_layout.proofs.NumberLemmas.{known_number, names_counted}

-- two lists in one order
module _ {X : Type 0} (R : X → X → Type 0) (never : (x : X) → R x x → ⊥) (one_way : (x y : X) → R x y → R y x → ⊥) where
  first_same : (x y : X) (xs ys : List X) → AllPairs R (x ∷ xs) → AllPairs R (y ∷ ys) → Contains (y ∷ ys) x → Contains (x ∷ xs) y → x ≡ y
  first_same x y xs ys up other c d =
      elim (cases_in y ys x c) [
        | inl e ↦ sym e
        | inr behind ↦ elim (cases_in x xs y d) [
          | inl e ↦ e
          | inr after ↦ absurd (one_way x y (above_first R x xs up y after) (above_first R y ys other x behind))
        ]
      ]

  behind_same : (x y : X) (xs ys : List X) → x ≡ y → AllPairs R (x ∷ xs) → (z : X) → Contains xs z → Contains (y ∷ ys) z → Contains ys z
  behind_same x y xs ys same up z c d =
      elim (cases_in y ys z d) [
        | inl e ↦ absurd (never x (subst (λ w. R x w) (sym (same ∙ e)) (above_first R x xs up z c)))
        | inr behind ↦ behind
      ]

  pub rising_same : (xs ys : List X) → AllPairs R xs → AllPairs R ys → ((z : X) → Contains xs z → Contains ys z) → ((z : X) → Contains ys z → Contains xs z) → xs ≡ ys
  rising_same [] [] up other to from = refl
  rising_same [] (y ∷ ys) up other to from = absurd (none_in y (from y (head_in y ys)))
  rising_same (x ∷ xs) [] up other to from = absurd (none_in x (to x (head_in x xs)))
  rising_same (x ∷ xs) (y ∷ ys) up other to from =
      let same = first_same x y xs ys up other (to x (head_in x xs)) (from y (head_in y ys)) in
      let rest = rising_same xs ys (behind_first R x xs up) (behind_first R y ys other)
      (λ z c. behind_same x y xs ys same up z c (to z (tail_in x xs z c)))
      (λ z c. behind_same y x ys xs (sym same) other z c (from z (tail_in y ys z c))) in
      λ i. same i ∷ rest i

-- pairs of numbers in order
abbrev pub IsLowerPair : ℕ × ℕ → ℕ × ℕ → Type 0
IsLowerPair x y = (x.0 < y.0) ⊎ ((x.0 ≡ y.0) × (x.1 < y.1))

pub lower_never : (x : ℕ × ℕ) → IsLowerPair x x → ⊥
lower_never x (inl l) = omega (arith, l)
lower_never x (inr h) = let l = h.1 in omega (arith, l)

pub lower_one_way : (x y : ℕ × ℕ) → IsLowerPair x y → IsLowerPair y x → ⊥
lower_one_way x y (inl l) (inl m) = omega (arith, l, m)
lower_one_way x y (inl l) (inr h) = let e = h.0 in omega (arith, l, e)
lower_one_way x y (inr h) (inl m) = let e = h.0 in omega (arith, m, e)
lower_one_way x y (inr h) (inr k) = let l = h.1 in let m = k.1 in omega (arith, l, m)

range_rises : (a n : ℕ) → AllPairs (λ (x y : ℕ). x < y) (range_with_len a n)
range_rises a zero = pairs_nil (λ (x y : ℕ). x < y)
range_rises a (suc n) =
    AllPairs-cons (λ (x y : ℕ). x < y) a (range_with_len (a + 1) n)
    (all_from (λ (y : ℕ). a < y) (range_with_len (a + 1) n) (λ y c. let above = from_range (a + 1) n y c in omega (arith, above.0)))
    (range_rises (a + 1) n)

pub known_rise : (t : TraceValue) → AllPairs IsLowerPair (known_pairs t)
known_rise t =
    let up = range_rises 0 (operation_count t) in
    pairs_flat (λ (x y : ℕ). x < y) IsLowerPair (said_after t) (numbers t) up
    (λ i c. pairs_mapped (λ (x y : ℕ). x < y) IsLowerPair (λ (j : ℕ). (i, j)) (filter (is_said t i) (numbers t)) (AllPairs-filter (λ (x y : ℕ). x < y) (is_said t i) (numbers t) up) (λ x y d e less. inr (refl, less)))
    (λ x y c d less a b e f.
    (let first = from_map (λ (j : ℕ). (x, j)) (filter (is_said t x) (numbers t)) a e in
    let second = from_map (λ (j : ℕ). (y, j)) (filter (is_said t y) (numbers t)) b f in
    let p : x ≡ a.0 = ap (λ (pair : ℕ × ℕ). pair.0) first.2 in
    let q : y ≡ b.0 = ap (λ (pair : ℕ × ℕ). pair.0) second.2 in
    inl (omega (arith, less, p, q))))

-- names in order have numbers in order
earlier_one_way : (ps : List Process) (m n : OpName) → IsEarlierName ps m n → IsEarlierName ps n m → ⊥
earlier_one_way ps m n (inl l) (inl k) = omega (arith, l, k)
earlier_one_way ps m n (inl l) (inr k) = let e : order_of ps n.process ≡ order_of ps m.process = ap (order_of ps) k.0 in omega (arith, l, e)
earlier_one_way ps m n (inr l) (inl k) = let e : order_of ps m.process ≡ order_of ps n.process = ap (order_of ps) l.0 in omega (arith, k, e)
earlier_one_way ps m n (inr l) (inr k) = let a = l.1 in let b = k.1 in omega (arith, a, b)

all_names_rise : (t : TraceValue) → IsTrace t → AllPairs (IsEarlierName t.processes) (operation_names t)
all_names_rise t ok =
    pairs_flat (λ (p q : Process). order_of t.processes p.name < order_of t.processes q.name) (IsEarlierName t.processes) (λ (p : Process). first_names p.name (length p.operations)) t.processes
    (processes_rise t.processes ok.distinct)
    (λ p c. names_rise t.processes p.name 1 (length p.operations))
    (λ p q c d less m n e f.
    (let first = from_first p.name (length p.operations) m e in
    let second = from_first q.name (length q.operations) n f in
    let a : order_of t.processes m.process ≡ order_of t.processes p.name = ap (order_of t.processes) first.0 in
    let b : order_of t.processes n.process ≡ order_of t.processes q.name = ap (order_of t.processes) second.0 in
    inl (omega (arith, less, a, b))))

name_of_number : (t : TraceValue) (i : ℕ) (n d : OpName) → i < operation_count t → name_at t i ≡ Some n → get_or (operation_names t) i d ≡ n
name_of_number t i n d l e = same_Some (get_or (operation_names t) i d) n (sym (slice_get-get_or (operation_names t) i d (omega (arith, l, names_counted t))) ∙ e)

by_number : (t : TraceValue) → IsTrace t → (i j : ℕ) (m n : OpName) → i < j → j < operation_count t → name_at t i ≡ Some m → name_at t j ≡ Some n → IsEarlierName t.processes m n
by_number t ok i j m n less l first second =
    let d : OpName = m in
    let up = all_names_rise t ok i j d less (omega (arith, l, names_counted t)) in
    let a = name_of_number t i m d (omega (arith, less, l)) first in
    let b = name_of_number t j n d l second in
    subst (λ (k : OpName). IsEarlierName t.processes k n) a (subst (λ (k : OpName). IsEarlierName t.processes (get_or (operation_names t) i d) k) b up)

pub number_less : (t : TraceValue) → IsTrace t → (m n : OpName) → IsSome (operation_at t m) → IsSome (operation_at t n) → IsEarlierName t.processes m n → number_of t m < number_of t n
number_less t ok m n h k earlier =
    let first = known_number t m h in
    let second = known_number t n k in
    elim (cases_order (number_of t m) (number_of t n)) [
      | inl e ↦ (let same : m ≡ n = same_Some m n (sym first.named ∙ ap (name_at t) e ∙ second.named) in
          let turned : IsEarlierName t.processes n m = subst (λ (x : OpName). IsEarlierName t.processes x m) same (subst (λ (x : OpName). IsEarlierName t.processes m x) (sym same) earlier) in
          absurd (earlier_one_way t.processes m n earlier turned))
      | inr (inl less) ↦ less
      | inr (inr more) ↦ absurd (earlier_one_way t.processes m n earlier (by_number t ok (number_of t n) (number_of t m) n m more first.within second.named first.named))
    ]

pub before_rise : (t : TraceValue) → IsTrace t → AllPairs IsLowerPair (map (numbers_of t) t.before)
before_rise t ok =
    pairs_mapped (λ (x y : OpName × OpName). slice_cmp nat_cmp (pair_order t.processes x) (pair_order t.processes y) ≡ Less) IsLowerPair (numbers_of t) t.before ok.before_order
    (λ x y c d less. lower x y (known_pair x c) (known_pair y d) (pair_earlier t x y (known_pair x c) (known_pair y d) less))
  where
    known_pair : (x : OpName × OpName) → Contains t.before x → IsSome (operation_at t x.0) × IsSome (operation_at t x.1)
    known_pair x c = All-contains (λ (p : OpName × OpName). IsSome (operation_at t p.0) × IsSome (operation_at t p.1)) t.before x ok.known c

    lower : (x y : OpName × OpName) → IsSome (operation_at t x.0) × IsSome (operation_at t x.1) → IsSome (operation_at t y.0) × IsSome (operation_at t y.1) →
        IsEarlierName t.processes x.0 y.0 ⊎ ((x.0 ≡ y.0) × IsEarlierName t.processes x.1 y.1) → IsLowerPair (numbers_of t x) (numbers_of t y)
    lower x y h k (inl earlier) = inl (number_less t ok x.0 y.0 h.0 k.0 earlier)
    lower x y h k (inr e) = inr (ap (number_of t) e.0, number_less t ok x.1 y.1 h.1 k.1 e.1)
