-- No two choices and no two final choices have one variable, and the three kinds of variables are apart.
use Rattle.std.proofs.Common.{◌≡◌, ℕ, zero, suc, ◌+◌, ◌-◌, ◌<◌, ◌≤◌, max, List, [], ◌∷◌, length, take, false, cond, ap, sym, ◌∙◌, arith, inl, inr, Some}
use Rattle.std.specs.Prelude.{is_some}
use Rattle.std.specs.List.{Contains, slice_get, sum_by, range_with_len}
use Rattle.std.proofs.lemmas.Bool.{cases_order}
use Rattle.std.proofs.lemmas.List.Sums.{sum_by-cons}
use Rattle.std.proofs.lemmas.Option.{slice_get_within}
use Rattle.trace_semantics.specs.Trace.{TraceValue, operation_count}
use Rattle.trace_semantics.proofs.ElementLemmas.{from_filter, from_range}
use Rattle.var_layout.specs.declared.candidate.Candidate.{Candidate}
use Rattle.var_layout.specs.Candidates.{candidates}
use Rattle.var_layout.specs.ChoiceVariables.{choice_count, all_choices, first_choice}
use Rattle.var_layout.specs.FinalVariables.{final_candidates, is_untouched, final_count, first_final}
use Rattle.var_layout.specs.Numbers.{numbers, read_at, readers}
use Rattle.var_layout.specs.OrderVariables.{order_count}

-- sums over the first numbers
sum_split : (f : ℕ → ℕ) (a m n : ℕ) → sum_by f (range_with_len a (m + n)) ≡ sum_by f (range_with_len a m) + sum_by f (range_with_len (a + m) n)
sum_split f a zero n =
    let e : zero + n ≡ n = omega arith in
    let g : a + zero ≡ a = omega arith in
    let left : sum_by f (range_with_len a (zero + n)) ≡ sum_by f (range_with_len a n) = ap (λ k. sum_by f (range_with_len a k)) e in
    let right : sum_by f (range_with_len (a + zero) n) ≡ sum_by f (range_with_len a n) = ap (λ k. sum_by f (range_with_len k n)) g in
    omega (arith, left, right)
sum_split f a (suc m) n =
    let e : suc m + n ≡ suc (m + n) = omega arith in
    let g : a + 1 + m ≡ a + suc m = omega arith in
    let whole : sum_by f (range_with_len a (suc m + n)) ≡ f a + sum_by f (range_with_len (a + 1) (m + n)) = ap (λ k. sum_by f (range_with_len a k)) e ∙ sum_by-cons f a (range_with_len (a + 1) (m + n)) in
    let front : sum_by f (range_with_len a (suc m)) ≡ f a + sum_by f (range_with_len (a + 1) m) = sum_by-cons f a (range_with_len (a + 1) m) in
    let back : sum_by f (range_with_len (a + 1 + m) n) ≡ sum_by f (range_with_len (a + suc m) n) = ap (λ k. sum_by f (range_with_len k n)) g in
    let more = sum_split f (a + 1) m n in
    omega (arith, whole, front, back, more)

pub range_below : (f : ℕ → ℕ) (r k : ℕ) → r < k → sum_by f (range_with_len 0 r) + f r ≤ sum_by f (range_with_len 0 k)
range_below f r k h =
    let e : r + suc (k - r - 1) ≡ k = omega (arith, h) in
    let zero_more : 0 + r ≡ r = omega arith in
    let whole : sum_by f (range_with_len 0 (r + suc (k - r - 1))) ≡ sum_by f (range_with_len 0 k) = ap (λ m. sum_by f (range_with_len 0 m)) e in
    let split = sum_split f 0 r (suc (k - r - 1)) in
    let here : sum_by f (range_with_len (0 + r) (suc (k - r - 1))) ≡ f (0 + r) + sum_by f (range_with_len (0 + r + 1) (k - r - 1)) = sum_by-cons f (0 + r) (range_with_len (0 + r + 1) (k - r - 1)) in
    let same : f (0 + r) ≡ f r = ap f zero_more in
    omega (arith, whole, split, here, same)

pub take_below : {A : Type 0} (f : A → ℕ) (xs : List A) (i j : ℕ) (x : A) → i < j → slice_get xs i ≡ Some x → sum_by f (take i xs) + f x ≤ sum_by f (take j xs)
take_below f [] i j x h e = absurd (cc)
take_below f (y ∷ ys) i zero x h e = absurd (omega (arith, h))
take_below f (y ∷ ys) zero (suc j) x h e =
    let same : f y ≡ f x = (let element : y ≡ x = cc in ap f element) in
    let all = sum_by-cons f y (take j ys) in
    omega (arith, same, all)
take_below f (y ∷ ys) (suc i) (suc j) x h e =
    let front = sum_by-cons f y (take i ys) in
    let all = sum_by-cons f y (take j ys) in
    let more = take_below f ys i j x (omega (arith, h)) e in
    omega (arith, front, all, more)

-- the k-th candidate of a reading operation
pub record IsChoice (t : TraceValue) (r k : ℕ) (c : Candidate) : Type 0 where
  pub reader : Contains (readers t) r
  pub candidate : slice_get (candidates t r) k ≡ Some c

reader_within : (t : TraceValue) (r : ℕ) → Contains (readers t) r → r < operation_count t
reader_within t r c =
    let at = from_filter (λ (i : ℕ). is_some (read_at t i)) (numbers t) r c in
    let within = from_range 0 (operation_count t) r at.0 in
    omega (arith, within.1)

counted : (t : TraceValue) (r k : ℕ) (c : Candidate) → IsChoice t r k c → k < choice_count t r
counted t r k c is =
    let at = from_filter (λ (i : ℕ). is_some (read_at t i)) (numbers t) r is.reader in
    let count : choice_count t r ≡ max 1 (length (candidates t r)) = ap (λ b. cond b (max 1 (length (candidates t r))) 0) at.1 in
    let within = slice_get_within (candidates t r) k c is.candidate in
    omega (arith, count, within)

pub choice_above : (t : TraceValue) (r k : ℕ) → order_count (operation_count t) < first_choice t r + k
choice_above t r k = omega arith

pub choice_within : (t : TraceValue) (r k : ℕ) (c : Candidate) → IsChoice t r k c → first_choice t r + k ≤ order_count (operation_count t) + all_choices t
choice_within t r k c is = omega (arith, counted t r k c is, range_below (choice_count t) r (operation_count t) (reader_within t r is.reader))

choices_rise : (t : TraceValue) (r k : ℕ) (c : Candidate) (s m : ℕ) → IsChoice t r k c → r < s → first_choice t r + k < first_choice t s + m
choices_rise t r k c s m is h = omega (arith, counted t r k c is, range_below (choice_count t) r s h)

pub one_choice : (t : TraceValue) (r k : ℕ) (c : Candidate) (s m : ℕ) (d : Candidate) → IsChoice t r k c → IsChoice t s m d → first_choice t r + k ≡ first_choice t s + m → (r ≡ s) × (c ≡ d)
one_choice t r k c s m d is other e =
    elim (cases_order r s) [
      | inl same ↦ (same, same_candidate same)
      | inr (inl h) ↦ absurd (let less = choices_rise t r k c s m is h in omega (arith, less, e))
      | inr (inr h) ↦ absurd (let less = choices_rise t s m d r k other h in omega (arith, less, e))
    ]
  where
    same_candidate : r ≡ s → c ≡ d
    same_candidate same =
        let firsts : first_choice t r ≡ first_choice t s = ap (first_choice t) same in
        let places : k ≡ m = omega (arith, e, firsts) in
        let both : Some c ≡ Some d = sym is.candidate ∙ (λ i. slice_get (candidates t (same i)) (places i)) ∙ other.candidate in
        cc

-- the k-th writer that may be the last one of the i-th final value
pub record IsFinalChoice (t : TraceValue) (i : ℕ) (entry : List ℕ × ℕ) (k w : ℕ) : Type 0 where
  pub given : slice_get t.final_values i ≡ Some entry
  pub touched : is_untouched t entry ≡ false
  pub writer : slice_get (final_candidates t entry) k ≡ Some w

final_counted : (t : TraceValue) (i : ℕ) (entry : List ℕ × ℕ) (k w : ℕ) → IsFinalChoice t i entry k w → k < final_count t entry
final_counted t i entry k w is =
    let count : final_count t entry ≡ max 1 (length (final_candidates t entry)) = ap (λ b. cond b 0 (max 1 (length (final_candidates t entry)))) is.touched in
    let within = slice_get_within (final_candidates t entry) k w is.writer in
    omega (arith, count, within)

pub final_above : (t : TraceValue) (i k : ℕ) → order_count (operation_count t) + all_choices t < first_final t i + k
final_above t i k = omega arith

finals_rise : (t : TraceValue) (i : ℕ) (entry : List ℕ × ℕ) (k w j m : ℕ) → IsFinalChoice t i entry k w → i < j → first_final t i + k < first_final t j + m
finals_rise t i entry k w j m is h = omega (arith, final_counted t i entry k w is, take_below (final_count t) t.final_values i j entry h is.given)

pub one_final : (t : TraceValue) (i : ℕ) (entry : List ℕ × ℕ) (k w j : ℕ) (other : List ℕ × ℕ) (m v : ℕ) → IsFinalChoice t i entry k w → IsFinalChoice t j other m v → first_final t i + k ≡ first_final t j + m → (entry ≡ other) × (w ≡ v)
one_final t i entry k w j other m v is that e =
    elim (cases_order i j) [
      | inl same ↦ (same_entry same, same_writer same)
      | inr (inl h) ↦ absurd (let less = finals_rise t i entry k w j m is h in omega (arith, less, e))
      | inr (inr h) ↦ absurd (let less = finals_rise t j other m v i k that h in omega (arith, less, e))
    ]
  where
    same_entry : i ≡ j → entry ≡ other
    same_entry same = (let both : Some entry ≡ Some other = sym is.given ∙ ap (slice_get t.final_values) same ∙ that.given in cc)

    same_writer : i ≡ j → w ≡ v
    same_writer same =
        let firsts : first_final t i ≡ first_final t j = ap (first_final t) same in
        let places : k ≡ m = omega (arith, e, firsts) in
        let entries = same_entry same in
        let both : Some w ≡ Some v = sym is.writer ∙ (λ l. slice_get (final_candidates t (entries l)) (places l)) ∙ that.writer in
        cc
