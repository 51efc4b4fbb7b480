-- Sums over lists, and what a merge adds up to.
use Rattle.std.proofs.Common.{◌≡◌, ◌≢◌, ℕ, zero, suc, ◌+◌, ◌<◌, ◌≤◌, ◌==◌, Bool, true, false, cond, List, [], ◌∷◌, ◌++◌, map, length, set, slice_index_or, refl, sym, ◌∙◌, ap, subst, eq-eqb, ne_eqb, eqb-true, get_or-set_same, get_or-set_other, ⊎_elim, arith}
use Rattle.std.specs.List.{filter}
use Rattle.std.proofs.lemmas.Bool.{eqb-false, cases_lt}
use Rattle.std.proofs.lemmas.List.{get_or_past}
use Rattle.job_board.specs.Merge.{Marked, marked, unmarked, IsMergeOf}
use Rattle.job_board.specs.Accounts.{total}

module _ {X : Type 0} where
  pub total-append : (f : X → ℕ) (xs ys : List X) → total f (xs ++ ys) ≡ total f xs + total f ys
  total-append f [] ys = omega arith
  total-append f (x ∷ xs) ys = omega (arith, total-append f xs ys)

  pub total-plus : (f g : X → ℕ) (xs : List X) → total (λ x. f x + g x) xs ≡ total f xs + total g xs
  total-plus f g [] = refl
  total-plus f g (x ∷ xs) = omega (arith, total-plus f g xs)

  pub total_same : (f g : X → ℕ) → ((x : X) → f x ≡ g x) → (xs : List X) → total f xs ≡ total g xs
  total_same f g same [] = refl
  total_same f g same (x ∷ xs) = omega (arith, same x, total_same f g same xs)

  -- where the sum is 0, so is the sum of what is 0 with it
  pub total_zero : (f g : X → ℕ) → ((x : X) → f x ≡ 0 → g x ≡ 0) → (xs : List X) → total f xs ≡ 0 → total g xs ≡ 0
  total_zero f g zeros [] none = refl
  total_zero f g zeros (x ∷ xs) none =
      let here : f x ≡ 0 = omega (arith, none) in
      let rest : total f xs ≡ 0 = omega (arith, none) in
      omega (arith, zeros x here, total_zero f g zeros xs rest)

pub total-map : {X Y : Type 0} (f : Y → ℕ) (g : X → Y) (xs : List X) → total f (map g xs) ≡ total (λ x. f (g x)) xs
total-map f g [] = refl
total-map f g (x ∷ xs) = omega (arith, total-map f g xs)

module _ {X : Type 0} (f : X → ℕ) where
  abbrev of_part : List X → ℕ
  of_part part = total f part

  no_parts : (parts : List (List X)) → ((k : ℕ) → [] ≡ slice_index_or parts k []) → total of_part parts ≡ 0
  no_parts [] none = refl
  no_parts (part ∷ parts) none =
      let here : 0 ≡ total f part = ap (total f) (none 0) in
      omega (arith, here, no_parts parts (λ k. none (suc k)))

  -- a part loses its first item
  part_set : (parts : List (List X)) (k : ℕ) (x : X) (rest : List X) → slice_index_or parts k [] ≡ x ∷ rest → total of_part parts ≡ f x + total of_part (set parts k rest)
  part_set [] k x rest is = absurd (cc)
  part_set (part ∷ parts) zero x rest is =
      let here : total f part ≡ f x + total f rest = ap (total f) is in
      omega (arith, here)
  part_set (part ∷ parts) (suc k) x rest is = omega (arith, part_set parts k x rest is)

  marked_head : (m : Marked X) (log : List (Marked X)) → marked m.mark (m ∷ log) ≡ m.item ∷ marked m.mark log
  marked_head m log =
      let rest = filter (λ (n : Marked X). n.mark == m.mark) log in
      ap (λ (b : Bool). map (λ (n : Marked X). n.item) (cond b (m ∷ rest) rest)) (eq-eqb m.mark m.mark refl)

  marked_else : (m : Marked X) (log : List (Marked X)) (k : ℕ) → m.mark ≢ k → marked k (m ∷ log) ≡ marked k log
  marked_else m log k apart =
      let rest = filter (λ (n : Marked X). n.mark == k) log in
      ap (λ (b : Bool). map (λ (n : Marked X). n.item) (cond b (m ∷ rest) rest)) (ne_eqb m.mark k apart)

  within : (parts : List (List X)) (k : ℕ) (x : X) (rest : List X) → slice_index_or parts k [] ≡ x ∷ rest → k < length parts
  within parts k x rest is = ⊎_elim (λ (low : k < length parts). low) (λ (high : length parts ≤ k). let past = get_or_past parts k [] high in absurd (cc)) (cases_lt k (length parts))

  -- the parts of the log without its first item
  parts_left : (m : Marked X) (log : List (Marked X)) (parts : List (List X)) → ((k : ℕ) → marked k (m ∷ log) ≡ slice_index_or parts k []) →
      (k : ℕ) (b : Bool) → (m.mark == k) ≡ b → marked k log ≡ slice_index_or (set parts m.mark (marked m.mark log)) k []
  parts_left m log parts are k true is =
      let same : m.mark ≡ k = eqb-true m.mark k is in
      let low = within parts m.mark m.item (marked m.mark log) (sym (are m.mark) ∙ marked_head m log) in
      subst (λ (j : ℕ). marked j log ≡ slice_index_or (set parts m.mark (marked m.mark log)) j []) same (sym (get_or-set_same parts m.mark (marked m.mark log) [] low))
  parts_left m log parts are k false is =
      let apart : m.mark ≢ k = eqb-false m.mark k is in
      sym (marked_else m log k apart) ∙ are k ∙ sym (get_or-set_other parts m.mark k (marked m.mark log) [] (λ e. apart (sym e)))

  log_total : (log : List (Marked X)) (parts : List (List X)) → ((k : ℕ) → marked k log ≡ slice_index_or parts k []) → total f (unmarked log) ≡ total of_part parts
  log_total [] parts are = sym (no_parts parts are)
  log_total (m ∷ log) parts are =
      let first = sym (are m.mark) ∙ marked_head m log in
      let rest : (k : ℕ) → marked k log ≡ slice_index_or (set parts m.mark (marked m.mark log)) k [] = λ k. parts_left m log parts are k (m.mark == k) refl in
      omega (arith, part_set parts m.mark m.item (marked m.mark log) first, log_total log (set parts m.mark (marked m.mark log)) rest)

  -- a merge adds up to what its parts add up to
  pub merge_total : (parts : List (List X)) (xs : List X) → IsMergeOf parts xs → total f xs ≡ total (λ part. total f part) parts
  merge_total parts xs merge = ap (total f) merge.1 ∙ log_total merge.0 parts merge.2
