-- What the parts of a merge contain, and what the merge contains.
use Rattle.std.proofs.Common.{ℕ, zero, suc, ◌==◌, List, [], ◌∷◌, map, slice_index_or, refl, sym, subst, inl, inr, eq-eqb}
use Rattle.std.specs.List.{Contains, filter}
use Rattle.trace_semantics.proofs.ElementLemmas.{none_in, cases_in, head_in, tail_in, to_map, from_map, to_filter, from_filter}
use Rattle.job_board.specs.Merge.{Marked, marked, IsMergeOf}

module _ {X : Type 0} where
  abbrev item_of : Marked X → X
  item_of m = m.item

  -- what is in the merge is in some part
  pub merged_part : (parts : List (List X)) (xs : List X) → IsMergeOf parts xs → (x : X) → Contains xs x → (k : ℕ) × Contains (slice_index_or parts k []) x
  merged_part parts xs (log, is, are) x among =
      let (m, there, same) = from_map item_of log x (subst (λ (l : List X). Contains l x) is among) in
      let kept : Contains (filter (λ (n : Marked X). n.mark == m.mark) log) m = to_filter (λ (n : Marked X). n.mark == m.mark) log m (eq-eqb m.mark m.mark refl) there in
      let found : Contains (marked m.mark log) m.item = to_map item_of (filter (λ (n : Marked X). n.mark == m.mark) log) m kept in
      (m.mark, subst (λ (y : X). Contains (slice_index_or parts m.mark []) y) same (subst (λ (l : List X). Contains l m.item) (are m.mark) found))

  -- what is in some part is in the merge
  pub part_merged : (parts : List (List X)) (xs : List X) → IsMergeOf parts xs → (k : ℕ) (x : X) → Contains (slice_index_or parts k []) x → Contains xs x
  part_merged parts xs (log, is, are) k x among =
      let (m, kept, same) = from_map item_of (filter (λ (n : Marked X). n.mark == k) log) x (subst (λ (l : List X). Contains l x) (sym (are k)) among) in
      let there = (from_filter (λ (n : Marked X). n.mark == k) log m kept).0 in
      subst (λ (y : X). Contains xs y) same (subst (λ (l : List X). Contains l m.item) (sym is) (to_map item_of log m there))

-- the parts that a function gives of these
module _ {A B : Type 0} (f : A → List B) where
  pub part_of : (xs : List A) (k : ℕ) (y : B) → Contains (slice_index_or (map f xs) k []) y → (x : A) × Contains xs x × Contains (f x) y
  part_of [] k y among = absurd (none_in y among)
  part_of (x ∷ xs) zero y among = (x, head_in x xs, among)
  part_of (x ∷ xs) (suc k) y among = let (z, there, inside) = part_of xs k y among in (z, tail_in x xs z there, inside)

  pub of_part : (xs : List A) (x : A) (y : B) → Contains xs x → Contains (f x) y → (k : ℕ) × Contains (slice_index_or (map f xs) k []) y
  of_part [] x y there inside = absurd (none_in x there)
  of_part (z ∷ zs) x y there inside =
      elim (cases_in z zs x there) [
        | inl same ↦ (zero, subst (λ (w : A). Contains (f w) y) (sym same) inside)
        | inr rest ↦ (let (k, more) = of_part zs x y rest inside in (suc k, more))
      ]
