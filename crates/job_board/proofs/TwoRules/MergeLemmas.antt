-- Lists of marked items, to which one is added.
use Rattle.std.proofs.Common.{◌≡◌, ◌≢◌, ℕ, List, [], ◌∷◌, ◌++◌, map, Bool, cond, eq-eqb, ne_eqb, refl, ◌∙◌, ap, ◌==◌}
use Rattle.std.specs.List.{filter}
use Rattle.std.proofs.lemmas.List.{map-append, append-nil}
use Rattle.std.proofs.lemmas.List.Elements.{filter-append}
use Rattle.job_board.specs.Merge.{Marked, marked, unmarked}

module _ {X : Type 0} where
  abbrev pub mark_of : ℕ → X → Marked X
  mark_of k x = record { mark = k; item = x }

  abbrev pub item_of : Marked X → X
  item_of m = m.item

  marked_more : (j : ℕ) (log : List (Marked X)) (m : Marked X) → marked j (log ++ m ∷ []) ≡ marked j log ++ map item_of (cond (m.mark == j) (m ∷ []) [])
  marked_more j log m =
      ap (map item_of) (filter-append (λ (n : Marked X). n.mark == j) log (m ∷ []))
      ∙ map-append item_of (filter (λ (n : Marked X). n.mark == j) log) (cond (m.mark == j) (m ∷ []) [])

  pub marked_same : (k : ℕ) (log : List (Marked X)) (x : X) → marked k (log ++ mark_of k x ∷ []) ≡ marked k log ++ x ∷ []
  marked_same k log x =
      marked_more k log (mark_of k x) ∙ ap (λ (b : Bool). marked k log ++ map item_of (cond b (mark_of k x ∷ []) [])) (eq-eqb k k refl)

  pub marked_other : (j k : ℕ) (log : List (Marked X)) (x : X) → k ≢ j → marked j (log ++ mark_of k x ∷ []) ≡ marked j log
  marked_other j k log x apart =
      marked_more j log (mark_of k x)
      ∙ ap (λ (b : Bool). marked j log ++ map item_of (cond b (mark_of k x ∷ []) [])) (ne_eqb k j apart)
      ∙ append-nil (marked j log)

  pub unmarked_more : (k : ℕ) (log : List (Marked X)) (x : X) → unmarked (log ++ mark_of k x ∷ []) ≡ unmarked log ++ x ∷ []
  unmarked_more k log x = map-append item_of log (mark_of k x ∷ [])
