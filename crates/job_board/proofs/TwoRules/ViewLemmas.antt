-- The views of all passes, of which one changes or one is added.
use Rattle.std.proofs.Common.{◌≡◌, ◌≢◌, ◌⊎◌, ℕ, zero, suc, List, [], ◌∷◌, ◌++◌, length, set, refl, sym, subst, inl, inr, ⊎_elim, arith}
use mathlib.Core.Option.{some, some-injective, some-ne-none}
use lib.ListN.{get_elem?}
use Rattle.atomic_table.proofs.Lists.{at_set}

module _ {V : Type 0} where
  -- each pass has this view
  abbrev pub Each : (ℕ → V → Type 0) → List V → Type 0
  Each P views = (pass : ℕ) (v : V) → get_elem? views pass ≡ some v → P pass v

  -- one pass has another view, and what the others have is kept
  pub each_set : (P Q : ℕ → V → Type 0) (views : List V) (id : ℕ) (w : V) → Each P views → ((pass : ℕ) (v : V) → pass ≢ id → P pass v → Q pass v) → Q id w → Each Q (set views id w)
  each_set P Q views id w each kept mine j u at =
      ⊎_elim
      (λ (x : (j ≡ id) × (w ≡ u)). subst (λ (i : ℕ). Q i u) (sym x.0) (subst (Q id) x.1 mine))
      (λ (x : (j ≢ id) × (get_elem? views j ≡ some u)). kept j u x.0 (each j u x.1))
      (at_set views id j w u at)

  at_end : (views : List V) (a b : V) (j : ℕ) → get_elem? (views ++ a ∷ []) j ≡ some b → (get_elem? views j ≡ some b) ⊎ ((j ≡ length views) × (a ≡ b))
  at_end [] a b zero e = inr (refl, some-injective a b e)
  at_end [] a b (suc j) e = absurd (some-ne-none b (sym e))
  at_end (x ∷ views) a b zero e = inl e
  at_end (x ∷ views) a b (suc j) e = ⊎_elim (λ (old : get_elem? views j ≡ some b). inl old) (λ (new : (j ≡ length views) × (a ≡ b)). inr (omega (arith, new.0), new.1)) (at_end views a b j e)

  -- there is one pass more
  pub each_more : (P : ℕ → V → Type 0) (views : List V) (w : V) → Each P views → P (length views) w → Each P (views ++ w ∷ [])
  each_more P views w each new j u at =
      ⊎_elim
      (λ (old : get_elem? views j ≡ some u). each j u old)
      (λ (x : (j ≡ length views) × (w ≡ u)). subst (λ (i : ℕ). P i u) (sym x.0) (subst (P (length views)) x.1 new))
      (at_end views w u j at)

  -- there is one pass
  pub each_one : (P : ℕ → V → Type 0) (w : V) → P 0 w → Each P (w ∷ [])
  each_one P w first = each_more P [] w (λ pass v at. absurd (some-ne-none v (sym at))) first

  -- the pass that changed has the new view
  pub set_mine : (views : List V) (id : ℕ) (v w : V) → get_elem? views id ≡ some v → get_elem? (set views id w) id ≡ some w
  set_mine [] id v w there = absurd (some-ne-none v (sym there))
  set_mine (x ∷ views) zero v w there = refl
  set_mine (x ∷ views) (suc id) v w there = set_mine views id v w there
