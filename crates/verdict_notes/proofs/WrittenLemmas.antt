-- The orders of the words so far, and of one word more.
use Rattle.std.proofs.Common.{◌≡◌, ℕ, List, [], ◌∷◌, ◌++◌, refl, sym, subst, inl, inr, append_assoc, append-nil}
use Rattle.verdict_notes.specs.declared.open_orders.NumberedOrder.{NumberedOrder}
use Rattle.verdict_notes.specs.OpenCubes.{Writes, WritesNone, AreWritten}

-- whatever orders the words that are left write, they follow these in what all words write
abbrev pub AreWrittenSoFar : ℕ → List (List ℕ) → List (List ℕ) → List NumberedOrder → Type 0
AreWrittenSoFar n whole left orders = (more : List NumberedOrder) → AreWritten n left more → AreWritten n whole (orders ++ more)

pub at_start : (n : ℕ) (whole : List (List ℕ)) → AreWrittenSoFar n whole whole []
at_start n whole more d = d

module _ (n : ℕ) (whole left : List (List ℕ)) (word : List ℕ) (words : List (List ℕ)) (cut : left ≡ word ∷ words) (orders : List NumberedOrder) (before : AreWrittenSoFar n whole left orders) where
  pub passed : WritesNone n word → AreWrittenSoFar n whole words orders
  passed none more d = before more (subst (λ (w : List (List ℕ)). AreWritten n w more) (sym cut) (inr (none, d)))

  pub taken : (order : NumberedOrder) → Writes n word order → AreWrittenSoFar n whole words (orders ++ order ∷ [])
  taken order writes more d =
      let longer : AreWritten n left (order ∷ more) = subst (λ (w : List (List ℕ)). AreWritten n w (order ∷ more)) (sym cut) (inl (order, more, refl, writes, d)) in
      subst (AreWritten n whole) (sym (append_assoc orders (order ∷ []) more)) (before (order ∷ more) longer)

pub at_end : (n : ℕ) (whole left : List (List ℕ)) (orders : List NumberedOrder) → left ≡ [] → AreWrittenSoFar n whole left orders → AreWritten n whole orders
at_end n whole left orders none before =
    subst (AreWritten n whole) (append-nil orders) (before [] (subst (λ (w : List (List ℕ)). AreWritten n w []) (sym none) refl))
