-- Order literals: what makes them true, and their variables.
use Rattle.std.proofs.Common.{◌≡◌, ℕ, zero, suc, ◌<◌, pos, neg_ℤ, Bool, not, refl, sym, ◌∙◌, ap, cond, inl, inr, arith}
use Rattle.std.specs.Prelude.{◌≢◌}
use Rattle.std.proofs.lemmas.Bool.{lt-ltb, le-ltb, cases_order}
use Rattle.text_lines.proofs.BoolLemmas.{not_not}
use Rattle.dimacs.specs.Assignment.{makes_true}
use Rattle.var_layout.specs.OrderVariables.{order_var, order_lit}

-- the negation of a variable is true where the variable is false
pub negation : (value : ℕ → Bool) (v : ℕ) → 0 < v → makes_true value (neg_ℤ (pos v)) ≡ not (value v)
negation value zero h = absurd (omega (arith, h))
negation value (suc v) h = refl

pub var_positive : (n i j : ℕ) → i < j → 0 < order_var n i j
var_positive n i j h = omega (arith, h)

pub lit_below : (n i j : ℕ) → i < j → order_lit n i j ≡ pos (order_var n i j)
lit_below n i j h = ap (λ b. cond b (pos (order_var n i j)) (neg_ℤ (pos (order_var n j i)))) (lt-ltb i j h)

pub lit_above : (n i j : ℕ) → i < j → order_lit n j i ≡ neg_ℤ (pos (order_var n i j))
lit_above n i j h = ap (λ b. cond b (pos (order_var n j i)) (neg_ℤ (pos (order_var n i j)))) (le-ltb j i (omega (arith, h)))

pub lit_true : (value : ℕ → Bool) (n i j : ℕ) → i < j → makes_true value (order_lit n i j) ≡ value (order_var n i j)
lit_true value n i j h = ap (makes_true value) (lit_below n i j h)

pub lit_false : (value : ℕ → Bool) (n i j : ℕ) → i < j → makes_true value (order_lit n j i) ≡ not (value (order_var n i j))
lit_false value n i j h = ap (makes_true value) (lit_above n i j h) ∙ negation value (order_var n i j) (var_positive n i j h)

-- of two operations one stands before the other
pub turned : (value : ℕ → Bool) (n i j : ℕ) → i ≢ j → makes_true value (order_lit n j i) ≡ not (makes_true value (order_lit n i j))
turned value n i j d =
    elim (cases_order i j) [
      | inl e ↦ absurd (d e)
      | inr (inl h) ↦ lit_false value n i j h ∙ ap not (sym (lit_true value n i j h))
      | inr (inr h) ↦ lit_true value n j i h ∙ sym (not_not (value (order_var n j i))) ∙ ap not (sym (lit_false value n j i h))
    ]

-- the negation of the literal of a lower and a higher operation
pub lit_negated : (value : ℕ → Bool) (n i j : ℕ) → i < j → makes_true value (neg_ℤ (order_lit n i j)) ≡ not (makes_true value (order_lit n i j))
lit_negated value n i j h =
    ap (λ z. makes_true value (neg_ℤ z)) (lit_below n i j h) ∙ negation value (order_var n i j) (var_positive n i j h) ∙ ap not (sym (lit_true value n i j h))
