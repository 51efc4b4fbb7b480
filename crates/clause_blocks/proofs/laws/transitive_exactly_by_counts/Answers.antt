use Rattle.std.proofs.Common.{◌≡◌, ℕ, zero, suc, ◌+◌, ◌<◌, ◌≤◌, List, ◌∷◌, length, Bool, true, false, cond, not, ◌&&◌, eqb, refl, sym, ap, ◌∙◌, inl, inr, arith}
use Rattle.std.specs.Prelude.{◌≢◌}
use Rattle.std.specs.List.{filter, range_with_len}
use Rattle.std.proofs.lemmas.Bool.{and_from, and_parts, cases_Bool, cases_order, le-ltb, lt-ltb}
use Rattle.dimacs.specs.Assignment.{makes_true, makes_some}
use Rattle.dimacs.specs.Models.{IsModel}
use Rattle.trace_semantics.proofs.ElementLemmas.{all_pass}
use Rattle.var_layout.specs.OrderVariables.{order_lit}
use Rattle.clause_blocks.specs.Ranks.{count_before, AreRanks}
use Rattle.clause_blocks.specs.Blocks.{transitivity}
use Rattle.clause_blocks.proofs.TransitivityClauses.RankLemmas.{ranked_true}
use Rattle.clause_blocks.proofs.ModelToSchedule.ModelClauseLemmas.{order_trans}
use Rattle.clause_blocks.proofs.NumbersOfNames.OrderLiteralLemmas.{turned}
use Rattle.clause_blocks.proofs.InPieces.StepLemmas.{is_other, is_same}
use Rattle.clause_blocks.proofs.laws.transitive_exactly_by_counts.Goals as goal

-- If each clause of transitivity is true, fewer operations stand before the one that stands first.

-- one more element, which passes the second test if it passes the first
one_more : (b c : Bool) (x : ℕ) (us vs : List ℕ) → (b ≡ true → c ≡ true) → length us ≤ length vs → length (cond b (x ∷ us) us) ≤ length (cond c (x ∷ vs) vs)
one_more true true x us vs h l = omega (arith, l)
one_more true false x us vs h l = (let clash : false ≡ true = h refl in cc)
one_more false true x us vs h l = omega (arith, l)
one_more false false x us vs h l = l

still_more : (b c : Bool) (x : ℕ) (us vs : List ℕ) → (b ≡ true → c ≡ true) → length us < length vs → length (cond b (x ∷ us) us) < length (cond c (x ∷ vs) vs)
still_more true true x us vs h l = omega (arith, l)
still_more true false x us vs h l = (let clash : false ≡ true = h refl in cc)
still_more false true x us vs h l = omega (arith, l)
still_more false false x us vs h l = l

-- one that passes the second test alone
first_more : (b c : Bool) (x : ℕ) (us vs : List ℕ) → b ≡ false → c ≡ true → length us ≤ length vs → length (cond b (x ∷ us) us) < length (cond c (x ∷ vs) vs)
first_more true c x us vs e f l = cc
first_more false true x us vs e f l = omega (arith, l)
first_more false false x us vs e f l = cc

module _ (p q : ℕ → Bool) where
  no_fewer : (a l : ℕ) → ((k : ℕ) → a ≤ k → k < a + l → p k ≡ true → q k ≡ true) → length (filter p (range_with_len a l)) ≤ length (filter q (range_with_len a l))
  no_fewer a zero h = omega arith
  no_fewer a (suc l) h =
      one_more (p a) (q a) a (filter p (range_with_len (a + 1) l)) (filter q (range_with_len (a + 1) l)) (h a (omega arith) (omega arith))
      (no_fewer (a + 1) l (λ k low high. h k (omega (arith, low)) (omega (arith, high))))

  more : (i a l : ℕ) → ((k : ℕ) → a ≤ k → k < a + l → p k ≡ true → q k ≡ true) → a ≤ i → i < a + l → p i ≡ false → q i ≡ true → length (filter p (range_with_len a l)) < length (filter q (range_with_len a l))
  more i a zero h low high e f = absurd (omega (arith, low, high))
  more i a (suc l) h low high e f =
      let later = λ (k : ℕ) (above : a + 1 ≤ k) (below : k < a + 1 + l). h k (omega (arith, above)) (omega (arith, below)) in
      elim (cases_order a i) [
        | inl same ↦ first_more (p a) (q a) a (filter p (range_with_len (a + 1) l)) (filter q (range_with_len (a + 1) l)) (ap p same ∙ e) (ap q same ∙ f) (no_fewer (a + 1) l later)
        | inr (inl below) ↦ still_more (p a) (q a) a (filter p (range_with_len (a + 1) l)) (filter q (range_with_len (a + 1) l)) (h a (omega arith) (omega arith)) (more i (a + 1) l later (omega (arith, below)) (omega (arith, high)) e f)
        | inr (inr above) ↦ absurd (omega (arith, above, low))
      ]

-- numbers that pass the test are not the same
apart_from : (x y : ℕ) → not (eqb x y) ≡ true → x ≢ y
apart_from x y h e = (let clash : true ≡ false = sym h ∙ is_same x y e in cc)

no_and : (b c : Bool) → b ≡ false → (b && c) ≡ false
no_and true c e = cc
no_and false c e = refl

module _ (value : ℕ → Bool) (n : ℕ) (model : IsModel value (transitivity n)) where
  abbrev ahead : ℕ → ℕ → Bool
  ahead i j = makes_true value (order_lit n i j)

  abbrev is_before : ℕ → ℕ → Bool
  is_before j i = not (eqb i j) && ahead i j

  -- what stands before one operation stands before each that follows it
  carried : (i j k : ℕ) → i ≢ j → i < n → j < n → k < n → ahead i j ≡ true → is_before i k ≡ true → is_before j k ≡ true
  carried i j k apart a b c g h =
      let parts = and_parts (not (eqb k i)) (ahead k i) h in
      let ki : k ≢ i = apart_from k i parts.0 in
      let back : ahead j i ≡ false = turned value n i j apart ∙ ap not g in
      let kj : k ≢ j = λ e. (let clash : true ≡ false = sym parts.1 ∙ ap (λ m. ahead m i) e ∙ back in cc) in
      and_from (not (eqb k j)) (ahead k j) (is_other k j kj)
      (order_trans value n (all_pass (makes_some value) (transitivity n) model) k i j ki apart kj c a b parts.1 g)

  rises : (i j : ℕ) → i ≢ j → i < n → j < n → ahead i j ≡ true → count_before value n i < count_before value n j
  rises i j apart a b g =
      more (is_before i) (is_before j) i 0 n (λ k low high h. carried i j k apart a b (omega (arith, high)) g h) (omega arith) (omega (arith, a))
      (no_and (not (eqb i i)) (ahead i i) (is_same i i refl))
      (and_from (not (eqb i j)) (ahead i j) (is_other i j apart) g)

  model_ranked : AreRanks value n (count_before value n)
  model_ranked i a j h l =
      let apart : i ≢ j = λ e. absurd (omega (arith, h, e)) in
      elim (cases_Bool (ahead i j)) [
        | inl t ↦ t ∙ sym (lt-ltb (count_before value n i) (count_before value n j) (rises i j apart a l t))
        | inr f ↦
            let less = rises j i (λ e. apart (sym e)) l a (turned value n i j apart ∙ ap not f) in
            f ∙ sym (le-ltb (count_before value n i) (count_before value n j) (omega (arith, less)))
      ]

pub returns : goal.returns
returns c value n = (model_ranked value n, ranked_true value n (count_before value n))
