-- What a model of the clause list says of the order of the operations, block by block.
use Rattle.std.proofs.Common.{◌≡◌, ◌⊎◌, ℕ, zero, suc, ◌+◌, ◌-◌, ◌<◌, ℤ, pos, neg_ℤ, List, [], ◌∷◌, ◌++◌, Bool, true, false, not, ◌||◌, refl, ap, sym, ◌∙◌, arith, inl, inr, subst}
use Rattle.std.specs.Prelude.{◌≢◌, Some}
use Rattle.std.specs.List.{Contains, enumerate_from, filter, flat_map, list_any, range_with_len, slice_get}
use Rattle.std.proofs.lemmas.Bool.{cases_Bool, cases_order, true_from_ne_false, not-true}
use Rattle.std.proofs.lemmas.List.Elements.{Contains-append_left, Contains-append_right}
use Rattle.dimacs.specs.Assignment.{makes_true, makes_some}
use Rattle.dimacs.specs.Models.{IsModel}
use Rattle.trace_semantics.specs.Trace.{TraceValue, operation_count}
use Rattle.trace_semantics.proofs.ElementLemmas.{all_pass, head_in, tail_in, to_map, to_filter, to_flat_map, to_range}
use Rattle.var_layout.specs.declared.candidate.Candidate.{Candidate}
use Rattle.var_layout.specs.declared.candidate.Candidate.TheVariants.{InitialValue, Writer}
use Rattle.var_layout.specs.KnownPairs.{known_pairs}
use Rattle.var_layout.specs.Numbers.{numbers, others, other_writers, in_one_process}
use Rattle.var_layout.specs.OrderVariables.{numbers_above, order_lit}
use Rattle.clause_blocks.specs.Blocks.{stands_before, implies, program_order, no_cycle, transitivity_from, transitivity, read_clauses, final_clauses, before_clauses}
use Rattle.clause_blocks.specs.Clauses.{clauses_of}
use Rattle.clause_blocks.proofs.ClauseList.ListLemmas.{clause_list}
use Rattle.clause_blocks.proofs.NumbersOfNames.OrderLiteralLemmas.{negation, lit_negated, turned}

-- one of a few literals is true
pub one_true : (value : ℕ → Bool) (a : ℤ) → makes_some value (a ∷ []) ≡ true → makes_true value a ≡ true
one_true value a h = of_one (makes_true value a) h
  where
    of_one : (b : Bool) → (list_any (λ x. x) (b ∷ [])) ≡ true → b ≡ true
    of_one true h = refl
    of_one false h = absurd (cc)

pub two_true : (value : ℕ → Bool) (a b : ℤ) → makes_some value (a ∷ b ∷ []) ≡ true → (makes_true value a ≡ true) ⊎ (makes_true value b ≡ true)
two_true value a b h = of_two (makes_true value a) (makes_true value b) h
  where
    of_two : (a b : Bool) → (list_any (λ x. x) (a ∷ b ∷ [])) ≡ true → (a ≡ true) ⊎ (b ≡ true)
    of_two true b h = inl refl
    of_two false true h = inr refl
    of_two false false h = absurd (cc)

-- a variable that implies some literals is true
pub implied : (value : ℕ → Bool) (v : ℕ) (literals : List ℤ) → 0 < v → value v ≡ true → makes_some value (implies v literals) ≡ true → makes_some value literals ≡ true
implied value v literals h e m = of_first (makes_true value (neg_ℤ (pos v))) (makes_some value literals) (negation value v h ∙ ap not e) m
  where
    of_first : (a b : Bool) → a ≡ false → (a || b) ≡ true → b ≡ true
    of_first true b e h = absurd (cc)
    of_first false true e h = refl
    of_first false false e h = absurd (cc)

-- each of these clauses has a true literal
pub record AreTrue (value : ℕ → Bool) (clauses : List (List ℤ)) : Type 0 where
  pub each : (c : List ℤ) → Contains clauses c → makes_some value c ≡ true

pub first_true : {value : ℕ → Bool} {c : List ℤ} {cs : List (List ℤ)} → AreTrue value (c ∷ cs) → makes_some value c ≡ true
first_true {value} {c} {cs} all = all.each c (head_in c cs)

pub rest_true : {value : ℕ → Bool} {c : List ℤ} {cs : List (List ℤ)} → AreTrue value (c ∷ cs) → AreTrue value cs
rest_true {value} {c} {cs} all = record { each = λ d e. all.each d (tail_in c cs d e) }

-- the elements of a list with their numbers
pub to_enumerate : {A : Type 0} (n : ℕ) (xs : List A) (k : ℕ) (x : A) → slice_get xs k ≡ Some x → Contains (enumerate_from n xs) (n + k, x)
to_enumerate n [] k x e = absurd (cc)
to_enumerate n (y ∷ ys) zero x e =
    let number : n ≡ n + 0 = omega arith in
    let element : y ≡ x = cc in
    let same : (n, y) ≡ (n + 0, x) = λ i. (number i, element i) in
    subst (λ q. Contains ((n, y) ∷ enumerate_from (n + 1) ys) q) same (head_in (n, y) (enumerate_from (n + 1) ys))
to_enumerate n (y ∷ ys) (suc k) x e =
    let number : n + 1 + k ≡ n + suc k = omega arith in
    subst (λ m. Contains ((n, y) ∷ enumerate_from (n + 1) ys) (m, x)) number (tail_in (n, y) (enumerate_from (n + 1) ys) (n + 1 + k, x) (to_enumerate (n + 1) ys k x e))

-- an initial value is read before each other writer, and a writer's value after it and before each later one
abbrev pub Meets : (ℕ → ℕ → Bool) → TraceValue → ℕ → Candidate → Type 0
Meets ahead t r InitialValue = (v : ℕ) → Contains (other_writers t r) v → ahead r v ≡ true
Meets ahead t r (Writer w) = (ahead w r ≡ true) × ((v : ℕ) → Contains (others w (other_writers t r)) v → (ahead v w ≡ true) ⊎ (ahead r v ≡ true))

-- the order variables as a relation
abbrev pub order_by : (ℕ → Bool) → TraceValue → ℕ → ℕ → Bool
order_by value t i j = makes_true value (stands_before t i j)

-- the three sides of a triangle
third_true : (a b c : Bool) → (list_any (λ x. x) (a ∷ b ∷ c ∷ [])) ≡ true → a ≡ false → b ≡ false → c ≡ true
third_true true b c h e f = absurd (cc)
third_true false true c h e f = absurd (cc)
third_true false false true h e f = refl
third_true false false false h e f = absurd (cc)

pub record HasNoCycle (ahead : ℕ → ℕ → Bool) (i j k : ℕ) : Type 0 where
  pub up : ahead i j ≡ true → ahead j k ≡ true → ahead i k ≡ true
  pub down : ahead i j ≡ false → ahead j k ≡ false → ahead i k ≡ false

clash : (b : Bool) → b ≡ true → b ≡ false → ⊥
clash true h k = cc
clash false h k = cc

module _ (ahead : ℕ → ℕ → Bool) (n : ℕ) (flips : (i j : ℕ) → i ≢ j → ahead j i ≡ not (ahead i j)) (sides : (i j k : ℕ) → i < j → j < k → k < n → HasNoCycle ahead i j k) where
  flipped : (i j : ℕ) → i ≢ j → ahead i j ≡ true → ahead j i ≡ false
  flipped i j d h = flips i j d ∙ ap not h

  flipped_back : (i j : ℕ) → i ≢ j → ahead i j ≡ false → ahead j i ≡ true
  flipped_back i j d h = flips i j d ∙ ap not h

  -- transitive, from the triangles of rising numbers
  pub ahead_trans : (i j k : ℕ) → i ≢ j → j ≢ k → i ≢ k → i < n → j < n → k < n → ahead i j ≡ true → ahead j k ≡ true → ahead i k ≡ true
  ahead_trans i j k p q r a b c g h =
      elim (cases_order i j) [
        | inl e ↦ absurd (p e)
        | inr (inl ij) ↦ elim (cases_order j k) [
          | inl e ↦ absurd (q e)
          | inr (inl jk) ↦ (sides i j k ij jk c).up g h
          | inr (inr kj) ↦ elim (cases_order i k) [
            | inl e ↦ absurd (r e)
            | inr (inl ik) ↦ true_from_ne_false (ahead i k) (λ f. clash (ahead i j) g ((sides i k j ik kj b).down f (flipped j k q h)))
            | inr (inr ki) ↦ flipped_back k i (λ e. r (sym e)) (elim (cases_Bool (ahead k i)) [
              | inl f ↦ absurd (clash (ahead k j) ((sides k i j ki ij b).up f g) (flipped j k q h))
              | inr f ↦ f
            ])
          ]
        ]
        | inr (inr ji) ↦ elim (cases_order j k) [
          | inl e ↦ absurd (q e)
          | inr (inl jk) ↦ elim (cases_order i k) [
            | inl e ↦ absurd (r e)
            | inr (inl ik) ↦ true_from_ne_false (ahead i k) (λ f. clash (ahead j k) h ((sides j i k ji ik c).down (flipped i j p g) f))
            | inr (inr ki) ↦ flipped_back k i (λ e. r (sym e)) (elim (cases_Bool (ahead k i)) [
              | inl f ↦ absurd (clash (ahead j i) ((sides j k i jk ki a).up h f) (flipped i j p g))
              | inr f ↦ f
            ])
          ]
          | inr (inr kj) ↦ flipped_back k i (λ e. r (sym e)) ((sides k j i kj ji a).down (flipped j k q h) (flipped i j p g))
        ]
      ]

-- where each clause of transitivity is true, the order of n operations is transitive
module _ (value : ℕ → Bool) (n : ℕ) (holds : (c : List ℤ) → Contains (transitivity n) c → makes_some value c ≡ true) where
  triple_true : (i j k : ℕ) → i < j → j < k → k < n → AreTrue value (no_cycle n i j k)
  triple_true i j k h g l = record {
    each = λ c d.
        holds c (to_flat_map (transitivity_from n) (range_with_len 0 n) i c (to_range 0 n i (omega arith) (omega (arith, h, g, l)))
        (to_flat_map (λ (y : ℕ). flat_map (λ (z : ℕ). no_cycle n i y z) (numbers_above n y)) (numbers_above n i) j c
        (to_range (i + 1) (n - (i + 1)) j (omega (arith, h)) (omega (arith, h, g, l)))
        (to_flat_map (λ (z : ℕ). no_cycle n i j z) (numbers_above n j) k c
        (to_range (j + 1) (n - (j + 1)) k (omega (arith, g)) (omega (arith, h, g, l))) d)));
  }

  triple_sides : (i j k : ℕ) → i < j → j < k → k < n → HasNoCycle (λ x y. makes_true value (order_lit n x y)) i j k
  triple_sides i j k h g l = record {
    up = λ a b. third_true (makes_true value (neg_ℤ (order_lit n i j))) (makes_true value (neg_ℤ (order_lit n j k))) (makes_true value (order_lit n i k))
        (first_true (triple_true i j k h g l))
        (lit_negated value n i j h ∙ ap not a) (lit_negated value n j k g ∙ ap not b);
    down = λ a b. not-true (makes_true value (order_lit n i k)) (sym (lit_negated value n i k (omega (arith, h, g)))
        ∙ third_true (makes_true value (order_lit n i j)) (makes_true value (order_lit n j k)) (makes_true value (neg_ℤ (order_lit n i k)))
        (first_true (rest_true (triple_true i j k h g l))) a b);
  }

  pub order_trans : (i j k : ℕ) → i ≢ j → j ≢ k → i ≢ k → i < n → j < n → k < n → makes_true value (order_lit n i j) ≡ true → makes_true value (order_lit n j k) ≡ true → makes_true value (order_lit n i k) ≡ true
  order_trans = ahead_trans (λ x y. makes_true value (order_lit n x y)) n (turned value n) triple_sides

module _ (value : ℕ → Bool) (t : TraceValue) (model : IsModel value (clauses_of t)) where
  true_clause : (c : List ℤ) → Contains (program_order t ++ (transitivity (operation_count t) ++ (read_clauses t ++ (final_clauses t ++ before_clauses t)))) c → makes_some value c ≡ true
  true_clause c d = all_pass (makes_some value) _ (subst (λ clauses. IsModel value clauses) (clause_list t) model) c d

  in_transitivity : (c : List ℤ) → Contains (transitivity (operation_count t)) c → makes_some value c ≡ true
  in_transitivity c d = true_clause c (Contains-append_right (program_order t) _ c (Contains-append_left (transitivity (operation_count t)) _ c d))

  pub in_reads : (c : List ℤ) → Contains (read_clauses t) c → makes_some value c ≡ true
  in_reads c d = true_clause c (Contains-append_right (program_order t) _ c (Contains-append_right (transitivity (operation_count t)) _ c (Contains-append_left (read_clauses t) _ c d)))

  pub in_finals : (c : List ℤ) → Contains (final_clauses t) c → makes_some value c ≡ true
  in_finals c d = true_clause c (Contains-append_right (program_order t) _ c (Contains-append_right (transitivity (operation_count t)) _ c (Contains-append_right (read_clauses t) _ c (Contains-append_left (final_clauses t) _ c d))))

  in_pairs : (c : List ℤ) → Contains (before_clauses t) c → makes_some value c ≡ true
  in_pairs c d = true_clause c (Contains-append_right (program_order t) _ c (Contains-append_right (transitivity (operation_count t)) _ c (Contains-append_right (read_clauses t) _ c (Contains-append_right (final_clauses t) _ c d))))

  -- program order
  pub model_next : (i : ℕ) → i < operation_count t → in_one_process t i (i + 1) ≡ true → order_by value t i (i + 1) ≡ true
  model_next i h e =
      one_true value (stands_before t i (i + 1)) (true_clause (stands_before t i (i + 1) ∷ []) (Contains-append_left (program_order t) _ _
      (to_map (λ (j : ℕ). stands_before t j (j + 1) ∷ []) (filter (λ (j : ℕ). in_one_process t j (j + 1)) (numbers t)) i
      (to_filter (λ (j : ℕ). in_one_process t j (j + 1)) (numbers t) i e (to_range 0 (operation_count t) i (omega arith) (omega (arith, h)))))))

  -- pairs that the trace says
  pub model_pair : (pair : ℕ × ℕ) → Contains (known_pairs t) pair → order_by value t pair.0 pair.1 ≡ true
  model_pair pair c =
      one_true value (stands_before t pair.0 pair.1)
      (in_pairs _ (to_map (λ (p : ℕ × ℕ). stands_before t p.0 p.1 ∷ []) (known_pairs t) pair c))

  -- transitivity
  pub model_trans : (i j k : ℕ) → i ≢ j → j ≢ k → i ≢ k → i < operation_count t → j < operation_count t → k < operation_count t → order_by value t i j ≡ true → order_by value t j k ≡ true → order_by value t i k ≡ true
  model_trans = order_trans value (operation_count t) in_transitivity
