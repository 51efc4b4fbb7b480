-- The clauses of a trace are over its variables.
use Rattle.std.proofs.Common.{◌≡◌, ℕ, zero, suc, ◌+◌, ◌-◌, ◌<◌, ℤ, pos, negsuc, neg_ℤ, List, [], ◌∷◌, ◌++◌, length, map, Option, Some, None, Bool, true, false, cond, not, eqb, refl, sym, ap, ◌∙◌, subst, arith}
use Rattle.std.specs.Prelude.{◌≢◌, ◌&&◌, nat_abs, nat_lt, nat_le, is_some, slice_get}
use Rattle.std.specs.List.{Contains, list_all, filter, flat_map, range_with_len}
use Rattle.std.specs.Option.{option_map_or, option_and_then}
use Rattle.std.proofs.lemmas.Bool.Decides.{nat_tests}
use Rattle.std.proofs.lemmas.Bool.{and_from, and_parts}
use Rattle.dimacs.specs.Formula.{is_formula}
use Rattle.dimacs.specs.Literal.{is_literal_up_to, is_clause_up_to}
use Rattle.trace_semantics.specs.Trace.{TraceValue, IsTrace, operation_count}
use Rattle.trace_semantics.proofs.ElementLemmas.{head_in, tail_in, from_filter, from_range}
use Rattle.var_layout.specs.declared.candidate.Candidate.{Candidate}
use Rattle.var_layout.specs.declared.candidate.Candidate.TheVariants.{InitialValue, Writer}
use Rattle.var_layout.specs.declared.candidate.ReadsFromChoice.{ReadsFromChoice}
use Rattle.var_layout.specs.declared.candidate.FinalChoice.{FinalChoice}
use Rattle.var_layout.specs.Candidates.{candidates}
use Rattle.var_layout.specs.ChoiceVariables.{choices, first_choice}
use Rattle.var_layout.specs.FinalVariables.{final_candidates, final_choices, first_final, is_untouched, variable_count, void_of}
use Rattle.var_layout.specs.KnownPairs.{known_pairs}
use Rattle.var_layout.specs.Numbers.{in_one_process, numbers, others, other_writers, read_at, readers, writers}
use Rattle.var_layout.specs.OrderVariables.{numbers_above, order_lit}
use Rattle.var_layout.specs.Ranges.{IsVariable}
use Rattle.var_layout.specs.declared.layout.ReadsFromOwner.TheVariants.{Read, Final}
use Rattle.var_layout.proofs.KnownPairs.SaidLemmas.{pair_apart}
use Rattle.var_layout.proofs.VariableLemmas.{orders_over, choice_over, final_over, void_over}
use Rattle.var_layout.proofs.WriterLemmas.{writer_within, other_writer}
use Rattle.clause_blocks.specs.Blocks.{before_clauses, clauses_of_final, clauses_of_read, final_clauses, implies, no_cycle, program_order, read_clauses, reads_from, stands_before, transitivity, transitivity_from, void_clauses, writes_last}
use Rattle.clause_blocks.specs.Clauses.{formula_of}
use Rattle.clause_blocks.specs.FinalClauses.{clauses_at}
use Rattle.clause_blocks.specs.Ranges.{AreTwo, IsSource}
use Rattle.clause_blocks.proofs.ClauseList.FinalLemmas.{all_finals}
use Rattle.clause_blocks.proofs.ClauseList.ListLemmas.{clause_list}
use Rattle.clause_blocks.proofs.NumbersOfNames.OperationLemmas.{shared_within}
use Rattle.clause_blocks.proofs.NumbersOfNames.VariableLemmas.{choice_source, final_writer}

pub all_append : {X : Type 0} (p : X → Bool) (xs ys : List X) → list_all p xs ≡ true → list_all p ys ≡ true → list_all p (xs ++ ys) ≡ true
all_append p [] ys h k = k
all_append p (x ∷ xs) ys h k = and_from (p x) (list_all p (xs ++ ys)) (and_parts (p x) (list_all p xs) h).0 (all_append p xs ys (and_parts (p x) (list_all p xs) h).1 k)

all_map : {X A : Type 0} (p : A → Bool) (f : X → A) (xs : List X) → ((x : X) → Contains xs x → p (f x) ≡ true) → list_all p (map f xs) ≡ true
all_map p f [] h = refl
all_map p f (x ∷ xs) h = and_from (p (f x)) (list_all p (map f xs)) (h x (head_in x xs)) (all_map p f xs (λ y d. h y (tail_in x xs y d)))

pub all_flat : {X A : Type 0} (p : A → Bool) (f : X → List A) (xs : List X) → ((x : X) → Contains xs x → list_all p (f x) ≡ true) → list_all p (flat_map f xs) ≡ true
all_flat p f [] h = refl
all_flat p f (x ∷ xs) h = all_append p (f x) (flat_map f xs) (h x (head_in x xs)) (all_flat p f xs (λ y d. h y (tail_in x xs y d)))

all_if : {A : Type 0} (p : A → Bool) (b : Bool) (xs ys : List A) → (b ≡ true → list_all p xs ≡ true) → (b ≡ false → list_all p ys ≡ true) → list_all p (cond b xs ys) ≡ true
all_if p true xs ys h k = h refl
all_if p false xs ys h k = k refl

-- a clause of one, two or three literals
one : {X : Type 0} (p : X → Bool) (x : X) → p x ≡ true → list_all p (x ∷ []) ≡ true
one p x h = and_from (p x) true h refl

pub two : {X : Type 0} (p : X → Bool) (x y : X) → p x ≡ true → p y ≡ true → list_all p (x ∷ y ∷ []) ≡ true
two p x y h k = and_from (p x) (p y && true) h (one p y k)

three : {X : Type 0} (p : X → Bool) (x y z : X) → p x ≡ true → p y ≡ true → p z ≡ true → list_all p (x ∷ y ∷ z ∷ []) ≡ true
three p x y z h k l = and_from (p x) (p y && (p z && true)) h (two p y z k l)

abs_of_negation : (z : ℤ) → nat_abs (neg_ℤ z) ≡ nat_abs z
abs_of_negation (pos zero) = refl
abs_of_negation (pos (suc n)) = refl
abs_of_negation (negsuc n) = refl

apart_from_test : (x y : ℕ) → not (eqb x y) ≡ true → x ≢ y
apart_from_test x y h = grind (arith, nat_tests)

module _ (t : TraceValue) (ok : IsTrace t) where
  abbrev n : ℕ
  n = operation_count t

  abbrev is_over : ℤ → Bool
  is_over z = is_literal_up_to (variable_count t) z

  abbrev are_over : List (List ℤ) → Bool
  are_over clauses = list_all (is_clause_up_to (variable_count t)) clauses

  variable_over : (v : ℕ) → IsVariable t v → is_over (pos v) ≡ true
  variable_over v of = let low = of.0 in let high = of.1 in grind (arith, nat_tests)

  negation_over : (z : ℤ) → is_over z ≡ true → is_over (neg_ℤ z) ≡ true
  negation_over z h = ap (λ m. nat_lt 0 m && nat_le m (variable_count t)) (abs_of_negation z) ∙ h

  before_over : (i j : ℕ) → AreTwo t i j → is_over (stands_before t i j) ≡ true
  before_over i j apart = orders_over t i j apart.2 apart.0 apart.1

  void_clauses_over : (v : ℕ) → IsVariable t v → are_over (void_clauses v) ≡ true
  void_clauses_over v of = two (is_clause_up_to (variable_count t)) (pos v ∷ []) (neg_ℤ (pos v) ∷ []) (one is_over (pos v) (variable_over v of)) (one is_over (neg_ℤ (pos v)) (negation_over (pos v) (variable_over v of)))

  implied_over : (v i j : ℕ) → IsVariable t v → AreTwo t i j → list_all is_over (implies v (stands_before t i j ∷ [])) ≡ true
  implied_over v i j of apart = two is_over (neg_ℤ (pos v)) (stands_before t i j) (negation_over (pos v) (variable_over v of)) (before_over i j apart)

  order_clauses_over : are_over (program_order t) ≡ true
  order_clauses_over = all_map (is_clause_up_to (variable_count t)) (λ i. stands_before t i (i + 1) ∷ []) (filter (λ i. in_one_process t i (i + 1)) (numbers t))
      (λ i d. (let both = shared_within t i (i + 1) (from_filter (λ k. in_one_process t k (k + 1)) (numbers t) i d).1 in
      one is_over (stands_before t i (i + 1)) (before_over i (i + 1) (both.0, both.1, omega arith))))

  cycle_over : (i j k : ℕ) → i < j → j < k → k < n → are_over (no_cycle n i j k) ≡ true
  cycle_over i j k low middle high =
      let ij = before_over i j (omega arith, omega arith, omega arith) in
      let jk = before_over j k (omega arith, omega arith, omega arith) in
      let ik = before_over i k (omega arith, omega arith, omega arith) in
      two (is_clause_up_to (variable_count t)) (neg_ℤ (order_lit n i j) ∷ neg_ℤ (order_lit n j k) ∷ order_lit n i k ∷ []) (order_lit n i j ∷ order_lit n j k ∷ neg_ℤ (order_lit n i k) ∷ [])
      (three is_over (neg_ℤ (order_lit n i j)) (neg_ℤ (order_lit n j k)) (order_lit n i k) (negation_over (order_lit n i j) ij) (negation_over (order_lit n j k) jk) ik)
      (three is_over (order_lit n i j) (order_lit n j k) (neg_ℤ (order_lit n i k)) ij jk (negation_over (order_lit n i k) ik))

  transitivity_over : are_over (transitivity n) ≡ true
  transitivity_over = all_flat (is_clause_up_to (variable_count t)) (transitivity_from n) (range_with_len 0 n)
      (λ i a. (let i_in = from_range 0 n i a in all_flat (is_clause_up_to (variable_count t)) (λ j. flat_map (no_cycle n i j) (numbers_above n j)) (numbers_above n i)
      (λ j b. (let j_in = from_range (i + 1) (n - (i + 1)) j b in all_flat (is_clause_up_to (variable_count t)) (no_cycle n i j) (numbers_above n j)
      (λ k c. (let k_in = from_range (j + 1) (n - (j + 1)) k c in cycle_over i j k (omega (arith, j_in)) (omega (arith, k_in)) (omega (arith, k_in, j_in, i_in))))))))

  source_over : (r v : ℕ) (c : Candidate) → r < n → IsVariable t v → IsSource t r c → are_over (reads_from t r v c) ≡ true
  source_over r v InitialValue within of source = all_map (is_clause_up_to (variable_count t)) (λ w. implies v (stands_before t r w ∷ [])) (other_writers t r)
      (λ w d. (let other = other_writer t r w d in implied_over v r w of (within, other.0, λ e. other.1 (sym e))))
  source_over r v (Writer w) within of source =
      and_from (is_clause_up_to (variable_count t) (implies v (stands_before t w r ∷ []))) _ (implied_over v w r of source)
      (all_map (is_clause_up_to (variable_count t)) (λ u. implies v (stands_before t u w ∷ stands_before t r u ∷ [])) (others w (other_writers t r))
      (λ u d. (let passed = from_filter (λ x. not (eqb x w)) (other_writers t r) u d in
      let other = other_writer t r u passed.0 in
      three is_over (neg_ℤ (pos v)) (stands_before t u w) (stands_before t r u) (negation_over (pos v) (variable_over v of))
      (before_over u w (other.0, source.0, apart_from_test u w passed.1)) (before_over r u (within, other.0, λ e. other.1 (sym e))))))

  void_test : (r : ℕ) (b z : Bool) → b ≡ true → z ≡ true → cond (b && z) (Some (first_choice t r)) None ≡ Some (first_choice t r)
  void_test r true true h k = refl
  void_test r true false h k = absurd (cc)
  void_test r false z h k = absurd (cc)

  read_over : (r : ℕ) → r < n → is_some (read_at t r) ≡ true → are_over (clauses_of_read t r) ≡ true
  read_over r within reads = all_if (is_clause_up_to (variable_count t)) (eqb (length (candidates t r)) 0) (void_clauses (first_choice t r)) _
      (λ none. void_clauses_over (first_choice t r) (void_over t (Read r) (first_choice t r) (void_test r (is_some (read_at t r)) (eqb (length (candidates t r)) 0) reads none)))
      (λ some. and_from (is_clause_up_to (variable_count t) (map (λ (c : ReadsFromChoice). pos c.variable) (choices t r))) _
      (all_map is_over (λ (c : ReadsFromChoice). pos c.variable) (choices t r) (λ c d. variable_over c.variable (choice_over t r c d)))
      (all_flat (is_clause_up_to (variable_count t)) (λ (c : ReadsFromChoice). reads_from t r c.variable c.candidate) (choices t r)
      (λ c d. source_over r c.variable c.candidate within (choice_over t r c d) (choice_source t r c within d))))

  reads_over : are_over (read_clauses t) ≡ true
  reads_over = all_flat (is_clause_up_to (variable_count t)) (clauses_of_read t) (readers t)
      (λ r d. (let passed = from_filter (λ i. is_some (read_at t i)) (numbers t) r d in let within = from_range 0 n r passed.0 in read_over r (omega (arith, within)) passed.1))

  last_over : (location : List ℕ) (c : FinalChoice) → IsVariable t c.variable → c.writer < n → are_over (writes_last t location c) ≡ true
  last_over location c of within = all_map (is_clause_up_to (variable_count t)) (λ v. implies c.variable (stands_before t v c.writer ∷ [])) (others c.writer (writers t location))
      (λ v d. (let passed = from_filter (λ x. not (eqb x c.writer)) (writers t location) v d in
      implied_over c.variable v c.writer of (writer_within t location v passed.0, within, apart_from_test v c.writer passed.1)))

  void_final_test : (k : ℕ) (u z : Bool) → u ≡ false → z ≡ true → cond (not u && z) (Some (first_final t k)) None ≡ Some (first_final t k)
  void_final_test k true z h e = absurd (cc)
  void_final_test k false true h e = refl
  void_final_test k false false h e = absurd (cc)

  final_at : (k : ℕ) (o : Option (List ℕ × ℕ)) → slice_get t.final_values k ≡ o → are_over (option_map_or (clauses_of_final t k) o []) ≡ true
  final_at k None at = refl
  final_at k (Some entry) at = all_if (is_clause_up_to (variable_count t)) (is_untouched t entry) [] _ (λ _. refl)
      (λ touched. all_if (is_clause_up_to (variable_count t)) (eqb (length (final_candidates t entry)) 0) (void_clauses (first_final t k)) _
      (λ none. void_clauses_over (first_final t k) (void_over t (Final k) (first_final t k)
      (ap (option_and_then (void_of t k)) at ∙ void_final_test k (is_untouched t entry) (eqb (length (final_candidates t entry)) 0) touched none)))
      (λ some. (let listed = λ (c : FinalChoice) (d : Contains (final_choices t k entry) c). subst (λ (l : List FinalChoice). Contains l c) (sym (ap (λ (x : Option (List ℕ × ℕ)). option_map_or (final_choices t k) x []) at)) d in
      and_from (is_clause_up_to (variable_count t) (map (λ (c : FinalChoice). pos c.variable) (final_choices t k entry))) _
      (all_map is_over (λ (c : FinalChoice). pos c.variable) (final_choices t k entry) (λ c d. variable_over c.variable (final_over t k c (listed c d))))
      (all_flat (is_clause_up_to (variable_count t)) (writes_last t entry.0) (final_choices t k entry)
      (λ c d. last_over entry.0 c (final_over t k c (listed c d)) (final_writer t k c (listed c d)))))))

  finals_over : are_over (final_clauses t) ≡ true
  finals_over = ap are_over (sym (all_finals t)) ∙ all_flat (is_clause_up_to (variable_count t)) (clauses_at t) (range_with_len 0 (length t.final_values)) (λ k d. final_at k (slice_get t.final_values k) refl)

  pairs_over : are_over (before_clauses t) ≡ true
  pairs_over = all_map (is_clause_up_to (variable_count t)) (λ (pair : ℕ × ℕ). stands_before t pair.0 pair.1 ∷ []) (known_pairs t)
      (λ pair d. one is_over (stands_before t pair.0 pair.1) (before_over pair.0 pair.1 (pair_apart t ok pair d)))

  pub clauses_over : is_formula (formula_of t) ≡ true
  clauses_over =
      let p = is_clause_up_to (variable_count t) in
      ap are_over (clause_list t)
      ∙ all_append p (program_order t) _ order_clauses_over (all_append p (transitivity n) _ transitivity_over (all_append p (read_clauses t) _ reads_over (all_append p (final_clauses t) (before_clauses t) finals_over pairs_over)))
