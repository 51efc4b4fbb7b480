-- Final values: their clauses by what the tables of a layout say.
use Rattle.std.proofs.Common.{◌≡◌, ℕ, zero, suc, ◌+◌, ◌<◌, ◌≤◌, ℤ, pos, List, [], ◌∷◌, ◌++◌, length, get_or, map, Option, Some, None, Bool, true, false, cond, not, eqb, refl, sym, ap, ◌∙◌, subst, arith}
use Rattle.std.specs.Prelude.{◌≢◌, ◌&&◌, slice_get}
use Rattle.std.specs.List.{All, Contains, flat_map, enumerate_from, range_with_len}
use Rattle.std.specs.Option.{option_map_or, option_and_then}
use Rattle.std.proofs.lemmas.Bool.Decides.{nat_tests}
use Rattle.std.proofs.lemmas.List.Elements.{Contains-get_or}
use Rattle.std.proofs.lemmas.Bool.{and_left}
use Rattle.text_lines.proofs.ListLemmas.{few_pass}
use Rattle.trace_semantics.specs.Judgement.{is_held}
use Rattle.trace_semantics.specs.Trace.{TraceValue, IsTrace, operation_count}
use Rattle.var_layout.specs.declared.candidate.FinalChoice.{FinalChoice}
use Rattle.var_layout.specs.FinalVariables.{final_candidates, is_untouched, final_choices, finals, first_final, void_final, void_of}
use Rattle.var_layout.specs.Numbers.{left_at, others, writers}
use Rattle.var_layout.proofs.VariableLemmas.{final_over}
use Rattle.var_layout.proofs.BoundLemmas.{length_finals}
use Rattle.clause_blocks.specs.Blocks.{implies, stands_before, clauses_of_final, final_clauses}
use Rattle.clause_blocks.specs.FinalClauses.{clauses_at}
use Rattle.clause_blocks.specs.Ranges.{FitsFormula}
use Rattle.clause_blocks.proofs.NumbersOfNames.VariableLemmas.{fits_formula, final_writer, writers_at, within_at}

numbered_flat : {X A : Type 0} (f : ℕ → X → List A) (g : ℕ → List A) (a : ℕ) (xs : List X) →
    ((k j : ℕ) (x : X) → a + k ≡ j → slice_get xs k ≡ Some x → g j ≡ f j x) →
    flat_map g (range_with_len a (length xs)) ≡ flat_map (λ (p : ℕ × X). f p.0 p.1) (enumerate_from a xs)
numbered_flat f g a [] h = refl
numbered_flat f g a (x ∷ xs) h =
    let here = h zero a x (omega arith) refl in
    let rest = numbered_flat f g (a + 1) xs (λ k j y e s. h (suc k) j y (omega (arith, e)) s) in
    λ i. here i ++ rest i

-- the clauses of all final values, by their places
pub all_finals : (t : TraceValue) → flat_map (clauses_at t) (range_with_len 0 (length t.final_values)) ≡ final_clauses t
all_finals t = numbered_flat (clauses_of_final t) (clauses_at t) 0 t.final_values
    (λ k j entry e s. ap (λ (o : Option (List ℕ × ℕ)). option_map_or (clauses_of_final t j) o []) (ap (slice_get t.final_values) (sym (let at : k ≡ j = omega (arith, e) in at)) ∙ s))

no_test : {A : Type 0} (u z : Bool) (v : ℕ) (vs cs : List A) → cond (not u && z) (Some v) None ≡ None → z ≡ true → cond u [] (cond z vs cs) ≡ []
no_test true z v vs cs e h = refl
no_test false true v vs cs e h = absurd (cc)
no_test false false v vs cs e h = absurd (cc)

some_test : {A : Type 0} (u z : Bool) (vs cs : List A) → u ≡ false → z ≡ false → cond u [] (cond z vs cs) ≡ cs
some_test true z vs cs e h = absurd (cc)
some_test false true vs cs e h = absurd (cc)
some_test false false vs cs e h = refl

empty_at : (t : TraceValue) (k : ℕ) (o : Option (List ℕ × ℕ)) (fs : List FinalChoice) → fs ≡ option_map_or (final_choices t k) o [] → option_and_then (void_of t k) o ≡ None → length fs ≡ 0 →
    option_map_or (clauses_of_final t k) o [] ≡ []
empty_at t k None fs e v h = refl
empty_at t k (Some entry) fs e v h =
    let none : length (final_candidates t entry) ≡ 0 = sym (length_finals t k entry) ∙ ap length (sym e) ∙ h in
    no_test (is_untouched t entry) (eqb (length (final_candidates t entry)) 0) (first_final t k) _ _ v (grind (arith, nat_tests, none))

-- no writer leaves the final value, and it is there from the start
pub empty_finals : (t : TraceValue) (k : ℕ) (fs : List FinalChoice) → fs ≡ finals t k → void_final t k ≡ None → length fs ≡ 0 → clauses_at t k ≡ []
empty_finals t k fs e v h = empty_at t k (slice_get t.final_values k) fs e v h

test_of_more : (m n : ℕ) → m ≤ n → m ≢ 0 → eqb n 0 ≡ false
test_of_more m n more some = grind (arith, nat_tests)

abbrev pub of_choice : TraceValue → List ℕ → FinalChoice → List (List ℤ)
of_choice t ws c = map (λ v. implies c.variable (stands_before t v c.writer ∷ [])) (others c.writer ws)

chosen_at : (t : TraceValue) (k : ℕ) (o : Option (List ℕ × ℕ)) (fs : List FinalChoice) (ws : List ℕ) → fs ≡ option_map_or (final_choices t k) o [] → ws ≡ writers_at t o → length fs ≢ 0 →
    option_map_or (clauses_of_final t k) o [] ≡ map (λ (c : FinalChoice). pos c.variable) fs ∷ flat_map (λ (c : FinalChoice). map (λ v. implies c.variable (stands_before t v c.writer ∷ [])) (others c.writer ws)) fs
chosen_at t k None fs ws e w h = absurd (h (ap length e))
chosen_at t k (Some entry) fs ws e w h =
    let count : length fs ≡ length (final_candidates t entry) = ap length e ∙ length_finals t k entry in
    let fewer = few_pass (λ w. is_held (left_at t entry.0 w) entry.1) (writers t entry.0) in
    let some : length (final_candidates t entry) ≢ 0 = λ none. h (count ∙ none) in
    some_test (is_untouched t entry) (eqb (length (final_candidates t entry)) 0) _ _
    (and_left (eqb (length (writers t entry.0)) 0) _ (test_of_more (length (final_candidates t entry)) (length (writers t entry.0)) fewer some))
    (test_of_more (length (final_candidates t entry)) (length (final_candidates t entry)) (omega arith) some)
    ∙ (λ i. map (λ (c : FinalChoice). pos c.variable) (sym e i) ∷ flat_map (of_choice t (sym w i)) (sym e i))

-- some writer leaves the final value
pub chosen_finals : (t : TraceValue) (k : ℕ) (fs : List FinalChoice) (ws : List ℕ) → fs ≡ finals t k → ws ≡ writers_at t (slice_get t.final_values k) → length fs ≢ 0 →
    clauses_at t k ≡ map (λ (c : FinalChoice). pos c.variable) fs ∷ flat_map (λ (c : FinalChoice). map (λ v. implies c.variable (stands_before t v c.writer ∷ [])) (others c.writer ws)) fs
chosen_finals t k fs ws e w h = chosen_at t k (slice_get t.final_values k) fs ws e w h

pub finals_are_variables : (t : TraceValue) → IsTrace t → operation_count t ≤ 160 → (k : ℕ) (fs : List FinalChoice) → fs ≡ finals t k → All (λ (c : FinalChoice). FitsFormula c.variable) fs
finals_are_variables t ok few k fs e i d within =
    let c = get_or fs i d in
    fits_formula t ok few c.variable (final_over t k c (subst (λ (l : List FinalChoice). Contains l c) e (Contains-get_or fs i d within)))

pub finals_are_operations : (t : TraceValue) (k : ℕ) (fs : List FinalChoice) → fs ≡ finals t k → All (λ (c : FinalChoice). c.writer < operation_count t) fs
finals_are_operations t k fs e i d within =
    let c = get_or fs i d in
    final_writer t k c (subst (λ (l : List FinalChoice). Contains l c) e (Contains-get_or fs i d within))

pub writers_are_operations : (t : TraceValue) (o : Option (List ℕ × ℕ)) (ws : List ℕ) → ws ≡ writers_at t o → All (λ (w : ℕ). w < operation_count t) ws
writers_are_operations t o ws e i d within = within_at t o (get_or ws i d) (subst (λ (l : List ℕ). Contains l (get_or ws i d)) e (Contains-get_or ws i d within))

pub zero_from_test : (n : ℕ) → true ≡ eqb n 0 → n ≡ 0
zero_from_test n e = grind (arith, nat_tests)

pub nonzero_from_test : (n : ℕ) → false ≡ eqb n 0 → n ≢ 0
nonzero_from_test n e h = absurd (let clash : true ≡ false = sym (ap (λ m. eqb m 0) h) ∙ sym e in cc)
