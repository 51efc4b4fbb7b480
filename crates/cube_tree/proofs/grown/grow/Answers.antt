use Rattle.std.proofs.Common.{ap, ◌∙◌, ◌≡◌, ℕ, zero, suc, ◌+◌, ◌-◌, ◌<◌, ◌≤◌, List, [], ◌∷◌, map, take, Bool, true, false, cond, refl, arith}
use Rattle.std.specs.List.{list_all, filter, flat_map, range_with_len}
use Rattle.std.proofs.lemmas.Bool.{and_parts, and_from, le-leb}
use Rattle.std.proofs.lemmas.List.Folds.{list_all-append, list_all-map}
use Rattle.trace_semantics.specs.Trace.{TraceValue, operation_count}
use Rattle.var_layout.specs.Split.{splits, is_split}
use Rattle.var_layout.specs.OrderVariables.{order_var, numbers_above, pairs}
use Rattle.var_layout.proofs.OrderLemmas.{order_first, order_last, order_small}
use Rattle.cube_tree.specs.CubeTree.{is_variable}
use Rattle.cube_tree.proofs.grown.grow.Goals as goal

-- The split variables of a trace are variables.

order_is_variable : (n i j : ℕ) → n ≤ 160 → i < j → j < n → is_variable (order_var n i j) ≡ true
order_is_variable n i j l a b =
    and_from _ _ (le-leb 1 (order_var n i j) (order_first n i j a)) (le-leb (order_var n i j) 4194304 (omega (arith, order_last n i j a b, order_small n l)))

-- whether the pair's order variable is one
abbrev is_good : ℕ → ℕ × ℕ → Bool
is_good n pair = is_variable (order_var n pair.0 pair.1)

good_row : (n i a k : ℕ) → n ≤ 160 → i < a → a + k ≤ n → list_all (is_good n) (map (λ (j : ℕ). (i, j)) (range_with_len a k)) ≡ true
good_row n i a zero l b c = refl
good_row n i a (suc k) l b c = and_from _ _ (order_is_variable n i a l b (omega (arith, c))) (good_row n i (a + 1) k l (omega (arith, b)) (omega (arith, c)))

good_of : (n i k : ℕ) → n - (i + 1) ≡ k → n ≤ 160 → list_all (is_good n) (map (λ (j : ℕ). (i, j)) (range_with_len (i + 1) k)) ≡ true
good_of n i zero e l = refl
good_of n i (suc k) e l = good_row n i (i + 1) (suc k) l (omega arith) (omega (arith, e))

good_above : (n i : ℕ) → n ≤ 160 → list_all (is_good n) (map (λ (j : ℕ). (i, j)) (numbers_above n i)) ≡ true
good_above n i l = good_of n i (n - (i + 1)) refl l

good_rows : (n a k : ℕ) → n ≤ 160 → list_all (is_good n) (flat_map (λ (i : ℕ). map (λ (j : ℕ). (i, j)) (numbers_above n i)) (range_with_len a k)) ≡ true
good_rows n a zero l = refl
good_rows n a (suc k) l =
    list_all-append (is_good n) (map (λ (j : ℕ). (a, j)) (numbers_above n a)) (flat_map (λ (i : ℕ). map (λ (j : ℕ). (i, j)) (numbers_above n i)) (range_with_len (a + 1) k))
    ∙ and_from _ _ (good_above n a l) (good_rows n (a + 1) k l)

kept_of : (p q : ℕ × ℕ → Bool) (x : ℕ × ℕ) (ps : List (ℕ × ℕ)) (b : Bool) → q x ≡ true → list_all q (filter p ps) ≡ true → list_all q (cond b (x ∷ filter p ps) (filter p ps)) ≡ true
kept_of p q x ps true first rest = and_from _ _ first rest
kept_of p q x ps false first rest = rest

kept_good : (p q : ℕ × ℕ → Bool) (ps : List (ℕ × ℕ)) → list_all q ps ≡ true → list_all q (filter p ps) ≡ true
kept_good p q [] h = refl
kept_good p q (x ∷ ps) h = (let parts = and_parts (q x) (list_all q ps) h in kept_of p q x ps (p x) parts.0 (kept_good p q ps parts.1))

splits_are_variables : (t : TraceValue) → operation_count t ≤ 160 → list_all is_variable (splits t) ≡ true
splits_are_variables t l =
    list_all-map is_variable (λ (pair : ℕ × ℕ). order_var (operation_count t) pair.0 pair.1) (filter (is_split t) (pairs (operation_count t)))
    ∙ kept_good (is_split t) (is_good (operation_count t)) (pairs (operation_count t)) (good_rows (operation_count t) 0 (operation_count t) l)

-- a prefix of them
front_of_variables : (n : ℕ) (vs : List ℕ) → list_all is_variable vs ≡ true → list_all is_variable (take n vs) ≡ true
front_of_variables zero vs h = refl
front_of_variables (suc n) [] h = refl
front_of_variables (suc n) (v ∷ vs) h = (let parts = and_parts (is_variable v) (list_all is_variable vs) h in and_from _ _ parts.0 (front_of_variables n vs parts.1))

pub full_tree_of-requires-clause-variables : goal.full_tree_of-requires-clause-variables
full_tree_of-requires-clause-variables c =
    ap (list_all is_variable) (c.as_slice.ensures.value ∙ c.in_ok-variables.ensures)
    ∙ front_of_variables c.args.depth (splits c.args.layout.now) (splits_are_variables c.args.layout.now c.recall_limits.ensures.few)
