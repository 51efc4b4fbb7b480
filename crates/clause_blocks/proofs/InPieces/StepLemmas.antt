-- The step of a loop that appends what each number, or each element, gives.
use Rattle.std.proofs.Common.{◌≡◌, ℕ, ◌+◌, ◌-◌, ◌<◌, ◌≤◌, List, [], ◌∷◌, ◌++◌, length, get_or, take, map, Bool, true, false, cond, not, eqb, sym, ap, ◌∙◌, arith, append_assoc, append-nil}
use Rattle.std.specs.Prelude.{◌≢◌}
use Rattle.std.specs.List.{filter, flat_map, range_with_len}
use Rattle.std.proofs.lemmas.Bool.Decides.{nat_tests}
use Rattle.std.proofs.lemmas.List.{map-append, flat_map_more, take_more}
use Rattle.std.proofs.lemmas.List.Elements.{filter-append}
use Rattle.var_layout.proofs.RangeLemmas.{range_more, filter_range_more}

-- the numbers from a to below k, and then k
pub range_upto : (a k : ℕ) → a ≤ k → range_with_len a (k + 1 - a) ≡ range_with_len a (k - a) ++ k ∷ []
range_upto a k low =
    let count : k + 1 - a ≡ k - a + 1 = omega arith in
    let last : a + (k - a) ≡ k = omega arith in
    ap (λ n. range_with_len a n) count ∙ range_more a (k - a) ∙ ap (λ x. range_with_len a (k - a) ++ x ∷ []) last

pub flat_upto : {A : Type 0} (f : ℕ → List A) (bs : List A) (a k : ℕ) → a ≤ k → (bs ++ flat_map f (range_with_len a (k - a))) ++ f k ≡ bs ++ flat_map f (range_with_len a (k + 1 - a))
flat_upto f bs a k low = flat_map_more f bs (range_with_len a (k - a)) k ∙ ap (λ l. bs ++ flat_map f l) (sym (range_upto a k low))

pub flat_more : {A : Type 0} (f : ℕ → List A) (bs : List A) (k : ℕ) → (bs ++ flat_map f (range_with_len 0 k)) ++ f k ≡ bs ++ flat_map f (range_with_len 0 (k + 1))
flat_more f bs k = flat_map_more f bs (range_with_len 0 k) k ∙ ap (λ l. bs ++ flat_map f l) (sym (range_more 0 k ∙ ap (λ x. range_with_len 0 k ++ x ∷ []) (omega arith)))

filter_one : {X : Type 0} (p : X → Bool) (xs : List X) (x : X) (b : Bool) → p x ≡ b → filter p (xs ++ x ∷ []) ≡ filter p xs ++ cond b (x ∷ []) []
filter_one p xs x b h = filter-append p xs (x ∷ []) ∙ ap (λ v. filter p xs ++ cond v (x ∷ []) []) h

map_kept : {X A : Type 0} (f : X → A) (bs : List A) (xs : List X) (x : X) (b : Bool) → (bs ++ map f xs) ++ cond b (f x ∷ []) [] ≡ bs ++ map f (xs ++ cond b (x ∷ []) [])
map_kept f bs xs x true = append_assoc bs (map f xs) (f x ∷ []) ∙ ap (λ l. bs ++ l) (sym (map-append f xs (x ∷ [])))
map_kept f bs xs x false = append-nil _ ∙ ap (λ l. bs ++ map f l) (sym (append-nil xs))

flat_kept : {X A : Type 0} (f : X → List A) (bs : List A) (xs : List X) (x : X) (b : Bool) → (bs ++ flat_map f xs) ++ cond b (f x) [] ≡ bs ++ flat_map f (xs ++ cond b (x ∷ []) [])
flat_kept f bs xs x true = flat_map_more f bs xs x
flat_kept f bs xs x false = append-nil _ ∙ ap (λ l. bs ++ flat_map f l) (sym (append-nil xs))

-- where only the numbers count that pass
pub map_passed : {A : Type 0} (f : ℕ → A) (p : ℕ → Bool) (bs : List A) (k : ℕ) (b : Bool) → p k ≡ b →
    (bs ++ map f (filter p (range_with_len 0 k))) ++ cond b (f k ∷ []) [] ≡ bs ++ map f (filter p (range_with_len 0 (k + 1)))
map_passed f p bs k b h = map_kept f bs (filter p (range_with_len 0 k)) k b ∙ ap (λ l. bs ++ map f l) (sym (filter_range_more p k b h))

pub flat_passed : {A : Type 0} (f : ℕ → List A) (p : ℕ → Bool) (bs : List A) (k : ℕ) (b : Bool) → p k ≡ b →
    (bs ++ flat_map f (filter p (range_with_len 0 k))) ++ cond b (f k) [] ≡ bs ++ flat_map f (filter p (range_with_len 0 (k + 1)))
flat_passed f p bs k b h = flat_kept f bs (filter p (range_with_len 0 k)) k b ∙ ap (λ l. bs ++ flat_map f l) (sym (filter_range_more p k b h))

-- where only the elements count that pass
pub map_taken : {X A : Type 0} (f : X → A) (p : X → Bool) (bs : List A) (xs : List X) (k : ℕ) (x : X) (b : Bool) → k < length xs → p (get_or xs k x) ≡ b →
    (bs ++ map f (filter p (take k xs))) ++ cond b (f (get_or xs k x) ∷ []) [] ≡ bs ++ map f (filter p (take (k + 1) xs))
map_taken f p bs xs k x b within h =
    map_kept f bs (filter p (take k xs)) (get_or xs k x) b
    ∙ ap (λ l. bs ++ map f l) (sym (ap (filter p) (take_more xs k x within) ∙ filter_one p (take k xs) (get_or xs k x) b h))

pub is_other : (x y : ℕ) → x ≢ y → not (eqb x y) ≡ true
is_other x y apart = grind (arith, nat_tests)

pub is_same : (x y : ℕ) → x ≡ y → not (eqb x y) ≡ false
is_same x y same = grind (arith, nat_tests)
