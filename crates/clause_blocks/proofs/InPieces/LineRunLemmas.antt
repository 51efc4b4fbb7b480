-- Lines that are made run by run.
use Rattle.std.proofs.Common.{◌≡◌, ℕ, suc, ◌+◌, ◌-◌, ◌<◌, ◌≤◌, ℤ, List, [], ◌∷◌, ◌++◌, length, get_or, refl, sym, ap, ◌∙◌, arith}
use Rattle.std.specs.List.{flat_map, range_with_len}
use Rattle.std.proofs.lemmas.Grind.{flat_map-append}
use Rattle.var_layout.proofs.RangeLemmas.{range_parted}
use Rattle.dimacs.specs.CnfText.{clause_line}
use Rattle.clause_blocks.proofs.InPieces.RangeSentLemmas.{lines_to}

-- what is made of each element, where the one list has what was made and the other what was asked for
pub each_made : {X A : Type 0} (made asked : X → List A) (old new : List X) → length new ≡ length old
    → ((i : ℕ) (d : X) → i < length old → made (get_or new i d) ≡ asked (get_or old i d)) → flat_map made new ≡ flat_map asked old
each_made made asked [] [] same h = refl
each_made made asked [] (y ∷ ys) same h = absurd (omega (arith, same))
each_made made asked (x ∷ xs) [] same h = absurd (omega (arith, same))
each_made made asked (x ∷ xs) (y ∷ ys) same h = (λ p. h 0 x (omega arith) p ++ each_made made asked xs ys (omega (arith, same)) (λ i d low. h (suc i) d (omega (arith, low))) p)

pub flat_flat : {A B C : Type 0} (f : B → List C) (g : A → List B) (xs : List A) → flat_map f (flat_map g xs) ≡ flat_map (λ x. flat_map f (g x)) xs
flat_flat f g [] = refl
flat_flat f g (x ∷ xs) = flat_map-append f (g x) (flat_map g xs) ∙ ap (λ l. flat_map f (g x) ++ l) (flat_flat f g xs)

-- two runs, one behind the other
pub runs_joined : (a k n : ℕ) → a ≤ k → k ≤ n → range_with_len a (k - a) ++ range_with_len k (n - k) ≡ range_with_len a (n - a)
runs_joined a k n low high =
    let all : (k - a) + (n - k) ≡ n - a = omega (arith, low, high) in
    let here : k ≡ a + (k - a) = omega (arith, low) in
    ap (λ b. range_with_len a (k - a) ++ range_with_len b (n - k)) here ∙ sym (range_parted a (k - a) (n - k)) ∙ ap (range_with_len a) all

-- the lines of all numbers below n
pub all_lines : (head : List ℕ) (piece : ℕ → List (List ℤ)) (n : ℕ) → lines_to head piece 0 n ≡ head ++ flat_map clause_line (flat_map piece (range_with_len 0 n))
all_lines head piece n =
    let all : n - 0 ≡ n = omega arith in
    ap (λ m. head ++ flat_map clause_line (flat_map piece (range_with_len 0 m))) all
