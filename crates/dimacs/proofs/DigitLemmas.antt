-- The digits of a number from left to right.
use Rattle.std.proofs.Common.{◌≡◌, ℕ, zero, suc, ◌+◌, ◌-◌, ◌*◌, ◌/◌, ◌%◌, ◌^◌, ◌<◌, ◌≤◌, Bool, true, ◌&&◌, T, eqb, List, [], ◌∷◌, ◌++◌, get_or, append_assoc, arith, ap, ◌∙◌, inl, inr, eq-zero-or-pos, eqb→eq}
use Rattle.std.proofs.lemmas.Fmt.{decimal_digit, decimal_step}
use Rattle.std.specs.Fmt.{decimal}
use lib.Ieee.Fits.{and_l, and_r}
use Rattle.dimacs.specs.declared.line_buffer.TheConstants.{PAIRS}

abbrev pair : ℕ → List ℕ
pair n = (48 + n / 10) ∷ (48 + n % 10) ∷ []

pub decimal_one : (text : List ℕ) (n : ℕ) → n < 10 → text ++ (48 + n) ∷ [] ≡ text ++ decimal n
decimal_one text n h = rw (decimal_digit n h)

pub decimal_two : (text : List ℕ) (n : ℕ) → 10 ≤ n → n < 100 → text ++ pair n ≡ text ++ decimal n
decimal_two text n lo hi = rw (decimal_step n lo (omega arith), decimal_digit (n / 10) (omega arith))

-- the last two digits after the others
pub decimal_behind : (text : List ℕ) (n : ℕ) → 100 ≤ n → n < 2 ^ 32 → (text ++ decimal (n / 100)) ++ pair (n % 100) ≡ text ++ decimal n
decimal_behind text n lo hi =
    let a : n / 10 / 10 ≡ n / 100 = omega arith in
    let b : n / 10 % 10 ≡ n % 100 / 10 = omega arith in
    let c : n % 10 ≡ n % 100 % 10 = omega arith in
    rw (decimal_step n (omega arith) (omega arith), decimal_step (n / 10) (omega arith) (omega arith), append_assoc text, append_assoc, a, b, ← c)

-- the last four digits after the others
pub decimal_behind_four : (text : List ℕ) (n : ℕ) → 10000 ≤ n → n < 2 ^ 32 → ((text ++ decimal (n / 10000)) ++ pair ((n - n / 10000 * 10000) / 100)) ++ pair ((n - n / 10000 * 10000) % 100) ≡ text ++ decimal n
decimal_behind_four text n lo hi =
    let upper : n / 10000 ≡ n / 100 / 100 = omega arith in
    let third : (n - n / 10000 * 10000) / 100 ≡ n / 100 % 100 = omega arith in
    let last : (n - n / 10000 * 10000) % 100 ≡ n % 100 = omega arith in
    ap (λ p. ((text ++ decimal (n / 10000)) ++ pair ((n - n / 10000 * 10000) / 100)) ++ pair p) last
    ∙ ap (λ p. ((text ++ decimal (n / 10000)) ++ pair p) ++ pair (n % 100)) third
    ∙ ap (λ m. ((text ++ decimal m) ++ pair (n / 100 % 100)) ++ pair (n % 100)) upper
    ∙ ap (λ front. front ++ pair (n % 100)) (decimal_behind text (n / 100) (omega arith) (omega arith))
    ∙ decimal_behind text n (omega arith) hi

-- the table of pairs, entry by entry
abbrev are_pairs : ℕ → Bool
are_pairs zero = true
are_pairs (suc n) = (eqb (get_or PAIRS (n * 2) 0) (48 + n / 10) && eqb (get_or PAIRS (n * 2 + 1) 0) (48 + n % 10)) && are_pairs n

pairs_below : (most n : ℕ) → T (are_pairs most) → n < most → (get_or PAIRS (n * 2) 0 ≡ 48 + n / 10) × (get_or PAIRS (n * 2 + 1) 0 ≡ 48 + n % 10)
pairs_below zero n t h = absurd (omega arith)
pairs_below (suc most) n t h =
    elim (eq-zero-or-pos (most - n)) [
      | inl z ↦ let e : n ≡ most = omega arith in let both = and_l _ (are_pairs most) t in rw e (eqb→eq _ _ (and_l _ _ both), eqb→eq _ _ (and_r _ _ both))
      | inr g ↦ pairs_below most n (and_r _ (are_pairs most) t) (omega arith)
    ]

pub pairs_at : (n : ℕ) → n < 100 → (get_or PAIRS (n * 2) 0 ≡ 48 + n / 10) × (get_or PAIRS (n * 2 + 1) 0 ≡ 48 + n % 10)
pairs_at n h = pairs_below 100 n tt h
