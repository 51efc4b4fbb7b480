-- Leaves in pieces, which are joined in their order.
use Rattle.std.proofs.Common.{◌≡◌, ℕ, ◌+◌, ◌<◌, ◌≤◌, List, [], ◌∷◌, ◌++◌, length, get_or, refl, sym, ◌∙◌, ap, subst, arith}
use Rattle.std.specs.Int.{div_ceil}
use Rattle.std.proofs.lemmas.Grind.{div_ceil_times}
use Rattle.std.proofs.lemmas.List.{length-append}
use Rattle.result_ledger.specs.Pieces.{AreWithoutBetween, piece_start}
use Rattle.result_ledger.proofs.WithoutLemmas.{both_pieces}

-- the element at the end of this prefix
pub at_front : {X : Type 0} (xs front : List X) (x : X) (rest : List X) → xs ≡ front ++ x ∷ rest → (get_or xs (length front) x ≡ x) × (length front < length xs)
at_front xs front x rest is = (ap (λ l. get_or l (length front) x) is ∙ at_seam front x rest, omega (arith, ap length is, length-append front (x ∷ rest)))
  where
    at_seam : {X : Type 0} (front : List X) (x : X) (rest : List X) → get_or (front ++ x ∷ rest) (length front) x ≡ x
    at_seam [] x rest = refl
    at_seam (y ∷ front) x rest = at_seam front x rest

-- the next piece is joined
pub one_piece : (Has : ℕ → Type 0) (size count piece after : ℕ) (before leaves all : List ℕ) → AreWithoutBetween Has 0 (piece_start size count piece) before →
    AreWithoutBetween Has (piece_start size count piece) (piece_start size count (piece + 1)) leaves → after ≡ piece + 1 → all ≡ before ++ leaves → AreWithoutBetween Has 0 (piece_start size count after) all
one_piece Has size count piece after before leaves all so next more is =
    let later : piece_start size count piece ≤ piece_start size count (piece + 1) = omega arith in
    let both = both_pieces Has 0 (piece_start size count piece) (piece_start size count (piece + 1)) before leaves (omega arith) later so next in
    subst (λ (xs : List ℕ). AreWithoutBetween Has 0 (piece_start size count after) xs) (sym is) (subst (λ (n : ℕ). AreWithoutBetween Has 0 (piece_start size count n) (before ++ leaves)) (sym more) both)

-- the pieces are all leaves
pub all_pieces : (count pieces : ℕ) → 0 < pieces → piece_start (div_ceil count pieces) count pieces ≡ count
all_pieces count pieces some = omega (arith, (div_ceil_times count pieces some).0)
