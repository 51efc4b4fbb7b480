-- The first false clause of a list, by the parts of the list.
use Rattle.std.proofs.Common.{◌≡◌, ℕ, ◌+◌, ◌-◌, ◌<◌, ◌≤◌, ℤ, Bool, true, List, [], ◌∷◌, ◌++◌, length, length-append, get_or, refl, inl, inr, sym, ap, ◌∙◌, subst, append_assoc, arith}
use Rattle.std.specs.List.{list_all, flat_map, range_with_len}
use Rattle.std.proofs.lemmas.Bool.{and_parts, cases_order}
use Rattle.std.proofs.lemmas.List.Folds.{list_all-append}
use Rattle.dimacs.specs.Assignment.{makes_some}
use Rattle.dimacs.specs.Models.{IsModel, IsFirstFalse}
use Rattle.trace_semantics.specs.Trace.{TraceValue}
use Rattle.clause_blocks.specs.Blocks.{transitivity, transitivity_from}
use Rattle.clause_blocks.specs.Clauses.{pieces, clauses_of}
use Rattle.clause_blocks.specs.Pieces.{clauses_before}
use Rattle.clause_blocks.proofs.TransitivityClauses.CountLemmas.{none_from}
use Rattle.clause_blocks.proofs.ClauseList.FormulaLemmas.{all_append}
use Rattle.clause_blocks.proofs.ClauseList.ListLemmas.{piece_at, all_pieces}
use Rattle.clause_blocks.proofs.InPieces.PieceLemmas.{around, at_first, behind, counted_upto, few_upto}
use Rattle.clause_blocks.proofs.InPieces.StepLemmas.{flat_more}

all_between : {X : Type 0} (p : X → Bool) (xs ys zs : List X) → list_all p (xs ++ (ys ++ zs)) ≡ true → list_all p ys ≡ true
all_between p xs ys zs h =
    let later = (and_parts _ _ (sym (list_all-append p xs (ys ++ zs)) ∙ h)).1 in
    (and_parts _ _ (sym (list_all-append p ys zs) ∙ later)).0

-- where all of transitivity is true, so are the clauses of each lowest operation
pub from_whole : (value : ℕ → Bool) (n i : ℕ) → IsModel value (transitivity n) → IsModel value (transitivity_from n i)
from_whole value n i m = elim (cases_order i n) [
  | inl e ↦ subst (IsModel value) (sym (none_from n i (omega (arith, e)))) refl
  | inr (inl l) ↦ all_between (makes_some value) (flat_map (transitivity_from n) (range_with_len 0 i)) (transitivity_from n i) (behind (transitivity_from n) i n) (subst (IsModel value) (sym (around (transitivity_from n) i n l)) m)
  | inr (inr l) ↦ subst (IsModel value) (sym (none_from n i (omega (arith, l)))) refl
]

-- behind clauses that are true
first_behind : (value : ℕ → Bool) (front part back : List (List ℤ)) (k : ℕ) → IsModel value front → IsFirstFalse value part k → IsFirstFalse value (front ++ (part ++ back)) (length front + k)
first_behind value front part back k so_far f = record {
  before = front ++ f.before;
  clause = f.clause;
  after = f.after ++ back;
  parts = ap (λ l. front ++ (l ++ back)) f.parts ∙ ap (λ l. front ++ l) (append_assoc f.before (f.clause ∷ f.after) back) ∙ sym (append_assoc front f.before (f.clause ∷ (f.after ++ back)));
  counted = omega (arith, f.counted, length-append front f.before);
  untrue = f.untrue;
  first = all_append (makes_some value) front f.before so_far f.first;
}

pub first_within : (value : ℕ → Bool) (clauses : List (List ℤ)) (k : ℕ) → IsFirstFalse value clauses k → k ≤ length clauses
first_within value clauses k f = omega (arith, f.counted, ap length f.parts, length-append f.before (f.clause ∷ f.after))

module _ (t : TraceValue) where
  -- the clauses of the pieces below k
  abbrev pub clauses_to : ℕ → List (List ℤ)
  clauses_to k = flat_map (piece_at t) (range_with_len 0 k)

  pub before_within : (k : ℕ) → k ≤ length (pieces t) → clauses_before t k ≤ length (clauses_of t)
  before_within k low = omega (arith, few_upto (piece_at t) k (length (pieces t)) low, ap length (all_pieces t))

  -- one more piece is true
  pub piece_too : (value : ℕ → Bool) (k : ℕ) → IsModel value (clauses_to k) → IsModel value (piece_at t k) → IsModel value (clauses_to (k + 1))
  piece_too value k so_far here = subst (IsModel value) (flat_more (piece_at t) [] k) (all_append (makes_some value) (clauses_to k) (piece_at t k) so_far here)

  -- the first false clause is in this piece
  pub first_in_piece : (value : ℕ → Bool) (k m : ℕ) → k < length (pieces t) → IsModel value (clauses_to k) → IsFirstFalse value (piece_at t k) m → IsFirstFalse value (clauses_of t) (clauses_before t k + m)
  first_in_piece value k m high so_far f =
      subst (λ l. IsFirstFalse value l (clauses_before t k + m)) (around (piece_at t) k (length (pieces t)) high ∙ all_pieces t)
      (first_behind value (clauses_to k) (piece_at t k) (behind (piece_at t) k (length (pieces t))) m so_far f)

  -- the clause at a place stands in the piece around it
  module _ (k place : ℕ) (above : clauses_before t k ≤ place) (below : place < clauses_before t (k + 1)) where
    pub place_within : place - clauses_before t k < length (piece_at t k)
    place_within = omega (arith, above, below, counted_upto (piece_at t) k)

    pub clause_at : k < length (pieces t) → get_or (piece_at t k) (place - clauses_before t k) [] ≡ get_or (clauses_of t) place []
    clause_at high =
        let whole : clauses_before t k + (place - clauses_before t k) ≡ place = omega (arith, above) in
        sym (at_first (piece_at t) k (length (pieces t)) (place - clauses_before t k) [] high place_within)
        ∙ ap (λ m. get_or (clauses_to (length (pieces t))) m []) whole ∙ ap (λ l. get_or l place []) (all_pieces t)
