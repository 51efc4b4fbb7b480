-- The pieces of a process in a list that is sorted by processes.
use Rattle.std.proofs.Common.{◌≡◌, ◌==◌, ◌<◌, ◌≤◌, ℕ, zero, suc, List, [], ◌∷◌, length, get_or, cond, refl, ap, sym, ◌∙◌, arith, inl, inr, subst}
use Rattle.std.specs.Prelude.{Some, None}
use Rattle.std.specs.List.{Contains, find}
use Rattle.std.proofs.lemmas.Bool.{cases_order, eq-eqb, ne_eqb}
use Rattle.std.proofs.lemmas.List.{get_or_default}
use Rattle.trace_semantics.proofs.ElementLemmas.{found}
use Rattle.reason_clauses.specs.PieceOf.{AreBefore, AreNotBefore, AreSorted}
use Rattle.reason_clauses.specs.declared.pieces.ProcessPieces.{ProcessPieces}

-- what stands after those of the processes before q is the first of q, if it is of q
pub find_some : (pieces : List ProcessPieces) (i q : ℕ) (p : ProcessPieces) → AreBefore pieces i q → i < length pieces → get_or pieces i p ≡ p → p.process ≡ q → find (λ (x : ProcessPieces). x.process == q) pieces ≡ Some p
find_some [] i q p before low at same = absurd (omega (arith, low))
find_some (x ∷ xs) zero q p before low at same = ap (λ b. cond b (Some x) (find (λ (y : ProcessPieces). y.process == q) xs)) (eq-eqb x.process q (ap (λ (y : ProcessPieces). y.process) at ∙ same)) ∙ ap Some at
find_some (x ∷ xs) (suc i) q p before low at same =
    ap (λ b. cond b (Some x) (find (λ (y : ProcessPieces). y.process == q) xs)) (ne_eqb x.process q (λ e. (let less = before 0 x (omega arith) in absurd (omega (arith, less, e)))))
    ∙ find_some xs i q p (λ k other less. before (suc k) other (omega (arith, less))) (omega (arith, low)) at same

pub find_none : (pieces : List ProcessPieces) (q : ℕ) → ((k : ℕ) (other : ProcessPieces) → k < length pieces → (get_or pieces k other).process ≡ q → ⊥) → find (λ (x : ProcessPieces). x.process == q) pieces ≡ None
find_none [] q others = refl
find_none (x ∷ xs) q others = ap (λ b. cond b (Some x) (find (λ (y : ProcessPieces). y.process == q) xs)) (ne_eqb x.process q (others 0 x (omega arith))) ∙ find_none xs q (λ k other low. others (suc k) other (omega (arith, low)))

-- none is of q, if all are before it
pub all_before : (pieces : List ProcessPieces) (i q : ℕ) → AreBefore pieces i q → length pieces ≤ i → (k : ℕ) (other : ProcessPieces) → k < length pieces → (get_or pieces k other).process ≡ q → ⊥
all_before pieces i q before past k other low e = absurd (let less = before k other (omega (arith, low, past)) in omega (arith, less, e))

-- or if the first that is not before it is of another process
pub none_of : (pieces : List ProcessPieces) (i q : ℕ) (p : ProcessPieces) → AreSorted pieces → AreBefore pieces i q → AreNotBefore pieces i q → i < length pieces → get_or pieces i p ≡ p → (p.process ≡ q → ⊥) → (k : ℕ) (other : ProcessPieces) → k < length pieces → (get_or pieces k other).process ≡ q → ⊥
none_of pieces i q p sorted before after inside at differs k other low e =
    elim (cases_order k i) [
      | inl same ↦ absurd (past (omega (arith, same)))
      | inr (inl less) ↦ absurd (let below = before k other less in omega (arith, below, e))
      | inr (inr over) ↦ absurd (past (omega (arith, over)))
    ]
  where
    past : i ≤ k → ⊥
    past over =
        let first : q ≤ p.process = subst (λ (x : ProcessPieces). q ≤ x.process) at (after i p (omega arith) inside) in
        let rises : p.process ≤ q = subst (λ n. p.process ≤ n) (ap (λ (x : ProcessPieces). x.process) (get_or_default pieces k p other low) ∙ e) (subst (λ (x : ProcessPieces). x.process ≤ (get_or pieces k p).process) at (sorted i k p over low)) in
        differs (omega (arith, first, rises))

pub find_listed : (pieces : List ProcessPieces) (q : ℕ) (p : ProcessPieces) → Some p ≡ find (λ (x : ProcessPieces). x.process == q) pieces → Contains pieces p
find_listed pieces q p e = (found (λ (x : ProcessPieces). x.process == q) pieces p (sym e)).0
