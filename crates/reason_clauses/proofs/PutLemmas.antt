-- Pieces of a process that are put in their place.
use Rattle.std.proofs.Common.{◌≡◌, ◌≢◌, ◌⊎◌, ◌<◌, ◌≤◌, ◌+◌, ◌-◌, ℕ, Bool, List, [], ◌∷◌, ◌++◌, cond, drop, length, get_or, set, take, refl, ap, sym, ◌∙◌, arith, inl, inr, subst}
use Rattle.std.specs.Prelude.{false, Option, Some, None, unwrap_or, ◌==◌}
use Rattle.std.specs.List.{Contains, find, insert}
use Rattle.std.specs.Option.{option_or}
use Rattle.std.proofs.lemmas.Bool.{cases_order, ne_eqb}
use Rattle.std.proofs.lemmas.List.{get_or_default, get_or-set_other, get_or-set_same, length-set, take-append-drop}
use Rattle.std.proofs.lemmas.List.Edits.{get_or-insert_above, get_or-insert_at, get_or-insert_below, length-insert}
use Rattle.std.proofs.lemmas.List.Elements.{Contains-append_cases, Contains-append_left, Contains-append_right}
use Rattle.std.proofs.lemmas.List.Folds.{find-append, find_past}
use Rattle.trace_semantics.proofs.ElementLemmas.{cases_in, none_in}
use Rattle.writer_table.proofs.RunLemmas.{set_cases}
use Rattle.reason_clauses.specs.PieceOf.{AreBefore, AreNotBefore, AreSorted, nothing_of, piece_of}
use Rattle.reason_clauses.specs.TakenPieces.{HasPiece}
use Rattle.reason_clauses.specs.declared.pieces.ProcessPieces.{ProcessPieces}
use Rattle.reason_clauses.proofs.PieceLemmas.{find_some}

abbrev is_of : ℕ → ProcessPieces → Bool
is_of q p = p.process == q

turned : {p q : ProcessPieces} {A : Type 0} → (p ≡ q) ⊎ A → (q ≡ p) ⊎ A
turned (inl same) = inl (sym same)
turned (inr c) = inr c

-- in the place of those of its process
module _ (pieces : List ProcessPieces) (i : ℕ) (piece old : ProcessPieces) (low : i < length pieces) (at : get_or pieces i old ≡ old) (same : old.process ≡ piece.process) where
  pub put_over : AreBefore pieces i piece.process → HasPiece pieces (set pieces i piece) piece
  put_over before = record {
    here = ap (λ o. unwrap_or o (nothing_of piece.process)) (find_some (set pieces i piece) i piece.process piece before_set (subst (λ n. i < n) (sym (length-set pieces i piece)) low) (get_or-set_same pieces i piece piece low) refl);
    others = λ q other. ap (λ o. unwrap_or o (nothing_of q)) (find_past (is_of q) pieces i piece old (ap (is_of q) at ∙ ne_eqb old.process q (λ e. other (sym e ∙ same))) (ne_eqb piece.process q (λ e. other (sym e))));
    only = λ p h. turned (set_cases pieces i piece low p h);
  }
    where
      before_set : AreBefore (set pieces i piece) i piece.process
      before_set k other less = subst (λ (p : ProcessPieces). p.process < piece.process) (sym (get_or-set_other pieces i k piece other (λ e. omega (arith, e, less)))) (before k other less)

  set_process : (k : ℕ) (d : ProcessPieces) → (get_or (set pieces i piece) k d).process ≡ (get_or pieces k d).process
  set_process k d =
      elim (cases_order k i) [
        | inl e ↦ ap (λ (p : ProcessPieces). p.process) (ap (λ n. get_or (set pieces i piece) n d) e ∙ get_or-set_same pieces i piece d low) ∙ sym same ∙ ap (λ (p : ProcessPieces). p.process) (sym at ∙ get_or_default pieces i old d low ∙ ap (λ n. get_or pieces n d) (sym e))
        | inr (inl less) ↦ ap (λ (p : ProcessPieces). p.process) (get_or-set_other pieces i k piece d (λ e. omega (arith, e, less)))
        | inr (inr more) ↦ ap (λ (p : ProcessPieces). p.process) (get_or-set_other pieces i k piece d (λ e. omega (arith, e, more)))
      ]

  pub sorted_over : AreSorted pieces → AreSorted (set pieces i piece)
  sorted_over so j k d up within =
      let less = so j k d up (subst (λ n. k < n) (length-set pieces i piece) within) in
      let one = set_process j d in
      let other = set_process k d in
      omega (arith, less, one, other)

option_or_same : (o : Option ProcessPieces) (r : Option ProcessPieces) (b : Bool) (piece : ProcessPieces) → b ≡ false → option_or o (cond b (Some piece) r) ≡ option_or o r
option_or_same o r b piece e = ap (λ c. option_or o (cond c (Some piece) r)) e

-- between those of the processes before it and after it
module _ (pieces : List ProcessPieces) (i : ℕ) (piece : ProcessPieces) (within : i ≤ length pieces) where
  pub put_between : AreBefore pieces i piece.process → HasPiece pieces (insert pieces i piece) piece
  put_between before = record {
    here = ap (λ o. unwrap_or o (nothing_of piece.process)) (find_some (insert pieces i piece) i piece.process piece (λ k other less. subst (λ (p : ProcessPieces). p.process < piece.process) (sym (get_or-insert_below pieces i piece other k less within)) (before k other less))
        (let long = length-insert pieces i piece within in omega (arith, long, within)) (get_or-insert_at pieces i piece piece within) refl);
    others = λ q other. ap (λ o. unwrap_or o (nothing_of q)) (find-append (is_of q) (take i pieces) (piece ∷ drop i pieces) ∙ option_or_same (find (is_of q) (take i pieces)) (find (is_of q) (drop i pieces)) (is_of q piece) piece (ne_eqb piece.process q (λ e. other (sym e)))
        ∙ sym (find-append (is_of q) (take i pieces) (drop i pieces)) ∙ ap (find (is_of q)) (take-append-drop i pieces));
    only = λ p h. from p (Contains-append_cases (take i pieces) (piece ∷ drop i pieces) p h);
  }
    where
      whole : (p : ProcessPieces) → Contains (take i pieces) p ⊎ Contains (drop i pieces) p → Contains pieces p
      whole p (inl c) = subst (λ l. Contains l p) (take-append-drop i pieces) (Contains-append_left (take i pieces) (drop i pieces) p c)
      whole p (inr c) = subst (λ l. Contains l p) (take-append-drop i pieces) (Contains-append_right (take i pieces) (drop i pieces) p c)

      from : (p : ProcessPieces) → Contains (take i pieces) p ⊎ Contains (piece ∷ drop i pieces) p → (p ≡ piece) ⊎ Contains pieces p
      from p (inl c) = inr (whole p (inl c))
      from p (inr c) =
          elim (cases_in piece (drop i pieces) p c) [
            | inl same ↦ inl (sym same)
            | inr d ↦ inr (whole p (inr d))
          ]

  -- those from the place on are of later processes, or of this one
  pub sorted_between : AreSorted pieces → AreBefore pieces i piece.process → AreNotBefore pieces i piece.process → AreSorted (insert pieces i piece)
  sorted_between so before after j k d up low =
      elim (cases_order k i) [
        | inl e ↦ elim (cases_order j i) [
          | inl f ↦ (let one = at_place j f in let other = at_place k e in omega (arith, one, other))
          | inr (inl less) ↦ (let one = below j less in let other = at_place k e in let first = before j d less in omega (arith, one, other, first))
          | inr (inr more) ↦ absurd (omega (arith, more, up, e))
        ]
        | inr (inl less) ↦ (let one = below j (omega (arith, up, less)) in let other = below k less in let rises = so j k d up (omega (arith, less, within)) in omega (arith, one, other, rises))
        | inr (inr more) ↦ elim (cases_order j i) [
          | inl f ↦ (let one = at_place j f in let other = above (k - 1) (omega (arith, more)) (k) (omega (arith, more)) in let last = after (k - 1) d (omega (arith, more)) (inside (k - 1) (omega (arith, more, low))) in omega (arith, one, other, last))
          | inr (inl less) ↦ (let one = below j less in let other = above (k - 1) (omega (arith, more)) (k) (omega (arith, more)) in let rises = so j (k - 1) d (omega (arith, less, more)) (inside (k - 1) (omega (arith, more, low))) in omega (arith, one, other, rises))
          | inr (inr past) ↦ (let one = above (j - 1) (omega (arith, past)) (j) (omega (arith, past)) in let other = above (k - 1) (omega (arith, more)) (k) (omega (arith, more)) in let rises = so (j - 1) (k - 1) d (omega (arith, up)) (inside (k - 1) (omega (arith, more, low))) in omega (arith, one, other, rises))
        ]
      ]
    where
      long : length (insert pieces i piece) ≡ length pieces + 1
      long = length-insert pieces i piece within

      inside : (n : ℕ) → n + 1 < length (insert pieces i piece) → n < length pieces
      inside n h = omega (arith, h, long)

      at_place : (n : ℕ) → n ≡ i → (get_or (insert pieces i piece) n d).process ≡ piece.process
      at_place n e = ap (λ (p : ProcessPieces). p.process) (ap (λ m. get_or (insert pieces i piece) m d) e ∙ get_or-insert_at pieces i piece d within)

      below : (n : ℕ) → n < i → (get_or (insert pieces i piece) n d).process ≡ (get_or pieces n d).process
      below n less = ap (λ (p : ProcessPieces). p.process) (get_or-insert_below pieces i piece d n less within)

      above : (n : ℕ) → i ≤ n → (m : ℕ) → m ≡ n + 1 → (get_or (insert pieces i piece) m d).process ≡ (get_or pieces n d).process
      above n from m e = ap (λ (p : ProcessPieces). p.process) (ap (λ o. get_or (insert pieces i piece) o d) e ∙ get_or-insert_above pieces i piece d n from within)
