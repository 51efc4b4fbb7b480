-- The lines of what the numbers from a on give, one after the other: what the sink has taken of them, and what is still kept.
use Rattle.std.proofs.Common.{◌≡◌, ℕ, ◌+◌, ◌-◌, ◌≤◌, ℤ, List, [], ◌∷◌, ◌++◌, neg_ℤ, refl, sym, ap, ◌∙◌, subst, arith, append-nil}
use Rattle.std.specs.List.{flat_map, range_with_len}
use Rattle.dimacs.specs.CnfText.{clause_line}
use Rattle.dimacs.specs.Sink.{AppendsFront, IsSent}
use Rattle.dimacs.proofs.ChunkLemmas.{sent_last}
use Rattle.var_layout.specs.OrderVariables.{numbers_above}
use Rattle.clause_blocks.specs.Blocks.{no_cycle}
use Rattle.clause_blocks.proofs.InPieces.SentLemmas.{both_lines, sent_then, sent_then_front, front_of_both, flat_split}
use Rattle.clause_blocks.proofs.InPieces.StepLemmas.{flat_upto}

-- the two clauses of three operations, by the literals of their pairs
abbrev pub cycle : ℤ → ℤ → ℤ → List (List ℤ)
cycle ij jk ik = (neg_ℤ ij ∷ neg_ℤ jk ∷ ik ∷ []) ∷ (ij ∷ jk ∷ neg_ℤ ik ∷ []) ∷ []

-- those of a pair i below j and each operation above j
abbrev pub of_pair : ℕ → ℕ → ℕ → List (List ℤ)
of_pair n i j = flat_map (no_cycle n i j) (numbers_above n j)

module _ (head : List ℕ) (piece : ℕ → List (List ℤ)) (a : ℕ) where
  -- the lines of what the numbers below k give
  abbrev pub lines_to : ℕ → List ℕ
  lines_to k = head ++ flat_map clause_line (flat_map piece (range_with_len a (k - a)))

  -- and of k too
  pub lines_more : (k : ℕ) → a ≤ k → lines_to k ++ flat_map clause_line (piece k) ≡ lines_to (k + 1)
  lines_more k low = both_lines head (flat_map piece (range_with_len a (k - a))) (piece k) ∙ ap (λ clauses. head ++ flat_map clause_line clauses) (flat_upto piece [] a k low)

  pub lines_begun : (k : ℕ) → k ≡ a → lines_to k ≡ head
  lines_begun k e =
      let none : k - a ≡ 0 = omega (arith, e) in
      ap (λ m. head ++ flat_map clause_line (flat_map piece (range_with_len a m))) none ∙ append-nil head

  pub range_begun : (old : List ℕ) (k : ℕ) → k ≡ a → IsSent old old head (lines_to k)
  range_begun old k e =
      record {
        front = [];
        parts = sym (lines_begun k e);
        appended = sym (append-nil old);
      }

  pub range_sent : (k : ℕ) (old between new kept kept' : List ℕ) → a ≤ k → IsSent old between kept (lines_to k) → IsSent between new kept' (kept ++ flat_map clause_line (piece k)) → IsSent old new kept' (lines_to (k + 1))
  range_sent k old between new kept kept' low s t =
      subst (λ clauses. IsSent old new kept' (head ++ flat_map clause_line clauses)) (flat_upto piece [] a k low)
      (sent_then old between new head kept kept' (flat_map piece (range_with_len a (k - a))) (piece k) s t)

  pub range_front : (k end : ℕ) (old between new kept : List ℕ) → a ≤ k → k + 1 ≤ end → IsSent old between kept (lines_to k) → AppendsFront between new (kept ++ flat_map clause_line (piece k)) → AppendsFront old new (lines_to end)
  range_front k end old between new kept low high s f =
      let upto = flat_map piece (range_with_len a (k - a)) in
      let after = flat_map piece (range_with_len (k + 1) (end - (k + 1))) in
      let all : (upto ++ piece k) ++ after ≡ flat_map piece (range_with_len a (end - a)) = ap (λ l. l ++ after) (flat_upto piece [] a k low) ∙ flat_split piece a (k + 1) end (omega (arith, low)) high in
      subst (λ clauses. AppendsFront old new (head ++ flat_map clause_line clauses)) all
      (front_of_both old new head (upto ++ piece k) after (sent_then_front old between new head kept upto (piece k) s f))

  -- the lines of those from k to below m were sent after them
  pub block_sent : (k m : ℕ) (old between new kept kept' : List ℕ) → a ≤ k → k ≤ m → IsSent old between kept (lines_to k) → IsSent between new kept' (kept ++ flat_map clause_line (flat_map piece (range_with_len k (m - k))))
      → IsSent old new kept' (lines_to m)
  block_sent k m old between new kept kept' low high s t =
      subst (λ clauses. IsSent old new kept' (head ++ flat_map clause_line clauses)) (flat_split piece a k m low high)
      (sent_then old between new head kept kept' (flat_map piece (range_with_len a (k - a))) (flat_map piece (range_with_len k (m - k))) s t)

  pub block_front : (k m end : ℕ) (old between new kept : List ℕ) → a ≤ k → k ≤ m → m ≤ end → IsSent old between kept (lines_to k)
      → AppendsFront between new (kept ++ flat_map clause_line (flat_map piece (range_with_len k (m - k)))) → AppendsFront old new (lines_to end)
  block_front k m end old between new kept low high last s f =
      let upto = flat_map piece (range_with_len a (k - a)) in
      let block = flat_map piece (range_with_len k (m - k)) in
      let after = flat_map piece (range_with_len m (end - m)) in
      let all : (upto ++ block) ++ after ≡ flat_map piece (range_with_len a (end - a)) = ap (λ l. l ++ after) (flat_split piece a k m low high) ∙ flat_split piece a m end (omega (arith, low, high)) last in
      subst (λ clauses. AppendsFront old new (head ++ flat_map clause_line clauses)) all
      (front_of_both old new head (upto ++ block) after (sent_then_front old between new head kept upto block s f))

  -- no more was sent
  pub stopped_front : (k end : ℕ) (old between kept : List ℕ) → a ≤ k → k ≤ end → IsSent old between kept (lines_to k) → AppendsFront old between (lines_to end)
  stopped_front k end old between kept low high s =
      let upto = flat_map piece (range_with_len a (k - a)) in
      let after = flat_map piece (range_with_len k (end - k)) in
      subst (λ clauses. AppendsFront old between (head ++ flat_map clause_line clauses)) (flat_split piece a k end low high)
      (front_of_both old between head upto after (sent_last old between kept (lines_to k) between s (record { front = []; back = kept; parts = refl; appended = sym (append-nil between) })))
