-- What the numbers from 0 on give, one after the other, and tables of how much that is.
use Rattle.std.proofs.Common.{◌≡◌, ℕ, suc, ◌+◌, ◌-◌, ◌<◌, ◌≤◌, List, [], ◌++◌, length, length-append, map, get_or, sym, ap, ◌∙◌, arith}
use Rattle.std.specs.List.{flat_map, range_with_len}
use Rattle.std.proofs.lemmas.List.{get_or_append_left, get_or-append-add}
use Rattle.std.proofs.lemmas.List.FromFn.{get_or-map-range_with_len, length-map-range_with_len}
use Rattle.clause_blocks.proofs.InPieces.SentLemmas.{flat_parted, flat_split}
use Rattle.clause_blocks.proofs.InPieces.StepLemmas.{flat_more}

module _ {X : Type 0} (piece : ℕ → List X) where
  -- what the numbers below k give
  abbrev pub pieces : ℕ → List X
  pieces k = flat_map piece (range_with_len 0 k)

  upto : (k : ℕ) → pieces k ++ piece k ≡ pieces (k + 1)
  upto k = flat_more piece [] k

  pub counted_upto : (k : ℕ) → length (pieces (k + 1)) ≡ length (pieces k) + length (piece k)
  counted_upto k = ap length (sym (upto k)) ∙ length-append (pieces k) (piece k)

  pub few_upto : (k n : ℕ) → k ≤ n → length (pieces k) ≤ length (pieces n)
  few_upto k n low =
      let after = flat_map piece (range_with_len k (n - k)) in
      let all : length (pieces k) + length after ≡ length (pieces n) = sym (length-append (pieces k) after) ∙ ap length (flat_parted piece k n low) in
      omega (arith, all)

  -- what those behind k give
  abbrev pub behind : ℕ → ℕ → List X
  behind k n = flat_map piece (range_with_len (k + 1) (n - (k + 1)))

  -- what stands before and behind that of k
  pub around : (k n : ℕ) → k < n → pieces k ++ (piece k ++ behind k n) ≡ pieces n
  around k n high =
      let more : suc (n - (k + 1)) ≡ n - k = omega (arith, high) in
      ap (λ m. pieces k ++ flat_map piece (range_with_len k m)) more ∙ flat_parted piece k n (omega (arith, high))

  pub at_first : (k n r : ℕ) (d : X) → k < n → r < length (piece k) → get_or (pieces n) (length (pieces k) + r) d ≡ get_or (piece k) r d
  at_first k n r d high within =
      sym (ap (λ l. get_or l (length (pieces k) + r) d) (around k n high))
      ∙ get_or-append-add (pieces k) (piece k ++ behind k n) r d ∙ get_or_append_left (piece k) (behind k n) d r within

  -- the same from a on
  pub at_later : (a k n r : ℕ) (d : X) → a ≤ k → k < n → r < length (piece k) →
      get_or (flat_map piece (range_with_len a (n - a))) (length (flat_map piece (range_with_len a (k - a))) + r) d ≡ get_or (piece k) r d
  at_later a k n r d low high within =
      let front = flat_map piece (range_with_len a (k - a)) in
      let more : suc (n - (k + 1)) ≡ n - k = omega (arith, high) in
      let all : front ++ (piece k ++ behind k n) ≡ flat_map piece (range_with_len a (n - a)) =
      ap (λ m. front ++ flat_map piece (range_with_len k m)) more ∙ flat_split piece a k n low (omega (arith, high)) in
      sym (ap (λ l. get_or l (length front + r) d) all)
      ∙ get_or-append-add front (piece k ++ behind k n) r d ∙ get_or_append_left (piece k) (behind k n) d r within

-- an entry of a table
module _ (f : ℕ → ℕ) (n : ℕ) (table : List ℕ) (is : table ≡ map f (range_with_len 0 (n + 1))) where
  pub entry : (i : ℕ) → i ≤ n → get_or table i 0 ≡ f i
  entry i within = ap (λ l. get_or l i 0) is ∙ get_or-map-range_with_len f 0 (n + 1) i i 0 (omega (arith, within)) (omega arith)

  pub long : n < length table
  long = omega (arith, ap length is, length-map-range_with_len f 0 (n + 1))
