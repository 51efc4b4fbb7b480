-- The clause list in three parts: what stands before transitivity, transitivity, and what stands behind it.
use Rattle.std.proofs.Common.{◌≡◌, ℕ, zero, suc, ◌+◌, ◌-◌, ◌<◌, ◌≤◌, ℤ, List, ◌++◌, length, refl, sym, ap, ◌∙◌, subst, arith}
use Rattle.std.specs.List.{flat_map, range_with_len}
use Rattle.dimacs.specs.CnfText.{clause_line}
use Rattle.dimacs.specs.Sink.{AppendsFront, IsSent}
use Rattle.trace_semantics.specs.Trace.{TraceValue, operation_count}
use Rattle.clause_blocks.specs.Blocks.{transitivity, transitivity_from}
use Rattle.clause_blocks.specs.Clauses.{pieces, clauses_of}
use Rattle.clause_blocks.specs.Pieces.{clauses_between}
use Rattle.clause_blocks.proofs.ClauseList.ListLemmas.{piece_at, piece_count, pieces_upto, triples_piece}
use Rattle.clause_blocks.proofs.InPieces.SentLemmas.{flat_split, front_of_both, sent_then, sent_then_front}

-- the numbers from one place on, if each gives what the one below it gives there
shifted : {A : Type 0} (f g : ℕ → List A) (a l : ℕ) → ((k : ℕ) → k < a + l → f (k + 1) ≡ g k) → flat_map f (range_with_len (a + 1) l) ≡ flat_map g (range_with_len a l)
shifted f g a zero h = refl
shifted f g a (suc l) h = (λ p. h a (omega arith) p ++ shifted f g (a + 1) l (λ k low. h k (omega (arith, low))) p)

module _ (t : TraceValue) where
  triples : (m : ℕ) → m ≡ operation_count t + 1 → clauses_between t 1 m ≡ transitivity (operation_count t)
  triples m e =
      let n = operation_count t in
      let all : m - 1 ≡ n = omega (arith, e) in
      ap (λ l. flat_map (piece_at t) (range_with_len 1 l)) all ∙ shifted (piece_at t) (transitivity_from n) 0 n (λ k low. triples_piece t (k + 1) k (omega arith) (omega (arith, low)))

  pub three_parts : (k m e : ℕ) → k ≡ 1 → m ≡ operation_count t + 1 → e ≡ length (pieces t) → clauses_between t 0 k ++ (transitivity (operation_count t) ++ clauses_between t m e) ≡ clauses_of t
  three_parts k m e first reads end =
      let high : m ≤ e = omega (arith, reads, end, piece_count t) in
      let middle : 1 ≤ m = omega (arith, reads) in
      ap (λ j. clauses_between t 0 j ++ (transitivity (operation_count t) ++ clauses_between t m e)) first
      ∙ ap (λ l. clauses_between t 0 1 ++ (l ++ clauses_between t m e)) (sym (triples m reads))
      ∙ ap (λ l. clauses_between t 0 1 ++ l) (flat_split (piece_at t) 1 m e middle high)
      ∙ flat_split (piece_at t) 0 1 e (omega arith) (omega (arith, middle, high))
      ∙ pieces_upto t e end

-- the lines of the three parts, one after the other
module _ (t : TraceValue) (head : List ℕ) (k m e : ℕ) (first : k ≡ 1) (reads : m ≡ operation_count t + 1) (end : e ≡ length (pieces t)) where
  abbrev pub lines_of : List (List ℤ) → List ℕ
  lines_of clauses = head ++ flat_map clause_line clauses

  pub before_front : (old new : List ℕ) → AppendsFront old new (lines_of (clauses_between t 0 k)) → AppendsFront old new (lines_of (clauses_of t))
  before_front old new f =
      subst (λ clauses. AppendsFront old new (lines_of clauses)) (three_parts t k m e first reads end)
      (front_of_both old new head (clauses_between t 0 k) (transitivity (operation_count t) ++ clauses_between t m e) f)

  pub triples_front : (old mid new kept : List ℕ) → IsSent old mid kept (lines_of (clauses_between t 0 k)) → AppendsFront mid new (kept ++ flat_map clause_line (transitivity (operation_count t))) → AppendsFront old new (lines_of (clauses_of t))
  triples_front old mid new kept s f =
      subst (λ clauses. AppendsFront old new (lines_of clauses)) (three_parts t k m e first reads end)
      (sent_then_front old mid new head kept (clauses_between t 0 k) (transitivity (operation_count t) ++ clauses_between t m e) s
      (front_of_both mid new kept (transitivity (operation_count t)) (clauses_between t m e) f))

  module _ (old mid late new kept later : List ℕ) (s : IsSent old mid kept (lines_of (clauses_between t 0 k))) (r : IsSent mid late later (kept ++ flat_map clause_line (transitivity (operation_count t)))) where
    pub after_front : AppendsFront late new (later ++ flat_map clause_line (clauses_between t m e)) → AppendsFront old new (lines_of (clauses_of t))
    after_front f =
        subst (λ clauses. AppendsFront old new (lines_of clauses)) (three_parts t k m e first reads end)
        (sent_then_front old mid new head kept (clauses_between t 0 k) (transitivity (operation_count t) ++ clauses_between t m e) s
        (sent_then_front mid late new kept later (transitivity (operation_count t)) (clauses_between t m e) r f))

    pub after_sent : (last : List ℕ) → IsSent late new last (later ++ flat_map clause_line (clauses_between t m e)) → IsSent old new last (lines_of (clauses_of t))
    after_sent last q =
        subst (λ clauses. IsSent old new last (lines_of clauses)) (three_parts t k m e first reads end)
        (sent_then old mid new head kept last (clauses_between t 0 k) (transitivity (operation_count t) ++ clauses_between t m e) s
        (sent_then mid late new kept later last (transitivity (operation_count t)) (clauses_between t m e) r q))
