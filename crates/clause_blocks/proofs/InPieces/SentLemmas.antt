-- Clauses that go to their sink in pieces: what it has taken, and what is still kept.
use Rattle.std.proofs.Common.{◌≡◌, ℕ, ◌+◌, ◌-◌, ◌≤◌, ℤ, List, ◌++◌, length, refl, sym, ap, ◌∙◌, subst, arith, map, Bool, not}
use Rattle.std.specs.List.{filter, flat_map, range_with_len}
use Rattle.std.proofs.lemmas.List.{append_assoc, length-map}
use Rattle.std.proofs.lemmas.List.Filters.{length-filter_both}
use Rattle.std.proofs.lemmas.List.FromFn.{length-range_with_len}
use Rattle.std.proofs.lemmas.Grind.{flat_map-append}
use Rattle.var_layout.proofs.RangeLemmas.{range_parted}
use Rattle.dimacs.specs.CnfText.{clause_line}
use Rattle.dimacs.specs.Sink.{AppendsFront, IsSent}
use Rattle.dimacs.proofs.ChunkLemmas.{sent_more, sent_on, sent_last}
use Rattle.dimacs.proofs.SinkLemmas.{front-append}

-- the lines of two lists of clauses
pub both_lines : (head : List ℕ) (first second : List (List ℤ)) → (head ++ flat_map clause_line first) ++ flat_map clause_line second ≡ head ++ flat_map clause_line (first ++ second)
both_lines head first second = append_assoc head (flat_map clause_line first) (flat_map clause_line second) ∙ ap (λ lines. head ++ lines) (sym (flat_map-append clause_line first second))

-- the clauses of the first list were sent, and those of the second one after them
pub sent_then : (old between new head kept kept' : List ℕ) (first second : List (List ℤ)) → IsSent old between kept (head ++ flat_map clause_line first) → IsSent between new kept' (kept ++ flat_map clause_line second)
    → IsSent old new kept' (head ++ flat_map clause_line (first ++ second))
sent_then old between new head kept kept' first second s t =
    subst (λ made. IsSent old new kept' made) (both_lines head first second)
    (sent_on old between (kept ++ flat_map clause_line second) ((head ++ flat_map clause_line first) ++ flat_map clause_line second) new kept'
    (sent_more old between kept (head ++ flat_map clause_line first) (kept ++ flat_map clause_line second) (flat_map clause_line second) s refl) t)

-- those of the first list were sent, and of those of the second one a prefix
pub sent_then_front : (old between new head kept : List ℕ) (first second : List (List ℤ)) → IsSent old between kept (head ++ flat_map clause_line first) → AppendsFront between new (kept ++ flat_map clause_line second)
    → AppendsFront old new (head ++ flat_map clause_line (first ++ second))
sent_then_front old between new head kept first second s f =
    subst (λ made. AppendsFront old new made) (both_lines head first second)
    (sent_last old between (kept ++ flat_map clause_line second) ((head ++ flat_map clause_line first) ++ flat_map clause_line second) new
    (sent_more old between kept (head ++ flat_map clause_line first) (kept ++ flat_map clause_line second) (flat_map clause_line second) s refl) f)

-- a prefix of the first list's lines is one of the lines of both
pub front_of_both : (old new head : List ℕ) (first second : List (List ℤ)) → AppendsFront old new (head ++ flat_map clause_line first) → AppendsFront old new (head ++ flat_map clause_line (first ++ second))
front_of_both old new head first second f = subst (λ made. AppendsFront old new made) (both_lines head first second) (front-append old new (head ++ flat_map clause_line first) (flat_map clause_line second) f)

-- what the numbers below k give, and then what the others below n do
pub flat_parted : {A : Type 0} (f : ℕ → List A) (k n : ℕ) → k ≤ n → flat_map f (range_with_len 0 k) ++ flat_map f (range_with_len k (n - k)) ≡ flat_map f (range_with_len 0 n)
flat_parted f k n low =
    let all : k + (n - k) ≡ n = omega (arith, low) in
    let here : k ≡ 0 + k = omega arith in
    sym (flat_map-append f (range_with_len 0 k) (range_with_len k (n - k)))
    ∙ ap (λ b. flat_map f (range_with_len 0 k ++ range_with_len b (n - k))) here
    ∙ ap (flat_map f) (sym (range_parted 0 k (n - k)) ∙ ap (range_with_len 0) all)

-- the same from a on
pub flat_split : {A : Type 0} (f : ℕ → List A) (a k n : ℕ) → a ≤ k → k ≤ n → flat_map f (range_with_len a (k - a)) ++ flat_map f (range_with_len k (n - k)) ≡ flat_map f (range_with_len a (n - a))
flat_split f a k n low high =
    let all : (k - a) + (n - k) ≡ n - a = omega (arith, low, high) in
    let here : k ≡ a + (k - a) = omega (arith, low) in
    sym (flat_map-append f (range_with_len a (k - a)) (range_with_len k (n - k)))
    ∙ ap (λ b. flat_map f (range_with_len a (k - a) ++ range_with_len b (n - k))) here
    ∙ ap (flat_map f) (sym (range_parted a (k - a) (n - k)) ∙ ap (range_with_len a) all)

-- as many as pass are no more than there are
pub few_passed : {X : Type 0} (f : ℕ → X) (p : ℕ → Bool) (n most : ℕ) → n ≤ most → length (map f (filter p (range_with_len 0 n))) ≤ most
few_passed f p n most low =
    let kept = length-map (filter p (range_with_len 0 n)) f in
    let parts = length-filter_both p (λ k. not (p k)) (λ _. refl) (range_with_len 0 n) in
    let all = length-range_with_len 0 n in
    omega (arith, low, kept, parts, all)
