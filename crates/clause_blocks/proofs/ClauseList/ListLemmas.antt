-- The clause list by its families, and by the numbers of its pieces.
use Rattle.std.proofs.Common.{◌≡◌, ℕ, suc, ◌+◌, ◌-◌, ◌<◌, ℤ, List, [], ◌∷◌, ◌++◌, length, length-append, map, get_or, refl, sym, ap, ◌∙◌, arith, append-nil, append_assoc}
use Rattle.std.specs.List.{flat_map, range_with_len}
use Rattle.std.proofs.lemmas.Grind.{flat_map-append}
use Rattle.std.proofs.lemmas.List.{get_or_append_left, get_or-append_right}
use Rattle.std.proofs.lemmas.List.Folds.{flat_map-map}
use Rattle.std.proofs.lemmas.List.FromFn.{get_or-map-range_with_len, length-map-range_with_len}
use Rattle.std.proofs.Math.Seq.{get_or-append_seam}
use Rattle.trace_semantics.specs.Trace.{TraceValue, operation_count}
use Rattle.var_layout.specs.Numbers.{numbers}
use Rattle.clause_blocks.specs.Blocks.{program_order, transitivity_from, transitivity, read_clauses, final_clauses, before_clauses}
use Rattle.clause_blocks.specs.Clauses.{pieces, clauses_of}

-- the pieces after those of transitivity
abbrev pub last_pieces : TraceValue → List (List (List ℤ))
last_pieces t = read_clauses t ∷ final_clauses t ∷ before_clauses t ∷ []

abbrev joined : List (List (List ℤ)) → List (List ℤ)
joined ps = flat_map (λ (p : List (List ℤ)). p) ps

behind_order : (t : TraceValue) → joined (map (transitivity_from (operation_count t)) (numbers t) ++ last_pieces t) ≡ transitivity (operation_count t) ++ (read_clauses t ++ (final_clauses t ++ before_clauses t))
behind_order t =
    let triples : joined (map (transitivity_from (operation_count t)) (numbers t)) ≡ transitivity (operation_count t) = flat_map-map (λ (p : List (List ℤ)). p) (transitivity_from (operation_count t)) (numbers t) in
    flat_map-append (λ (p : List (List ℤ)). p) (map (transitivity_from (operation_count t)) (numbers t)) (last_pieces t)
    ∙ ap (λ l. l ++ joined (last_pieces t)) triples
    ∙ ap (λ l. transitivity (operation_count t) ++ (read_clauses t ++ (final_clauses t ++ l))) (append-nil (before_clauses t))

-- the families in their order
pub clause_list : (t : TraceValue) → clauses_of t ≡ program_order t ++ (transitivity (operation_count t) ++ (read_clauses t ++ (final_clauses t ++ before_clauses t)))
clause_list t = ap (λ l. program_order t ++ l) (behind_order t)

one_longer : {X : Type 0} (front : List X) (x : X) (a : ℕ) → a ≡ length front → a + 1 ≡ length (front ++ x ∷ [])
one_longer front x a e = ap (λ m. m + 1) e ∙ sym (length-append front (x ∷ []))

-- what stands at each place, in order
by_place : {X : Type 0} (d : X) (front xs : List X) (a : ℕ) → a ≡ length front → map (λ k. get_or (front ++ xs) k d) (range_with_len a (length xs)) ≡ xs
by_place d front [] a e = refl
by_place d front (x ∷ xs) a e =
    let head : get_or (front ++ x ∷ xs) a d ≡ x = ap (λ k. get_or (front ++ x ∷ xs) k d) e ∙ get_or-append_seam front x xs d in
    let rest : map (λ k. get_or (front ++ x ∷ xs) k d) (range_with_len (a + 1) (length xs)) ≡ xs =
    ap (λ l. map (λ k. get_or l k d) (range_with_len (a + 1) (length xs))) (sym (append_assoc front (x ∷ []) xs))
    ∙ by_place d (front ++ x ∷ []) xs (a + 1) (one_longer front x a e) in
    λ p. head p ∷ rest p

-- the piece of this number
abbrev pub piece_at : TraceValue → ℕ → List (List ℤ)
piece_at t k = get_or (pieces t) k []

pub all_pieces : (t : TraceValue) → flat_map (piece_at t) (range_with_len 0 (length (pieces t))) ≡ clauses_of t
all_pieces t =
    sym (flat_map-map (λ (p : List (List ℤ)). p) (piece_at t) (range_with_len 0 (length (pieces t))))
    ∙ ap joined (by_place [] [] (pieces t) 0 refl)

pub piece_count : (t : TraceValue) → length (pieces t) ≡ operation_count t + 4
piece_count t =
    let triples : length (map (transitivity_from (operation_count t)) (numbers t)) ≡ operation_count t = length-map-range_with_len (transitivity_from (operation_count t)) 0 (operation_count t) in
    let all : length (map (transitivity_from (operation_count t)) (numbers t) ++ last_pieces t) ≡ length (map (transitivity_from (operation_count t)) (numbers t)) + 3 = length-append (map (transitivity_from (operation_count t)) (numbers t)) (last_pieces t) in
    omega (arith, triples, all)

-- those of transitivity
pub triples_piece : (t : TraceValue) (k m : ℕ) → k ≡ suc m → m < operation_count t → piece_at t k ≡ transitivity_from (operation_count t) m
triples_piece t k m e within =
    let n = operation_count t in
    let long : length (map (transitivity_from n) (numbers t)) ≡ n = length-map-range_with_len (transitivity_from n) 0 n in
    ap (piece_at t) e ∙ get_or_append_left (map (transitivity_from n) (numbers t)) (last_pieces t) [] m (omega (arith, long, within))
    ∙ get_or-map-range_with_len (transitivity_from n) 0 n m m [] within (omega arith)

-- those after it
pub last_piece : (t : TraceValue) (k m : ℕ) → k ≡ suc (operation_count t + m) → piece_at t k ≡ get_or (last_pieces t) m []
last_piece t k m e =
    let n = operation_count t in
    let long : length (map (transitivity_from n) (numbers t)) ≡ n = length-map-range_with_len (transitivity_from n) 0 n in
    let left : n + m - n ≡ m = omega arith in
    ap (piece_at t) e ∙ get_or-append_right (map (transitivity_from n) (numbers t)) (last_pieces t) n (n + m) [] long (omega arith) ∙ ap (λ x. get_or (last_pieces t) x []) left

-- all pieces, by a number that arithmetic shows to be theirs
pub pieces_upto : (t : TraceValue) (k : ℕ) → k ≡ length (pieces t) → flat_map (piece_at t) (range_with_len 0 (k - 0)) ≡ clauses_of t
pieces_upto t k e = let all : k - 0 ≡ length (pieces t) = omega (arith, e) in ap (λ m. flat_map (piece_at t) (range_with_len 0 m)) all ∙ all_pieces t
