-- A trace of at most 160 operations has fewer clauses than a header may announce.
use Rattle.std.proofs.Common.{◌≡◌, ℕ, suc, ◌+◌, ◌*◌, ◌≤◌, pos, List, [], ◌∷◌, ◌++◌, length, length-append, map, get_or, Bool, true, false, cond, not, eqb, ap, arith}
use Rattle.std.specs.Prelude.{is_some}
use Rattle.std.specs.List.{enumerate_from, filter, flat_map}
use Rattle.std.proofs.lemmas.List.{length-map}
use Rattle.std.proofs.lemmas.List.Concat.{length-flat_map}
use Rattle.std.proofs.lemmas.List.FromFn.{length-enumerate_from, length-range_with_len}
use Rattle.std.proofs.lemmas.List.Sums.{sum_by-le}
use Rattle.std.proofs.lemmas.Nat.{mul-le}
use Rattle.text_lines.proofs.ListLemmas.{few_pass}
use Rattle.trace_semantics.specs.Trace.{TraceValue, IsTrace, operation_count}
use Rattle.var_layout.specs.declared.candidate.Candidate.{Candidate}
use Rattle.var_layout.specs.declared.candidate.Candidate.TheVariants.{InitialValue, Writer}
use Rattle.var_layout.specs.declared.candidate.ReadsFromChoice.{ReadsFromChoice}
use Rattle.var_layout.specs.declared.candidate.FinalChoice.{FinalChoice}
use Rattle.var_layout.specs.Candidates.{candidates}
use Rattle.var_layout.specs.ChoiceVariables.{choices, first_choice}
use Rattle.var_layout.specs.FinalVariables.{final_candidates, final_choices, first_final, is_untouched}
use Rattle.var_layout.specs.KnownPairs.{is_said, said_after, known_pairs}
use Rattle.var_layout.specs.Numbers.{in_one_process, numbers, others, other_writers, read_at, readers, writers}
use Rattle.var_layout.proofs.BoundLemmas.{few_candidates, few_finals, few_leavers, few_others}
use Rattle.var_layout.proofs.WrittenOnceLemmas.{written_in, none_written, more_written, few_written}
use Rattle.clause_blocks.specs.Blocks.{before_clauses, clauses_of_final, clauses_of_read, final_clauses, implies, program_order, read_clauses, reads_from, stands_before, transitivity, void_clauses, writes_last}
use Rattle.clause_blocks.specs.Clauses.{clauses_of}
use Rattle.clause_blocks.proofs.TransitivityClauses.CountLemmas.{few_transitivity}
use Rattle.clause_blocks.proofs.ClauseList.ListLemmas.{clause_list}
use Rattle.clause_blocks.proofs.InPieces.SentLemmas.{few_passed}

-- what some elements give, if each gives at most `most`
pub few_flat : {X A : Type 0} (f : X → List A) (most : ℕ) (xs : List X) → ((x : X) → length (f x) ≤ most) → length (flat_map f xs) ≤ length xs * most
few_flat f most xs h =
    let all = sum_by-le (λ x. length (f x)) most xs (λ k d l. h (get_or xs k d)) in
    let same = length-flat_map f xs in
    omega (arith, all, same)

few_if : {A : Type 0} (b : Bool) (xs ys : List A) (most : ℕ) → length xs ≤ most → length ys ≤ most → length (cond b xs ys) ≤ most
few_if true xs ys most h g = h
few_if false xs ys most h g = g

-- what is read
few_reads_from : (t : TraceValue) (r v : ℕ) (c : Candidate) → operation_count t ≤ 160 → length (reads_from t r v c) ≤ 161
few_reads_from t r v InitialValue few =
    let long = length-map (other_writers t r) (λ (u : ℕ). implies v (stands_before t r u ∷ [])) in
    omega (arith, long, few_others t r, few)
few_reads_from t r v (Writer w) few =
    let long = length-map (others w (other_writers t r)) (λ (u : ℕ). implies v (stands_before t u w ∷ stands_before t r u ∷ [])) in
    omega (arith, long, few_pass (λ (x : ℕ). not (eqb x w)) (other_writers t r), few_others t r, few)

few_choices : (t : TraceValue) (r : ℕ) → operation_count t ≤ 160 → length (choices t r) ≤ 161
few_choices t r few =
    let long = length-map (enumerate_from (first_choice t r) (candidates t r)) (λ (numbered : ℕ × Candidate). let choice : ReadsFromChoice = record { candidate = numbered.1; variable = numbered.0 } in choice) in
    omega (arith, long, length-enumerate_from (first_choice t r) (candidates t r), few_candidates t r, few)

few_of_read : (t : TraceValue) (r : ℕ) → operation_count t ≤ 160 → length (clauses_of_read t r) ≤ 25922
few_of_read t r few =
    let meanings = flat_map (λ (c : ReadsFromChoice). reads_from t r c.variable c.candidate) (choices t r) in
    let all = few_flat (λ (c : ReadsFromChoice). reads_from t r c.variable c.candidate) 161 (choices t r) (λ c. few_reads_from t r c.variable c.candidate few) in
    few_if (eqb (length (candidates t r)) 0) (void_clauses (first_choice t r)) (map (λ (c : ReadsFromChoice). pos c.variable) (choices t r) ∷ meanings) 25922
    (omega arith) (omega (arith, all, few_choices t r few))

few_reads : (t : TraceValue) → operation_count t ≤ 160 → length (read_clauses t) ≤ 4147520
few_reads t few =
    let all = few_flat (clauses_of_read t) 25922 (readers t) (λ r. few_of_read t r few) in
    omega (arith, all, few_pass (λ (i : ℕ). is_some (read_at t i)) (numbers t), length-range_with_len 0 (operation_count t), few)

-- final values
few_last : (t : TraceValue) (location : List ℕ) (c : FinalChoice) → length (writes_last t location c) ≤ length (writers t location)
few_last t location c =
    let long = length-map (others c.writer (writers t location)) (λ (v : ℕ). implies c.variable (stands_before t v c.writer ∷ [])) in
    omega (arith, long, few_pass (λ (x : ℕ). not (eqb x c.writer)) (writers t location))

few_final_choices : (t : TraceValue) (k : ℕ) (entry : List ℕ × ℕ) → operation_count t ≤ 160 → length (final_choices t k entry) ≤ 160
few_final_choices t k entry few =
    let long = length-map (enumerate_from (first_final t k) (final_candidates t entry)) (λ (numbered : ℕ × ℕ). let choice : FinalChoice = record { writer = numbered.1; variable = numbered.0 } in choice) in
    omega (arith, long, length-enumerate_from (first_final t k) (final_candidates t entry), few_leavers t entry, few)

few_of_final : (t : TraceValue) (k : ℕ) (entry : List ℕ × ℕ) → operation_count t ≤ 160 → length (clauses_of_final t k entry) ≤ 2 + 160 * length (writers t entry.0)
few_of_final t k entry few =
    let w = length (writers t entry.0) in
    let meanings = flat_map (writes_last t entry.0) (final_choices t k entry) in
    let all = few_flat (writes_last t entry.0) w (final_choices t k entry) (λ c. few_last t entry.0 c) in
    let most = mul-le (length (final_choices t k entry)) w 160 w (few_final_choices t k entry few) (omega arith) in
    few_if (is_untouched t entry) [] (cond (eqb (length (final_candidates t entry)) 0) (void_clauses (first_final t k)) (map (λ (c : FinalChoice). pos c.variable) (final_choices t k entry) ∷ meanings)) (2 + 160 * w)
    (omega arith)
    (few_if (eqb (length (final_candidates t entry)) 0) (void_clauses (first_final t k)) (map (λ (c : FinalChoice). pos c.variable) (final_choices t k entry) ∷ meanings) (2 + 160 * w)
    (omega arith) (omega (arith, all, most)))

more_final : (a b c v w : ℕ) → a ≤ 2 + 160 * w → b ≤ 2 * v + 160 * c → a + b ≤ 2 * suc v + 160 * (w + c)
more_final a b c v w h g = omega (arith, h, g)

final_sum : (t : TraceValue) (m : ℕ) (values : List (List ℕ × ℕ)) → operation_count t ≤ 160 →
    length (flat_map (λ (numbered : ℕ × (List ℕ × ℕ)). clauses_of_final t numbered.0 numbered.1) (enumerate_from m values)) ≤ 2 * length values + 160 * written_in t values
final_sum t m [] few = omega (arith, none_written t)
final_sum t m (entry ∷ values) few =
    let rest = flat_map (λ (numbered : ℕ × (List ℕ × ℕ)). clauses_of_final t numbered.0 numbered.1) (enumerate_from (m + 1) values) in
    let both : length (clauses_of_final t m entry ++ rest) ≡ length (clauses_of_final t m entry) + length rest = length-append (clauses_of_final t m entry) rest in
    let most = more_final (length (clauses_of_final t m entry)) (length rest) (written_in t values) (length values) (length (writers t entry.0)) (few_of_final t m entry few) (final_sum t (m + 1) values few) in
    omega (arith, both, most, more_written t entry values)

few_finals_in_all : (t : TraceValue) → IsTrace t → operation_count t ≤ 160 → length (final_clauses t) ≤ 156672
few_finals_in_all t ok few = omega (arith, final_sum t 0 t.final_values few, few_finals t ok, few_written t ok, few)

few_said : (t : TraceValue) (i : ℕ) → operation_count t ≤ 160 → length (said_after t i) ≤ 160
few_said t i few =
    let mapped = length-map {B = ℕ × ℕ} (filter (is_said t i) (numbers t)) (λ (j : ℕ). (i, j)) in
    omega (arith, mapped, few_pass (is_said t i) (numbers t), length-range_with_len 0 (operation_count t), few)

few_known : (t : TraceValue) → operation_count t ≤ 160 → length (known_pairs t) ≤ 25600
few_known t few = omega (arith, few_flat (said_after t) 160 (numbers t) (λ i. few_said t i few), length-range_with_len 0 (operation_count t), few)

pub few_in_list : (t : TraceValue) → IsTrace t → operation_count t ≤ 160 → length (clauses_of t) ≤ 16777216
few_in_list t ok few =
    let order = few_passed (λ i. stands_before t i (i + 1) ∷ []) (λ i. in_one_process t i (i + 1)) (operation_count t) 160 few in
    let triples = few_transitivity (operation_count t) few in
    let pairs = length-map (known_pairs t) (λ (pair : ℕ × ℕ). stands_before t pair.0 pair.1 ∷ []) in
    let all = ap length (clause_list t) in
    let a = length-append (program_order t) (transitivity (operation_count t) ++ (read_clauses t ++ (final_clauses t ++ before_clauses t))) in
    let b = length-append (transitivity (operation_count t)) (read_clauses t ++ (final_clauses t ++ before_clauses t)) in
    let c = length-append (read_clauses t) (final_clauses t ++ before_clauses t) in
    let d = length-append (final_clauses t) (before_clauses t) in
    omega (arith, order, triples, pairs, all, a, b, c, d, few_reads t few, few_finals_in_all t ok few, few_known t few)
