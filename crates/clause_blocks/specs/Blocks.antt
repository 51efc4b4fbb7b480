-- The clauses of a trace, in blocks.
use Rattle.std.specs.Prelude.{ℕ, ◌+◌, ℤ, pos, neg_ℤ, List, [], ◌∷◌, length, map, ◌==◌, if◌then◌else◌}
use Rattle.std.specs.List.{filter, flat_map, enumerate_from, range_with_len}
use Rattle.trace_semantics.specs.Trace.{TraceValue, operation_count}
use Rattle.var_layout.specs.declared.candidate.Candidate.{Candidate}
use Rattle.var_layout.specs.declared.candidate.Candidate.TheVariants.{InitialValue, Writer}
use Rattle.var_layout.specs.declared.candidate.ReadsFromChoice.{ReadsFromChoice}
use Rattle.var_layout.specs.declared.candidate.FinalChoice.{FinalChoice}
use Rattle.var_layout.specs.Candidates.{candidates}
use Rattle.var_layout.specs.ChoiceVariables.{first_choice, choices}
use Rattle.var_layout.specs.FinalVariables.{final_candidates, is_untouched, first_final, final_choices}
use Rattle.var_layout.specs.KnownPairs.{known_pairs}
use Rattle.var_layout.specs.Numbers.{numbers, readers, writers, others, other_writers, in_one_process}
use Rattle.var_layout.specs.OrderVariables.{numbers_above, order_lit}

-- the literal that says that i stands before j
abbrev pub stands_before : TraceValue → ℕ → ℕ → ℤ
stands_before t i j = order_lit (operation_count t) i j

-- where the variable is true, one of the literals is
abbrev pub implies : ℕ → List ℤ → List ℤ
implies variable literals = neg_ℤ (pos variable) ∷ literals

-- a void variable is true and false, so there is no model
abbrev pub void_clauses : ℕ → List (List ℤ)
void_clauses variable = (pos variable ∷ []) ∷ (neg_ℤ (pos variable) ∷ []) ∷ []

-- program order: an operation stands before the next one of its process
abbrev pub program_order : TraceValue → List (List ℤ)
program_order t = map (λ i. stands_before t i (i + 1) ∷ []) (filter (λ i. in_one_process t i (i + 1)) (numbers t))

-- where i is before j and j before k, i is before k; and where k is before j and j before i, k is before i
abbrev pub no_cycle : ℕ → ℕ → ℕ → ℕ → List (List ℤ)
no_cycle n i j k = (neg_ℤ (order_lit n i j) ∷ neg_ℤ (order_lit n j k) ∷ order_lit n i k ∷ []) ∷ (order_lit n i j ∷ order_lit n j k ∷ neg_ℤ (order_lit n i k) ∷ []) ∷ []

-- transitivity of n operations, by the lowest of three
abbrev pub transitivity_from : ℕ → ℕ → List (List ℤ)
transitivity_from n i = flat_map (λ j. flat_map (λ k. no_cycle n i j k) (numbers_above n j)) (numbers_above n i)

abbrev pub transitivity : ℕ → List (List ℤ)
transitivity n = flat_map (transitivity_from n) (range_with_len 0 n)

-- What it means that operation r reads from there. The initial value: r stands before each other writer of the location. A writer w:
-- w stands before r, and each other writer before w or after r.
abbrev pub reads_from : TraceValue → ℕ → ℕ → Candidate → List (List ℤ)
reads_from t r variable InitialValue = map (λ v. implies variable (stands_before t r v ∷ [])) (other_writers t r)
reads_from t r variable (Writer w) = implies variable (stands_before t w r ∷ []) ∷ map (λ v. implies variable (stands_before t v w ∷ stands_before t r v ∷ [])) (others w (other_writers t r))

-- a reading operation reads from one of its candidates
abbrev pub clauses_of_read : TraceValue → ℕ → List (List ℤ)
clauses_of_read t r = if length (candidates t r) == 0 then void_clauses (first_choice t r)
    else map (λ (c : ReadsFromChoice). pos c.variable) (choices t r) ∷ flat_map (λ (c : ReadsFromChoice). reads_from t r c.variable c.candidate) (choices t r)

abbrev pub read_clauses : TraceValue → List (List ℤ)
read_clauses t = flat_map (clauses_of_read t) (readers t)

-- what it means that a writer of the location is the last one: each other one stands before it
abbrev pub writes_last : TraceValue → List ℕ → FinalChoice → List (List ℤ)
writes_last t location c = map (λ v. implies c.variable (stands_before t v c.writer ∷ [])) (others c.writer (writers t location))

-- the k-th final value is there from the start, or one of the writers that leave it is the last one
abbrev pub clauses_of_final : TraceValue → ℕ → List ℕ × ℕ → List (List ℤ)
clauses_of_final t k entry = if is_untouched t entry then []
    else if length (final_candidates t entry) == 0 then void_clauses (first_final t k)
    else map (λ (c : FinalChoice). pos c.variable) (final_choices t k entry) ∷ flat_map (writes_last t entry.0) (final_choices t k entry)

abbrev pub final_clauses : TraceValue → List (List ℤ)
final_clauses t = flat_map (λ (numbered : ℕ × (List ℕ × ℕ)). clauses_of_final t numbered.0 numbered.1) (enumerate_from 0 t.final_values)

-- the first of each pair of which the trace says so stands before the second
abbrev pub before_clauses : TraceValue → List (List ℤ)
before_clauses t = map (λ (pair : ℕ × ℕ). stands_before t pair.0 pair.1 ∷ []) (known_pairs t)
