-- What a trace's clause list keeps, and what is given of a piece.
use Rattle.std.specs.Prelude.{◌≡◌, ℕ, ◌+◌, ◌-◌, ℤ, List, [], length, map, slice_index_or}
use Rattle.std.specs.List.{flat_map, range_with_len}
use Rattle.trace_semantics.specs.Trace.{TraceValue, operation_count}
use Rattle.clause_blocks.specs.declared.pieces.Piece.{Piece}
use Rattle.clause_blocks.specs.declared.pieces.Piece.TheVariants.{Stored, TransitivityFrom}
use Rattle.clause_blocks.specs.Blocks.{program_order, transitivity_from, read_clauses, final_clauses, before_clauses}
use Rattle.clause_blocks.specs.Clauses.{pieces}

-- the clauses of a piece, with n operations
abbrev pub clauses_in : ℕ → Piece → List (List ℤ)
clauses_in n (Stored clauses) = clauses.now
clauses_in n (TransitivityFrom i) = transitivity_from n i

-- the families that are stored
pub record AreStored (t : TraceValue) (order reads finals pairs : List (List ℤ)) : Type 0 where
  pub in_order : order ≡ program_order t
  pub in_reads : reads ≡ read_clauses t
  pub in_finals : finals ≡ final_clauses t
  pub in_pairs : pairs ≡ before_clauses t

-- how many clauses there are in the pieces below this number
abbrev pub clauses_before : TraceValue → ℕ → ℕ
clauses_before t k = length (flat_map (λ m. slice_index_or (pieces t) m []) (range_with_len 0 k))

-- the clauses of the pieces from one number up to the one before another
abbrev pub clauses_between : TraceValue → ℕ → ℕ → List (List ℤ)
clauses_between t first end = flat_map (λ m. slice_index_or (pieces t) m []) (range_with_len first (end - first))

-- where each piece begins, and for how many operations there is a table of transitivity
pub record AreTables (t : TraceValue) (starts : List ℕ) (tabled : ℕ) : Type 0 where
  pub in_starts : starts ≡ map (clauses_before t) (range_with_len 0 (length (pieces t) + 1))
  pub in_table : tabled ≡ operation_count t
