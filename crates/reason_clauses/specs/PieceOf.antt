-- The pieces of a process.
use Rattle.std.specs.Prelude.{◌==◌, ◌<◌, ◌≤◌, ℕ, List, None, length, slice_index_or, unwrap_or}
use Rattle.std.specs.List.{find}
use Rattle.std.specs.List.Sorted.{IsNonDecreasingBy}
use Rattle.reason_clauses.specs.declared.pieces.ProcessPieces.{ProcessPieces}

-- no piece of the process
abbrev pub nothing_of : ℕ → ProcessPieces
nothing_of q = record { process = q; bound = 0; witness = None; limit = 0 }

-- the pieces of the process, or none
abbrev pub piece_of : List ProcessPieces → ℕ → ProcessPieces
piece_of pieces q = unwrap_or (find (λ (p : ProcessPieces). p.process == q) pieces) (nothing_of q)

-- the pieces stand in the order of their processes
abbrev pub AreSorted : List ProcessPieces → Type 0
AreSorted pieces = IsNonDecreasingBy (λ (p : ProcessPieces). p.process) pieces

-- those before the place are of processes before q
abbrev pub AreBefore : List ProcessPieces → ℕ → ℕ → Type 0
AreBefore pieces place q = (k : ℕ) (other : ProcessPieces) → k < place → (slice_index_or pieces k other).process < q

-- and those from it on are not
abbrev pub AreNotBefore : List ProcessPieces → ℕ → ℕ → Type 0
AreNotBefore pieces place q = (k : ℕ) (other : ProcessPieces) → place ≤ k → k < length pieces → q ≤ (slice_index_or pieces k other).process
