-- How often literals stand in the active clauses, beside how often they stand in the formula.
use Rattle.std.specs.Prelude.{◌≡◌, ⊤, ℕ, ◌+◌, ℤ, List, Option, Some, None}
use Rattle.lrat_check.specs.Active.{numbered}
use Rattle.lrat_check.specs.ClauseAt.{clause_at}
use Rattle.lrat_check.specs.Counts.{AreLiteralCounts, IsCount, literal_count}
use Rattle.lrat_check.specs.declared.count_changes.CountChanges.{CountChanges}
use Rattle.lrat_check.specs.declared.counted_clauses.CountedClauses.{CountedClauses}
use Rattle.lrat_check.specs.declared.formula_counts.FormulaCounts.{FormulaCounts}
use Rattle.lrat_check.specs.declared.literal_counts.LiteralCounts.{LiteralCounts}

-- where there are counts, they are those of the active clauses
abbrev pub AreRightCounts : (ℕ → Option (List ℤ)) → Option LiteralCounts → Type 0
AreRightCounts active None = ⊤
AreRightCounts active (Some counts) = AreLiteralCounts active counts

-- the counts of a formula with these clauses, if it was counted
abbrev pub AreFormulaCounts : List (List ℤ) → FormulaCounts → Type 0
AreFormulaCounts clauses counts = AreRightCounts (numbered clauses) counts.counts

-- However often the literal stands in the formula's clauses: as often, with what is more and without what is less, it stands in the
-- active ones.
abbrev pub AreChanges : List (List ℤ) → (ℕ → Option (List ℤ)) → CountChanges → Type 0
AreChanges clauses active changes = (literal : ℤ) (base : ℕ) → IsCount (numbered clauses) literal base →
    (count : ℕ) × IsCount active literal count × (count + literal_count changes.less literal ≡ base + literal_count changes.more literal)

-- where there are changes, they lead from the formula's clauses to the active ones
abbrev pub AreRightChanges : List (List ℤ) → (ℕ → Option (List ℤ)) → Option CountChanges → Type 0
AreRightChanges clauses active None = ⊤
AreRightChanges clauses active (Some changes) = AreChanges clauses active changes

-- what the counted clauses keep of changes is right for their active clauses
abbrev pub HasRightChanges : List (List ℤ) → CountedClauses → Type 0
HasRightChanges clauses active = AreRightChanges clauses (clause_at clauses active.clauses) active.changes
