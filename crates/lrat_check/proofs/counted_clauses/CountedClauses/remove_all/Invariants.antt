use Rattle.std.proofs.Common.{◌≡◌, ℕ, take}
use Rattle.lrat_check.specs.Active.{without}
use Rattle.lrat_check.specs.ClauseAt.{clause_at}
use Rattle.lrat_check.specs.Counted.{HasRightChanges}
use Rattle.lrat_check.proofs.counted_clauses.CountedClauses.remove_all.Given as goal

abbrev pub invariant-loop-id : goal.invariant-loop-id
invariant-loop-id g l =
    let clauses = (g.F.ClauseList.formula l.formula).clauses in
    ((other : ℕ) → clause_at clauses l.self.clauses other ≡ without (take l.id-index l.ids) (clause_at clauses l.initial.self.clauses) other) × (HasRightChanges clauses l.initial.self → HasRightChanges clauses l.self)
