use Rattle.std.proofs.Common.{subst, List, ℤ, Option}
use Rattle.lrat_check.specs.Active.{with_clause}
use Rattle.lrat_check.specs.Counted.{AreChanges, AreRightChanges}
use Rattle.lrat_check.specs.declared.count_changes.CountChanges.{CountChanges}
use Rattle.lrat_check.proofs.counted_clauses.count_in.Goals as goal

pub returns-in_ok-add : goal.returns-in_ok-add
returns-in_ok-add c = λ clauses active id free h.
    subst (λ (l : List ℤ). AreChanges clauses (with_clause id l active) c.add.new.self) c.as_slice.ensures.literals
    (c.in_ok-add.ensures clauses active id free (subst (λ (o : Option CountChanges). AreRightChanges clauses active o) c.in-Some.is h))
