use Rattle.std.proofs.Common.{eqb}
use Rattle.std.specs.Map.{keys_of}
use Rattle.std.specs.List.{IsDistinct}
use Rattle.lrat_check.specs.AddedAt.{in_tree_at}
use Rattle.lrat_check.specs.ClauseAt.{in_front}
use Rattle.lrat_check.specs.Counted.{AreChanges}
use Rattle.lrat_check.proofs.Counting.KeptLemmas.{passed, is_left}
use Rattle.lrat_check.proofs.active_clauses.ActiveClauses.count_in_tree.Given as goal

abbrev pub invariant-loop-id : goal.invariant-loop-id
invariant-loop-id g l =
    let clauses = (g.F.ClauseList.formula l.formula).clauses in
    let front = in_front clauses l.self in
    IsDistinct eqb (keys_of l.id-iterator) × (AreChanges clauses front l.initial.changes → AreChanges clauses (passed front (in_tree_at l.self.added) (is_left l.id-iterator)) l.changes)
