use Rattle.lrat_check.proofs.counted_clauses.changes_of.Goals as goal

pub returns : goal.returns
returns g c = c.in_ok-count_added.ensures (c.in_ok-count_kept.ensures (c.new-changes.ensures (g.F.ClauseList.formula c.args.formula.now).clauses))
