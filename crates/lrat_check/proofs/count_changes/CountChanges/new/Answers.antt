use Rattle.lrat_check.proofs.Counting.ChangeLemmas.{no_changes}
use Rattle.lrat_check.proofs.count_changes.CountChanges.new.Goals as goal

pub returns : goal.returns
returns c = λ clauses. no_changes clauses c.new-more.result c.new-less.result c.new-more.ensures c.new-less.ensures
