use Rattle.std.proofs.lemmas.Result.{on_ok_weaker}
use Rattle.lrat_check.proofs.Counting.ChangeLemmas.{changes_more}
use Rattle.lrat_check.proofs.count_changes.CountChanges.add.Goals as goal

pub returns : goal.returns
returns c = on_ok_weaker c.add.result (λ more clauses active id free h. changes_more clauses active id c.args.clause.now c.args.self.now c.add.new.self free more h) c.add.ensures
