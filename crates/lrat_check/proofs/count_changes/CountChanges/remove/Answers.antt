use Rattle.std.proofs.lemmas.Result.{on_ok_weaker}
use Rattle.lrat_check.proofs.Counting.ChangeLemmas.{changes_less}
use Rattle.lrat_check.proofs.count_changes.CountChanges.remove.Goals as goal

pub returns : goal.returns
returns c = on_ok_weaker c.add.result (λ less clauses active id known h. changes_less clauses active id c.args.clause.now c.args.self.now c.add.new.self known less h) c.add.ensures
