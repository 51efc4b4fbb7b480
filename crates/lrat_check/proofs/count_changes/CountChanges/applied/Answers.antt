use Rattle.std.proofs.Common.{◌≡◌, ◌+◌, ◌-◌, rules}
use Rattle.lrat_check.specs.Counts.{literal_count}
use Rattle.lrat_check.proofs.Counting.ChangeLemmas.{count_applied}
use Rattle.lrat_check.proofs.count_changes.CountChanges.applied.Goals as goal

pub returns-in-Some : goal.returns-in-Some
returns-in-Some c = λ clauses active h is.
    let e : c.saturating_sub.result ≡ c.args.base + literal_count c.args.self.now.more c.args.literal - literal_count c.args.self.now.less c.args.literal = search rules in
    count_applied clauses active c.args.self.now c.args.literal c.args.base c.saturating_sub.result e h is
