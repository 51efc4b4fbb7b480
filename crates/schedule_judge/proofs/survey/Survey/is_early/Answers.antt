use Rattle.std.proofs.Common.{◌∙◌, take}
use Rattle.trace_semantics.specs.Judgement.{has_come, paired_before, timed_before}
use Rattle.schedule_judge.proofs.EarlyLemmas.{by_pairs, by_times}
use Rattle.schedule_judge.proofs.survey.Survey.is_early.Goals as goal

pub returns-then-is_early_by_pairs : goal.returns-then-is_early_by_pairs
returns-then-is_early_by_pairs c = λ count at known first fresh.
    let s = c.args.self.now in
    let n = c.args.name.now in
    c.if-is_early_by_pairs.true ∙ by_pairs (has_come (take count s.names.now)) (paired_before s.trace.now n) (timed_before s.trace.now n) c.is_early_by_pairs.result (c.is_early_by_pairs.ensures count at fresh) c.if-is_early_by_pairs.true

pub returns-else-is_early_by_pairs : goal.returns-else-is_early_by_pairs
returns-else-is_early_by_pairs c = λ count at known first fresh.
    let s = c.args.self.now in
    let n = c.args.name.now in
    by_times (has_come (take count s.names.now)) (paired_before s.trace.now n) (timed_before s.trace.now n) c.is_early_by_pairs.result c.is_early_by_times.result (c.is_early_by_pairs.ensures count at fresh) c.if-is_early_by_pairs.false (c.is_early_by_times.ensures (take count s.names.now) n first known)
