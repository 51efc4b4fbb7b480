use Rattle.std.proofs.Common.{ℕ, rules}
use Rattle.std.specs.Prelude.{nat_le}
use Rattle.std.proofs.lemmas.List.Sorted.{IsPartitionPoint-from_clause}
use Rattle.forced_order.proofs.least_ends.count_from.Goals as goal

pub returns-clause-point : goal.returns-clause-point
returns-clause-point c = λ forward. IsPartitionPoint-from_clause (λ (end : ℕ). nat_le c.args.start end) c.args.ends.now c.partition_point.result c.partition_point.ensures.partitioned forward (λ a r q k. search rules)
