use Rattle.std.proofs.Common.{rules, arith}
use Rattle.std.proofs.Math.Dec.{leb}
use Rattle.std.proofs.lemmas.Bool.{leb-true, leb-false}
use Rattle.std.proofs.lemmas.List.Sorted.{IsPartitionPoint-from_clause, IsPartitionedBy-leb}
use Rattle.writer_table.proofs.rising_places.count_at_most.Goals as goal

pub returns-clause-first : goal.returns-clause-first
returns-clause-first c k low =
    let point = IsPartitionPoint-from_clause (λ place. leb place c.args.bound) c.args.places.now c.partition_point.result c.partition_point.ensures.partitioned (IsPartitionedBy-leb (λ x. x) c.args.places.now c.args.bound c.requires.rising) (λ a r q k. search rules) in
    leb-true _ _ (point.0 k 0 (omega arith) low)

pub returns-clause-others : goal.returns-clause-others
returns-clause-others c k low high =
    let point = IsPartitionPoint-from_clause (λ place. leb place c.args.bound) c.args.places.now c.partition_point.result c.partition_point.ensures.partitioned (IsPartitionedBy-leb (λ x. x) c.args.places.now c.args.bound c.requires.rising) (λ a r q k. search rules) in
    leb-false _ _ (point.1 k 0 low high)
