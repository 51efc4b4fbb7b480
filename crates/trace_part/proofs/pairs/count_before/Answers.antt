use Rattle.std.proofs.Common.{not, rules}
use Rattle.std.proofs.lemmas.List.Sorted.{IsPartitionPoint-from_clause}
use Rattle.forced_order.specs.Rows.{stands_by}
use Rattle.trace_part.specs.declared.left_names.LeftName.{LeftName}
use Rattle.trace_part.proofs.SearchLemmas.{found_at}
use Rattle.trace_part.proofs.pairs.count_before.Goals as goal

pub returns : goal.returns
returns c =
    let point = IsPartitionPoint-from_clause (λ (n : LeftName). not (stands_by c.args.order.now c.args.m.name n.name)) c.args.group.now c.partition_point.result c.partition_point.ensures.partitioned c.requires.forward (λ a r q k. search rules) in
    found_at (λ (n : LeftName). stands_by c.args.order.now c.args.m.name n.name) c.args.group.now c.partition_point.result c.partition_point.ensures.bound point
