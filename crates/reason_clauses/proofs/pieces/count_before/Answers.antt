use Rattle.std.proofs.Common.{rules, arith}
use Rattle.std.proofs.Math.Dec.{ltb}
use Rattle.std.proofs.lemmas.Bool.{ltb-true, ltb-false}
use Rattle.std.proofs.lemmas.List.Sorted.{IsPartitionPoint-from_clause, IsPartitionedBy-ltb}
use Rattle.reason_clauses.specs.declared.pieces.ProcessPieces.{ProcessPieces}
use Rattle.reason_clauses.proofs.pieces.count_before.Goals as goal

pub returns-clause-before : goal.returns-clause-before
returns-clause-before c k other low =
    let point = IsPartitionPoint-from_clause (λ (p : ProcessPieces). ltb p.process c.args.process) c.args.pieces.now c.partition_point.result c.partition_point.ensures.partitioned (IsPartitionedBy-ltb (λ (p : ProcessPieces). p.process) c.args.pieces.now c.args.process c.requires) (λ a r q k. search rules) in
    ltb-true _ _ (point.0 k other (omega arith) low)

pub returns-clause-others : goal.returns-clause-others
returns-clause-others c k other low high =
    let point = IsPartitionPoint-from_clause (λ (p : ProcessPieces). ltb p.process c.args.process) c.args.pieces.now c.partition_point.result c.partition_point.ensures.partitioned (IsPartitionedBy-ltb (λ (p : ProcessPieces). p.process) c.args.pieces.now c.args.process c.requires) (λ a r q k. search rules) in
    ltb-false _ _ (point.1 k other low high)
