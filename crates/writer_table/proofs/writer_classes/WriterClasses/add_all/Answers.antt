use Rattle.std.proofs.Common.{take, subst}
use Rattle.std.specs.List.{All}
use Rattle.std.proofs.lemmas.List.{take_all}
use Rattle.std.proofs.lemmas.List.Elements.{All-more, All-weaker}
use Rattle.writer_table.specs.WriterClasses.{HasNumber}
use Rattle.writer_table.proofs.NumberLemmas.{has_still, more_then}
use Rattle.writer_table.proofs.writer_classes.WriterClasses.add_all.Goals as goal

pub loop-op-preserved : goal.loop-op-preserved
loop-op-preserved c =
    let new = c.add_op.new.self in
    let old = c.loop-op.self in
    let more = c.in_ok-add_op.ensures.more in (
      more_then c.args.self.now old new c.loop-op.invariant.0 more,
      All-more (HasNumber new) c.args.operations.now c.loop-op.op-index c.op-item.result c.loop-op-test.true (All-weaker (HasNumber old) (HasNumber new) (has_still old new more) (take c.loop-op.op-index c.args.operations.now) c.loop-op.invariant.1) (subst (HasNumber new) c.op-item.is c.in_ok-add_op.ensures.has),
    )

pub returns-clause-has : goal.returns-clause-has
returns-clause-has c = subst (All (HasNumber c.loop-op.self)) (take_all c.loop-op.op-index c.args.operations.now c.loop-op-test.false) c.loop-op.invariant.1
