use Rattle.std.proofs.Common.{◌≡◌, ◌+◌, ◌-◌, arith}
use Rattle.std.specs.Prelude.{slice_index_or}
use Rattle.std.proofs.lemmas.List.Elements.{Contains-get_or}
use Rattle.trace_decision.proofs.GrownLemmas.{one_more}
use Rattle.trace_decision.proofs.splitting.split_all.Goals as goal

pub split_one-requires-clause-leaf : goal.split_one-requires-clause-leaf
split_one-requires-clause-leaf c =
    let there = c.requires.leaves (slice_index_or c.args.leaves.now c.loop-leaf.leaf-index 0) (Contains-get_or c.args.leaves.now c.loop-leaf.leaf-index 0 c.loop-leaf-test.true) in
    omega (arith, there, c.loop-leaf.invariant.1.counted, c.leaves.ensures.count, c.leaves-before.ensures.count)

pub overflow_add-leaf : goal.overflow_add-leaf
overflow_add-leaf c =
    let there = c.requires.leaves (slice_index_or c.args.leaves.now c.loop-leaf.leaf-index 0) (Contains-get_or c.args.leaves.now c.loop-leaf.leaf-index 0 c.loop-leaf-test.true) in
    omega (arith, there, c.loop-leaf.invariant.1.counted, c.leaves.ensures, c.leaves-before.ensures)

pub loop-leaf-preserved : goal.loop-leaf-preserved
loop-leaf-preserved c =
    let way = c.loop-leaf.invariant.1 in
    let leaf = slice_index_or c.args.leaves.now c.loop-leaf.leaf-index 0 + (c.leaves.result - c.leaves-before.result) in
    let is : leaf ≡ slice_index_or c.args.leaves.now c.loop-leaf.leaf-index 0 + way.more = omega (arith, way.counted, c.leaves.ensures.count, c.leaves-before.ensures.count) in (
      c.in_ok-next_tree.ensures.cubes,
      one_more c.args.variables.now c.args.leaves.now c.loop-leaf.leaf-index leaf c.args.ledger c.loop-leaf.ledger c.in_ok-next_tree.next_ledger way c.loop-leaf-test.true is c.in_ok-next_tree.ensures.split,
    )
