use Rattle.std.proofs.Common.{◌<◌, [], List, length, get_or, ap, sym, ◌∙◌, arith}
use Rattle.std.specs.Prelude.{ℤ}
use Rattle.std.proofs.lemmas.List.{get_or_default}
use Rattle.cube_tree.specs.CubeTree.{leaves, cubes_of}
use Rattle.cube_tree.proofs.LeafLemmas.{none_such, too_many, too_deep, splittable}
use Rattle.cube_tree.proofs.TreeLemmas.{cubes_counted}
use Rattle.cube_tree.proofs.leaf_split.fault_of_split.Goals as goal

pub returns-then-k-len : goal.returns-then-k-len
returns-then-k-len c =
    let count = ap length c.in_ok-cubes.ensures ∙ cubes_counted c.args.tree.now in
    sym (none_such c.args.tree.now c.args.k (omega (arith, count, c.len.ensures, c.if-k-len.true)))

pub returns-then-len-ge-MAX_LEAVES : goal.returns-then-len-ge-MAX_LEAVES
returns-then-len-ge-MAX_LEAVES c =
    let count = ap length c.in_ok-cubes.ensures ∙ cubes_counted c.args.tree.now in
    sym (too_many c.args.tree.now c.args.k (omega (arith, count, c.len.ensures, c.if-k-len.false)) (omega (arith, count, c.len-2.ensures, c.if-len-ge-MAX_LEAVES.true)))

pub returns-then-as_slice-ge-MAX_DEPTH : goal.returns-then-as_slice-ge-MAX_DEPTH
returns-then-as_slice-ge-MAX_DEPTH c =
    let count = ap length c.in_ok-cubes.ensures ∙ cubes_counted c.args.tree.now in
    let there : c.args.k < leaves c.args.tree.now = omega (arith, count, c.len.ensures, c.if-k-len.false) in
    let within : c.args.k < length (cubes_of c.args.tree.now) = omega (arith, there, cubes_counted c.args.tree.now) in
    let cube = c.as_slice.ensures.literals ∙ c.index-cube.ensures ∙ ap (λ (cs : List (List ℤ)). get_or cs c.args.k c.index-cube.result.now) c.in_ok-cubes.ensures ∙ get_or_default (cubes_of c.args.tree.now) c.args.k c.index-cube.result.now [] within in
    sym (too_deep c.args.tree.now c.args.k there (omega (arith, count, c.len-2.ensures, c.if-len-ge-MAX_LEAVES.false)) (omega (arith, ap length cube, c.if-as_slice-ge-MAX_DEPTH.true)))

pub returns : goal.returns
returns c =
    let count = ap length c.in_ok-cubes.ensures ∙ cubes_counted c.args.tree.now in
    let there : c.args.k < leaves c.args.tree.now = omega (arith, count, c.len.ensures, c.if-k-len.false) in
    let within : c.args.k < length (cubes_of c.args.tree.now) = omega (arith, there, cubes_counted c.args.tree.now) in
    let cube = c.as_slice.ensures.literals ∙ c.index-cube.ensures ∙ ap (λ (cs : List (List ℤ)). get_or cs c.args.k c.index-cube.result.now) c.in_ok-cubes.ensures ∙ get_or_default (cubes_of c.args.tree.now) c.args.k c.index-cube.result.now [] within in
    sym (splittable c.args.tree.now c.args.k there (omega (arith, count, c.len-2.ensures, c.if-len-ge-MAX_LEAVES.false)) (omega (arith, ap length cube, c.if-as_slice-ge-MAX_DEPTH.false)))
