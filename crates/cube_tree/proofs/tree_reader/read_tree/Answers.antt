use Rattle.std.proofs.Common.{◌≡◌, ◌<◌, ◌≤◌, vec_len, ◌+◌, ◌∷◌, [], length, reverse, ap, subst, arith, rules, ℕ, List}
use Rattle.std.proofs.lemmas.Bool.{false≢true}
use Rattle.cube_tree.specs.declared.node.Node.{Node}
use Rattle.cube_tree.specs.TreeFault.{leaf_count}
use Rattle.cube_tree.proofs.TextLemmas.{IsReadSoFar, at_start, within_text, next_line, spelled_whole, popped, empty_stack}
use Rattle.cube_tree.proofs.tree_reader.read_tree.Goals as goal
use Rattle.cube_tree.proofs.tree_reader.read_tree.Goals.{in-Leaf, in_default-node}

pub loop-depth-init : goal.loop-depth-init
loop-depth-init c = rw (c.new-nodes.ensures.items, c.in_ok-push.ensures.items, c.new-due.ensures.items) (at_start c.args.text.now)

pub overflow_add-bytes-in-Some : goal.overflow_add-bytes-in-Some
overflow_add-bytes-in-Some c =
    let within : c.loop-depth.bytes + (length c.in-Some-cut_line.line.now + 1) ≤ length c.args.text.now + 1 =
    within_text c.args.text.now c.loop-depth.number c.loop-depth.bytes c.loop-depth.leaves c.loop-depth.rest.now c.loop-depth.nodes.items (reverse c.loop-depth.due.items) c.in-Some-cut_line.line.now c.in-Some-cut_line.after.now
    c.loop-depth.invariant c.in-Some-cut_line.ensures.lines in
    first_of (omega (arith, within), search (rules, within), grind (arith, within))

pub loop-depth-preserved : goal.loop-depth-preserved
loop-depth-preserved c =
    let here = subst (λ (ds : List ℕ). IsReadSoFar c.args.text.now c.loop-depth.number c.loop-depth.bytes c.loop-depth.leaves c.loop-depth.rest.now c.loop-depth.nodes.items ds)
    (popped c.loop-depth.due.items c.pop.new.self.items c.in-Some.depth c.in-Some.ensures.items) c.loop-depth.invariant in
    let count : c.match-node.leaves ≡ c.loop-depth.leaves + leaf_count (c.in-Ok.node ∷ []) =
    elim c.match-node.branch [
      | in-Leaf w ↦ (let one = ap (λ (n : Node). leaf_count (n ∷ [])) w.in-Leaf.is in omega (arith, one, w.leaves-is))
      | in_default-node w ↦ (let none = ap (λ (n : Node). leaf_count (n ∷ [])) w.in_default-node.is in omega (arith, none, w.leaves-is))
    ] in
    rw (c.in_ok-push-2.ensures.items, c.in_ok-push_due.ensures)
    (next_line c.args.text.now c.loop-depth.number c.loop-depth.bytes c.loop-depth.leaves c.loop-depth.rest.now c.loop-depth.nodes.items c.in-Some.depth (reverse c.pop.new.self.items)
    c.in-Some-cut_line.line.now c.in-Some-cut_line.after.now c.in-Ok.node c.match-node.leaves here c.in-Some-cut_line.ensures.lines c.in-Some-cut_line.ensures.shorter c.in-Ok.ensures.0 c.in-Ok.ensures.1 count)

pub of_nodes-requires : goal.of_nodes-requires
of_nodes-requires c =
    let none = empty_stack c.loop-depth.due.items (λ h. let some : 0 < vec_len c.loop-depth.due = search rules in false≢true (c.in_default.ensures.variant.1 some)) in
    (spelled_whole c.args.text.now c.loop-depth.number c.loop-depth.bytes c.loop-depth.leaves c.loop-depth.rest.now c.loop-depth.nodes.items
    (subst (λ (ds : List ℕ). IsReadSoFar c.args.text.now c.loop-depth.number c.loop-depth.bytes c.loop-depth.leaves c.loop-depth.rest.now c.loop-depth.nodes.items ds) none c.loop-depth.invariant)).0

pub returns-clause-spelled : goal.returns-clause-spelled
returns-clause-spelled c =
    let none = empty_stack c.loop-depth.due.items (λ h. let some : 0 < vec_len c.loop-depth.due = search rules in false≢true (c.in_default.ensures.variant.1 some)) in
    rw (c.of_nodes.ensures, c.min.ensures)
    (spelled_whole c.args.text.now c.loop-depth.number c.loop-depth.bytes c.loop-depth.leaves c.loop-depth.rest.now c.loop-depth.nodes.items
    (subst (λ (ds : List ℕ). IsReadSoFar c.args.text.now c.loop-depth.number c.loop-depth.bytes c.loop-depth.leaves c.loop-depth.rest.now c.loop-depth.nodes.items ds) none c.loop-depth.invariant)).1
