use Rattle.std.proofs.Common.{◌≡◌, Some, inl, inr, refl, sym, ◌∙◌, subst, arith}
use Rattle.text_lines.specs.declared.fault.PlacedFault.{PlacedFault}
use Rattle.text_lines.specs.Fault.{IsRefusalAt}
use Rattle.cube_tree.specs.SplitFault.{split_fault}
use Rattle.cube_tree.specs.declared.split_fault.SplitCause.{SplitCause}
use Rattle.result_ledger.specs.Ledger.{cubes_in}
use Rattle.result_ledger.proofs.SlotLemmas.{as_many}
use Rattle.trace_decision.proofs.GrownLemmas.{may_not_grow, no_variable, split_on, splits_cube}
use Rattle.trace_decision.proofs.splitting.split_one.Goals as goal

pub split-requires : goal.split-requires
split-requires c =
    splits_cube (cubes_in c.args.ledger) c.args.tree c.in-Ok.tree c.args.leaf c.in-Some.variable c.requires.cubes
    (omega (arith, c.requires.leaf, as_many c.args.ledger)) c.in-Ok.ensures.split.0 c.split_changes_one_leaf.ensures

pub returns-in-Ok-split-clause-split : goal.returns-in-Ok-split-clause-split
returns-in-Ok-split-clause-split c =
    inl (split_on c.args.variables.now c.args.leaf c.in-Some.variable c.cube.result.now c.args.ledger c.in-Ok-split.ledger c.args.tree c.in-Ok.tree
    c.requires.cubes c.cube.ensures.cube (sym c.next_variable.ensures.first ∙ c.in-Some.is) c.in-Ok.ensures.split.0 c.in-Ok-split.ensures.split c.split_changes_one_leaf.ensures)

pub returns-in_default-clause-split : goal.returns-in_default-clause-split
returns-in_default-clause-split c =
    inr (no_variable c.args.variables.now c.args.leaf c.cube.result.now c.args.ledger c.requires.leaf c.cube.ensures.cube (sym c.next_variable.ensures.first ∙ c.in_default.is), refl)

pub returns-in-Err-default-At-clause-split : goal.returns-in-Err-default-At-clause-split
returns-in-Err-default-At-clause-split c =
    let refused = c.in-Err-default-At.ensures.refused in
    let at = subst (λ (fault : PlacedFault SplitCause). IsRefusalAt (λ cause. split_fault c.args.tree c.args.leaf ≡ Some cause) c.args.leaf fault) c.in-Err-default-At.field-0-1-is refused.1 in
    inr (may_not_grow c.args.variables.now c.args.leaf c.in-Err-default-At.field-0-1-0 c.args.ledger c.args.tree c.requires.cubes c.requires.leaf at.0, refl)
