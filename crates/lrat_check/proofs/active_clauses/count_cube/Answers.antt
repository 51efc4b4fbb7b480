use Rattle.std.proofs.Common.{◌≡◌, ◌+◌, ◌∷◌, [], ◌∙◌, ap, take, length, subst, List, arith, rules}
use Rattle.std.proofs.Math.Seq.{take-length}
use Rattle.std.specs.Prelude.{ℤ}
use Rattle.lrat_check.specs.Active.{numbered, at_start, with_clause}
use Rattle.lrat_check.specs.Counted.{AreChanges}
use Rattle.lrat_check.proofs.Counting.ChangeLemmas.{next_id, cube_more, cube_free, no_cube, changes_same}
use Rattle.lrat_check.proofs.active_clauses.count_cube.Goals as goal

pub loop-literal-init : goal.loop-literal-init
loop-literal-init c = λ clauses h. changes_same clauses (numbered clauses) (at_start clauses []) c.args.changes.now (no_cube clauses) h

pub loop-literal-preserved : goal.loop-literal-preserved
loop-literal-preserved c = λ clauses h.
    let cube = c.args.cube.now in
    let i = c.loop-literal.literal-index in
    let z = c.literal-item.result in
    let before = take i cube in
    let active = at_start clauses before in
    let added = subst (λ (l : List ℤ). AreChanges clauses (with_clause (next_id clauses before) l active) c.add.new.self) (c.as_slice.ensures.literals ∙ c.unit.ensures)
    (c.in_ok-add.ensures clauses active (next_id clauses before) (cube_free clauses before) (c.loop-literal.invariant clauses h)) in
    changes_same clauses (with_clause (next_id clauses before) (z ∷ []) active) (at_start clauses (take (i + 1) cube)) c.add.new.self (cube_more clauses cube i z (omega arith) c.literal-item.is) added

pub returns : goal.returns
returns c = λ clauses h.
    let cube = c.args.cube.now in
    let last : c.loop-literal.literal-index ≡ length cube = search rules in
    subst (λ (l : List ℤ). AreChanges clauses (at_start clauses l) c.loop-literal.changes) (ap (λ n. take n cube) last ∙ take-length cube) (c.loop-literal.invariant clauses h)
