use Rattle.std.proofs.Common.{◌≡◌, ◌∷◌, [], ◌++◌, length, sym, ◌∙◌, ap, append_assoc, rules, arith}
use Rattle.std.specs.Vec.Iter.{into_iter_items}
use Rattle.cube_queue.specs.Workers.{IsReady}
use Rattle.cube_queue.proofs.Workers.HandleLemmas.{next_member, all_members, none_started, one_started}
use Rattle.cube_queue.proofs.starting.start_all.Goals as goal

pub start-requires-clause-ready : goal.start-requires-clause-ready
start-requires-clause-ready g c κs within =
    let at = c.loop-member in
    let is = at.invariant.0 ∙ ap (λ l. at.yielded ++ l) c.in-Some.ensures.steps.0 in
    next_member (IsReady c.args.site.now) _ at.yielded _ _ is c.requires

pub loop-member-init : goal.loop-member-init
loop-member-init g c =
    let began = c.into_iter-member-iterator.ensures.into_iter_gives in
    let empty : c.in_ok-handles.handles.items ≡ [] = search rules in
    (sym began.0, search rules, rw empty (none_started _ _ _))

pub loop-member-preserved : goal.loop-member-preserved
loop-member-preserved g c =
    let at = c.loop-member in
    let is = at.invariant.0 ∙ ap (λ l. at.yielded ++ l) c.in-Some.ensures.steps.0 in
    let was = at.invariant.1 in
    let gone = c.in-Some.ensures.steps.1 in
    let short = ap length c.in-Some.ensures.steps.0 in (
      is ∙ sym (append_assoc at.yielded (c.in-Some.member ∷ []) _),
      omega arith,
      rw c.in_ok-push.ensures.items (one_started _ _ _ _ _ _ _ at.invariant.2 c.in_ok-start.ensures.handle.0 c.in_ok-start.ensures.handle.1 c.in_ok-start.ensures.handle.2),
    )

pub returns-clause-members : goal.returns-clause-members
returns-clause-members g c =
    let at = c.loop-member in
    let none : length (into_iter_items at.member-iterator) ≡ 0 = sym at.invariant.1 ∙ c.in-None.ensures.steps.0 in
    at.invariant.2.members_are ∙ all_members _ at.yielded _ at.invariant.0 none
