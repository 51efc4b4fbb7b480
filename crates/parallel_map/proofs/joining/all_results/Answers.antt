use Rattle.std.proofs.Common.{◌+◌, length, drop, refl, ap, subst, arith}
use Rattle.std.specs.Fn.{FnReturnsAt}
use Rattle.std.specs.List.{AllZip}
use Rattle.std.specs.Option.{IfSome}
use Rattle.parallel_map.proofs.ShareLemmas.{all_taken, next_rest, next_within, one_more}
use Rattle.parallel_map.proofs.joining.all_results.Goals as goal

pub loop-done-preserved : goal.loop-done-preserved
loop-done-preserved g c =
    let at = c.loop-done in
    let items = c.args.items.now in
    let R = FnReturnsAt g.F.Fn c.args.f.now in
    let left = subst (λ l. AllZip (λ item slot. IfSome slot (R item)) (drop at.place items) l) c.in-Some.ensures.steps.0 at.invariant.0 in
    let here = next_within R items at.place c.in-Some.done _ left in
    let item = c.index-items-place.result in
    let was = at.invariant.2 in
    let gone = c.in-Some.ensures.steps.1 in
    let short = ap length c.in-Some.ensures.steps.0 in (
      next_rest R items at.place (at.place + 1) c.in-Some.done _ refl left,
      rw c.in_ok-push.ensures.items
          (one_more R items at.place (at.place + 1) at.results.items item c.settled.result refl here c.index-items-place.is c.settled.ensures at.invariant.1),
      omega arith,
    )

pub returns : goal.returns
returns g c =
    let at = c.loop-done in
    let was = at.invariant.2 in
    let none = c.in-None.ensures.steps in
    all_taken (FnReturnsAt g.F.Fn c.args.f.now) c.args.items.now at.place _ at.results.items (omega arith) at.invariant.0 at.invariant.1
