use Rattle.std.proofs.Common.{◌∷◌, [], ◌++◌, sym, ◌∙◌, ap, append_assoc, arith}
use Rattle.std.proofs.lemmas.Slice.Zip.{AllZip-long}
use Rattle.std.specs.Fn.{FnReturnsAt}
use Rattle.std.specs.Option.{IfSome}
use Rattle.parallel_map.proofs.ShareLemmas.{front_has, put_there, within}
use Rattle.parallel_map.specs.Shares.{IsOfItem}
use Rattle.parallel_map.proofs.joining.put_share.Goals as goal

pub put-requires : goal.put-requires
put-requires g c =
    let at = c.loop-done in
    let items = c.args._items.now in
    let R = FnReturnsAt g.F.Fn c.args._f.now in
    let is = at.invariant.1 ∙ ap (λ l. at.yielded ++ l) c.in-Some.ensures.steps.0 in
    let so = front_has (IsOfItem R items) c.args.share.items at.yielded c.in-Some.done _ is c.requires.share in
    let long = AllZip-long (λ item slot. IfSome slot (R item)) items at.found.items at.invariant.0 in
    let here = within items c.in-Some.done.place so.0 so.1 in
    omega (arith, long, here)

pub loop-done-preserved : goal.loop-done-preserved
loop-done-preserved g c =
    let at = c.loop-done in
    let items = c.args._items.now in
    let R = FnReturnsAt g.F.Fn c.args._f.now in
    let is = at.invariant.1 ∙ ap (λ l. at.yielded ++ l) c.in-Some.ensures.steps.0 in
    let so = front_has (IsOfItem R items) c.args.share.items at.yielded c.in-Some.done _ is c.requires.share in (
      rw c.put.ensures (put_there R items at.found.items c.in-Some.done.place so.0 c.in-Some.done.result so.1 so.2 at.invariant.0),
      is ∙ sym (append_assoc at.yielded (c.in-Some.done ∷ []) _),
    )
