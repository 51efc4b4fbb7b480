use Rattle.std.proofs.Common.{◌∷◌, [], ◌++◌, length, refl, sym, ◌∙◌, ap, append_assoc, rules}
use Rattle.std.specs.Fn.{FnReturnsAt}
use Rattle.std.specs.List.{All}
use Rattle.parallel_map.proofs.ShareLemmas.{front_has, nothing}
use Rattle.parallel_map.specs.Shares.{IsOfItem}
use Rattle.parallel_map.proofs.joining.joined.Goals as goal

pub loop-share-init : goal.loop-share-init
loop-share-init g c =
    let items = c.args.items.now in (
      rw c.in_ok-found.ensures (nothing (FnReturnsAt g.F.Fn c.args.f.now) items (length items) refl),
      search rules,
    )

pub put_share-requires-clause-share : goal.put_share-requires-clause-share
put_share-requires-clause-share g c =
    let at = c.loop-share in
    let is = at.invariant.1 ∙ ap (λ l. at.yielded ++ l) c.in-Some.ensures.steps.0 in
    let Each = IsOfItem (FnReturnsAt g.F.Fn c.args.f.now) c.args.items.now in
    front_has (λ share. All Each share.items) c.args.shares.items at.yielded c.in-Some.share _ is c.requires

pub loop-share-preserved : goal.loop-share-preserved
loop-share-preserved g c =
    let at = c.loop-share in
    let is = at.invariant.1 ∙ ap (λ l. at.yielded ++ l) c.in-Some.ensures.steps.0 in
    (c.put_share.ensures, is ∙ sym (append_assoc at.yielded (c.in-Some.share ∷ []) _))
