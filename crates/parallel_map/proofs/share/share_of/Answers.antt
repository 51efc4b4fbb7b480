use Rattle.std.proofs.Common.{[], arith, refl, rules}
use Rattle.std.specs.Fn.{FnReturnsAt}
use Rattle.std.proofs.lemmas.Fn.{says_at}
use Rattle.std.proofs.lemmas.List.Elements.{All-nil, All-push, All-same}
use Rattle.parallel_map.proofs.ShareLemmas.{read}
use Rattle.parallel_map.specs.Shares.{IsOfItem}
use Rattle.parallel_map.proofs.share.share_of.Goals as goal

pub loop-init : goal.loop-init
loop-init g c =
    let Each = IsOfItem (FnReturnsAt g.F.Fn c.args.f.now) c.args.items.now in
    All-same Each c.new-share.result.items [] (search rules) (All-nil Each)

pub loop-preserved : goal.loop-preserved
loop-preserved g c =
    let items = c.args.items.now in
    let Each = IsOfItem (FnReturnsAt g.F.Fn c.args.f.now) items in
    let item = c.index-items-place.result in
    let there = read items c.fetch_add-place.result item (omega arith) c.index-items-place.is in
    rw c.in_ok-push.ensures.items
    (All-push Each c.loop.share.items _ c.loop.invariant (item, there, says_at g.F.Fn c.f-result.ensures refl))
