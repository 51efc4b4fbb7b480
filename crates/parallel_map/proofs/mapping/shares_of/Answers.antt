use Rattle.std.specs.Fn.{FnReturnsAt}
use Rattle.std.specs.List.{All}
use Rattle.parallel_map.specs.Shares.{IsOfItem}
use Rattle.parallel_map.proofs.ShareLemmas.{all_shares}
use Rattle.parallel_map.proofs.mapping.shares_of.Goals as goal

pub returns : goal.returns
returns g c =
    let h = c.in_ok-collect.ensures in
    let chain = rw (c.map.ensures.base, c.map.ensures.f) at h.1 in
    all_shares (λ share. All (IsOfItem (FnReturnsAt g.F.Fn c.args.f.now) c.args.items.now) share.items) chain.0 h.0 c.in_ok-collect.field-0 chain.2 h.2
