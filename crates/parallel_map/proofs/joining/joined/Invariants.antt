use Rattle.std.proofs.Common.{◌≡◌, ◌++◌}
use Rattle.std.specs.Fn.{FnReturnsAt}
use Rattle.std.specs.List.{AllZip}
use Rattle.std.specs.Option.{IfSome}
use Rattle.std.specs.Vec.Iter.{into_iter_items}
use Rattle.parallel_map.proofs.joining.joined.Given as goal

abbrev pub invariant-loop-share : goal.invariant-loop-share
invariant-loop-share g l =
    AllZip (λ item slot. IfSome slot (FnReturnsAt g.F.Fn l.fn.f item)) l.fn.items l.found.items
    × (l.fn.shares.items ≡ l.yielded ++ into_iter_items l.share-iterator)
