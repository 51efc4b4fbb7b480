use Rattle.std.proofs.Common.{◌≡◌, ◌++◌}
use Rattle.std.specs.Fn.{FnReturnsAt}
use Rattle.std.specs.List.{AllZip}
use Rattle.std.specs.Option.{IfSome}
use Rattle.std.specs.Vec.Iter.{into_iter_items}
use Rattle.parallel_map.proofs.joining.put_share.Given as goal

abbrev pub invariant-loop-done : goal.invariant-loop-done
invariant-loop-done g l =
    AllZip (λ item slot. IfSome slot (FnReturnsAt g.F.Fn l.fn._f item)) l.fn._items l.found.items
    × (l.fn.share.items ≡ l.yielded ++ into_iter_items l.done-iterator)
