use Rattle.std.proofs.Common.{◌≡◌, length, take, drop}
use Rattle.std.specs.Fn.{FnReturnsAt}
use Rattle.std.specs.List.{AllZip}
use Rattle.std.specs.Option.{IfSome}
use Rattle.std.specs.Vec.Iter.{into_iter_items, into_iter_len}
use Rattle.parallel_map.proofs.joining.all_results.Given as goal

abbrev pub invariant-loop-done : goal.invariant-loop-done
invariant-loop-done g l =
    AllZip (λ item done. IfSome done (FnReturnsAt g.F.Fn l.fn.f item)) (drop l.place l.fn.items) (into_iter_items l.done-iterator)
    × AllZip (FnReturnsAt g.F.Fn l.fn.f) (take l.place l.fn.items) l.results.items
    × (into_iter_len l.done-iterator ≡ length (into_iter_items l.done-iterator))
