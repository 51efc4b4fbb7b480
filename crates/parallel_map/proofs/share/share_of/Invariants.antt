use Rattle.std.specs.Fn.{FnReturnsAt}
use Rattle.std.specs.List.{All}
use Rattle.parallel_map.specs.Shares.{IsOfItem}
use Rattle.parallel_map.proofs.share.share_of.Given as goal

abbrev pub invariant-loop : goal.invariant-loop
invariant-loop g l = All (IsOfItem (FnReturnsAt g.F.Fn l.f) l.items) l.share.items
