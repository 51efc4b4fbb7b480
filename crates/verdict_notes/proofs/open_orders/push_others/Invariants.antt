use Rattle.std.proofs.Common.{◌≡◌, ◌++◌, take}
use Rattle.std.specs.List.{flat_map}
use Rattle.verdict_notes.specs.OpenCubes.{later_text}
use Rattle.verdict_notes.proofs.open_orders.push_others.Given as goal

abbrev pub invariant-loop-order : goal.invariant-loop-order
invariant-loop-order l = l.text.items ≡ l.initial.text.items ++ flat_map (later_text l.ops) (take l.order-index l.others)
