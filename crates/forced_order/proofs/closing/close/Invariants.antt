use Rattle.forced_order.specs.Forced.{AreForced}
use Rattle.forced_order.specs.Room.{room}
use Rattle.forced_order.specs.Rows.{HasRows}
use Rattle.forced_order.proofs.closing.close.Given as goal

abbrev pub invariant-loop-rows : goal.invariant-loop-rows
invariant-loop-rows l = record {
  forced : AreForced l.trace l.rows;
  rows : HasRows l.trace.processes l.rows;
}

abbrev pub decreases-loop-rows : goal.decreases-loop-rows
decreases-loop-rows l = room l.rows
