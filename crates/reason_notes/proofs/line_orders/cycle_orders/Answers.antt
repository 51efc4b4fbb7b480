use Rattle.std.proofs.Common.{map}
use Rattle.order_clauses.specs.Numbered.{named}
use Rattle.reason_clauses.specs.Made.{IsCycleOf}
use Rattle.reason_notes.proofs.MadeLemmas.{kept_clause}
use Rattle.reason_notes.proofs.line_orders.cycle_orders.Goals as goal

pub returns : goal.returns
returns c = let t = c.args.trace.now in kept_clause t c.cycle_clause.new.orders.items c.in_ok-kept.kept.items (IsCycleOf t (map (named t) c.args.operations.now)) c.in_ok-kept.ensures c.in_ok-cycle_clause.ensures.made
