use Rattle.reason_clauses.specs.Made.{IsLastOf}
use Rattle.reason_notes.proofs.MadeLemmas.{kept_clause}
use Rattle.reason_notes.proofs.line_orders.last_orders.Goals as goal

pub returns : goal.returns
returns c = let t = c.args.trace.now in kept_clause t c.last_clause.new.orders.items c.in_ok-kept.kept.items (IsLastOf t c.args.location.now) c.in_ok-kept.ensures c.in_ok-last_clause.ensures.made
