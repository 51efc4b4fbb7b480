use Rattle.reason_check.specs.LineClauses.{IsWaitingOf}
use Rattle.reason_notes.proofs.MadeLemmas.{kept_clause}
use Rattle.reason_notes.proofs.line_orders.waiting_orders.Goals as goal

pub returns : goal.returns
returns c = let t = c.args.trace.now in kept_clause t c.waiting_clause.new.orders.items c.in_ok-kept.kept.items (IsWaitingOf t) c.in_ok-kept.ensures (λ clause all. (_, c.in_ok-waiting_clause.ensures.made clause all))
