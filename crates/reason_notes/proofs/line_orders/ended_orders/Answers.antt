use Rattle.order_clauses.specs.Numbered.{named}
use Rattle.order_reasons.specs.Reasons.{IsTimesClause}
use Rattle.reason_notes.proofs.MadeLemmas.{kept_clause}
use Rattle.reason_notes.proofs.line_orders.ended_orders.Goals as goal

pub returns : goal.returns
returns c = let t = c.args.trace.now in kept_clause t c.ended_clause.new.orders.items c.in_ok-kept.kept.items (λ clause. IsTimesClause t clause (named t c.args.pair.first) (named t c.args.pair.second)) c.in_ok-kept.ensures c.in_ok-ended_clause.ensures.made
