use Rattle.order_clauses.specs.Numbered.{named}
use Rattle.order_reasons.specs.Reasons.{IsPairClause}
use Rattle.reason_notes.proofs.MadeLemmas.{kept_clause}
use Rattle.reason_notes.proofs.line_orders.pair_orders.Goals as goal

pub returns : goal.returns
returns c = let t = c.args.trace.now in kept_clause t c.pair_clause.new.orders.items c.in_ok-kept.kept.items (λ clause. IsPairClause t clause (named t c.args.pair.first) (named t c.args.pair.second)) c.in_ok-kept.ensures c.in_ok-pair_clause.ensures.made
