use Rattle.order_clauses.specs.Numbered.{named}
use Rattle.order_reasons.specs.Sources.{IsSourceClause}
use Rattle.reason_notes.proofs.MadeLemmas.{kept_clause}
use Rattle.reason_notes.proofs.line_orders.source_orders.Goals as goal

pub returns : goal.returns
returns c = let t = c.args.trace.now in kept_clause t c.source_clause.new.orders.items c.in_ok-kept.kept.items (λ clause. IsSourceClause t clause (named t c.args.reader)) c.in_ok-kept.ensures c.in_ok-source_clause.ensures.made
