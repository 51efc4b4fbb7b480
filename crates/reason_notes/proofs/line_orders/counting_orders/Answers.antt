use Rattle.reason_check.specs.LineClauses.{IsCountingOf}
use Rattle.reason_notes.proofs.MadeLemmas.{kept_clause}
use Rattle.reason_notes.proofs.line_orders.counting_orders.Goals as goal

pub returns : goal.returns
returns c =
    let t = c.args.trace.now in
    let made = c.in_ok-counting_clause.ensures.made in
    kept_clause t c.counting_clause.new.orders.items c.in_ok-kept.kept.items (IsCountingOf t) c.in_ok-kept.ensures (λ clause all. (_, made.0, made.1 clause all))
