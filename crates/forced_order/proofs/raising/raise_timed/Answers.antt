use Rattle.std.proofs.Common.{sym, ◌∙◌}
use Rattle.trace_semantics.specs.Trace.{TraceValue}
use Rattle.forced_order.specs.Closed.{IsTimeClosed}
use Rattle.forced_order.proofs.RiseLemmas.{no_pass}
use Rattle.forced_order.proofs.TimeLemmas.{untimed_closed}
use Rattle.forced_order.proofs.raising.raise_timed.Goals as goal

pub raise_within-requires-clause-span : goal.raise_within-requires-clause-span
raise_within-requires-clause-span c = sym c.span_by_number.ensures ∙ c.in-Some.is

pub returns-in-None : goal.returns-in-None
returns-in-None c =
    let t : TraceValue = c.args.trace.now in
    no_pass t c.args.rows.now (λ order. IsTimeClosed t.processes order c.args.n) (untimed_closed t.processes c.args.rows.now c.args.n (sym c.span_by_number.ensures ∙ c.in-None.is))
