use Rattle.trace_semantics.specs.Trace.{TraceValue}
use Rattle.forced_order.specs.Closed.{AreClosed, AreProcessesClosed, ArePairsClosed, AreTimesClosed}
use Rattle.forced_order.specs.Forced.{numbered_pairs}
use Rattle.forced_order.specs.Rows.{OrderValue}
use Rattle.forced_order.proofs.RiseLemmas.{pass_joined}
use Rattle.forced_order.proofs.raising.raise_all.Goals as goal

pub returns : goal.returns
returns c =
    let t : TraceValue = c.args.trace.now in
    pass_joined t c.either.result c.raise_said-said.result c.raise_times-timed.result c.args.rows.now c.raise_said-said.new.rows c.raise_times-timed.new.rows
    (λ (order : OrderValue). AreProcessesClosed t.processes order × ArePairsClosed (numbered_pairs t) order) (AreTimesClosed t.processes) (AreClosed t) c.either.ensures
    (λ u v. record { program = u.0; pairs = u.1; times = v })
    c.raise_said-said.ensures c.raise_times-timed.ensures
