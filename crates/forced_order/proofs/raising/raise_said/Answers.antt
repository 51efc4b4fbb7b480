use Rattle.std.proofs.Common.{List, subst}
use Rattle.trace_semantics.specs.Trace.{TraceValue}
use Rattle.forced_order.specs.declared.numbered.OperationNumber.{OperationNumber}
use Rattle.forced_order.specs.Closed.{AreProcessesClosed, ArePairsClosed}
use Rattle.forced_order.specs.Forced.{numbered_pairs}
use Rattle.forced_order.specs.Rows.{OrderValue}
use Rattle.forced_order.proofs.RiseLemmas.{pass_joined}
use Rattle.forced_order.proofs.raising.raise_said.Goals as goal

pub returns : goal.returns
returns c =
    let t : TraceValue = c.args.trace.now in
    pass_joined t c.either.result c.raise_processes-first.result c.raise_pairs-second.result c.args.rows.now c.raise_processes-first.new.rows c.raise_pairs-second.new.rows
    (AreProcessesClosed t.processes) (ArePairsClosed c.args.pairs.now) (λ (order : OrderValue). AreProcessesClosed t.processes order × ArePairsClosed (numbered_pairs t) order) c.either.ensures
    (λ u v. (u, subst (λ (ps : List (OperationNumber × OperationNumber)). ArePairsClosed ps c.raise_pairs-second.new.rows) c.requires.pairs v))
    c.raise_processes-first.ensures c.raise_pairs-second.ensures
