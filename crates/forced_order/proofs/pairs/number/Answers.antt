use Rattle.std.proofs.Common.{◌≤◌, length, not, arith}
use Rattle.std.specs.Str.{bytes_eq}
use Rattle.std.proofs.lemmas.List.Sums.{prefix_len-le-length}
use Rattle.trace_semantics.specs.declared.trace.Process.{Process}
use Rattle.trace_semantics.specs.PairOrder.{order_of}
use Rattle.forced_order.proofs.pairs.number.Goals as goal

pub overflow_cast-result : goal.overflow_cast-result
overflow_cast-result c =
    let most : order_of c.args.processes.now c.as_bytes.result.now ≤ length c.args.processes.now = prefix_len-le-length (λ (p : Process). not (bytes_eq p.name c.as_bytes.result.now)) c.args.processes.now in
    omega (arith, most, c.requires.few, c.order_of.ensures)
