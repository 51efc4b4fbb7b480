use Rattle.std.proofs.Common.{arith}
use Rattle.std.specs.List.{slice_get}
use Rattle.std.proofs.lemmas.Option.{slice_get_within}
use Rattle.trace_semantics.specs.Trace.{TraceValue}
use Rattle.trace_semantics.proofs.NameLemmas.{some_value}
use Rattle.forced_order.proofs.RowLemmas.{next_forced}
use Rattle.forced_order.proofs.raising.raise_next.Goals as goal

pub returns-then-n-count : goal.returns-then-n-count
returns-then-n-count c =
    let t : TraceValue = c.args.trace.now in
    let q = c.args.n.process in
    let p = some_value (slice_get t.processes q) (c.count_of-count.ensures.found (omega arith)) in
    let count = c.count_of-count.ensures.count p.0 p.1 in
    let within = slice_get_within t.processes q p.0 p.1 in
    record {
      forced = λ given. c.raise_from.ensures.forced t (next_forced t c.requires.trace p.0 q c.args.n.place p.1 c.if-n-ge1.true (omega (arith, count))) given;
      rise = c.raise_from.ensures.rise;
      closed = λ e rows other at low less. c.raise_from.ensures.closed e (rows q _ other at (omega (arith, less))) (omega (arith, within, c.requires.trace.few_processes));
    }
