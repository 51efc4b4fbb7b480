use Rattle.std.proofs.Common.{List}
use Rattle.trace_semantics.specs.declared.trace.Process.{Process}
use Rattle.trace_semantics.specs.Trace.{TraceValue}
use Rattle.forced_order.specs.Rows.{HasRows}
use Rattle.forced_order.proofs.ClosedLemmas.{forced_order}
use Rattle.forced_order.proofs.RiseLemmas.{falls_between, rows_stay}
use Rattle.forced_order.proofs.closing.close.Goals as goal

pub returns-then-not-raise_all : goal.returns-then-not-raise_all
returns-then-not-raise_all c =
    let t : TraceValue = c.args.trace.now in
    let rows : HasRows t.processes c.raise_along.new.rows = rows_stay t.processes c.raise_along.result c.loop-rows.rows c.raise_along.new.rows c.raise_along.ensures.rise c.loop-rows.invariant.rows in
    forced_order t c.requires.trace c.raise_all.new.rows (c.raise_all.ensures.closed c.if-not-raise_all.true rows) (c.raise_all.ensures.forced (c.raise_along.ensures.forced c.loop-rows.invariant.forced))

pub loop-rows-preserved : goal.loop-rows-preserved
loop-rows-preserved c =
    let ps : List Process = c.args.trace.now.processes in
    record {
      forced = c.raise_back.ensures.forced (c.raise_all.ensures.forced (c.raise_along.ensures.forced c.loop-rows.invariant.forced));
      rows = rows_stay ps c.raise_back.result c.raise_all.new.rows c.raise_back.new.rows c.raise_back.ensures.rise
          (rows_stay ps c.raise_all.result c.raise_along.new.rows c.raise_all.new.rows c.raise_all.ensures.rise
          (rows_stay ps c.raise_along.result c.loop-rows.rows c.raise_along.new.rows c.raise_along.ensures.rise c.loop-rows.invariant.rows));
    }

pub loop-rows-smaller : goal.loop-rows-smaller
loop-rows-smaller c = falls_between c.raise_along.result c.raise_all.result c.raise_back.result c.loop-rows.rows c.raise_along.new.rows c.raise_all.new.rows c.raise_back.new.rows c.raise_along.ensures.rise c.raise_all.ensures.rise c.raise_back.ensures.rise c.if-not-raise_all.false
