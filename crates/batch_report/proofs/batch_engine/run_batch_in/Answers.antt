use Rattle.std.proofs.Common.{◌≤◌, ◌∙◌, List, ℕ, Bool, false, length, vec_len, refl, sym, ap, subst, arith}
use Rattle.batch_report.specs.FormedBatch.{HasCome, device_run}
use Rattle.batch_report.proofs.EngineLemmas.{come_further, come_to_end, end_refused, no_memory, not_yet, read_slice, stop_writing}
use Rattle.verdict_report.specs.Runs.{sink_run, source_run}
use Rattle.batch_report.proofs.batch_engine.run_batch_in.Goals as goal

pub loop-block-init : goal.loop-block-init
loop-block-init g c =
    let none = c.new-held.ensures.items in
    let few = ap length none in
    record {
      come = not_yet g.F.LineForm.means c.args.run.now.file.now c.args.tally c.new-progress.result c.new-held.result.items (g.T.Source.handed_out c.args.traces.now) (g.T.Source.is_at_end c.args.traces.now) (g.T.Source.failures c.args.traces.now)
          c.args.devices.now (g.W.Sink.written c.args.out.now) (g.W.Sink.failures c.args.out.now) none c.new-progress.ensures.before c.new-progress.ensures.number c.new-progress.ensures.tally;
      few = omega (arith, few, c.new-held.result.ok.0);
      same_traces = refl;
      same_out = refl;
    }

pub returns-in-Err-clause-run : goal.returns-in-Err-clause-run
returns-in-Err-clause-run g c =
    let handed = g.T.Source.handed_out in
    let ends = g.T.Source.is_at_end in
    let fails = g.T.Source.failures in
    let written = g.W.Sink.written in
    let failures = g.W.Sink.failures in
    let means = g.F.LineForm.means in
    let file = c.args.run.now.file.now in
    let d0 = c.args.devices.now in
    let d1 = c.loop-block.devices in
    let at = c.loop-block in
    let t0 = c.args.traces.now in
    let t1 = c.loop-block.traces in
    let t2 = c.read_on.new.source in
    let w0 = written c.args.out.now in
    let w1 = written at.out in
    let w2 = written c.write_refusal.new.out in
    let d2 = c.write_refusal.new.devices in
    let f0 = failures c.args.out.now in
    let f1 = failures at.out in
    let f2 = failures c.write_refusal.new.out in
    end_refused means file c.args.tally at.held.items at.progress (handed t0) (handed t1) (handed t2) (ends t0) (ends t1) (ends t2) (fails t0) (fails t1) (fails t2) d0 d1 d2 w0 w1 w2 f0 f1 f2 at.invariant.come c.in-Err.fault c.in-Err.ensures.stopped
    c.refusal_of_reading-refusal.result c.refusal_of_reading-refusal.ensures c.write_refusal.result c.write_refusal.ensures.written c.write_refusal.ensures.stopped

pub returns-in-Err-write_block-clause-run : goal.returns-in-Err-write_block-clause-run
returns-in-Err-write_block-clause-run g c =
    let handed = g.T.Source.handed_out in
    let ends = g.T.Source.is_at_end in
    let fails = g.T.Source.failures in
    let written = g.W.Sink.written in
    let failures = g.W.Sink.failures in
    let means = g.F.LineForm.means in
    let file = c.args.run.now.file.now in
    let d0 = c.args.devices.now in
    let d1 = c.loop-block.devices in
    let at = c.loop-block in
    let t0 = c.args.traces.now in
    let t1 = c.loop-block.traces in
    let t2 = c.read_on.new.source in
    let out1 = sink_run written failures c.args.out.now at.out in
    let traces = source_run handed ends fails t0 t2 in
    let held = c.as_slice.result.now in
    let here = read_slice means file c.args.tally at.held.items at.progress d0 d1 out1 (handed t0) (handed t1) (handed t2) (ends t0) (ends t1) (ends t2) (fails t0) (fails t1) (fails t2) at.invariant.come c.read_on.new.held.items held c.in-Ok.is_last c.as_slice.ensures.value c.in-Ok.ensures.read in
    let w0 = written c.args.out.now in
    let w1 = written at.out in
    let w2 = written c.write_block.new.out in
    let d2 = c.write_block.new.devices in
    let f0 = failures c.args.out.now in
    let f1 = failures at.out in
    let f2 = failures c.write_block.new.out in
    stop_writing means file c.args.tally traces held c.in-Ok.is_last at.progress d0 d1 d2 w0 w1 w2 f0 f1 f2 here c.in-Err-write_block.fault c.in-Err-write_block.ensures.stopped

pub returns-then-is_last-clause-run : goal.returns-then-is_last-clause-run
returns-then-is_last-clause-run g c =
    let handed = g.T.Source.handed_out in
    let ends = g.T.Source.is_at_end in
    let fails = g.T.Source.failures in
    let written = g.W.Sink.written in
    let failures = g.W.Sink.failures in
    let means = g.F.LineForm.means in
    let file = c.args.run.now.file.now in
    let d0 = c.args.devices.now in
    let d1 = c.loop-block.devices in
    let at = c.loop-block in
    let t0 = c.args.traces.now in
    let t1 = c.loop-block.traces in
    let t2 = c.read_on.new.source in
    let out1 = sink_run written failures c.args.out.now at.out in
    let traces = source_run handed ends fails t0 t2 in
    let held = c.as_slice.result.now in
    let here = read_slice means file c.args.tally at.held.items at.progress d0 d1 out1 (handed t0) (handed t1) (handed t2) (ends t0) (ends t1) (ends t2) (fails t0) (fails t1) (fails t2) at.invariant.come c.read_on.new.held.items held c.in-Ok.is_last c.as_slice.ensures.value c.in-Ok.ensures.read in
    let w0 = written c.args.out.now in
    let w1 = written at.out in
    let w2 = written c.write_block.new.out in
    let d2 = c.write_block.new.devices in
    let f0 = failures c.args.out.now in
    let f1 = failures at.out in
    let f2 = failures c.write_block.new.out in
    let end = c.in-Ok-write_block.end in
    let further = come_further means file c.args.tally traces held c.in-Ok.is_last at.progress d0 d1 d2 w0 w1 w2 f0 f1 f2 here end.progress end.left.now c.in-Ok-write_block.ensures.written in
    come_to_end means file c.args.tally traces end.left.now c.in-Ok.is_last end.progress d0 d2 w0 w2 f0 f2 further c.if-is_last.true (c.in-Ok-write_block.ensures.all c.if-is_last.true)

pub returns-in-Err-held_of-clause-run : goal.returns-in-Err-held_of-clause-run
returns-in-Err-held_of-clause-run g c =
    let handed = g.T.Source.handed_out in
    let ends = g.T.Source.is_at_end in
    let fails = g.T.Source.failures in
    let written = g.W.Sink.written in
    let failures = g.W.Sink.failures in
    let means = g.F.LineForm.means in
    let file = c.args.run.now.file.now in
    let d0 = c.args.devices.now in
    let d1 = c.loop-block.devices in
    let at = c.loop-block in
    let t0 = c.args.traces.now in
    let t1 = c.loop-block.traces in
    let t2 = c.read_on.new.source in
    let out1 = sink_run written failures c.args.out.now at.out in
    let traces = source_run handed ends fails t0 t2 in
    let held = c.as_slice.result.now in
    let here = read_slice means file c.args.tally at.held.items at.progress d0 d1 out1 (handed t0) (handed t1) (handed t2) (ends t0) (ends t1) (ends t2) (fails t0) (fails t1) (fails t2) at.invariant.come c.read_on.new.held.items held c.in-Ok.is_last c.as_slice.ensures.value c.in-Ok.ensures.read in
    let w0 = written c.args.out.now in
    let w1 = written at.out in
    let w2 = written c.write_block.new.out in
    let d2 = c.write_block.new.devices in
    let f0 = failures c.args.out.now in
    let f1 = failures at.out in
    let f2 = failures c.write_block.new.out in
    let end = c.in-Ok-write_block.end in
    let further = come_further means file c.args.tally traces held c.in-Ok.is_last at.progress d0 d1 d2 w0 w1 w2 f0 f1 f2 here end.progress end.left.now c.in-Ok-write_block.ensures.written in
    no_memory means file c.args.tally traces end.left.now c.in-Ok.is_last end.progress d0 d2 w0 w2 f0 f2 further

pub loop-block-preserved : goal.loop-block-preserved
loop-block-preserved g c =
    let handed = g.T.Source.handed_out in
    let ends = g.T.Source.is_at_end in
    let fails = g.T.Source.failures in
    let written = g.W.Sink.written in
    let failures = g.W.Sink.failures in
    let means = g.F.LineForm.means in
    let file = c.args.run.now.file.now in
    let d0 = c.args.devices.now in
    let d1 = c.loop-block.devices in
    let at = c.loop-block in
    let t0 = c.args.traces.now in
    let t1 = c.loop-block.traces in
    let t2 = c.read_on.new.source in
    let out1 = sink_run written failures c.args.out.now at.out in
    let traces = source_run handed ends fails t0 t2 in
    let held = c.as_slice.result.now in
    let here = read_slice means file c.args.tally at.held.items at.progress d0 d1 out1 (handed t0) (handed t1) (handed t2) (ends t0) (ends t1) (ends t2) (fails t0) (fails t1) (fails t2) at.invariant.come c.read_on.new.held.items held c.in-Ok.is_last c.as_slice.ensures.value c.in-Ok.ensures.read in
    let w0 = written c.args.out.now in
    let w1 = written at.out in
    let w2 = written c.write_block.new.out in
    let d2 = c.write_block.new.devices in
    let f0 = failures c.args.out.now in
    let f1 = failures at.out in
    let f2 = failures c.write_block.new.out in
    let end = c.in-Ok-write_block.end in
    let out2 = sink_run written failures c.args.out.now c.write_block.new.out in
    let further = come_further means file c.args.tally traces held c.in-Ok.is_last at.progress d0 d1 d2 w0 w1 w2 f0 f1 f2 here end.progress end.left.now c.in-Ok-write_block.ensures.written in
    let left = subst (λ (b : Bool). HasCome means file c.args.tally traces end.left.now b end.progress (device_run d0 d2) out2) c.if-is_last.false further in
    let same = ap length c.in-Ok-held_of.ensures in
    let few : vec_len c.in-Ok-held_of.held ≤ 268435456 = omega (arith, same, c.in-Ok-held_of.held.ok.0, c.in-Ok-write_block.ensures.few) in
    record {
      come = subst (λ (l : List ℕ). HasCome means file c.args.tally traces l false end.progress (device_run d0 d2) out2) (sym c.in-Ok-held_of.ensures) left;
      few = few;
      same_traces = c.in-Ok.ensures.same ∙ at.invariant.same_traces;
      same_out = c.in-Ok-write_block.ensures.same ∙ at.invariant.same_out;
    }

pub returns-clause-run : goal.returns-clause-run
returns-clause-run g c =
    let w0 = g.W.Sink.written c.args.out.now in
    let w1 = g.W.Sink.written c.loop-block.out in
    let f0 = g.W.Sink.failures c.args.out.now in
    let f1 = g.W.Sink.failures c.loop-block.out in
    no_memory g.F.LineForm.means c.args.run.now.file.now c.args.tally (source_run g.T.Source.handed_out g.T.Source.is_at_end g.T.Source.failures c.args.traces.now c.loop-block.traces) c.loop-block.held.items false c.loop-block.progress
    c.args.devices.now c.loop-block.devices w0 w1 f0 f1 c.loop-block.invariant.come
