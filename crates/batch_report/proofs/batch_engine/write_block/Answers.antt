use Rattle.std.proofs.Common.{◌≡◌, ◌+◌, ◌∙◌, List, ℕ, ap, length, subst, sym}
use Rattle.batch_report.specs.declared.block.PlacedPiece.{PlacedPiece}
use Rattle.batch_report.specs.declared.piece_verdict.PieceVerdict.{PieceVerdict}
use Rattle.batch_report.specs.Findings.{findings_of}
use Rattle.batch_report.specs.FormedBatch.{StopsLines, WritesLines, device_run}
use Rattle.batch_report.specs.Outcome.{tally_with_all}
use Rattle.batch_report.proofs.EngineLemmas.{nothing_decided}
use Rattle.batch_report.proofs.FormLemmas.{count_of, verdicts_are}
use Rattle.verdict_report.specs.Runs.{sink_run}
use Rattle.batch_report.proofs.batch_engine.write_block.Goals as goal

pub returns-then-not-has_room-clause-stopped : goal.returns-then-not-has_room-clause-stopped
returns-then-not-has_room-clause-stopped g c =
    nothing_decided g.F.LineForm.means c.args.run.now.file.now c.args.is_last c.args.held.now c.args.progress c.args.devices.now (g.W.Sink.written c.args.out.now) (g.W.Sink.failures c.args.out.now)

pub returns-in-Err-clause-stopped : goal.returns-in-Err-clause-stopped
returns-in-Err-clause-stopped g c =
    nothing_decided g.F.LineForm.means c.args.run.now.file.now c.args.is_last c.args.held.now c.args.progress c.args.devices.now (g.W.Sink.written c.args.out.now) (g.W.Sink.failures c.args.out.now)

pub returns-in-Err-write_lines-clause-stopped : goal.returns-in-Err-write_lines-clause-stopped
returns-in-Err-write_lines-clause-stopped g c =
    let means = g.F.LineForm.means in
    let file = c.args.run.now.file.now in
    let number = c.args.progress.number in
    let devices = device_run c.args.devices.now c.write_lines.new.devices in
    let out = sink_run g.W.Sink.written g.W.Sink.failures c.args.out.now c.write_lines.new.out in
    let block = c.in-Ok.block in
    let of_pieces = subst (λ (ps : List PlacedPiece). StopsLines means file number (findings_of ps c.as_slice-verdicts.result.now) devices out c.in-Err-write_lines.fault) c.as_slice-pieces.ensures.value c.in-Err-write_lines.ensures.stopped in
    record {
      findings = findings_of block.pieces.items block.verdicts.items;
      before_left = block.before;
      left = block.rest.now;
      each = c.in-Ok.ensures.each;
      stops = subst (λ (vs : List PieceVerdict). StopsLines means file number (findings_of block.pieces.items vs) devices out c.in-Err-write_lines.fault) c.as_slice-verdicts.ensures.value of_pieces;
    }

pub returns-clause-written : goal.returns-clause-written
returns-clause-written g c =
    let means = g.F.LineForm.means in
    let file = c.args.run.now.file.now in
    let number = c.args.progress.number in
    let devices = device_run c.args.devices.now c.write_lines.new.devices in
    let out = sink_run g.W.Sink.written g.W.Sink.failures c.args.out.now c.write_lines.new.out in
    let block = c.in-Ok.block in
    let same = c.in-Ok.ensures.same in
    let of_pieces = subst (λ (ps : List PlacedPiece). WritesLines means file number (findings_of ps c.as_slice-verdicts.result.now) devices out) c.as_slice-pieces.ensures.value c.in-Ok-write_lines.ensures.written in
    let count = ap length c.as_slice-verdicts.ensures.value ∙ sym (count_of block.pieces.items block.verdicts.items same) in
    let verdicts = c.as_slice-verdicts.ensures.value ∙ sym (verdicts_are block.pieces.items block.verdicts.items same) in
    record {
      findings = findings_of block.pieces.items block.verdicts.items;
      each = c.in-Ok.ensures.each;
      writes = subst (λ (vs : List PieceVerdict). WritesLines means file number (findings_of block.pieces.items vs) devices out) c.as_slice-verdicts.ensures.value of_pieces;
      counted = ap (λ (n : ℕ). number + n) count;
      tallied = c.with_all.ensures ∙ ap (tally_with_all c.args.progress.tally) verdicts;
    }
