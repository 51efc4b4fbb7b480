use Rattle.std.proofs.Common.{◌∙◌, ◌++◌, List, ℕ, ap, subst, sym}
use Rattle.batch_report.specs.Findings.{Reaches, findings_of}
use Rattle.batch_report.proofs.EngineLemmas.{unmade_stopped}
use Rattle.batch_report.proofs.FormLemmas.{count_of}
use Rattle.batch_report.proofs.batch_engine.write_lines.Goals as goal

pub returns-in-Err-clause-stopped : goal.returns-in-Err-clause-stopped
returns-in-Err-clause-stopped g c =
    unmade_stopped g.F.LineForm.means c.args.run.now.file.now c.args.before (findings_of c.args.pieces.now c.args.verdicts.now) c.args.devices.now c.lines_of.new.devices (g.W.Sink.written c.args.out.now) (g.W.Sink.failures c.args.out.now)
    c.in-Err.fault c.in-Err.ensures.failed

pub returns-in-Ok-write_whole-clause-written : goal.returns-in-Ok-write_whole-clause-written
returns-in-Ok-write_whole-clause-written g c =
    let count = count_of c.args.pieces.now c.args.verdicts.now c.requires.same in
    record {
      text = c.in-Ok.lines.items;
      lines = c.in-Ok.ensures.said;
      whole = (c.in-Ok-write_whole.ensures.whole ∙ ap (λ (l : List ℕ). g.W.Sink.written c.args.out.now ++ l) c.as_slice.ensures.value, c.in-Ok-write_whole.ensures.well);
      moved = subst (λ (n : ℕ). Reaches g.F.LineForm.means.moves n c.args.devices.now c.lines_of.new.devices) (sym count) c.in-Ok.ensures.moved;
    }
