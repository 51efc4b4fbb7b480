use Rattle.std.proofs.Common.{take}
use Rattle.batch_report.specs.Findings.{AreLines, Reaches, findings_of}
use Rattle.batch_report.proofs.lines.lines_of.Given as goal

abbrev pub invariant-loop-at : goal.invariant-loop-at
invariant-loop-at g l = record {
  said : AreLines (g.F.LineForm.means.says l.run.file.now) l.before (findings_of (take l.at l.pieces) (take l.at l.verdicts)) l.text.items;
  moved : Reaches g.F.LineForm.means.moves l.at l.initial.devices l.devices;
}
