-- What a run in the plain form says of plain lines.
use Rattle.std.proofs.Common.{◌≡◌, ◌⊎◌, ◌+◌, ℕ, List, [], ◌∷◌, ◌++◌, length, refl, sym, ap, ◌∙◌, subst, inl, inr, arith}
use Rattle.std.specs.Prelude.{Result, Ok, Err}
use Rattle.batch_report.specs.BatchEngine.{AreFindings, AreSomeFindings, EndsWith, IsRunOfBatch}
use Rattle.batch_report.specs.BatchLines.{batch_lines}
use Rattle.batch_report.specs.Blocks.{AreVerdictsOn}
use Rattle.batch_report.specs.declared.piece_verdict.PieceVerdict.{PieceVerdict}
use Rattle.batch_report.specs.declared.tally.VerdictTally.{VerdictTally}
use Rattle.batch_report.specs.Findings.{AreAllFound, AreFoundOn, AreSomeFound, EndsFound, Finding, verdicts_of}
use Rattle.batch_report.specs.FormedBatch.{EndsEarly, IsRunOfFormed, device_run}
use Rattle.batch_report.specs.PlainLines.{fails_for_memory, plain_meaning}
use Rattle.batch_report.proofs.EngineLemmas.{taken_of}
use Rattle.batch_report.proofs.FormLemmas.{plain_lines, verdicts_more}
use Rattle.dimacs.specs.declared.sink_fault.SinkFault.{SinkFault}
use Rattle.dimacs.specs.declared.sink_fault.SinkFault.TheVariants.{OutOfMemory as NoRoom, Device as SinkFailed}
use Rattle.dimacs.specs.Sink.{AppendsFront}
use Rattle.dimacs.specs.SinkFault.{failures_told}
use Rattle.text_lines.specs.Lines.{lines_of}
use Rattle.verdict_report.specs.Runs.{SourceRun}

-- ---- what is found

verdicts_on : (before : ℕ) (text : List ℕ) (findings : List Finding) (b : ℕ) (r : List ℕ) → AreFoundOn before text findings b r → AreVerdictsOn before text (verdicts_of findings) b r
verdicts_on before text [] b r h = h
verdicts_on before text (f ∷ findings) b r h =
    record { piece = f.piece; after = h.after; cut = h.cut; is_on = h.is_on; others = verdicts_on (before + length (lines_of f.piece)) h.after findings b r h.others }

ends_with : (traces : SourceRun) (lines : ℕ) (rest : List ℕ) (ending : List Finding) → EndsFound traces lines rest ending → EndsWith traces rest (verdicts_of ending)
ends_with traces lines rest [] ends = ends
ends_with traces lines rest (f ∷ []) ends = ends.2
ends_with traces lines rest (f ∷ (g ∷ findings)) ends = absurd ends

all_findings : (traces : SourceRun) (findings : List Finding) → AreAllFound traces findings → AreFindings traces (verdicts_of findings)
all_findings traces findings all = record {
  verdicts = verdicts_of all.of_pieces;
  rest = all.rest;
  on_first = record { text = all.on_first.text; handed = all.on_first.handed; lines = all.lines; are_on = verdicts_on 0 all.on_first.text all.of_pieces all.lines all.rest all.on_first.are_on };
  ending = verdicts_of all.ending;
  ends = ends_with traces all.lines all.rest all.ending all.ends;
  are = ap verdicts_of all.are ∙ verdicts_more all.of_pieces all.ending;
}

some_findings : (traces : SourceRun) (findings : List Finding) → AreSomeFound traces findings → AreSomeFindings traces (verdicts_of findings)
some_findings traces findings (inl first) = inl (
  first.0,
  (
    first.1.1,
    record { text = first.1.2.text; handed = first.1.2.handed; lines = first.1.0; are_on = verdicts_on 0 first.1.2.text findings first.1.0 first.1.1 first.1.2.are_on },
  ),
)
some_findings traces findings (inr all) = inr (all_findings traces findings all)

-- ---- how it ends

module _ {D : Type 0} (d0 d1 : D) (w0 w1 : List ℕ) (f0 f1 : ℕ) where
  fails_plain : (fault : SinkFault) (d e : D) → fails_for_memory d fault e → f1 ≡ f0 → f1 ≡ f0 + failures_told fault
  fails_plain NoRoom d e failed well = omega (arith, well)
  fails_plain SinkFailed d e failed well = absurd failed

  failures_are : (fault : SinkFault) → EndsEarly plain_meaning (device_run d0 d1) (taken_of w0 w1 f0 f1) fault → f1 ≡ f0 + failures_told fault
  failures_are fault (inl early) = early.1
  failures_are fault (inr failed) = fails_plain fault failed.0.between d1 failed.0.failed failed.1

  -- a run in the plain form writes plain lines
  pub plain_run : (file : List ℕ) (traces : SourceRun) (counted : VerdictTally) (result : Result VerdictTally SinkFault) →
      IsRunOfFormed plain_meaning file traces counted (device_run d0 d1) (taken_of w0 w1 f0 f1) result → IsRunOfBatch file traces counted (taken_of w0 w1 f0 f1) result
  plain_run file traces counted (Ok tally) run = record {
    findings = verdicts_of run.findings;
    are = all_findings traces run.findings run.are;
    whole = (run.writes.whole.0 ∙ ap (λ (l : List ℕ). w0 ++ l) (plain_lines file 0 run.findings run.writes.text run.writes.lines), run.writes.whole.1);
    tallied = run.tallied;
  }
  plain_run file traces counted (Err fault) run = record {
    findings = verdicts_of run.findings;
    some = some_findings traces run.findings run.some;
    front = subst (λ (t : List ℕ). AppendsFront w0 w1 t) (plain_lines file 0 run.findings run.stops.text run.stops.lines) run.stops.front;
    failures = failures_are fault run.stops.stop;
  }
