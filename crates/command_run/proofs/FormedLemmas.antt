-- How a batch with lines of some form goes on, file by file, and how it ends.
use Rattle.std.specs.Borrow.{Bor}
use Rattle.std.proofs.Common.{◌≡◌, ◌∙◌, ℕ, Bool, false, true, Option, None, Some, List, [], ◌∷◌, ◌++◌, length, refl, sym, ap, subst, inl, inr, append-nil, append_assoc, arith}
use Rattle.std.specs.Prelude.{Result, Ok, Err}
use Rattle.batch_report.proofs.BlockLemmas.{outcome_is, tally_more}
use Rattle.batch_report.proofs.EngineLemmas.{taken_of}
use Rattle.batch_report.proofs.FormLemmas.{verdicts_more}
use Rattle.batch_report.specs.Findings.{AreAllFound, AreLines, Finding, LineMeaning, Reaches, verdicts_of}
use Rattle.batch_report.specs.FormedBatch.{EndsEarly, device_run}
use Rattle.batch_report.specs.Outcome.{no_tally, outcome_of_tally, tally_with_all}
use Rattle.batch_report.specs.declared.tally.VerdictTally.{VerdictTally}
use Rattle.command_host.specs.HostCalls.{HostCalls}
use Rattle.command_host.specs.Streams.{SourceView}
use Rattle.command_line.specs.declared.line.BatchOutput.{BatchOutput}
use Rattle.command_run.specs.AskedFiles.{FailsToMakeAsked}
use Rattle.command_run.specs.BatchRuns.{RunsBatch}
use Rattle.command_run.specs.FormedRuns.{AreLinesOfFiles, DecidesFormed, FindsFormed, HasFormed, MakesAskedFolder, RunsBatchIf, RunsFormed, WithFolder, all_found, meaning_of}
use Rattle.command_run.specs.ReadFiles.{ReadsFile}
use Rattle.dimacs.specs.declared.sink_fault.SinkFault.{SinkFault}
use Rattle.verdict_report.specs.declared.fault.Fault.{Fault}
use Rattle.verdict_report.specs.declared.fault.Fault.TheVariants.{Device}
use Rattle.verdict_report.specs.declared.status.Status.{Status}
use Rattle.verdict_report.specs.Engine.{TakesNothing}
use Rattle.verdict_report.specs.Fault.{fault_of_sink}
use Rattle.verdict_report.specs.Runs.{SinkRun, SourceRun}

-- what was found in one more file
all_with : (found : List (List Finding)) (findings : List Finding) → all_found (found ++ findings ∷ []) ≡ all_found found ++ findings
all_with [] findings = append-nil findings
all_with (g ∷ found) findings = ap (λ (l : List Finding). g ++ l) (all_with found findings) ∙ sym (append_assoc g (all_found found) findings)

module _ {H I O : Type 0} (calls : HostCalls H I O) (read : SourceView I) (means : LineMeaning H) where
  -- ---- one more file

  finds_more : (from mid opened to : H) (paths : List (List ℕ)) (found : List (List Finding)) (path : List ℕ) (file : SourceRun) (findings : List Finding) →
      FindsFormed calls read means from paths found mid → ReadsFile calls read mid path file opened → AreAllFound file findings → Reaches means.moves (length findings) opened to →
      FindsFormed calls read means from (paths ++ path ∷ []) (found ++ findings ∷ []) to
  finds_more from mid opened to [] [] path file findings h reads are reach = (file, opened, to, subst (λ (x : H). ReadsFile calls read x path file opened) h reads, are, reach, refl)
  finds_more from mid opened to [] (g ∷ found) path file findings h reads are reach = absurd h
  finds_more from mid opened to (p ∷ paths) [] path file findings h reads are reach = absurd h
  finds_more from mid opened to (p ∷ paths) (g ∷ found) path file findings h reads are reach =
      (h.0, h.1, h.2, h.3, h.4, h.5, finds_more h.2 mid opened to paths found path file findings h.6 reads are reach)

  lines_with : (paths : List (List ℕ)) (found : List (List Finding)) (text : List ℕ) (path : List ℕ) (findings : List Finding) (lines : List ℕ) →
      AreLinesOfFiles means paths found text → AreLines (means.says path) 0 findings lines → AreLinesOfFiles means (paths ++ path ∷ []) (found ++ findings ∷ []) (text ++ lines)
  lines_with [] [] text path findings lines h are = (lines, [], ap (λ (t : List ℕ). t ++ lines) h ∙ sym (append-nil lines), are, refl)
  lines_with [] (g ∷ found) text path findings lines h are = absurd h
  lines_with (p ∷ paths) [] text path findings lines h are = absurd h
  lines_with (p ∷ paths) (g ∷ found) text path findings lines h are =
      (h.0, h.1 ++ lines, ap (λ (t : List ℕ). t ++ lines) h.2 ∙ append_assoc h.0 h.1 lines, h.3, lines_with paths found h.1 path findings lines h.4 are)

  -- nothing was asked for yet
  pub none_formed : (from : H) (w : List ℕ) (f : ℕ) → HasFormed calls read means from [] no_tally (taken_of w w f f) from
  none_formed from w f = record { found = []; finds = refl; text = []; lines = refl; whole = (sym (append-nil w), refl); tallied = refl }

  -- no failure was counted before
  ends_later : (d e : H) (w0 w1 w2 : List ℕ) (f0 f1 f2 : ℕ) (fault : SinkFault) → f1 ≡ f0 → EndsEarly means (device_run d e) (taken_of w1 w2 f1 f2) fault → EndsEarly means (device_run d e) (taken_of w0 w2 f0 f2) fault
  ends_later d e w0 w1 w2 f0 f1 f2 fault same (inl h) = inl (h.0, (let l = h.1 in omega (arith, l, same)))
  ends_later d e w0 w1 w2 f0 f1 f2 fault same (inr h) = inr (h.0, h.1 ∙ same)

  module _ (from mid to : H) (paths : List (List ℕ)) (path : List ℕ) (tally : VerdictTally) (w0 w1 w2 : List ℕ) (f0 f1 f2 : ℕ)
      (come : HasFormed calls read means from paths tally (taken_of w0 w1 f0 f1) mid) where
    -- it was decided
    pub forms_more : (then : VerdictTally) → DecidesFormed calls read means mid path tally (taken_of w1 w2 f1 f2) (Ok then) to → HasFormed calls read means from (paths ++ path ∷ []) then (taken_of w0 w2 f0 f2) to
    forms_more then file =
        let run = file.runs in
        record {
          found = come.found ++ run.findings ∷ [];
          finds = finds_more from mid file.opened to paths come.found path file.file run.findings come.finds file.reads run.are run.writes.moved;
          text = come.text ++ run.writes.text;
          lines = lines_with paths come.found come.text path run.findings run.writes.text come.lines run.writes.lines;
          whole = (
            run.writes.whole.0 ∙ ap (λ (w : List ℕ). w ++ run.writes.text) come.whole.0 ∙ append_assoc w0 come.text run.writes.text,
            run.writes.whole.1 ∙ come.whole.1,
          );
          tallied = run.tallied ∙ ap (λ (t : VerdictTally). tally_with_all t (verdicts_of run.findings)) come.tallied
              ∙ sym (tally_more no_tally (verdicts_of (all_found come.found)) (verdicts_of run.findings))
              ∙ ap (tally_with_all no_tally) (sym (verdicts_more (all_found come.found) run.findings) ∙ ap (λ (l : List Finding). verdicts_of l) (sym (all_with come.found run.findings)));
        }

    -- it was not written whole
    pub stops_formed : (all further : List (List ℕ)) → all ≡ paths ++ path ∷ further → (fault : SinkFault) → DecidesFormed calls read means mid path tally (taken_of w1 w2 f1 f2) (Err fault) to →
        (refusal : Fault) → refusal ≡ fault_of_sink fault → RunsFormed calls read means from all (taken_of w0 w2 f0 f2) (Err refusal) to
    stops_formed all further are fault file refusal is =
        let run = file.runs in
        let stops = run.stops in
        inr (record {
          first = paths;
          path = path;
          further = further;
          paths_are = are;
          found = come.found;
          between = mid;
          finds = come.finds;
          file = file.file;
          opened = file.opened;
          reads = file.reads;
          findings = run.findings;
          some = run.some;
          text = come.text;
          lines_before = come.lines;
          last_text = stops.text;
          lines = stops.lines;
          front = record {
            front = come.text ++ stops.front.front;
            back = stops.front.back;
            parts = append_assoc come.text stops.front.front stops.front.back ∙ ap (λ (l : List ℕ). come.text ++ l) stops.front.parts;
            appended = stops.front.appended ∙ ap (λ (w : List ℕ). w ++ stops.front.front) come.whole.0 ∙ append_assoc w0 come.text stops.front.front;
          };
          fault = fault;
          stop = ends_later file.opened to w0 w1 w2 f0 f1 f2 fault come.whole.1 stops.stop;
          result_is = ap Err is;
        })

  -- all were decided
  pub formed : (from to : H) (paths : List (List ℕ)) (tally : VerdictTally) (out : SinkRun) → HasFormed calls read means from paths tally out to →
      (result : Result Status Fault) → result ≡ outcome_of_tally tally → RunsFormed calls read means from paths out result to
  formed from to paths tally out come result is = inl (record {
    found = come.found;
    finds = come.finds;
    text = come.text;
    lines = come.lines;
    whole = come.whole;
    result_is = is ∙ ap outcome_of_tally come.tallied ∙ outcome_is (verdicts_of (all_found come.found));
  })

module _ {H I O : Type 0} (calls : HostCalls H I O) where
  -- ---- a folder

  module _ (Does : H → Type 0) (out : SinkRun) where
    pub with_folder : (from made : H) (folder : Option (Bor (List ℕ))) (result : Result Status Fault) (to : H) → MakesAskedFolder calls from folder made → Does made → WithFolder calls from folder Does out result to
    with_folder from made (Some folder) result to makes does = inr (made, makes, does)
    with_folder from made None result to makes does = subst Does makes does

    pub without_folder : (from to : H) (folder : Option (Bor (List ℕ))) → TakesNothing out → FailsToMakeAsked calls from folder to → WithFolder calls from folder Does out (Err Device) to
    without_folder from to (Some folder) nothing fails = inl (refl, nothing, fails)
    without_folder from to None nothing fails = absurd fails

  -- ---- what is asked for

  module _ (read : SourceView I) (from : H) (paths : List (List ℕ)) (out : SinkRun) (result : Result Status Fault) (to : H) where
    pub plain_alone : (output : BatchOutput) (more : Bool) → more ≡ false → RunsBatch calls read from paths out result to → RunsBatchIf more calls read output from paths out result to
    plain_alone output false alone runs = runs
    plain_alone output true alone runs = absurd (cc)

    pub with_more : (output : BatchOutput) (more : Bool) → more ≡ true → (is_json : Bool) → output.json ≡ is_json
        → WithFolder calls from output.keep (λ made. RunsFormed calls read (meaning_of is_json calls) made paths out result to) out result to
        → RunsBatchIf more calls read output from paths out result to
    with_more output false asked is_json json runs = absurd (cc)
    with_more output true asked is_json json runs =
        subst (λ (is_json : Bool). WithFolder calls from output.keep (λ made. RunsFormed calls read (meaning_of is_json calls) made paths out result to) out result to) (sym json) runs
