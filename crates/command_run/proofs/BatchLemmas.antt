-- How a batch goes on, file by file, and how it ends.
use Rattle.std.specs.Borrow.{Bor}
use Rattle.std.proofs.Common.{◌≡◌, ◌∙◌, ℕ, ◌+◌, ◌<◌, List, [], ◌∷◌, ◌++◌, length, refl, sym, ap, subst, inl, inr, suc, take, drop, get_or, drop-cons, append-nil, append_assoc, arith}
use Rattle.std.specs.Prelude.{Result, Ok, Err}
use Rattle.std.proofs.lemmas.List.{map-append, take-append-drop, take_more}
use Rattle.batch_report.proofs.BlockLemmas.{outcome_is, tally_more}
use Rattle.batch_report.proofs.EngineLemmas.{taken_of}
use Rattle.batch_report.specs.BatchEngine.{AreFindings}
use Rattle.batch_report.specs.BatchLines.{batch_lines}
use Rattle.batch_report.specs.Outcome.{no_tally, outcome_of_tally, tally_with_all}
use Rattle.batch_report.specs.declared.piece_verdict.PieceVerdict.{PieceVerdict}
use Rattle.batch_report.specs.declared.tally.VerdictTally.{VerdictTally}
use Rattle.clap.specs.Walk.{texts}
use Rattle.command_host.specs.HostCalls.{HostCalls}
use Rattle.command_host.specs.Streams.{SourceView}
use Rattle.command_run.specs.BatchRuns.{DecidesFile, FindsInFiles, HasDecided, RunsBatch, all_findings, lines_of_files}
use Rattle.command_run.specs.ReadFiles.{ReadsFile}
use Rattle.dimacs.specs.declared.sink_fault.SinkFault.{SinkFault}
use Rattle.verdict_report.specs.declared.fault.Fault.{Fault}
use Rattle.verdict_report.specs.declared.status.Status.{Status}
use Rattle.verdict_report.specs.Fault.{fault_of_sink}
use Rattle.verdict_report.specs.Runs.{SinkRun, SourceRun}

-- ---- the paths

-- the one at a place, and those before it
pub texts_more : (paths : List (Bor (List ℕ))) (at : ℕ) (d : Bor (List ℕ)) → at < length paths → texts (take at paths) ++ (get_or paths at d).now ∷ [] ≡ texts (take (at + 1) paths)
texts_more paths at d within =
    sym (map-append (λ (p : Bor (List ℕ)). p.now) (take at paths) (get_or paths at d ∷ [])) ∙ ap texts (sym (take_more paths at d within))

-- and those after it
pub texts_around : (paths : List (Bor (List ℕ))) (at : ℕ) (d : Bor (List ℕ)) → at < length paths → texts paths ≡ texts (take at paths) ++ (get_or paths at d).now ∷ texts (drop (suc at) paths)
texts_around paths at d within =
    ap texts (sym (take-append-drop at paths) ∙ ap (λ (l : List (Bor (List ℕ))). take at paths ++ l) (drop-cons paths at d within))
    ∙ map-append (λ (p : Bor (List ℕ)). p.now) (take at paths) (get_or paths at d ∷ drop (suc at) paths)

module _ {H I O : Type 0} (calls : HostCalls H I O) (read : SourceView I) where
  -- ---- one more file

  finds_more : (from mid to : H) (paths : List (List ℕ)) (found : List (List PieceVerdict)) (path : List ℕ) (file : SourceRun) (findings : List PieceVerdict) →
      FindsInFiles calls read from paths found mid → ReadsFile calls read mid path file to → AreFindings file findings → FindsInFiles calls read from (paths ++ path ∷ []) (found ++ findings ∷ []) to
  finds_more from mid to [] [] path file findings h reads are = (file, to, subst (λ (x : H). ReadsFile calls read x path file to) h reads, are, refl)
  finds_more from mid to [] (g ∷ found) path file findings h reads are = absurd h
  finds_more from mid to (p ∷ paths) [] path file findings h reads are = absurd h
  finds_more from mid to (p ∷ paths) (g ∷ found) path file findings h reads are = (h.0, h.1, h.2, h.3, finds_more h.1 mid to paths found path file findings h.4 reads are)

  lines_with : (from mid : H) (paths : List (List ℕ)) (found : List (List PieceVerdict)) (path : List ℕ) (findings : List PieceVerdict) →
      FindsInFiles calls read from paths found mid → lines_of_files (paths ++ path ∷ []) (found ++ findings ∷ []) ≡ lines_of_files paths found ++ batch_lines path 0 findings
  lines_with from mid [] [] path findings h = append-nil (batch_lines path 0 findings)
  lines_with from mid [] (g ∷ found) path findings h = absurd h
  lines_with from mid (p ∷ paths) [] path findings h = absurd h
  lines_with from mid (p ∷ paths) (g ∷ found) path findings h =
      ap (λ (l : List ℕ). batch_lines p 0 g ++ l) (lines_with h.1 mid paths found path findings h.4)
      ∙ sym (append_assoc (batch_lines p 0 g) (lines_of_files paths found) (batch_lines path 0 findings))

  all_with : (found : List (List PieceVerdict)) (findings : List PieceVerdict) → all_findings (found ++ findings ∷ []) ≡ all_findings found ++ findings
  all_with [] findings = append-nil findings
  all_with (g ∷ found) findings = ap (λ (l : List PieceVerdict). g ++ l) (all_with found findings) ∙ sym (append_assoc g (all_findings found) findings)

  -- nothing was asked for yet
  pub none_decided : (from : H) (w : List ℕ) (f : ℕ) → HasDecided calls read from [] no_tally (taken_of w w f f) from
  none_decided from w f = record { found = []; finds = refl; whole = (sym (append-nil w), refl); tallied = refl }

  module _ (from mid to : H) (paths : List (List ℕ)) (path : List ℕ) (tally : VerdictTally) (w0 w1 w2 : List ℕ) (f0 f1 f2 : ℕ)
      (come : HasDecided calls read from paths tally (taken_of w0 w1 f0 f1) mid) where
    -- it was decided
    pub decides_more : (then : VerdictTally) → DecidesFile calls read mid path tally (taken_of w1 w2 f1 f2) (Ok then) to → HasDecided calls read from (paths ++ path ∷ []) then (taken_of w0 w2 f0 f2) to
    decides_more then file =
        let run = file.runs in
        let lines = lines_with from mid paths come.found path run.findings come.finds in
        record {
          found = come.found ++ run.findings ∷ [];
          finds = finds_more from mid to paths come.found path file.file run.findings come.finds file.reads run.are;
          whole = (
            run.whole.0 ∙ ap (λ (w : List ℕ). w ++ batch_lines path 0 run.findings) come.whole.0
                ∙ append_assoc w0 (lines_of_files paths come.found) (batch_lines path 0 run.findings) ∙ ap (λ (l : List ℕ). w0 ++ l) (sym lines),
            run.whole.1 ∙ come.whole.1,
          );
          tallied = run.tallied ∙ ap (λ (t : VerdictTally). tally_with_all t run.findings) come.tallied
              ∙ sym (tally_more no_tally (all_findings come.found) run.findings) ∙ ap (tally_with_all no_tally) (sym (all_with come.found run.findings));
        }

    -- it was not written whole
    pub stops_here : (all further : List (List ℕ)) → all ≡ paths ++ path ∷ further → (fault : SinkFault) → DecidesFile calls read mid path tally (taken_of w1 w2 f1 f2) (Err fault) to →
        (refusal : Fault) → refusal ≡ fault_of_sink fault → RunsBatch calls read from all (taken_of w0 w2 f0 f2) (Err refusal) to
    stops_here all further are fault file refusal is =
        let run = file.runs in
        inr (record {
          first = paths;
          path = path;
          further = further;
          paths_are = are;
          found = come.found;
          between = mid;
          finds = come.finds;
          file = file.file;
          reads = file.reads;
          findings = run.findings;
          some = run.some;
          front = record {
            front = lines_of_files paths come.found ++ run.front.front;
            back = run.front.back;
            parts = append_assoc (lines_of_files paths come.found) run.front.front run.front.back ∙ ap (λ (l : List ℕ). lines_of_files paths come.found ++ l) run.front.parts;
            appended = run.front.appended ∙ ap (λ (w : List ℕ). w ++ run.front.front) come.whole.0 ∙ append_assoc w0 (lines_of_files paths come.found) run.front.front;
          };
          fault = fault;
          failures = (let l = run.failures in omega (arith, l, come.whole.1));
          result_is = ap Err is;
        })

  -- all were decided
  pub finishes : (from to : H) (paths : List (List ℕ)) (tally : VerdictTally) (out : SinkRun) → HasDecided calls read from paths tally out to →
      (result : Result Status Fault) → result ≡ outcome_of_tally tally → RunsBatch calls read from paths out result to
  finishes from to paths tally out come result is = inl (record {
    found = come.found;
    finds = come.finds;
    whole = come.whole;
    result_is = is ∙ ap outcome_of_tally come.tallied ∙ outcome_is (all_findings come.found);
  })
