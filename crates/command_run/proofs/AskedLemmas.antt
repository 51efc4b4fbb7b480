-- Files that are written or read if they are asked for.
use Rattle.std.specs.Borrow.{Bor}
use Rattle.std.proofs.Common.{◌≡◌, ◌∙◌, inl, inr, ℕ, Bool, true, false, true≢false, List, [], ◌∷◌, Option, None, Some, Result, ap, refl, subst, sym}
use Rattle.std.specs.Prelude.{Err}
use Rattle.verdict_report.specs.Engine.{TakeNothing}
use Rattle.verdict_report.specs.Fault.{exit_status_of}
use Rattle.verdict_report.specs.Runs.{SinkRun, SourceRun, sink_run, source_run}
use Rattle.verdict_report.specs.declared.fault.Fault.{Fault}
use Rattle.verdict_report.specs.declared.fault.Fault.TheVariants.{Device}
use Rattle.verdict_report.specs.declared.status.Status.{Status}
use Rattle.command_host.specs.HostCalls.{HostCalls}
use Rattle.command_host.specs.Streams.{SinkView, SourceView, sink_view, source_view}
use Rattle.command_run.proofs.RunLemmas.{reads_file}
use Rattle.command_run.specs.AskedFiles.{ClosesAsked, FailsToMakeAsked, MakesAsked, file_failures, file_path, file_taken}
use Rattle.command_run.specs.AskedTexts.{OpensAsked, text_failures, text_handed_out, text_is_at_end, text_path}
use Rattle.command_line.specs.CommandLine.{is_explained}
use Rattle.command_line.specs.declared.line.CommandLine.{CommandLine}
use Rattle.command_line.specs.declared.line.Line.{Line}
use Rattle.command_run.specs.CommandRun.{Draws, EndsAsked, EndsDrawn, RunsLine, TellsEnded, WithFile, WithHint}
use Rattle.command_run.specs.declared.asked_file.AskedFile.{AskedFile}
use Rattle.command_run.specs.declared.asked_file.AskedFile.TheVariants.{Made, Nowhere}
use Rattle.command_run.specs.declared.asked_text.AskedText.{AskedText}
use Rattle.command_run.specs.declared.asked_text.AskedText.TheVariants.{Absent, Opened}

-- ---- paths

abbrev is_some_path : List ℕ → Bool
is_some_path [] = false
is_some_path (mark ∷ path) = true

abbrev without_mark : List ℕ → List ℕ
without_mark [] = []
without_mark (mark ∷ path) = path

some_is_none : (path : List ℕ) → 0 ∷ path ≡ [] → ⊥
some_is_none path same = true≢false (ap is_some_path same)

same_path : (path other : List ℕ) → 0 ∷ path ≡ 0 ∷ other → path ≡ other
same_path path other same = ap without_mark same

module _ {H I O : Type 0} (calls : HostCalls H I O) where
  -- ---- a file that is written

  module _ (written : O → List ℕ) (failures : O → ℕ) (path_of : O → List ℕ) (Does : H → SinkRun → H → Type 0) (others : List SinkRun) where
    pub with_file : (from made done to : H) (path : Option (Bor (List ℕ))) (before after : AskedFile O) (outcome : Result Status Fault)
        → MakesAsked calls (sink_view written failures path_of) from path before made
        → file_path path_of after ≡ file_path path_of before
        → Does made (sink_run (file_taken written) (file_failures failures) before after) done
        → ClosesAsked calls done after to
        → WithFile calls (sink_view written failures path_of) from path Does others outcome to
    with_file from made done to (Some path) (Made before) (Made after) outcome makes same does closes = inr (record {
      before = before;
      after = after;
      made = made;
      makes = makes.0;
      no_byte_before = makes.2;
      no_failure_before = makes.3;
      path_is = same_path _ _ same ∙ makes.1;
      done = done;
      does = does;
      closes = closes;
    })
    with_file from made done to None (Nowhere before) (Nowhere after) outcome makes same does closes =
        let nowhere : SinkRun = sink_run (file_taken written) (file_failures failures) (Nowhere before) (Nowhere after) in (
          nowhere,
          makes.1,
          refl,
          refl,
          subst (λ (end : H). Does from nowhere end) (sym closes) (subst (λ (begin : H). Does begin nowhere done) makes.0 does),
        )
    with_file from made done to (Some path) (Made before) (Nowhere after) outcome makes same does closes = absurd (some_is_none _ (sym same))
    with_file from made done to None (Nowhere before) (Made after) outcome makes same does closes = absurd (some_is_none _ same)
    with_file from made done to (Some path) (Nowhere before) after outcome makes same does closes = absurd makes
    with_file from made done to None (Made before) after outcome makes same does closes = absurd makes

    pub without_file : (from to : H) (path : Option (Bor (List ℕ))) → TakeNothing others → FailsToMakeAsked calls from path to → WithFile calls (sink_view written failures path_of) from path Does others (Err Device) to
    without_file from to (Some path) nothing fails = inl (refl, nothing, fails)
    without_file from to None nothing fails = absurd fails

  -- ---- what standard error takes

  pub ends_asked : (read : SourceView I) (wrote : SinkView O) (explains : Bool) (line : Line) (out err : SinkRun) (outcome : Result Status Fault) (status : ℕ) (from to : H)
      → RunsLine calls read wrote from line out outcome to → TellsEnded explains err outcome → status ≡ exit_status_of outcome
      → EndsAsked explains calls read wrote from line out err status to
  ends_asked read wrote true line out err outcome status from to runs tells status_is = record {
    told = tells.told;
    begins = tells.begins;
    ends = record { outcome = outcome; runs = runs; tells = tells.tells; status_is = status_is };
    adds = tells.adds;
  }
  ends_asked read wrote false line out err outcome status from to runs tells status_is = record { outcome = outcome; runs = runs; tells = tells; status_is = status_is }

  -- ---- the file of a picture

  pub ends_drawn : (written : O → List ℕ) (failures : O → ℕ) (path_of : O → List ℕ) (read : SourceView I) (terminal : Bool) (asked : CommandLine) (out err : SinkRun) (status : ℕ)
      (from made ran to : H) (picture : Option (Bor (List ℕ))) (before after : AskedFile O)
      → MakesAsked calls (sink_view written failures path_of) from picture before made
      → file_path path_of after ≡ file_path path_of before
      → EndsAsked (is_explained terminal asked.explains) calls read (sink_view written failures path_of) made asked.line out err status ran
      → Draws status (sink_run (file_taken written) (file_failures failures) before after)
      → ClosesAsked calls ran after to
      → EndsDrawn picture calls read (sink_view written failures path_of) terminal from asked out err status to
  ends_drawn written failures path_of read terminal asked out err status from made ran to (Some picture) (Made before) (Made after) makes same ends draws closes = inr (record {
    before = before;
    after = after;
    made = made;
    makes = makes.0;
    no_byte_before = makes.2;
    no_failure_before = makes.3;
    path_is = same_path _ _ same ∙ makes.1;
    ran = ran;
    ends = ends;
    draws = draws;
    closes = closes;
  })
  ends_drawn written failures path_of read terminal asked out err status from made ran to None (Nowhere before) (Nowhere after) makes same ends draws closes =
      let Ends : H → H → Type 0 = λ begin end. EndsAsked (is_explained terminal asked.explains) calls read (sink_view written failures path_of) begin asked.line out err status end in
      subst (λ (end : H). Ends from end) (sym closes) (subst (λ (begin : H). Ends begin ran) makes.0 ends)
  ends_drawn written failures path_of read terminal asked out err status from made ran to (Some picture) (Made before) (Nowhere after) makes same ends draws closes = absurd (some_is_none _ (sym same))
  ends_drawn written failures path_of read terminal asked out err status from made ran to None (Nowhere before) (Made after) makes same ends draws closes = absurd (some_is_none _ same)
  ends_drawn written failures path_of read terminal asked out err status from made ran to (Some picture) (Nowhere before) after makes same ends draws closes = absurd makes
  ends_drawn written failures path_of read terminal asked out err status from made ran to None (Made before) after makes same ends draws closes = absurd makes

  -- ---- a file that is read

  pub with_hint : (handed_out : I → List ℕ) (is_at_end : I → Bool) (failures : I → ℕ) (path_of : I → List ℕ) (Does : H → SourceRun → Type 0)
      (from opened : H) (path : Option (Bor (List ℕ))) (before after : AskedText I)
      → OpensAsked calls (source_view handed_out is_at_end failures path_of) from path before opened
      → text_path path_of after ≡ text_path path_of before
      → Does opened (source_run (text_handed_out handed_out) (text_is_at_end is_at_end) (text_failures failures) before after)
      → WithHint calls (source_view handed_out is_at_end failures path_of) from path Does
  with_hint handed_out is_at_end failures path_of Does from opened (Some path) (Opened before) (Opened after) opens same does = (
    source_run handed_out is_at_end failures before.source after.source,
    opened,
    reads_file before.source after.source opens.0 opens.2 opens.3 opens.4 (same_path _ _ same ∙ opens.1),
    does,
  )
  with_hint handed_out is_at_end failures path_of Does from opened None (Absent before) (Absent after) opens same does =
      let nothing : SourceRun = source_run (text_handed_out handed_out) (text_is_at_end is_at_end) (text_failures failures) (Absent before) (Absent after) in
      (nothing, refl, refl, refl, refl, subst (λ (begin : H). Does begin nothing) opens does)
  with_hint handed_out is_at_end failures path_of Does from opened (Some path) (Opened before) (Absent after) opens same does = absurd (some_is_none _ (sym same))
  with_hint handed_out is_at_end failures path_of Does from opened None (Absent before) (Opened after) opens same does = absurd (some_is_none _ same)
  with_hint handed_out is_at_end failures path_of Does from opened (Some path) (Absent before) after opens same does = absurd opens
  with_hint handed_out is_at_end failures path_of Does from opened None (Opened before) after opens same does = absurd opens
