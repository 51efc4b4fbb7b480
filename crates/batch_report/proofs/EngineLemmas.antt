-- How a batch goes on, block by block, and how it ends.
use Rattle.std.proofs.Common.{◌≡◌, ◌⊎◌, ℕ, ◌+◌, Bool, true, false, true≢false, List, [], ◌∷◌, ◌++◌, length, refl, sym, ap, ◌∙◌, subst, inl, inr, arith, append-nil, append_assoc}
use Rattle.std.specs.Prelude.{Result, Ok, Err, IfErr, IfOk}
use Rattle.std.proofs.lemmas.List.{length-append}
use Rattle.batch_report.specs.BatchEngine.{EndsWith}
use Rattle.batch_report.specs.declared.piece_verdict.PieceVerdict.{PieceVerdict}
use Rattle.batch_report.specs.declared.piece_verdict.PieceVerdict.TheVariants.{Refused}
use Rattle.batch_report.specs.declared.progress.BatchProgress.{BatchProgress}
use Rattle.batch_report.specs.declared.tally.VerdictTally.{VerdictTally}
use Rattle.batch_report.specs.Findings.{AreAllFound, AreFoundFirst, AreFoundOff, AreFoundOn, AreLines, EndsFound, FailsAtLine, Finding, LineMeaning, Reaches, verdicts_of}
use Rattle.batch_report.specs.FormedBatch.{EndsEarly, FinishesFormed, HasCome, IsRunOfFormed, StopsBlock, StopsFormed, StopsLines, StopsRefusal, WritesBlock, WritesLines, WritesRefusal, device_run, refusal_behind}
use Rattle.batch_report.specs.Outcome.{tally_with, tally_with_all}
use Rattle.batch_report.specs.Reading.{IsStopWith, ReadsOn, StopsReadingOn}
use Rattle.batch_report.proofs.BlockLemmas.{found_more, tally_more}
use Rattle.batch_report.proofs.FormLemmas.{lines_more, reaches_more, some_lines, verdicts_more}
use Rattle.batch_report.proofs.ReadingLemmas.{handed_of}
use Rattle.dimacs.specs.Sink.{AppendsFront}
use Rattle.dimacs.specs.SinkFault.{failures_told}
use Rattle.dimacs.specs.declared.sink_fault.SinkFault.{SinkFault}
use Rattle.dimacs.specs.declared.sink_fault.SinkFault.TheVariants.{OutOfMemory as NoRoom, Device as SinkFailed}
use Rattle.verdict_report.specs.declared.fault.Fault.{Fault}
use Rattle.verdict_report.specs.declared.reading.ReadFault.{ReadFault}
use Rattle.verdict_report.specs.declared.reading.ReadFault.TheVariants.{OutOfMemory as NoReadMemory, Device as SourceFails, TooLong}
use Rattle.verdict_report.specs.Engine.{TakesWhole}
use Rattle.verdict_report.specs.Fault.{fault_of_reading}
use Rattle.verdict_report.specs.Runs.{SinkRun, SourceRun}

-- a run of a sink by what it took and how often it failed
abbrev pub taken_of : (before now : List ℕ) (failures_before failures_now : ℕ) → SinkRun
taken_of before now failures_before failures_now = record { before = before; now = now; failures_before = failures_before; failures_now = failures_now }

-- findings in a text that nothing follows
on_text : (text : List ℕ) (findings : List Finding) (before : ℕ) (rest : List ℕ) → AreFoundOn 0 (text ++ []) findings before (rest ++ []) → AreFoundOn 0 text findings before rest
on_text text findings before rest on =
    subst (λ (t : List ℕ). AreFoundOn 0 t findings before rest) (append-nil text) (subst (λ (l : List ℕ). AreFoundOn 0 (text ++ []) findings before l) (append-nil rest) on)

-- nothing was taken
nothing_taken : (w text : List ℕ) → AppendsFront w w text
nothing_taken w text = record { front = []; back = text; parts = refl; appended = sym (append-nil w) }

-- ---- lines

module _ {D : Type 0} (means : LineMeaning D) (file : List ℕ) where
  -- no line was made, since there is no memory
  pub nothing_stopped : (number : ℕ) (findings : List Finding) (d : D) (w : List ℕ) (f : ℕ) → StopsLines means file number findings (device_run d d) (taken_of w w f f) NoRoom
  nothing_stopped number findings d w f =
      let some = some_lines means file number findings in
      record { text = some.0; lines = some.1; front = nothing_taken w some.0; stop = inl ((0, refl), omega arith) }

  -- a line could not be made
  pub unmade_stopped : (number : ℕ) (findings : List Finding) (d e : D) (w : List ℕ) (f : ℕ) (fault : SinkFault) → FailsAtLine means d fault e → StopsLines means file number findings (device_run d e) (taken_of w w f f) fault
  unmade_stopped number findings d e w f fault failed =
      let some = some_lines means file number findings in
      record { text = some.0; lines = some.1; front = nothing_taken w some.0; stop = inr (failed, refl) }

  -- the sink failed
  pub untaken_stopped : (number count : ℕ) (findings : List Finding) (text : List ℕ) (d e : D) (w1 w2 : List ℕ) (f1 f2 : ℕ) → AreLines (means.says file) number findings text → Reaches means.moves count d e →
      AppendsFront w1 w2 text → f2 ≡ f1 + 1 → StopsLines means file number findings (device_run d e) (taken_of w1 w2 f1 f2) SinkFailed
  untaken_stopped number count findings text d e w1 w2 f1 f2 lines moved front failed = record { text = text; lines = lines; front = front; stop = inl ((count, moved), failed) }

  module _ (d0 d1 d2 : D) (w0 w1 w2 : List ℕ) (f0 f1 f2 : ℕ) (findings : List Finding) (writes : WritesLines means file 0 findings (device_run d0 d1) (taken_of w0 w1 f0 f1)) (number : ℕ) (is : number ≡ length findings) (more : List Finding) where
    both_lines : (next : List ℕ) → AreLines (means.says file) number more next → AreLines (means.says file) 0 (findings ++ more) (writes.text ++ next)
    both_lines next lines = lines_more (means.says file) 0 findings more writes.text next writes.lines number (let e : number ≡ 0 + length findings = omega (arith, is) in e) lines

    pub writes_more : WritesLines means file number more (device_run d1 d2) (taken_of w1 w2 f1 f2) → WritesLines means file 0 (findings ++ more) (device_run d0 d2) (taken_of w0 w2 f0 f2)
    writes_more next = record {
      text = writes.text ++ next.text;
      lines = both_lines next.text next.lines;
      whole = (next.whole.0 ∙ ap (λ (w : List ℕ). w ++ next.text) writes.whole.0 ∙ append_assoc w0 writes.text next.text, next.whole.1 ∙ writes.whole.1);
      moved = reaches_more means.moves (length findings) (length more) d0 d1 d2 writes.moved next.moved (length (findings ++ more)) (length-append findings more);
    }

    ends_more : (fault : SinkFault) → EndsEarly means (device_run d1 d2) (taken_of w1 w2 f1 f2) fault → EndsEarly means (device_run d0 d2) (taken_of w0 w2 f0 f2) fault
    ends_more fault (inl early) = inl (
      (length findings + early.0.0, reaches_more means.moves (length findings) early.0.0 d0 d1 d2 writes.moved early.0.1 (length findings + early.0.0) refl),
      early.1 ∙ ap (λ (n : ℕ). n + failures_told fault) writes.whole.1,
    )
    ends_more fault (inr failed) = inr (
      record {
        count = length findings + failed.0.count;
        between = failed.0.between;
        reached = reaches_more means.moves (length findings) failed.0.count d0 d1 failed.0.between writes.moved failed.0.reached (length findings + failed.0.count) refl;
        failed = failed.0.failed;
      },
      failed.1 ∙ writes.whole.1,
    )

    pub stops_more : (fault : SinkFault) → StopsLines means file number more (device_run d1 d2) (taken_of w1 w2 f1 f2) fault → StopsLines means file 0 (findings ++ more) (device_run d0 d2) (taken_of w0 w2 f0 f2) fault
    stops_more fault stops = record {
      text = writes.text ++ stops.text;
      lines = both_lines stops.text stops.lines;
      front = record {
        front = writes.text ++ stops.front.front;
        back = stops.front.back;
        parts = append_assoc writes.text stops.front.front stops.front.back ∙ ap (λ (l : List ℕ). writes.text ++ l) stops.front.parts;
        appended = stops.front.appended ∙ ap (λ (w : List ℕ). w ++ stops.front.front) writes.whole.0 ∙ append_assoc w0 writes.text stops.front.front;
      };
      stop = ends_more fault stops.stop;
    }

-- ---- a block

-- nothing was decided
pub nothing_decided : {D : Type 0} (means : LineMeaning D) (file : List ℕ) (is_last : Bool) (held : List ℕ) (from : BatchProgress) (d : D) (w : List ℕ) (f : ℕ) → StopsBlock means file is_last held from (device_run d d) (taken_of w w f f) NoRoom
nothing_decided means file is_last held from d w f =
    record { findings = []; before_left = from.before; left = held; each = λ more ok. (refl, refl); stops = nothing_stopped means file from.number [] d w f }

-- ---- reading on

-- nothing has come yet
pub not_yet : {D : Type 0} (means : LineMeaning D) (file : List ℕ) (counted : VerdictTally) (progress : BatchProgress) (held : List ℕ) (h : List ℕ) (e : Bool) (r : ℕ) (d : D) (w : List ℕ) (f : ℕ) →
    held ≡ [] → progress.before ≡ 0 → progress.number ≡ 0 → progress.tally ≡ counted → HasCome means file counted (handed_of h h e e r r) held false progress (device_run d d) (taken_of w w f f)
not_yet means file counted progress held h e r d w f none before number tally = record {
  text = [];
  handed = sym (append-nil h);
  ended = λ yes. absurd (true≢false (sym yes));
  unfailing = refl;
  findings = [];
  each = λ more ok. (sym (ap (λ l. l ++ more) none), sym before);
  writes = record { text = []; lines = refl; whole = (sym (append-nil w), refl); moved = refl };
  counted = number;
  tallied = tally;
}

module _ {D : Type 0} (means : LineMeaning D) (file : List ℕ) (counted : VerdictTally) where
  module _ (held : List ℕ) (progress : BatchProgress) (d0 d1 : D) (out : SinkRun) (h0 h1 h2 : List ℕ) (e0 e1 e2 : Bool) (r0 r1 r2 : ℕ)
      (come : HasCome means file counted (handed_of h0 h1 e0 e1 r0 r1) held false progress (device_run d0 d1) out) where
    handed_with : (bytes : List ℕ) → h2 ≡ h1 ++ bytes → h2 ≡ h0 ++ (come.text ++ bytes)
    handed_with bytes is = is ∙ ap (λ l. l ++ bytes) come.handed ∙ append_assoc h0 come.text bytes

    each_with : (bytes more : List ℕ) → AreFoundOn 0 ((come.text ++ bytes) ++ more) come.findings progress.before ((held ++ bytes) ++ more)
    each_with bytes more =
        subst (λ (t : List ℕ). AreFoundOn 0 t come.findings progress.before ((held ++ bytes) ++ more)) (sym (append_assoc come.text bytes more))
        (subst (λ (l : List ℕ). AreFoundOn 0 (come.text ++ (bytes ++ more)) come.findings progress.before l) (sym (append_assoc held bytes more))
        (come.each (bytes ++ more) (λ yes. absurd (true≢false (sym yes)))))

    -- more is held
    pub read_further : (held_then : List ℕ) (is_last : Bool) → ReadsOn (handed_of h1 h2 e1 e2 r1 r2) held held_then is_last → HasCome means file counted (handed_of h0 h2 e0 e2 r0 r2) held_then is_last progress (device_run d0 d1) out
    read_further held_then is_last read = record {
      text = come.text ++ read.further.bytes;
      handed = handed_with read.further.bytes read.further.handed;
      ended = read.ended;
      unfailing = read.unfailing ∙ come.unfailing;
      findings = come.findings;
      each = λ more ok. subst (λ (l : List ℕ). AreFoundOn 0 ((come.text ++ read.further.bytes) ++ more) come.findings progress.before (l ++ more)) (sym read.further.held_is) (each_with read.further.bytes more);
      writes = come.writes;
      counted = come.counted;
      tallied = come.tallied;
    }

    -- more is held, as a slice
    pub read_slice : (held_then slice : List ℕ) (is_last : Bool) → slice ≡ held_then → ReadsOn (handed_of h1 h2 e1 e2 r1 r2) held held_then is_last → HasCome means file counted (handed_of h0 h2 e0 e2 r0 r2) slice is_last progress (device_run d0 d1) out
    read_slice held_then slice is_last same read = subst (λ (l : List ℕ). HasCome means file counted (handed_of h0 h2 e0 e2 r0 r2) l is_last progress (device_run d0 d1) out) (sym same) (read_further held_then is_last read)

  -- ---- one block after others

  module _ (traces : SourceRun) (held : List ℕ) (is_last : Bool) (from : BatchProgress) (d0 d1 d2 : D) (w0 w1 w2 : List ℕ) (f0 f1 f2 : ℕ)
      (come : HasCome means file counted traces held is_last from (device_run d0 d1) (taken_of w0 w1 f0 f1)) where
    pub come_further : (to : BatchProgress) (left : List ℕ) → WritesBlock means file is_last held from to left (device_run d1 d2) (taken_of w1 w2 f1 f2) →
        HasCome means file counted traces left is_last to (device_run d0 d2) (taken_of w0 w2 f0 f2)
    come_further to left block = record {
      text = come.text;
      handed = come.handed;
      ended = come.ended;
      unfailing = come.unfailing;
      findings = come.findings ++ block.findings;
      each = λ more ok. found_more 0 (come.text ++ more) come.findings from.before (held ++ more) block.findings to.before (left ++ more) (come.each more ok) (block.each more ok);
      writes = writes_more means file d0 d1 d2 w0 w1 w2 f0 f1 f2 come.findings come.writes from.number come.counted block.findings block.writes;
      counted = (let l = length-append come.findings block.findings in omega (arith, block.counted, come.counted, l));
      tallied = block.tallied ∙ ap (λ (t : VerdictTally). tally_with_all t (verdicts_of block.findings)) come.tallied
          ∙ sym (tally_more counted (verdicts_of come.findings) (verdicts_of block.findings)) ∙ ap (tally_with_all counted) (sym (verdicts_more come.findings block.findings));
    }

    -- the block was not written whole
    pub stop_writing : (fault : SinkFault) → StopsBlock means file is_last held from (device_run d1 d2) (taken_of w1 w2 f1 f2) fault → StopsFormed means file traces (device_run d0 d2) (taken_of w0 w2 f0 f2) fault
    stop_writing fault block = record {
      findings = come.findings ++ block.findings;
      some = inl (
        come.unfailing,
        (
          block.before_left,
          block.left,
          record {
            text = come.text;
            handed = come.handed;
            are_on = on_text come.text (come.findings ++ block.findings) block.before_left block.left
                (found_more 0 (come.text ++ []) come.findings from.before (held ++ []) block.findings block.before_left (block.left ++ []) (come.each [] (λ more. refl)) (block.each [] (λ more. refl)));
          },
        ),
      );
      stops = stops_more means file d0 d1 d2 w0 w1 w2 f0 f1 f2 come.findings come.writes from.number come.counted block.findings fault block.stops;
    }

  -- ---- no more is read

  module _ (held : List ℕ) (progress : BatchProgress) (h0 h1 h2 : List ℕ) (e0 e1 e2 : Bool) (r0 r1 r2 : ℕ) (d0 d1 d2 : D) (w0 w1 w2 : List ℕ) (f0 f1 f2 : ℕ)
      (come : HasCome means file counted (handed_of h0 h1 e0 e1 r0 r1) held false progress (device_run d0 d1) (taken_of w0 w1 f0 f1)) (fault : ReadFault) (stop : StopsReadingOn (handed_of h1 h2 e1 e2 r1 r2) held fault) where
    last : Finding
    last = refusal_behind progress (fault_of_reading fault)

    why_ended : (why : ReadFault) (bytes : List ℕ) → IsStopWith (handed_of h1 h2 e1 e2 r1 r2) (held ++ bytes) why → EndsWith (handed_of h0 h2 e0 e2 r0 r2) (held ++ bytes) (Refused (fault_of_reading why) ∷ [])
    why_ended NoReadMemory bytes stopped = stopped ∙ come.unfailing
    why_ended SourceFails bytes stopped = stopped ∙ ap (λ n. n + 1) come.unfailing
    why_ended TooLong bytes stopped = (stopped.0 ∙ come.unfailing, stopped.1)

    all_found : AreAllFound (handed_of h0 h2 e0 e2 r0 r2) (come.findings ++ refusal_behind progress (fault_of_reading fault) ∷ [])
    all_found = record {
      of_pieces = come.findings;
      lines = progress.before;
      rest = held ++ stop.bytes;
      on_first = record {
        text = come.text ++ stop.bytes;
        handed = handed_with held progress d0 d1 (taken_of w0 w1 f0 f1) h0 h1 h2 e0 e1 e2 r0 r1 r2 come stop.bytes stop.handed;
        are_on = on_text (come.text ++ stop.bytes) come.findings progress.before (held ++ stop.bytes)
            (each_with held progress d0 d1 (taken_of w0 w1 f0 f1) h0 h1 h2 e0 e1 e2 r0 r1 r2 come stop.bytes []);
      };
      ending = refusal_behind progress (fault_of_reading fault) ∷ [];
      ends = (refl, refl, why_ended fault stop.bytes stop.stopped);
      are = refl;
    }

    finish_refused : (tally : VerdictTally) → WritesRefusal means file progress (fault_of_reading fault) tally (device_run d1 d2) (taken_of w1 w2 f1 f2) →
        FinishesFormed means file (handed_of h0 h2 e0 e2 r0 r2) counted (device_run d0 d2) (taken_of w0 w2 f0 f2) tally
    finish_refused tally write = record {
      findings = come.findings ++ refusal_behind progress (fault_of_reading fault) ∷ [];
      are = all_found;
      writes = writes_more means file d0 d1 d2 w0 w1 w2 f0 f1 f2 come.findings come.writes progress.number come.counted (refusal_behind progress (fault_of_reading fault) ∷ []) write.0;
      tallied = write.1 ∙ ap (λ (t : VerdictTally). tally_with t (Refused (fault_of_reading fault))) come.tallied
          ∙ sym (tally_more counted (verdicts_of come.findings) (Refused (fault_of_reading fault) ∷ []))
          ∙ ap (tally_with_all counted) (sym (verdicts_more come.findings (refusal_behind progress (fault_of_reading fault) ∷ [])));
    }

    stop_refused : (stopped : SinkFault) → StopsRefusal means file progress (fault_of_reading fault) (device_run d1 d2) (taken_of w1 w2 f1 f2) stopped →
        StopsFormed means file (handed_of h0 h2 e0 e2 r0 r2) (device_run d0 d2) (taken_of w0 w2 f0 f2) stopped
    stop_refused stopped part = record {
      findings = come.findings ++ refusal_behind progress (fault_of_reading fault) ∷ [];
      some = inr all_found;
      stops = stops_more means file d0 d1 d2 w0 w1 w2 f0 f1 f2 come.findings come.writes progress.number come.counted (refusal_behind progress (fault_of_reading fault) ∷ []) stopped part;
    }

    -- what is left is refused
    pub end_refused : (refusal : Fault) → refusal ≡ fault_of_reading fault → (result : Result VerdictTally SinkFault) →
        IfOk result (λ tally. WritesRefusal means file progress refusal tally (device_run d1 d2) (taken_of w1 w2 f1 f2)) → IfErr result (StopsRefusal means file progress refusal (device_run d1 d2) (taken_of w1 w2 f1 f2)) →
        IsRunOfFormed means file (handed_of h0 h2 e0 e2 r0 r2) counted (device_run d0 d2) (taken_of w0 w2 f0 f2) result
    end_refused refusal is (Ok tally) written stopped = finish_refused tally (subst (λ (f : Fault). WritesRefusal means file progress f tally (device_run d1 d2) (taken_of w1 w2 f1 f2)) is written)
    end_refused refusal is (Err fault) written stopped = stop_refused fault (subst (λ (f : Fault). StopsRefusal means file progress f (device_run d1 d2) (taken_of w1 w2 f1 f2) fault) is stopped)

  -- ---- the end

  module _ (traces : SourceRun) (held : List ℕ) (is_last : Bool) (progress : BatchProgress) (d0 d1 : D) (w0 w1 : List ℕ) (f0 f1 : ℕ)
      (come : HasCome means file counted traces held is_last progress (device_run d0 d1) (taken_of w0 w1 f0 f1)) where
    come_on : AreFoundFirst traces come.findings progress.before held
    come_on = record { text = come.text; handed = come.handed; are_on = on_text come.text come.findings progress.before held (come.each [] (λ yes. refl)) }

    -- all has come
    pub come_to_end : is_last ≡ true → held ≡ [] → FinishesFormed means file traces counted (device_run d0 d1) (taken_of w0 w1 f0 f1) progress.tally
    come_to_end end none = record {
      findings = come.findings;
      are = record { of_pieces = come.findings; lines = progress.before; rest = held; on_first = come_on; ending = []; ends = (come.ended end, come.unfailing, none); are = sym (append-nil come.findings) };
      writes = come.writes;
      tallied = come.tallied;
    }

    -- there is no memory to go on
    pub no_memory : StopsFormed means file traces (device_run d0 d1) (taken_of w0 w1 f0 f1) NoRoom
    no_memory = record {
      findings = come.findings;
      some = inl (come.unfailing, (progress.before, held, come_on));
      stops = record {
        text = come.writes.text;
        lines = come.writes.lines;
        front = record { front = come.writes.text; back = []; parts = append-nil come.writes.text; appended = come.writes.whole.0 };
        stop = inl ((length come.findings, come.writes.moved), (let l = come.writes.whole.1 in omega (arith, l)));
      };
    }
