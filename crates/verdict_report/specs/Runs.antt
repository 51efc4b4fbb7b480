-- What sources and sinks did in a call.
use Rattle.std.specs.Prelude.{◌≡◌, ◌≤◌, ℕ, List, ◌++◌, length, Bool, true}
use Rattle.verdict_report.specs.declared.reading.TheConstants.{MAX_INPUT_BYTES}

-- what a source did in a call: the bytes that it had handed out before and has now, whether it was at its end before and is now, and
-- its failures before and now
pub record SourceRun : Type 0 where
  pub before : List ℕ
  pub now : List ℕ
  pub was_at_end : Bool
  pub is_at_end : Bool
  pub failures_before : ℕ
  pub failures_now : ℕ

-- the same of a sink and the bytes that it has taken
pub record SinkRun : Type 0 where
  pub before : List ℕ
  pub now : List ℕ
  pub failures_before : ℕ
  pub failures_now : ℕ

-- the run of a source, by what it shows, before a call and after it
abbrev pub source_run : {S : Type 0} → (S → List ℕ) → (S → Bool) → (S → ℕ) → S → S → SourceRun
source_run handed_out is_at_end failures old new = record {
  before = handed_out old;
  now = handed_out new;
  was_at_end = is_at_end old;
  is_at_end = is_at_end new;
  failures_before = failures old;
  failures_now = failures new;
}

-- the run of a sink
abbrev pub sink_run : {S : Type 0} → (S → List ℕ) → (S → ℕ) → S → S → SinkRun
sink_run written failures old new = record {
  before = written old;
  now = written new;
  failures_before = failures old;
  failures_now = failures new;
}

-- the source handed out this text, whole and within the limit
pub record HandsOut (source : SourceRun) (text : List ℕ) : Type 0 where
  pub handed : source.now ≡ source.before ++ text
  pub ended : source.is_at_end ≡ true
  pub within_limit : length text ≤ MAX_INPUT_BYTES

-- the source handed out nothing, is at its end exactly if it was before, and did not fail
abbrev pub IsUntouched : SourceRun → Type 0
IsUntouched source = (source.now ≡ source.before) × (source.is_at_end ≡ source.was_at_end) × (source.failures_now ≡ source.failures_before)
