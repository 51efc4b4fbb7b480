-- What a file shows, as a source or as a sink.
use Rattle.std.specs.Prelude.{ℕ, Bool, List}
use Rattle.verdict_report.specs.Runs.{SourceRun, SinkRun, source_run, sink_run}

-- of a file that is read: what it did from before to now, and its path, which stays
pub record SourceView (Input : Type 0) : Type 0 where
  pub run : Input → Input → SourceRun
  pub path : Input → List ℕ

-- the same of a file that is written
pub record SinkView (Output : Type 0) : Type 0 where
  pub run : Output → Output → SinkRun
  pub path : Output → List ℕ

-- by the members of a source
abbrev pub source_view : {Input : Type 0} → (Input → List ℕ) → (Input → Bool) → (Input → ℕ) → (Input → List ℕ) → SourceView Input
source_view handed_out is_at_end failures path = record { run = source_run handed_out is_at_end failures; path = path }

-- and of a sink
abbrev pub sink_view : {Output : Type 0} → (Output → List ℕ) → (Output → ℕ) → (Output → List ℕ) → SinkView Output
sink_view written failures path = record { run = sink_run written failures; path = path }
