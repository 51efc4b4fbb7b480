-- What the functions of a transcript and of a failure count make. Their bodies are empty, since only clauses see these values: each proof by hand gives one.
use Rattle.std.proofs.Common.{ℕ, ◌+◌, List, [], ◌++◌}
use Rattle.dimacs.specs.declared.transcript.FailureCount.{FailureCount}
use Rattle.dimacs.specs.declared.transcript.Transcript.{Transcript}

-- nothing went through the device
abbrev pub empty_transcript : Transcript
empty_transcript = record { marker = record {}; bytes = [] }

-- the transcript with these bytes at its end
abbrev pub extended : Transcript → List ℕ → Transcript
extended transcript bytes = record { marker = transcript.marker; bytes = transcript.bytes ++ bytes }

-- the device has not failed
abbrev pub no_failure : FailureCount
no_failure = record { marker = record {}; count = 0 }

-- one failure more
abbrev pub risen : FailureCount → FailureCount
risen failures = record { marker = failures.marker; count = failures.count + 1 }
