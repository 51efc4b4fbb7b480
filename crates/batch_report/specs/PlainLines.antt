-- The plain form of a line.
use Rattle.std.specs.Prelude.{◌≡◌, ℕ, List, refl}
use Rattle.batch_report.specs.BatchLines.{batch_line}
use Rattle.batch_report.specs.Findings.{Finding, LineMeaning}
use Rattle.dimacs.specs.declared.sink_fault.SinkFault.{SinkFault}
use Rattle.dimacs.specs.declared.sink_fault.SinkFault.TheVariants.{OutOfMemory, Device}

-- nothing is done with devices
abbrev pub stays : {D : Type 0} → D → D → Type 0
stays from to = to ≡ from

-- so only memory can run out
abbrev pub fails_for_memory : {D : Type 0} → D → SinkFault → D → Type 0
fails_for_memory from OutOfMemory to = to ≡ from
fails_for_memory from Device to = ⊥

-- the line is the plain one
abbrev pub is_plain_line : List ℕ → ℕ → Finding → List ℕ → Type 0
is_plain_line file number finding line = line ≡ batch_line file number finding.verdict

abbrev pub plain_meaning : {D : Type 0} → LineMeaning D
plain_meaning = record { says = is_plain_line; says_some = λ file number finding. (batch_line file number finding.verdict, refl); moves = stays; fails = fails_for_memory }
