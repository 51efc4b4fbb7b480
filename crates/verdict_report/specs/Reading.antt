-- What a clause says of reading a text whole.
use Rattle.std.specs.Prelude.{◌≡◌, ◌+◌, ◌<◌, ◌≤◌, ℕ, List, ◌++◌, length, Result, Ok, Err}
use Rattle.verdict_report.specs.declared.reading.ReadFault.{ReadFault}
use Rattle.verdict_report.specs.declared.reading.ReadFault.TheVariants.{OutOfMemory, Device, TooLong}

-- the failures went from the old count to the new one: one more where the answer is a fault of the device, and else none
abbrev pub CountsFailures : {T : Type 0} → Result T ReadFault → ℕ → ℕ → Type 0
CountsFailures (Err Device) old new = new ≡ old + 1
CountsFailures (Err OutOfMemory) old new = new ≡ old
CountsFailures (Err TooLong) old new = new ≡ old
CountsFailures (Ok _) old new = new ≡ old

-- the new list is the old one and then more bytes than this number
pub record AppendsMoreThan (limit : ℕ) (old new : List ℕ) : Type 0 where
  pub more : List ℕ
  pub past : limit < length more
  pub appended : new ≡ old ++ more

-- the new list is the old one and then at most this number of bytes
pub record AppendsAtMost (limit : ℕ) (old new : List ℕ) : Type 0 where
  pub more : List ℕ
  pub within : length more ≤ limit
  pub appended : new ≡ old ++ more
