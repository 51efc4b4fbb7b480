-- What is said of reading a text block by block.
use Rattle.std.specs.Prelude.{◌≡◌, ◌+◌, ◌<◌, ℕ, Bool, true, List, ◌++◌, length}
use Rattle.verdict_report.specs.declared.reading.ReadFault.{ReadFault}
use Rattle.verdict_report.specs.declared.reading.ReadFault.TheVariants.{OutOfMemory as NoReadMemory, Device as SourceFails, TooLong}
use Rattle.verdict_report.specs.declared.reading.TheConstants.{MAX_INPUT_BYTES}
use Rattle.verdict_report.specs.Engine.{IsUnfailing}
use Rattle.verdict_report.specs.Runs.{SourceRun}

-- what was handed out since, and is held behind what was held
pub record ReadsFurther (before now held held_then : List ℕ) : Type 0 where
  pub bytes : List ℕ
  pub handed : now ≡ before ++ bytes
  pub held_is : held_then ≡ held ++ bytes

-- the source handed out more bytes behind those that were held, and is at its end if they are the last ones
pub record ReadsOn (source : SourceRun) (held held_then : List ℕ) (is_last : Bool) : Type 0 where
  pub further : ReadsFurther source.before source.now held held_then
  pub unfailing : IsUnfailing source
  pub ended : is_last ≡ true → source.is_at_end ≡ true

-- why no more is read, if this is what is left of the text
abbrev pub IsStopWith : SourceRun → (left : List ℕ) → ReadFault → Type 0
IsStopWith source left NoReadMemory = IsUnfailing source
IsStopWith source left SourceFails = source.failures_now ≡ source.failures_before + 1
IsStopWith source left TooLong = IsUnfailing source × (MAX_INPUT_BYTES < length left)

-- the source handed out more bytes, and then reading stopped
pub record StopsReadingOn (source : SourceRun) (held : List ℕ) (fault : ReadFault) : Type 0 where
  pub bytes : List ℕ
  pub handed : source.now ≡ source.before ++ bytes
  pub stopped : IsStopWith source (held ++ bytes) fault
