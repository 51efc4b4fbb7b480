-- How a text is read on.
use Rattle.std.proofs.Common.{◌≡◌, ℕ, ◌+◌, ◌<◌, Bool, true, false, true≢false, List, [], ◌∷◌, ◌++◌, length, sym, ap, ◌∙◌, append-nil, append_assoc, arith}
use Rattle.std.proofs.lemmas.List.{length-append}
use Rattle.batch_report.specs.Reading.{ReadsFurther, ReadsOn, StopsReadingOn}
use Rattle.verdict_report.specs.declared.reading.ReadFault.TheVariants.{OutOfMemory as NoReadMemory, Device as SourceFails, TooLong}
use Rattle.verdict_report.specs.Runs.{SourceRun}

-- nothing is read yet
pub nothing_read : (before held : List ℕ) → ReadsFurther before before held held
nothing_read before held = record { bytes = []; handed = sym (append-nil before); held_is = sym (append-nil held) }

-- a run of a source by what it handed out, whether it was at its end, and how often it failed
abbrev pub handed_of : (before now : List ℕ) (was_at_end is_at_end : Bool) (failures_before failures_now : ℕ) → SourceRun
handed_of before now was_at_end is_at_end failures_before failures_now =
    record { before = before; now = now; was_at_end = was_at_end; is_at_end = is_at_end; failures_before = failures_before; failures_now = failures_now }

module _ (h0 h1 h2 : List ℕ) (held held_now : List ℕ) (read : ReadsFurther h0 h1 held held_now) where
  behind : (bytes : List ℕ) → h2 ≡ h1 ++ bytes → h2 ≡ h0 ++ (read.bytes ++ bytes)
  behind bytes handed = handed ∙ ap (λ l. l ++ bytes) read.handed ∙ append_assoc h0 read.bytes bytes

  held_with : (bytes : List ℕ) → held_now ++ bytes ≡ held ++ (read.bytes ++ bytes)
  held_with bytes = ap (λ l. l ++ bytes) read.held_is ∙ append_assoc held read.bytes bytes

  -- some more is
  pub more_read : (bytes held_then : List ℕ) → h2 ≡ h1 ++ bytes → held_then ≡ held_now ++ bytes → ReadsFurther h0 h2 held held_then
  more_read bytes held_then handed held_is = record { bytes = read.bytes ++ bytes; handed = behind bytes handed; held_is = held_is ∙ held_with bytes }

  module _ (e0 e2 : Bool) (r0 r2 : ℕ) where
    -- the end of the source
    pub ends_here : (bytes : List ℕ) → h2 ≡ h1 ++ bytes → length bytes ≡ 0 → r2 ≡ r0 → e2 ≡ true → ReadsOn (handed_of h0 h2 e0 e2 r0 r2) held held_now true
    ends_here (b ∷ bytes) handed none unfailing ended = absurd (omega (arith, none))
    ends_here [] handed none unfailing ended = record {
      further = record { bytes = read.bytes; handed = handed ∙ append-nil h1 ∙ read.handed; held_is = read.held_is };
      unfailing = unfailing;
      ended = λ yes. ended;
    }

    -- the source fails
    pub fails_here : h2 ≡ h1 → r2 ≡ r0 + 1 → StopsReadingOn (handed_of h0 h2 e0 e2 r0 r2) held SourceFails
    fails_here same failed = record { bytes = read.bytes; handed = same ∙ read.handed; stopped = failed }

    -- too much is held
    pub passes_limit : (bytes : List ℕ) → h2 ≡ h1 ++ bytes → r2 ≡ r0 → 268435456 < length held_now + length bytes → StopsReadingOn (handed_of h0 h2 e0 e2 r0 r2) held TooLong
    passes_limit bytes handed unfailing past = record {
      bytes = read.bytes ++ bytes;
      handed = behind bytes handed;
      stopped = (unfailing, (let l = ap length (held_with bytes) in let s = length-append held_now bytes in omega (arith, past, l, s)));
    }

    -- there is no memory to hold it
    pub no_room : (bytes : List ℕ) → h2 ≡ h1 ++ bytes → r2 ≡ r0 → StopsReadingOn (handed_of h0 h2 e0 e2 r0 r2) held NoReadMemory
    no_room bytes handed unfailing = record { bytes = read.bytes ++ bytes; handed = behind bytes handed; stopped = unfailing }

    -- a block is full
    pub full_here : h2 ≡ h1 → r2 ≡ r0 → ReadsOn (handed_of h0 h2 e0 e2 r0 r2) held held_now false
    full_here same unfailing = record {
      further = record { bytes = read.bytes; handed = same ∙ read.handed; held_is = read.held_is };
      unfailing = unfailing;
      ended = λ yes. absurd (true≢false (sym yes));
    }
