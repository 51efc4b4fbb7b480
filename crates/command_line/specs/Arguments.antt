-- What a parse has to give before a number or a flag is read.
use Rattle.std.specs.Prelude.{◌≡◌, ◌||◌, ℕ, List, [], Some, codes, option_map, pos, true, unwrap_or}
use Rattle.std.specs.Str.{bytes_eq}
use Rattle.clap.specs.Words.{Text, first_value, matched_of, one_text, raw_values}
use Rattle.clap.specs.Values.{IsSignedIn, IsUnsignedIn}
use Rattle.clap.specs.declared.parser.matches.Found.{Found}

-- all texts that an argument was given, in their order
abbrev pub all_texts : Found → Text → List Text
all_texts found id = unwrap_or (option_map raw_values (matched_of found id)) []

-- the argument has a text of which this is so, and that is read as it was written
pub record HasTextThat (Taken : Text → Type 0) (found : Found) (id : Text) : Type 0 where
  pub text : Text
  pub given : first_value found id ≡ Some text
  pub read : one_text found id ≡ Some text
  pub taken : Taken text

-- `--workers` has a number from 1 to 8
abbrev pub HasWorkers : Found → Type 0
HasWorkers found = HasTextThat (IsSignedIn (pos 1) (pos 8)) found (codes "workers")

-- the option has a number in this range
abbrev pub HasNumber : Text → ℕ → ℕ → Found → Type 0
HasNumber id least most found = HasTextThat (IsUnsignedIn least most) found id

-- the flag has one of the two texts of a flag
abbrev pub HasFlag : Text → Found → Type 0
HasFlag id found = HasTextThat (λ text. (bytes_eq text (codes "true") || bytes_eq text (codes "false")) ≡ true) found id
