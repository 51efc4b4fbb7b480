-- What is known of a fault of the command line by its kind.
use Rattle.std.specs.Prelude.{ℕ, Bool, true, false, List, [], ◌∷◌, ◌++◌, Option, Some, None, codes, if◌then◌else◌}
use Rattle.clap.specs.declared.error.kind.ErrorKind.{ErrorKind}
use Rattle.clap.specs.declared.error.kind.ErrorKind.TheVariants.{DisplayHelp, DisplayVersion, OutOfMemory}

-- the help or the version was asked for
abbrev pub is_answer : ErrorKind → Bool
is_answer DisplayHelp = true
is_answer DisplayVersion = true
is_answer _ = false

-- the exit status
abbrev pub status_of : ErrorKind → ℕ
status_of kind = if is_answer kind then 0 else 2

-- what is printed where memory runs out; the other texts are not stated
abbrev pub text_on_memory : ErrorKind → Option (List ℕ)
text_on_memory OutOfMemory = Some (codes "refused: memory" ++ 10 ∷ [])
text_on_memory _ = None
