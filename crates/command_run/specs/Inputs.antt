-- The files that a line reads.
use Rattle.std.specs.Borrow.{Bor}
use Rattle.std.specs.Prelude.{◌&&◌, ◌||◌, ℕ, Bool, false, List, [], ◌∷◌, Option, None, Some, codes}
use Rattle.std.specs.Str.{bytes_eq}
use Rattle.clap.specs.Walk.{texts}
use Rattle.command_line.specs.declared.line.Line.{Line}
use Rattle.command_line.specs.declared.line.Line.TheVariants.{Batch, Cnf, Decode, Judge, Lrat, Part, Recheck, Refusals, Survey, Verify}
use Rattle.command_run.specs.declared.inputs.InputPaths.{InputPaths}

-- no path
abbrev pub no_input : InputPaths
no_input = record { first = None; second = None; third = None }

-- one path; one, and a second one if it is given; two, and a third one if it is given
abbrev pub one_input : Bor (List ℕ) → InputPaths
one_input first = record { first = Some first; second = None; third = None }

abbrev pub one_or_two_inputs : (first : Bor (List ℕ)) → (second : Option (Bor (List ℕ))) → InputPaths
one_or_two_inputs first second = record { first = Some first; second = second; third = None }

abbrev pub several_inputs : (first second : Bor (List ℕ)) → Option (Bor (List ℕ)) → InputPaths
several_inputs first second third = record { first = Some first; second = Some second; third = third }

-- the paths of the files that a line reads, in the order in which they are handed out, but for those of a batch, which are a list of any length
abbrev pub inputs_of : Line → InputPaths
inputs_of (Judge trace schedule) = several_inputs trace schedule None
inputs_of (Cnf trace workers) = one_input trace
inputs_of (Decode trace model) = several_inputs trace model None
inputs_of (Lrat cnf proof) = several_inputs cnf proof None
inputs_of (Recheck trace cert part) = several_inputs trace cert part
inputs_of (Part trace names shows_names) = several_inputs trace names None
inputs_of (Verify trace cert numbers progress) = one_input trace
inputs_of (Survey trace files numbers progress) = one_or_two_inputs trace files.hint
inputs_of (Batch traces numbers output) = no_input
inputs_of Refusals = no_input

-- the path is that of standard input
abbrev pub is_input : List ℕ → Bool
is_input path = bytes_eq path (codes "-")

abbrev pub is_given_input : Option (Bor (List ℕ)) → Bool
is_given_input None = false
is_given_input (Some path) = is_input path.now

-- more than one of the paths is that of standard input
abbrev pub repeats_input : InputPaths → Bool
repeats_input paths =
    (is_given_input paths.first && is_given_input paths.second)
    || ((is_given_input paths.first || is_given_input paths.second) && is_given_input paths.third)

-- one of the paths is that of standard input, and so was a path before them all, or an earlier one of them is
abbrev pub repeats_among : (was_met : Bool) → List (List ℕ) → Bool
repeats_among was_met [] = false
repeats_among was_met (path ∷ paths) = (was_met && is_input path) || repeats_among (was_met || is_input path) paths

-- the line would read standard input twice
abbrev pub reads_input_twice : Line → Bool
reads_input_twice (Batch traces numbers output) = repeats_among false (texts traces.items)
reads_input_twice line = repeats_input (inputs_of line)
