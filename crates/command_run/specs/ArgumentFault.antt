-- What is printed if there are no words.
use Rattle.std.specs.Prelude.{ℕ, List, codes}
use Rattle.command_run.specs.declared.arguments.ArgumentFault.{ArgumentFault}
use Rattle.command_run.specs.declared.arguments.ArgumentFault.TheVariants.{NotText, OutOfMemory}

-- the line that reports why
abbrev pub line_of : ArgumentFault → List ℕ
line_of NotText = codes "error: an argument is not UTF-8 text\n"
line_of OutOfMemory = codes "refused: memory\n"
