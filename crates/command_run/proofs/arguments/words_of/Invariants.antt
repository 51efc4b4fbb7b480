use Rattle.std.proofs.Common.{◌≡◌, ◌++◌, if◌then◌else◌, drop, map, string_bytes}
use Rattle.command_run.specs.Spelling.{spelled_out}
use Rattle.command_run.proofs.arguments.words_of.Given as goal

abbrev pub invariant-loop-text : goal.invariant-loop-text
invariant-loop-text l =
    map (λ word. word.now) l.words.items ++ (if l.may_be_option then spelled_out (map string_bytes (drop l.text-index l.text-items)) else map string_bytes (drop l.text-index l.text-items))
    ≡ spelled_out (map string_bytes l.text-items)
