use Rattle.std.specs.Prelude.{option_map}
use Rattle.trace_text.specs.Said.{said}
use Rattle.trace_text.proofs.LineWords.TimedLemmas.{seen, first_is, second_is}
use Rattle.trace_text.proofs.statement.read_statement.Goals as goal

pub returns-in-Some : goal.returns-in-Some
returns-in-Some c = first_is c.args.version (seen c.args.words.now) c.has_version_2_lines.result (said c.in-Some.statement) c.has_version_2_lines.ensures c.in-Some.ensures

pub returns-in-None : goal.returns-in-None
returns-in-None c = second_is c.args.version (seen c.args.words.now) c.has_version_2_lines.result (option_map said c.read_timed_in.result) c.has_version_2_lines.ensures c.in-None.ensures c.read_timed_in.ensures
