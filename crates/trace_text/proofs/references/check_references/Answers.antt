use Rattle.std.proofs.Common.{sym, ◌∙◌}
use Rattle.trace_text.proofs.LineWords.ReferenceLemmas.{none_named}
use Rattle.trace_text.proofs.references.check_references.Goals as goal

pub returns-then-not-has_version_2_lines-clause-fine : goal.returns-then-not-has_version_2_lines-clause-fine
returns-then-not-has_version_2_lines-clause-fine c = none_named c.args.version c.args.processes.now c.args.text.now (sym c.has_version_2_lines.ensures ∙ c.if-not-has_version_2_lines.true)
