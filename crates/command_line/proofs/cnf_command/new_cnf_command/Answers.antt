-- The command is new, and gets a path and an option.
use Rattle.std.proofs.Common.{◌∙◌, ap₂}
use Rattle.std.proofs.lemmas.Result.{IfOk-weaker}
use Rattle.clap.specs.Words.{with_rule}
use Rattle.command_line.proofs.cnf_command.new_cnf_command.Goals as goal

pub returns-clause-app : goal.returns-clause-app
returns-clause-app c =
    IfOk-weaker c.with_two.result _ _
    (λ r h. h ∙ ap₂ with_rule (ap₂ with_rule c.new_command.ensures.app c.trace_argument-trace.ensures.rule) c.workers_argument-workers.ensures.rule)
    c.with_two.ensures.app

pub returns-clause-local : goal.returns-clause-local
returns-clause-local c = IfOk-weaker c.with_two.result _ _ (λ r h. h ∙ c.new_command.ensures.local) c.with_two.ensures.globals
