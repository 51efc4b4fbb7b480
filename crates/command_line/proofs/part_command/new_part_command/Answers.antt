-- The command reads two files, and gets one more argument.
use Rattle.std.proofs.Common.{◌∙◌, ◌||◌, ap₂}
use Rattle.std.proofs.lemmas.Result.{IfOk-weaker}
use Rattle.clap.specs.Words.{with_rule}
use Rattle.command_line.proofs.part_command.new_part_command.Goals as goal

pub returns-clause-app : goal.returns-clause-app
returns-clause-app c =
    IfOk-weaker c.arg.result _ _
    (λ r h. h.shape c.flag_argument-shows_names.ensures.local ∙ ap₂ with_rule c.in_ok-new_path_command.ensures.app c.flag_argument-shows_names.ensures.rule)
    c.arg.ensures

pub returns-clause-local : goal.returns-clause-local
returns-clause-local c =
    IfOk-weaker c.arg.result _ _ (λ r h. h.globals ∙ ap₂ ◌||◌ c.in_ok-new_path_command.ensures.local c.flag_argument-shows_names.ensures.local) c.arg.ensures
