-- Each step extends what a parse reads of the command.
use Rattle.std.proofs.Common.{◌≡◌, ◌∙◌, ◌||◌, ap₂, codes}
use Rattle.std.proofs.lemmas.Result.{IfOk-weaker}
use Rattle.clap.specs.Words.{app_of, new_app, with_rule}
use Rattle.command_line.specs.CommandLine.{budget_rule, json_rule, required_paths, schedules_rule, split_rule, workers_rule}
use Rattle.command_line.proofs.batch_command.new_batch_command.Goals as goal

pub returns-clause-app : goal.returns-clause-app
returns-clause-app c =
    let first : app_of c.in_ok-command.command ≡ with_rule (with_rule (new_app (codes "batch")) (required_paths (codes "traces"))) workers_rule =
    c.in_ok-command.ensures.app ∙ ap₂ with_rule (ap₂ with_rule c.new_command.ensures.app c.paths_argument-traces.ensures.rule) c.workers_argument-workers.ensures.rule in
    let second : app_of c.in_ok-command-2.command ≡ with_rule (with_rule (with_rule (with_rule (new_app (codes "batch")) (required_paths (codes "traces"))) workers_rule) split_rule) budget_rule =
    c.in_ok-command-2.ensures.app ∙ ap₂ with_rule (ap₂ with_rule first c.split_argument-split.ensures.rule) c.budget_argument-budget.ensures.rule in
    let third : app_of c.in_ok-command-3.command ≡ with_rule (with_rule (with_rule (with_rule (with_rule (with_rule (new_app (codes "batch")) (required_paths (codes "traces"))) workers_rule) split_rule) budget_rule) json_rule) schedules_rule =
    c.in_ok-command-3.ensures.app ∙ ap₂ with_rule (ap₂ with_rule second c.flag_argument-json.ensures.rule) c.flag_argument-schedules.ensures.rule in
    IfOk-weaker c.arg.result _ _
    (λ r h. h.shape c.optional_path_argument-keep.ensures.local ∙ ap₂ with_rule third c.optional_path_argument-keep.ensures.rule)
    c.arg.ensures

pub returns-clause-local : goal.returns-clause-local
returns-clause-local c =
    IfOk-weaker c.arg.result _ _
    (λ r h. h.globals ∙ ap₂ ◌||◌ (c.in_ok-command-3.ensures.globals ∙ c.in_ok-command-2.ensures.globals ∙ c.in_ok-command.ensures.globals ∙ c.new_command.ensures.local) c.optional_path_argument-keep.ensures.local)
    c.arg.ensures
