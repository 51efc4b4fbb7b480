-- Each step extends what a parse reads of the command.
use Rattle.std.proofs.Common.{◌≡◌, ◌∙◌, ◌||◌, ap₂, codes}
use Rattle.std.proofs.lemmas.Result.{IfOk-weaker}
use Rattle.clap.specs.Words.{app_of, new_app, with_rule}
use Rattle.command_line.specs.CommandLine.{cert_rule, names_rule, part_rule, picture_rule, progress_rule, required_path, steps_rule, workers_rule}
use Rattle.command_line.proofs.survey_command.new_survey_command.Goals as goal

pub returns-clause-app : goal.returns-clause-app
returns-clause-app c =
    let first : app_of c.in_ok-command.command ≡ with_rule (with_rule (new_app (codes "survey")) (required_path (codes "trace"))) cert_rule =
    c.in_ok-command.ensures.app ∙ ap₂ with_rule (ap₂ with_rule c.new_command.ensures.app c.trace_argument-trace.ensures.rule) c.optional_path_argument-cert.ensures.rule in
    let second : app_of c.in_ok-command-2.command ≡ with_rule (with_rule (with_rule (with_rule (new_app (codes "survey")) (required_path (codes "trace"))) cert_rule) names_rule) part_rule =
    c.in_ok-command-2.ensures.app ∙ ap₂ with_rule (ap₂ with_rule first c.optional_path_argument-names.ensures.rule) c.optional_path_argument-part.ensures.rule in
    let third : app_of c.in_ok-command-3.command ≡ with_rule (with_rule (with_rule (with_rule (with_rule (with_rule (new_app (codes "survey")) (required_path (codes "trace"))) cert_rule) names_rule) part_rule) steps_rule) workers_rule =
    c.in_ok-command-3.ensures.app ∙ ap₂ with_rule (ap₂ with_rule second c.number_argument-budget.ensures.rule) c.workers_argument-workers.ensures.rule in
    let fourth : app_of c.in_ok-command-4.command ≡ with_rule (with_rule (with_rule (with_rule (with_rule (with_rule (with_rule (with_rule (new_app (codes "survey")) (required_path (codes "trace"))) cert_rule) names_rule) part_rule) steps_rule) workers_rule) progress_rule) picture_rule =
    c.in_ok-command-4.ensures.app ∙ ap₂ with_rule (ap₂ with_rule third c.progress_argument-progress.ensures.rule) c.picture_argument-picture.ensures.rule in
    IfOk-weaker c.arg.result _ _
    (λ r h. h.shape c.optional_path_argument-hint.ensures.local ∙ ap₂ with_rule fourth c.optional_path_argument-hint.ensures.rule)
    c.arg.ensures

pub returns-clause-local : goal.returns-clause-local
returns-clause-local c =
    IfOk-weaker c.arg.result _ _
    (λ r h. h.globals ∙ ap₂ ◌||◌ (c.in_ok-command-4.ensures.globals ∙ c.in_ok-command-3.ensures.globals ∙ c.in_ok-command-2.ensures.globals ∙ c.in_ok-command.ensures.globals ∙ c.new_command.ensures.local) c.optional_path_argument-hint.ensures.local)
    c.arg.ensures
