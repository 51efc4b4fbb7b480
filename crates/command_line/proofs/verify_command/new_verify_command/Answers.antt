-- Each step extends what a parse reads of the command.
use Rattle.std.proofs.Common.{◌≡◌, ◌∙◌, ap₂, codes, false}
use Rattle.std.proofs.lemmas.Result.{IfOk-weaker}
use Rattle.clap.specs.Words.{app_of, new_app, with_rule}
use Rattle.clap.specs.declared.builder.command.Command.TheViews.{out-Command}
use Rattle.command_line.specs.CommandLine.{budget_rule, cert_rule, required_path, rounds_rule, split_rule, workers_rule}
use Rattle.command_line.proofs.verify_command.new_verify_command.Goals as goal

pub returns-clause-app : goal.returns-clause-app
returns-clause-app c =
    let first : app_of c.in_ok-command.command ≡ with_rule (with_rule (new_app (codes "verify")) (required_path (codes "trace"))) cert_rule =
    c.in_ok-command.ensures.app ∙ ap₂ with_rule (ap₂ with_rule c.new_command.ensures.app c.trace_argument-trace.ensures.rule) c.optional_path_argument-cert.ensures.rule in
    let second : app_of c.in_ok-command-2.command ≡ with_rule (with_rule (with_rule (with_rule (new_app (codes "verify")) (required_path (codes "trace"))) cert_rule) workers_rule) split_rule =
    c.in_ok-command-2.ensures.app ∙ ap₂ with_rule (ap₂ with_rule first c.workers_argument-workers.ensures.rule) c.split_argument-split.ensures.rule in
    let third : app_of c.in_ok-command-3.command ≡ with_rule (with_rule (with_rule (with_rule (with_rule (with_rule (new_app (codes "verify")) (required_path (codes "trace"))) cert_rule) workers_rule) split_rule) budget_rule) rounds_rule =
    c.in_ok-command-3.ensures.app ∙ ap₂ with_rule (ap₂ with_rule second c.budget_argument-budget.ensures.rule) c.number_argument-rounds.ensures.rule in
    IfOk-weaker c.with_two-4.result _ _
    (λ r h. h ∙ ap₂ with_rule (ap₂ with_rule third c.progress_argument-progress.ensures.rule) c.picture_argument-picture.ensures.rule)
    c.with_two-4.ensures.app

pub returns-clause-local : goal.returns-clause-local
returns-clause-local c =
    let kept : (out-Command c.in_ok-command-3.command).has_globals ≡ false =
    c.in_ok-command-3.ensures.globals ∙ c.in_ok-command-2.ensures.globals ∙ c.in_ok-command.ensures.globals ∙ c.new_command.ensures.local in
    IfOk-weaker c.with_two-4.result _ _ (λ r h. h ∙ kept) c.with_two-4.ensures.globals
