-- The two flags are two more rules.
use Rattle.std.proofs.Common.{◌∙◌, ap}
use Rattle.std.proofs.lemmas.Result.{IfOk-weaker}
use Rattle.clap.specs.Words.{Rule, app_of, rule_of, with_rule}
use Rattle.command_line.specs.CommandLine.{explain_rule}
use Rattle.command_line.proofs.building.with_explanation.Goals as goal

pub returns-clause-app : goal.returns-clause-app
returns-clause-app c =
    let app = app_of c.args.command in
    let second = rule_of c.flag_argument-no_explain.result in
    IfOk-weaker c.with_two.result _ _
    (λ r h. h ∙ (ap (λ (x : Rule). with_rule (with_rule app x) second) c.flag_argument-explain.ensures.rule
    ∙ ap (λ (x : Rule). with_rule (with_rule app explain_rule) x) c.flag_argument-no_explain.ensures.rule))
    c.with_two.ensures.app
