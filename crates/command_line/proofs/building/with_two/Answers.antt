-- Each step extends what a parse reads of the command.
use Rattle.std.proofs.Common.{◌≡◌, ◌∙◌, ◌||◌, Bool, ap, false}
use Rattle.std.proofs.Math.Bool.{or-false}
use Rattle.std.proofs.lemmas.Result.{IfOk-weaker}
use Rattle.clap.specs.Words.{App, rule_of, with_rule}
use Rattle.clap.specs.declared.builder.command.Command.TheViews.{out-Command}
use Rattle.command_line.proofs.building.with_two.Goals as goal

pub returns-clause-app : goal.returns-clause-app
returns-clause-app c =
    IfOk-weaker c.arg-2.result _ _
    (λ r h. h.shape c.requires.second ∙ ap (λ (a : App). with_rule a (rule_of c.args.second)) (c.in_ok-arg.ensures.shape c.requires.first))
    c.arg-2.ensures

kept : (old one two first second : Bool) → one ≡ (old || first) → two ≡ (one || second) → first ≡ false → second ≡ false → two ≡ old
kept old one two first second made again first_not second_not =
    let before : one ≡ old = made ∙ ap (λ b. old || b) first_not ∙ or-false old in
    again ∙ ap (λ b. one || b) second_not ∙ or-false one ∙ before

pub returns-clause-globals : goal.returns-clause-globals
returns-clause-globals c =
    IfOk-weaker c.arg-2.result _ _
    (λ r h. kept (out-Command c.args.command).has_globals _ _ _ _ c.in_ok-arg.ensures.globals h.globals c.requires.first c.requires.second)
    c.arg-2.ensures
