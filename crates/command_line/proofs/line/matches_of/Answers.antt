-- The command that is built is `vsc_app`, so the clauses of the parse speak of it.
use Rattle.std.proofs.Common.{◌∙◌, ap}
use Rattle.std.proofs.lemmas.Result.{IfErr-weaker, IfOk-weaker}
use Rattle.clap.specs.Words.{fault_of, is_simple, is_simple_and_free, subcommand_of, takes}
use Rattle.clap.specs.Walk.{texts}
use Rattle.clap.proofs.FaultLemmas.{fails_as}
use Rattle.command_line.proofs.line.matches_of.Goals as goal

pub returns-clause-ok : goal.returns-clause-ok
returns-clause-ok c =
    let is = c.in_ok-new_program.ensures in
    let parse = c.try_get_matches_from in
    IfOk-weaker parse.result _ _ (λ m h. (h (ap is_simple is)).1 ∙ ap (λ a. subcommand_of a (texts c.args.words.now)) is)
    parse.ensures.matches

pub returns-clause-kinds : goal.returns-clause-kinds
returns-clause-kinds c =
    let is = c.in_ok-new_program.ensures in
    let parse = c.try_get_matches_from in
    fails_as parse.result _ _ (ap (λ a. fault_of a (texts c.args.words.now)) is) (parse.ensures.kinds (ap is_simple_and_free is))

pub returns-clause-memory : goal.returns-clause-memory
returns-clause-memory c =
    let is = c.in_ok-new_program.ensures in
    let parse = c.try_get_matches_from in
    IfErr-weaker parse.result _ _ (λ e h taken. h (ap (λ a. takes a (texts c.args.words.now)) is ∙ taken)) parse.ensures.passes
