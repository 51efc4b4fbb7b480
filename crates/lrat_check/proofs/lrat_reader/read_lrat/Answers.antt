use Rattle.std.proofs.Common.{◌+◌, List, sym, subst}
use Rattle.std.proofs.lemmas.Option.{MatchOption-at_some, MatchOption-at_none}
use Rattle.lrat_check.specs.declared.derivation.Step.{Step}
use Rattle.lrat_check.proofs.DerivationText.DerivationTextLemmas.{IsReadSoFar, at_start, turn_skipped, turn_step}
use Rattle.lrat_check.proofs.lrat_reader.read_lrat.Goals as goal

pub loop-line-init : goal.loop-line-init
loop-line-init c = subst (λ (steps : List Step). IsReadSoFar c.args.text.now 0 c.args.text.now steps) (sym c.new-steps.ensures.items) (at_start c.args.text.now)

pub loop-line-preserved-in_ok-push : goal.loop-line-preserved-in_ok-push
loop-line-preserved-in_ok-push c =
    let new = MatchOption-at_some _ _ c.in-Some-2.step c.in-Some-2.is c.in_ok-step.ensures in
    let read = turn_step _ _ _ _ _ _ c.in-Some-2.step c.loop-line.invariant c.in-Some.ensures.lines c.in-Some.ensures.shorter new in
    subst (λ (steps : List Step). IsReadSoFar c.args.text.now (c.loop-line.number + 1) c.in-Some.after.now steps) (sym c.in_ok-push.ensures.items) read

pub loop-line-preserved : goal.loop-line-preserved
loop-line-preserved c = turn_skipped _ _ _ _ _ _ c.loop-line.invariant c.in-Some.ensures.lines c.in-Some.ensures.shorter (MatchOption-at_none _ _ c.in_default-2.is c.in_ok-step.ensures)
