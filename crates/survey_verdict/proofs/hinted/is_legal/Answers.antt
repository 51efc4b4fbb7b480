use Rattle.std.proofs.Common.{refl, subst}
use Rattle.trace_semantics.specs.declared.judgement.Judgement.{Judgement}
use Rattle.trace_semantics.specs.Judgement.{IsJudgement}
use Rattle.survey_verdict.proofs.FindingLemmas.{not_legal}
use Rattle.survey_verdict.proofs.hinted.is_legal.Goals as goal

pub returns-in-Legal : goal.returns-in-Legal
returns-in-Legal c =
    (c.legal_exactly_where_faultless.ensures c.args.trace.now c.args.schedule.now c.recall_invariant.ensures).0
    (subst (λ (j : Judgement). IsJudgement c.args.trace.now c.args.schedule.now j) c.in-Legal.is c.in_ok-judge.ensures)

pub returns-in-Illegal : goal.returns-in-Illegal
returns-in-Illegal c =
    not_legal c.legal_exactly_where_faultless.ensures c.one_judgement.ensures c.args.trace.now c.recall_invariant.ensures c.args.schedule.now c.args.schedule.now refl
    c.in_ok-judge.field-0 c.in_ok-judge.ensures c.in-Illegal._cause c.in-Illegal._place c.in-Illegal.is
