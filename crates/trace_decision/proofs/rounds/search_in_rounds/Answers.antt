use Rattle.std.proofs.Common.{◌≡◌, ℕ, ◌∙◌, subst, arith}
use Rattle.trace_decision.proofs.RoundLemmas.{AreUnderWay, ended_here, first_round, last_round, searched_again}
use Rattle.trace_decision.proofs.rounds.search_in_rounds.Goals as goal

pub returns-in-Ended-clause-ended : goal.returns-in-Ended-clause-ended
returns-in-Ended-clause-ended g c =
    ended_here c.args.clauses.now c.args.options.now c.loop-round._round c.as_slice.result.now c.loop-round.decided c.in_ok-last.field-0 c.in-Ended.last
    (omega (arith, c.loop-round-test.true, c.rounds-round-end.ensures.rounds)) (c.as_slice.ensures.value ∙ c.in_ok-variables.ensures) c.loop-round.invariant c.in_ok-last.ensures c.in-Ended.is

pub returns-clause-ended : goal.returns-clause-ended
returns-clause-ended g c =
    let whole : c.loop-round._round ≡ c.args.options.now.rounds = omega (arith, c.loop-round-test.false, c.loop-round.auto._round-end, c.rounds-round-end.ensures) in
    last_round c.args.clauses.now c.args.options.now c.loop-round.decided (subst (λ (round : ℕ). AreUnderWay c.args.clauses.now c.args.options.now round c.loop-round.decided) whole c.loop-round.invariant)

pub loop-round-init : goal.loop-round-init
loop-round-init g c = first_round c.args.clauses.now c.args.options.now c.in_ok-decided.decided c.in_ok-decided.ensures.confirmed c.in_ok-decided.ensures.searched

pub loop-round-preserved : goal.loop-round-preserved
loop-round-preserved g c =
    searched_again c.args.clauses.now c.args.options.now c.loop-round._round c.as_slice.result.now c.loop-round.decided c.in_ok-last.field-0 c.in-Searched.next
    (c.as_slice.ensures.value ∙ c.in_ok-variables.ensures) c.loop-round.invariant c.in_ok-last.ensures c.in-Searched.is
