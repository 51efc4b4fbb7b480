use Rattle.trace_decision.proofs.RoundLemmas.{AreUnderWay}
use Rattle.trace_decision.proofs.rounds.search_in_rounds.Given as goal

abbrev pub invariant-loop-round : goal.invariant-loop-round
invariant-loop-round g l = AreUnderWay l.clauses l.options l._round l.decided
