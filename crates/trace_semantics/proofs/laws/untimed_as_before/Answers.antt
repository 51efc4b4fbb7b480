use Rattle.trace_semantics.proofs.KnownOrderLemmas.{untimed_order, untimed_put}
use Rattle.trace_semantics.proofs.laws.untimed_as_before.Goals as goal

pub returns-clause-order : goal.returns-clause-order
returns-clause-order c = untimed_order

pub returns-clause-judged : goal.returns-clause-judged
returns-clause-judged c = untimed_put
