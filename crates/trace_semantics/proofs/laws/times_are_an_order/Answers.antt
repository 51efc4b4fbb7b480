use Rattle.trace_semantics.specs.KnownOrder.{span_at}
use Rattle.trace_semantics.proofs.KnownOrderLemmas.{ends_on, not_itself, span_of_name}
use Rattle.trace_semantics.proofs.laws.times_are_an_order.Goals as goal

pub returns-clause-apart : goal.returns-clause-apart
returns-clause-apart c = λ t n ok. not_itself (span_at t n) (span_of_name t ok n)

pub returns-clause-onwards : goal.returns-clause-onwards
returns-clause-onwards c = λ t m n o ok first second. ends_on (span_at t m) (span_at t n) (span_at t o) (span_of_name t ok n) first second
