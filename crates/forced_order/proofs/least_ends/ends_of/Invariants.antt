use Rattle.forced_order.proofs.TimeLemmas.{EndsOfFirst}
use Rattle.forced_order.proofs.least_ends.ends_of.Given as goal

abbrev pub invariant-loop-k : goal.invariant-loop-k
invariant-loop-k l = EndsOfFirst l.processes l.ends.items l.k
