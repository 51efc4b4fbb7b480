use Rattle.trace_part.proofs.LatestLemmas.{AreLatestOf}
use Rattle.trace_part.proofs.sources.latest_before.Given as goal

abbrev pub invariant-loop-k : goal.invariant-loop-k
invariant-loop-k l = AreLatestOf l.order l.writers l.k l.reader l.names.items
