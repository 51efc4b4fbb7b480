use Rattle.std.proofs.Common.{length}
use Rattle.schedule_text.proofs.ScheduleLemmas.{IsReadSoFar}
use Rattle.schedule_text.proofs.schedule_reader.read_schedule.Given as goal

abbrev pub invariant-loop-line : goal.invariant-loop-line
invariant-loop-line l = IsReadSoFar l.limits l.text l.number l.rest l.names.items

abbrev pub decreases-loop-line : goal.decreases-loop-line
decreases-loop-line l = length l.rest
