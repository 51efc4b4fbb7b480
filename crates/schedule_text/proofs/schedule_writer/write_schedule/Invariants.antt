use Rattle.std.proofs.Common.{◌≡◌, take}
use Rattle.schedule_text.specs.ScheduleWritten.{canonical_schedule}
use Rattle.schedule_text.proofs.schedule_writer.write_schedule.Given as goal

abbrev pub invariant-loop-name : goal.invariant-loop-name
invariant-loop-name l = l.text.items ≡ canonical_schedule (take l.name-index l.name-items)
