use Rattle.std.proofs.Common.{length, map}
use Rattle.std.specs.Prelude.{pos}
use Rattle.lrat_check.specs.LratFaults.{id_fault}
use Rattle.lrat_check.specs.LratText.{is_id_number}
use Rattle.lrat_check.specs.ShortNumbers.{ReadsOn}
use Rattle.lrat_check.proofs.short_numbers.push_short_ids.Given as goal

abbrev pub invariant-loop-rest : goal.invariant-loop-rest
invariant-loop-rest l = ReadsOn id_fault is_id_number (map pos l.fn.ids.items) l.fn.line (map pos l.ids.items) l.rest

abbrev pub decreases-loop-rest : goal.decreases-loop-rest
decreases-loop-rest l = length l.rest
