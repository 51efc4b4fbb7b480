use Rattle.std.proofs.Common.{length}
use Rattle.lrat_check.specs.LratFaults.{hint_fault}
use Rattle.lrat_check.specs.LratText.{is_id_number}
use Rattle.lrat_check.specs.ShortNumbers.{ReadsOn}
use Rattle.lrat_check.proofs.short_numbers.push_short_hints.Given as goal

abbrev pub invariant-loop-rest : goal.invariant-loop-rest
invariant-loop-rest l = ReadsOn hint_fault is_id_number l.fn.hints.items l.fn.line l.hints.items l.rest

abbrev pub decreases-loop-rest : goal.decreases-loop-rest
decreases-loop-rest l = length l.rest
