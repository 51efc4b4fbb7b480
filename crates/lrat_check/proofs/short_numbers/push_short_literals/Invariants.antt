use Rattle.std.proofs.Common.{length}
use Rattle.lrat_check.specs.LratFaults.{literal_fault}
use Rattle.dimacs.specs.Literal.{is_literal}
use Rattle.lrat_check.specs.ShortNumbers.{ReadsOn}
use Rattle.lrat_check.proofs.short_numbers.push_short_literals.Given as goal

abbrev pub invariant-loop-digits : goal.invariant-loop-digits
invariant-loop-digits l = ReadsOn literal_fault is_literal l.fn.literals.items l.fn.line l.literals.items l.rest

abbrev pub decreases-loop-digits : goal.decreases-loop-digits
decreases-loop-digits l = length l.rest
