use Rattle.reason_text.specs.OperationNumbers.{AreNumbered}
use Rattle.reason_text.proofs.operation_table.number_processes.Given as goal

abbrev pub invariant-loop-q : goal.invariant-loop-q
invariant-loop-q l = AreNumbered l.trace l.numbers l.q
