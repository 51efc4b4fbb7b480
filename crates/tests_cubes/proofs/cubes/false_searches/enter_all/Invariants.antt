use Rattle.std.proofs.Common.{◌≡◌}
use Rattle.result_ledger.specs.Ledger.{cubes_in}
use Rattle.tests_cubes.proofs.cubes.false_searches.enter_all.Given as goal

abbrev pub invariant-loop-settled : goal.invariant-loop-settled
invariant-loop-settled l = cubes_in l.ledger ≡ cubes_in l.initial.ledger
