use Rattle.std.proofs.Common.{rules, ◌∙◌, ap}
use Rattle.dimacs.specs.Assignment.{makes_true}
use Rattle.dimacs.proofs.ModelLemmas.{opposite}
use Rattle.dimacs.proofs.literal.Lit.negated.Goals as goal

pub returns-clause-opposite : goal.returns-clause-opposite
returns-clause-opposite c value = ap (makes_true value) (search rules) ∙ opposite value c.args.self (rw c.self.view_is at c.self.invariant)
