use Rattle.std.proofs.Common.{◌≡◌, ◌+◌, Some, None, not, position, refl}
use Rattle.dimacs.specs.Assignment.{value_of, makes_some}
use Rattle.dimacs.proofs.ModelLemmas.{first_at, model_at, no_model}
use Rattle.dimacs.proofs.formula.Formula.eval.Goals as goal

pub returns-in-Some-clause-first : goal.returns-in-Some-clause-first
returns-in-Some-clause-first c =
    let e : position (λ clause. not (makes_some (value_of c.args.assignment.now) clause)) c.args.self.now.clauses ≡ Some c.in-Some.before = cc in
    first_at (value_of c.args.assignment.now) c.args.self.now.clauses c.in-Some.before e

pub returns-in-Some-clause-model : goal.returns-in-Some-clause-model
returns-in-Some-clause-model c =
    let e : position (λ clause. not (makes_some (value_of c.args.assignment.now) clause)) c.args.self.now.clauses ≡ Some c.in-Some.before = cc in
    (λ no. absurd cc, λ model. absurd (no_model (value_of c.args.assignment.now) c.args.self.now.clauses (c.in-Some.before + 1) (first_at (value_of c.args.assignment.now) c.args.self.now.clauses c.in-Some.before e) model))

pub returns-in-None-clause-model : goal.returns-in-None-clause-model
returns-in-None-clause-model c =
    let e : position (λ clause. not (makes_some (value_of c.args.assignment.now) clause)) c.args.self.now.clauses ≡ None = cc in
    (λ _. model_at (value_of c.args.assignment.now) c.args.self.now.clauses e, λ _. refl)
