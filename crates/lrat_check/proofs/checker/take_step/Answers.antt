use Rattle.std.proofs.Common.{◌≡◌, ℕ, None, length, eqb, sym, subst, rules}
use Rattle.lrat_check.specs.Active.{with_clause}
use Rattle.lrat_check.specs.ClauseAt.{clause_at}
use Rattle.lrat_check.specs.Justified.{IsJustified}
use Rattle.lrat_check.specs.declared.active_clauses.ActiveClauses.{ActiveClauses}
use Rattle.lrat_check.proofs.Justifying.CheckLemmas.{step_added}
use Rattle.lrat_check.proofs.checker.take_step.Goals as goal

pub returns-in_ok-insert-in-Addition-clause-step : goal.returns-in_ok-insert-in-Addition-clause-step
returns-in_ok-insert-in-Addition-clause-step g c = λ base h.
    let clauses = (g.F.ClauseList.formula c.args.run.now.formula.now).clauses in
    let old = clause_at clauses c.args.active.now.clauses in
    let between = c.justify.new.active in
    let new = clause_at clauses c.insert.new.self.clauses in
    let id = c.in-Addition.id in
    let literals = c.in-Addition.literals in
    let same : between.clauses ≡ c.args.active.now.clauses = c.justify.ensures.same in
    let free : old id ≡ None = search rules in
    let justified : IsJustified old literals c.in-Addition.hints = search rules in
    let last : c.is_empty.result ≡ eqb (length literals) 0 = search rules in
    let adds : (other : ℕ) → new other ≡ with_clause id literals old other = subst (λ (k : ActiveClauses). (other : ℕ) → new other ≡ with_clause id literals (clause_at clauses k) other) same c.in_ok-insert-in-Addition.ensures.active in
    let unused = subst (λ (k : ActiveClauses). clause_at clauses k id ≡ None) (sym same) free in
    let added = step_added old new c.args.step.now id literals c.in-Addition.hints c.is_empty.result c.in-Addition.is free justified last adds in
    (added.0, added.1, added.2, c.in_ok-insert-in-Addition.ensures.counted unused (c.justify.ensures.counted h))
