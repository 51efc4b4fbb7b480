use Rattle.std.proofs.Common.{◌≡◌, ◌∙◌, ap}
use Rattle.dimacs.specs.Formula.{FormulaValue, is_formula}
use Rattle.var_layout.specs.FinalVariables.{variable_count}
use Rattle.clause_blocks.specs.Clauses.{clauses_of, formula_of}
use Rattle.clause_blocks.proofs.formula.formula.Goals as goal

pub new-requires : goal.new-requires
new-requires g c =
    let t = c.in_ok-clauses.clauses in
    let variables : c.count.result ≡ variable_count t = c.count.ensures ∙ ap variable_count c.layout.ensures in
    let made : c.in_ok-made.made.items ≡ clauses_of t = c.in_ok-made.ensures in
    let got : FormulaValue = record { variables = c.count.result; clauses = c.in_ok-made.made.items } in
    let same : got ≡ formula_of t = λ p. record { variables = variables p; clauses = made p } in
    ap is_formula same ∙ c.formula_is_over_its_variables.ensures t c.recall_limits.ensures.trace
