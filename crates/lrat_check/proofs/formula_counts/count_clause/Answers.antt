use Rattle.std.proofs.Common.{◌+◌, ◌∙◌, ap, List}
use Rattle.std.specs.Prelude.{ℤ}
use Rattle.std.proofs.lemmas.Result.{on_ok_weaker}
use Rattle.lrat_check.specs.Counts.{literal_count, times}
use Rattle.lrat_check.proofs.formula_counts.count_clause.Goals as goal

pub returns : goal.returns
returns g c = on_ok_weaker c.add.result (λ more z. more z ∙ ap (λ (l : List ℤ). literal_count c.args.counts.now z + times l z) (c.as_slice.ensures.literals ∙ c.clause.ensures)) c.add.ensures
