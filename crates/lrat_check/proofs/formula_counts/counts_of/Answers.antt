use Rattle.std.proofs.Common.{◌≡◌, ◌<◌, length, rules}
use Rattle.lrat_check.proofs.Counting.ChangeLemmas.{formula_none, formula_more, formula_all}
use Rattle.lrat_check.proofs.formula_counts.counts_of.Goals as goal

pub loop-place-init : goal.loop-place-init
loop-place-init g c = formula_none (g.F.ClauseList.formula c.args.formula.now).clauses c.new-counts.result c.new-counts.ensures

pub loop-place-preserved : goal.loop-place-preserved
loop-place-preserved g c =
    let clauses = (g.F.ClauseList.formula c.args.formula.now).clauses in
    let place = c.loop-place.place in
    let within : place < length clauses = search rules in
    formula_more clauses place c.loop-place.counts c.count_clause.new.counts within c.in_ok-count_clause.ensures c.loop-place.invariant

pub returns : goal.returns
returns g c =
    let clauses = (g.F.ClauseList.formula c.args.formula.now).clauses in
    let last : c.loop-place.place ≡ length clauses = search rules in
    formula_all clauses c.loop-place.place c.loop-place.counts last c.loop-place.invariant
