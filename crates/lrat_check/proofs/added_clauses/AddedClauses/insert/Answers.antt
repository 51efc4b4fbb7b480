use Rattle.std.proofs.Common.{◌∙◌, eqb, ap, sym, cond}
use Rattle.std.specs.Prelude.{Some}
use Rattle.std.specs.Option.{option_or}
use Rattle.std.proofs.lemmas.Bool.{eqb-true}
use Rattle.std.proofs.lemmas.Result.{on_ok_weaker}
use Rattle.lrat_check.specs.AddedAt.{row_at, in_tree_at}
use Rattle.lrat_check.proofs.Counting.AddedLemmas.{row_changed, in_tree_changed, put_before, put_after}
use Rattle.lrat_check.proofs.added_clauses.AddedClauses.insert.Goals as goal

pub returns-in-Some : goal.returns-in-Some
returns-in-Some c =
    let begun = c.begin.new.self in
    let id = c.args.id in
    let clause = c.args.clause.now in
    on_ok_weaker c.put_in_row.result
    (λ changed other.
    (λ i. option_or (row_changed begun.first c.in-Some.place id other begun.rows.items c.put_in_row.new.rows.items (Some clause) c.in-Some.ensures changed i) (in_tree_at begun other))
    ∙ put_before (eqb id other) (row_at begun other) (in_tree_at begun other) clause
    ∙ ap (cond (eqb id other) (Some clause)) (c.begin.ensures other))
    c.put_in_row.ensures

pub returns-in_ok-insert-in-None : goal.returns-in_ok-insert-in-None
returns-in_ok-insert-in-None c = λ other.
    let begun = c.begin.new.self in
    let id = c.args.id in
    let clause = c.args.clause.now in
    let in_tree = in_tree_changed id other (Some c.args.clause) begun.in_tree.entries c.insert.new.self.entries (c.in_ok-insert-in-None.ensures.updates.0 other) in
    (λ i. option_or (row_at begun other) (in_tree i))
    ∙ put_after (eqb id other) (row_at begun other) (in_tree_at begun other) clause (λ e. ap (row_at begun) (sym (eqb-true id other e)) ∙ c.in-None.ensures)
    ∙ ap (cond (eqb id other) (Some clause)) (c.begin.ensures other)
