use Rattle.std.proofs.Common.{◌≡◌, ◌∙◌, ap, sym, length, rules}
use Rattle.std.specs.Option.{option_or}
use Rattle.lrat_check.specs.AddedAt.{in_tree_at}
use Rattle.lrat_check.proofs.Counting.AddedLemmas.{no_rows}
use Rattle.lrat_check.proofs.added_clauses.AddedClauses.begin.Goals as goal

pub returns-then-is_empty : goal.returns-then-is_empty
returns-then-is_empty c = λ other.
    let old = c.args.self.now in
    let none : length old.rows.items ≡ 0 = search rules in
    ap (λ o. option_or o (in_tree_at old other)) (no_rows c.args.id other old.rows.items none ∙ sym (no_rows old.first other old.rows.items none))
