use Rattle.std.proofs.Common.{◌∙◌, eqb, cond}
use Rattle.std.specs.Prelude.{None}
use Rattle.std.specs.BTreeMap.{is_at}
use Rattle.std.specs.Map.{lookup}
use Rattle.std.specs.Option.{option_or}
use Rattle.std.specs.Ordering.{nat_cmp}
use Rattle.lrat_check.specs.AddedAt.{row_at, in_tree_at}
use Rattle.lrat_check.proofs.Counting.AddedLemmas.{in_tree_changed, taken}
use Rattle.lrat_check.proofs.added_clauses.AddedClauses.remove.Goals as goal

pub returns : goal.returns
returns c = λ other.
    let old = c.args.self.now in
    let gone = c.remove-clause.ensures.updates.0 other ∙ (λ i. cond (is_at (nat_cmp c.args.id) other) None (lookup (is_at (nat_cmp other)) (c.clear.ensures.in_tree i).entries)) in
    let in_tree = in_tree_changed c.args.id other None old.in_tree.entries c.remove-clause.new.self.entries gone in
    (λ i. option_or (c.clear.ensures.rows other i) (in_tree i)) ∙ taken (eqb c.args.id other) (row_at old other) (in_tree_at old other)
