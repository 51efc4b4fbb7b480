use Rattle.std.proofs.Common.{◌-◌, arith}
use Rattle.std.specs.Prelude.{None}
use Rattle.lrat_check.specs.AddedAt.{in_row}
use Rattle.lrat_check.proofs.Counting.AddedLemmas.{row_changed, before_first}
use Rattle.lrat_check.proofs.added_clauses.AddedClauses.clear.Goals as goal

pub returns-then-self-id-clause-rows : goal.returns-then-self-id-clause-rows
returns-then-self-id-clause-rows c = λ other.
    let first = c.args.self.now.first in
    row_changed first (c.args.id - first) c.args.id other c.args.self.now.rows.items c.clear_row.new.rows.items None (omega (arith, c.if-self-id.true)) c.clear_row.ensures

pub returns-else-self-id-clause-rows : goal.returns-else-self-id-clause-rows
returns-else-self-id-clause-rows c = λ other.
    let first = c.args.self.now.first in
    before_first first c.args.id other (in_row c.args.self.now.rows.items (other - first)) (omega (arith, c.if-self-id.false))
