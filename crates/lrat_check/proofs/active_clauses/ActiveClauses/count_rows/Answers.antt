use Rattle.std.proofs.Common.{◌≡◌, ◌+◌, subst, ℕ, length, arith, rules}
use Rattle.lrat_check.specs.ClauseAt.{kept_at, early_at}
use Rattle.lrat_check.specs.Counted.{AreChanges}
use Rattle.lrat_check.proofs.Counting.KeptLemmas.{rows_start, rows_end}
use Rattle.lrat_check.proofs.active_clauses.ActiveClauses.count_rows.Goals as goal

pub loop-place-init : goal.loop-place-init
loop-place-init g c = λ h.
    let clauses = (g.F.ClauseList.formula c.args.formula.now).clauses in
    let first = c.args.self.now.added.first in
    subst (λ (n : ℕ). AreChanges clauses (early_at clauses c.args.self.now n) c.args.changes.now) (omega arith)
    (rows_start clauses (kept_at clauses c.args.self.now) first c.args.self.now.added.rows.items c.args.changes.now h)

pub loop-place-preserved : goal.loop-place-preserved
loop-place-preserved g c = λ h.
    let clauses = (g.F.ClauseList.formula c.args.formula.now).clauses in
    let first = c.args.self.now.added.first in
    let next : first + c.loop-place.place + 1 ≡ first + (c.loop-place.place + 1) = omega arith in
    subst (λ (n : ℕ). AreChanges clauses (early_at clauses c.args.self.now n) c.count_row.new.changes) next (c.in_ok-count_row.ensures (c.loop-place.invariant h))

pub returns : goal.returns
returns g c = λ h.
    let clauses = (g.F.ClauseList.formula c.args.formula.now).clauses in
    let first = c.args.self.now.added.first in
    let rows = c.args.self.now.added.rows.items in
    let last : c.loop-place.place ≡ length rows = search rules in
    rows_end clauses (kept_at clauses c.args.self.now) first rows c.loop-place.changes
    (subst (λ (n : ℕ). AreChanges clauses (early_at clauses c.args.self.now (first + n)) c.loop-place.changes) last (c.loop-place.invariant h))
