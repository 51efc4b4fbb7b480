use Rattle.std.proofs.Common.{◌≡◌, ◌+◌, ap, sym, ◌∙◌, leb, Some, None, true, false, rules}
use Rattle.std.specs.Option.{is_some}
use Rattle.std.proofs.lemmas.Result.{on_ok_weaker}
use Rattle.lrat_check.specs.AddedAt.{row_at}
use Rattle.lrat_check.specs.ClauseAt.{kept_at}
use Rattle.lrat_check.proofs.Counting.KeptLemmas.{passed_more, passed_same, passed_over, from_next, next_is_first, shows_one, shows_none}
use Rattle.lrat_check.proofs.active_clauses.ActiveClauses.count_row.Goals as goal

pub returns-then-is_kept : goal.returns-then-is_kept
returns-then-is_kept g c = λ h.
    let clauses = (g.F.ClauseList.formula c.args.formula.now).clauses in
    let kept = kept_at clauses c.args.self.now in
    let row = row_at c.args.self.now.added in
    let next = c.args.self.now.added.first + c.args.place in
    let holds : is_some (kept next) ≡ true = search rules in
    let held = shows_one (kept next) holds in
    passed_same clauses kept row next held.0 (leb next) (leb (next + 1)) c.args.changes.now (from_next next) held.1 h

pub returns-in-Some-row : goal.returns-in-Some-row
returns-in-Some-row g c =
    let clauses = (g.F.ClauseList.formula c.args.formula.now).clauses in
    let kept = kept_at clauses c.args.self.now in
    let row = row_at c.args.self.now.added in
    let next = c.args.self.now.added.first + c.args.place in
    let clause = c.as_slice.result.now in
    let misses : is_some (kept next) ≡ false = search rules in
    let at : row c.in-Some.id ≡ row next = search rules in
    let known : row next ≡ Some clause = sym at ∙ c.in-Some-row.ensures ∙ ap Some (sym c.as_slice.ensures.literals) in
    on_ok_weaker c.add.result
    (λ more h. passed_more clauses kept row next clause (leb next) (leb (next + 1)) c.args.changes.now c.add.new.self (from_next next) (shows_none (kept next) misses) known (next_is_first next) (more clauses) h)
    c.add.ensures

pub returns-in-None : goal.returns-in-None
returns-in-None g c = λ h.
    let clauses = (g.F.ClauseList.formula c.args.formula.now).clauses in
    let kept = kept_at clauses c.args.self.now in
    let row = row_at c.args.self.now.added in
    let next = c.args.self.now.added.first + c.args.place in
    let none : row next ≡ None = search rules in
    passed_over clauses kept row next (leb next) (leb (next + 1)) c.args.changes.now (from_next next) none h
