use Rattle.std.proofs.Common.{◌≡◌, ◌∙◌, ap, sym, leb, length, rules}
use Rattle.std.proofs.lemmas.Bool.{true≢false}
use Rattle.lrat_check.specs.Active.{at_start}
use Rattle.lrat_check.specs.Hidden.{kept_by_table_from, kept_by_table}
use Rattle.lrat_check.specs.Marks.{marked_at}
use Rattle.lrat_check.proofs.Counting.ChangeLemmas.{changes_same}
use Rattle.lrat_check.proofs.Counting.HiddenLemmas.{none_passed, hidden_passed, zero_first, past_marks}
use Rattle.lrat_check.proofs.active_clauses.ActiveClauses.take_table_off.Goals as goal

pub loop-id-init : goal.loop-id-init
loop-id-init g c = λ h.
    let clauses = (g.F.ClauseList.formula c.args.formula.now).clauses in
    let start = at_start clauses c.args.self.now.cube.now in
    let near = marked_at c.args.self.now.hidden.near.items in
    changes_same clauses start (kept_by_table_from c.args.self.now.hidden start 0) c.args.changes.now (none_passed start near (leb 0) (λ id passed. absurd (true≢false (sym (zero_first id) ∙ passed)))) h

pub loop-id-preserved : goal.loop-id-preserved
loop-id-preserved g c = λ h. c.in_ok-take_table_id_off.ensures (c.loop-id.invariant h)

pub returns : goal.returns
returns g c = λ h.
    let clauses = (g.F.ClauseList.formula c.args.formula.now).clauses in
    let start = at_start clauses c.args.self.now.cube.now in
    let hidden = c.args.self.now.hidden in
    let marks = hidden.near.items in
    let last : c.loop-id.id ≡ length marks = search rules in
    changes_same clauses (kept_by_table_from hidden start c.loop-id.id) (kept_by_table hidden start) c.loop-id.changes
    (hidden_passed start (marked_at marks) (leb c.loop-id.id) (λ id there. past_marks marks id (ap (λ n. leb n id) (sym last) ∙ there))) (c.loop-id.invariant h)
