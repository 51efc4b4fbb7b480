use Rattle.std.proofs.Common.{◌≡◌, ◌-◌, ◌∙◌, true, cond, eqb, ap, sym, neg_ℤ, rules}
use Rattle.std.specs.BTreeMap.{is_at}
use Rattle.std.specs.BTreeSet.{contains}
use Rattle.std.specs.Cmp.{unsigned_tied}
use Rattle.std.specs.Ordering.{nat_cmp}
use Rattle.std.specs.List.{list_any}
use Rattle.std.proofs.lemmas.Bool.{eqb-true, eq-eqb, not-true, true≢false}
use Rattle.lrat_check.specs.ClauseAt.{clause_at}
use Rattle.lrat_check.specs.Counts.{times_at}
use Rattle.lrat_check.specs.Hints.{Group, first_hints, groups_of}
use Rattle.lrat_check.proofs.Justifying.GroupLemmas.{pass_start, pass_new, pass_again, pass_end, none_opposes, decided}
use Rattle.lrat_check.proofs.groups.has_all.Goals as goal

pub returns-then-count-eq0 : goal.returns-then-count-eq0
returns-then-count-eq0 g c = λ h.
    none_opposes (clause_at (g.F.ClauseList.formula c.args.formula.now).clauses c.args.active.now) c.args.pivot (groups_of c.args.hints.now) c.args.count c.if-count-eq0.true h

pub loop-id-init : goal.loop-id-init
loop-id-init g c = λ h.
    let active = clause_at (g.F.ClauseList.formula c.args.formula.now).clauses c.args.active.now in
    pass_start active (neg_ℤ c.args.pivot) (groups_of c.args.hints.now) (contains nat_cmp c.new-seen.result) c.args.count (λ id. ap (list_any (is_at (nat_cmp id))) c.new-seen.ensures.empty) h

pub loop-id-preserved-then-branch : goal.loop-id-preserved-then-branch
loop-id-preserved-then-branch g c = λ h.
    let active = clause_at (g.F.ClauseList.formula c.args.formula.now).clauses c.args.active.now in
    let z = neg_ℤ c.args.pivot in
    let id = c.in-Some.id in
    let group : Group = record { id = id; hints = first_hints c.in-Some.after.now } in
    let fresh = not-true (contains nat_cmp c.loop-id.seen id) (sym c.in_ok-insert.ensures.added ∙ c.if-branch.true) in
    let takes : c.saturating_sub-left.result ≡ c.loop-id.left - times_at active z id = search rules in
    pass_new active z (groups_of c.args.hints.now) (groups_of c.loop-id.rest.now) (groups_of c.in-Some.after.now) group (contains nat_cmp c.loop-id.seen) (contains nat_cmp c.insert.new.self) c.loop-id.left c.saturating_sub-left.result
    (c.loop-id.invariant h) c.in-Some.ensures.0 fresh (λ other. c.in_ok-insert.ensures.updates.0 other ∙ ap (λ b. cond b true (contains nat_cmp c.loop-id.seen other)) (unsigned_tied id other)) takes

pub loop-id-preserved : goal.loop-id-preserved
loop-id-preserved g c = λ h.
    let active = clause_at (g.F.ClauseList.formula c.args.formula.now).clauses c.args.active.now in
    let z = neg_ℤ c.args.pivot in
    let id = c.in-Some.id in
    let group : Group = record { id = id; hints = first_hints c.in-Some.after.now } in
    let known : contains nat_cmp c.loop-id.seen id ≡ true = search rules in
    pass_again active z (groups_of c.args.hints.now) (groups_of c.loop-id.rest.now) (groups_of c.in-Some.after.now) group (contains nat_cmp c.loop-id.seen) (contains nat_cmp c.insert.new.self) c.loop-id.left
    (c.loop-id.invariant h) c.in-Some.ensures.0 known (λ other. c.in_ok-insert.ensures.updates.0 other ∙ ap (λ b. cond b true (contains nat_cmp c.loop-id.seen other)) (unsigned_tied id other))

pub returns : goal.returns
returns g c = λ h.
    let active = clause_at (g.F.ClauseList.formula c.args.formula.now).clauses c.args.active.now in
    let groups = groups_of c.args.hints.now in
    decided (eqb c.loop-id.left 0) active c.args.pivot groups c.loop-id.left (eqb-true c.loop-id.left 0) (λ e none. true≢false (sym (eq-eqb c.loop-id.left 0 none) ∙ e))
    (pass_end active c.args.pivot groups (groups_of c.loop-id.rest.now) (contains nat_cmp c.loop-id.seen) c.loop-id.left (c.loop-id.invariant h) c.in_default.ensures)
