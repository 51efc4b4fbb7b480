use Rattle.std.proofs.Common.{◌≡◌, ◌<◌, ℤ, Bool, length, refl, subst, neg_ℤ, MatchBool, rules, ℕ, List, [], ◌∷◌, get_or, inr, arith}
use Rattle.std.specs.Prelude.{Option}
use Rattle.lrat_check.specs.ClauseAt.{clause_at}
use Rattle.lrat_check.specs.Counts.{IsCount}
use Rattle.lrat_check.specs.Hints.{groups_of, Group}
use Rattle.lrat_check.specs.Rat.{AreSettled, HasAllGroups, LacksGroup, IsRat, IsNoRat, missing}
use Rattle.lrat_check.specs.declared.active_clauses.ActiveClauses.{ActiveClauses}
use Rattle.lrat_check.specs.declared.refusal.StepFault.{StepFault}
use Rattle.lrat_check.proofs.justification.check_rat.Goals as goal

-- A clause and its pivot.

module _ (active : ℕ → Option (List ℤ)) (groups : List Group) (reached : List ℤ) where
  rat_shows : (clause : List ℤ) (pivot : ℤ) → 0 < length clause → pivot ≡ get_or clause 0 pivot → AreSettled active pivot reached groups → HasAllGroups active pivot groups → IsRat active clause groups reached
  rat_shows [] pivot long is settled all = absurd (omega (arith, long))
  rat_shows (first ∷ rest) pivot long is settled all = (subst (λ (z : ℤ). AreSettled active z reached groups) is settled, subst (λ (z : ℤ). HasAllGroups active z groups) is all)

  rat_lacks : (clause : List ℤ) (pivot : ℤ) (fault : StepFault) → 0 < length clause → pivot ≡ get_or clause 0 pivot → AreSettled active pivot reached groups → LacksGroup active pivot groups → fault ≡ missing groups →
      IsNoRat active clause groups reached fault
  rat_lacks [] pivot fault long is settled lacks e = absurd (omega (arith, long))
  rat_lacks (first ∷ rest) pivot fault long is settled lacks e =
      inr (subst (λ (z : ℤ). AreSettled active z reached groups) is settled, subst (λ (z : ℤ). LacksGroup active z groups) is lacks, e)

  rat_empty : (clause : List ℤ) (fault : StepFault) → length clause ≡ 0 → IsNoRat active [] groups reached fault → IsNoRat active clause groups reached fault
  rat_empty [] fault none h = h
  rat_empty (first ∷ rest) fault none h = absurd (omega (arith, none))

pub returns-then-is_empty-clause-rat : goal.returns-then-is_empty-clause-rat
returns-then-is_empty-clause-rat g c = λ base h.
    let active = clause_at (g.F.ClauseList.formula c.args.run.now.formula.now).clauses c.args.active.now.clauses in
    let none : length c.args.clause.now ≡ 0 = search rules in
    (rat_empty active (groups_of c.args.hints.now) c.args.trues.now c.args.clause.now c.without_pivot.result none (c.without_pivot.ensures active c.args.trues.now), refl)

pub returns-then-branch-clause-rat : goal.returns-then-branch-clause-rat
returns-then-branch-clause-rat g c = λ base h.
    let clauses = (g.F.ClauseList.formula c.args.run.now.formula.now).clauses in
    let active = clause_at clauses c.args.active.now.clauses in
    let groups = groups_of c.args.hints.now in
    let pivot = c.index-clause-0.result in
    let long : 0 < length c.args.clause.now = search rules in
    let settled : AreSettled active pivot c.args.trues.now groups = c.in_ok-check_candidates.ensures in
    let negation : c.negated.result ≡ neg_ℤ pivot = search rules in
    let count = subst (λ (z : ℤ). IsCount active z c.in_ok-count.count) negation (c.in_ok-count.ensures.count base h) in
    let decided : MatchBool c.in_ok-has_all.field-0 (HasAllGroups active pivot groups) (LacksGroup active pivot groups) =
    subst (λ (k : ActiveClauses). IsCount (clause_at clauses k) (neg_ℤ pivot) c.in_ok-count.count → MatchBool c.in_ok-has_all.field-0 (HasAllGroups (clause_at clauses k) pivot groups) (LacksGroup (clause_at clauses k) pivot groups))
    c.times_active.ensures.same c.in_ok-has_all.ensures count in
    let all = subst (λ (b : Bool). MatchBool b (HasAllGroups active pivot groups) (LacksGroup active pivot groups)) c.if-branch.true decided in
    rat_shows active groups c.args.trues.now c.args.clause.now pivot long c.index-clause-0.is settled all

pub returns-else-branch-clause-rat : goal.returns-else-branch-clause-rat
returns-else-branch-clause-rat g c = λ base h.
    let clauses = (g.F.ClauseList.formula c.args.run.now.formula.now).clauses in
    let active = clause_at clauses c.args.active.now.clauses in
    let groups = groups_of c.args.hints.now in
    let pivot = c.index-clause-0.result in
    let long : 0 < length c.args.clause.now = search rules in
    let settled : AreSettled active pivot c.args.trues.now groups = c.in_ok-check_candidates.ensures in
    let negation : c.negated.result ≡ neg_ℤ pivot = search rules in
    let count = subst (λ (z : ℤ). IsCount active z c.in_ok-count.count) negation (c.in_ok-count.ensures.count base h) in
    let decided : MatchBool c.in_ok-has_all.field-0 (HasAllGroups active pivot groups) (LacksGroup active pivot groups) =
    subst (λ (k : ActiveClauses). IsCount (clause_at clauses k) (neg_ℤ pivot) c.in_ok-count.count → MatchBool c.in_ok-has_all.field-0 (HasAllGroups (clause_at clauses k) pivot groups) (LacksGroup (clause_at clauses k) pivot groups))
    c.times_active.ensures.same c.in_ok-has_all.ensures count in
    let lacks = subst (λ (b : Bool). MatchBool b (HasAllGroups active pivot groups) (LacksGroup active pivot groups)) c.if-branch.false decided in
    (rat_lacks active groups c.args.trues.now c.args.clause.now pivot c.without_group.result long c.index-clause-0.is settled lacks c.without_group.ensures, refl)
