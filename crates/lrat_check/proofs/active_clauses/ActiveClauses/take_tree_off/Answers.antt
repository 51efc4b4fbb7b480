use Rattle.std.proofs.Common.{◌≡◌, ◌∷◌, [], ℕ, Bool, List, sym, subst, true, eqb, refl, rules}
use Rattle.std.specs.BTreeSet.{contains}
use Rattle.std.specs.Cmp.{unsigned_tied}
use Rattle.std.specs.List.{IsDistinct}
use Rattle.std.specs.Map.Iter.{deref}
use Rattle.std.specs.Ordering.{nat_cmp}
use Rattle.std.proofs.lemmas.Map.Iter.{rest_more, rest_all}
use Rattle.std.proofs.lemmas.Map.Keys.{IsDistinct-from_sorted}
use Rattle.std.proofs.lemmas.Map.Views.{All-turn}
use Rattle.lrat_check.specs.Active.{at_start}
use Rattle.lrat_check.specs.ClauseAt.{kept_at}
use Rattle.lrat_check.specs.Counted.{AreChanges}
use Rattle.lrat_check.specs.Hidden.{kept_by_tree, kept_by_table}
use Rattle.lrat_check.proofs.Counting.ChangeLemmas.{changes_same}
use Rattle.lrat_check.proofs.Counting.HiddenLemmas.{is_among, tree_start, tree_end, not_among, distinct_after}
use Rattle.lrat_check.proofs.active_clauses.ActiveClauses.take_tree_off.Goals as goal

pub loop-id-init : goal.loop-id-init
loop-id-init g c =
    let clauses = (g.F.ClauseList.formula c.args.formula.now).clauses in
    let start = at_start clauses c.args.self.now.cube.now in
    let hidden = c.args.self.now.hidden in
    let keys = hidden.far.keys in
    let first : c.into_iter-id-iterator.result ≡ keys = search rules in
    let distinct : IsDistinct eqb keys = subst (λ (eq : ℕ → ℕ → Bool). IsDistinct eq keys) (λ i x y. unsigned_tied x y i) (IsDistinct-from_sorted nat_cmp keys c.iter-id-items.ensures.ordered) in (
      subst (λ (l : List ℕ). IsDistinct eqb l) (sym first) distinct,
      λ h. changes_same clauses (kept_by_table hidden start) (kept_by_tree hidden start (is_among c.into_iter-id-iterator.result)) c.args.changes.now
          (tree_start hidden start c.into_iter-id-iterator.result first) h,
    )

pub loop-id-preserved : goal.loop-id-preserved
loop-id-preserved g c =
    let clauses = (g.F.ClauseList.formula c.args.formula.now).clauses in
    let start = at_start clauses c.args.self.now.cube.now in
    let hidden = c.args.self.now.hidden in
    let id = c.in-Some.id.now in
    let rest = c.next.new.self in
    let split = rest_more deref c.loop-id.id-iterator rest c.next.result c.in-Some.id c.in-Some.is c.next.ensures.steps in
    let distinct = subst (λ (l : List ℕ). IsDistinct eqb l) split c.loop-id.invariant.0 in
    let first : c.into_iter-id-iterator.result ≡ hidden.far.keys = search rules in
    let found : contains nat_cmp hidden.far id ≡ true =
    All-turn deref (λ k. contains nat_cmp hidden.far k ≡ true) hidden.far.keys c.loop-id.yielded c.into_iter-id-iterator.result c.loop-id.id-iterator rest c.next.result c.in-Some.id c.iter-id-items.ensures.found first c.loop-id.yielded_by c.in-Some.is c.next.ensures.steps in (
      distinct_after id rest distinct,
      λ h. c.in_ok-take_tree_id_off.ensures (is_among (id ∷ rest)) (is_among rest) (λ other. refl) (not_among id rest distinct) found
          (subst (λ (l : List ℕ). AreChanges clauses (kept_by_tree hidden start (is_among l)) c.loop-id.changes) split (c.loop-id.invariant.1 h)),
    )

pub returns : goal.returns
returns g c = λ h.
    let clauses = (g.F.ClauseList.formula c.args.formula.now).clauses in
    let start = at_start clauses c.args.self.now.cube.now in
    let hidden = c.args.self.now.hidden in
    changes_same clauses (kept_by_tree hidden start (is_among [])) (kept_at clauses c.args.self.now) c.loop-id.changes (tree_end hidden start)
    (subst (λ (l : List ℕ). AreChanges clauses (kept_by_tree hidden start (is_among l)) c.loop-id.changes) (rest_all deref c.loop-id.id-iterator c.next.new.self c.next.result c.in-None.is c.next.ensures.steps) (c.loop-id.invariant.1 h))
