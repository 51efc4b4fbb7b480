use Rattle.std.proofs.Common.{◌≡◌, ℕ, ℤ, Bool, List, ◌∷◌, eqb, ap, sym, ◌∙◌, refl, subst, Some, None, rules}
use Rattle.std.specs.Borrow.{Bor}
use Rattle.std.specs.Cmp.{nat_cmp_total, unsigned_tied}
use Rattle.std.specs.List.{IsDistinct}
use Rattle.std.specs.Map.{keys_of}
use Rattle.std.specs.Map.Iter.{deref_pair}
use Rattle.std.specs.Option.{option_map}
use Rattle.std.specs.Ordering.{nat_cmp}
use Rattle.std.proofs.lemmas.Map.Iter.{btree_map_turn, rest_more, rest_all}
use Rattle.std.proofs.lemmas.Map.Keys.{IsDistinct-from_sorted}
use Rattle.lrat_check.specs.AddedAt.{in_tree_at, row_at}
use Rattle.lrat_check.specs.ClauseAt.{in_front, kept_at}
use Rattle.lrat_check.specs.Counted.{AreChanges}
use Rattle.lrat_check.proofs.Counting.AddedLemmas.{by_id}
use Rattle.lrat_check.proofs.Counting.KeptLemmas.{passed, is_left, passed_none, passed_more, passed_same, all_passed, distinct_rest, not_left, shows_one}
use Rattle.lrat_check.proofs.active_clauses.ActiveClauses.count_in_tree.Goals as goal

pub loop-id-init : goal.loop-id-init
loop-id-init g c =
    let clauses = (g.F.ClauseList.formula c.args.formula.now).clauses in
    let front = in_front clauses c.args.self.now in
    let entries = c.args.self.now.added.in_tree.entries in
    let first : c.into_iter-id-iterator.result ≡ entries = search rules in
    let distinct : IsDistinct eqb (keys_of entries) = subst (λ (eq : ℕ → ℕ → Bool). IsDistinct eq (keys_of entries)) (λ i x y. unsigned_tied x y i) (IsDistinct-from_sorted nat_cmp (keys_of entries) c.iter-id-items.ensures.ordered) in (
      subst (λ (l : List (ℕ × Bor (List ℤ))). IsDistinct eqb (keys_of l)) (sym first) distinct,
      λ h. passed_none clauses front entries c.into_iter-id-iterator.result c.args.changes.now first h,
    )

pub loop-id-preserved-in-Continue-1 : goal.loop-id-preserved-in-Continue-1
loop-id-preserved-in-Continue-1 g c =
    let clauses = (g.F.ClauseList.formula c.args.formula.now).clauses in
    let front = in_front clauses c.args.self.now in
    let in_tree = in_tree_at c.args.self.now.added in
    let id = c.in-Some.id.now in
    let clause = c.as_slice.result.now in
    let split = rest_more deref_pair c.loop-id.id-iterator c.next.new.self c.next.result (c.in-Some.id, c.in-Some.clause) c.in-Some.is c.next.ensures.steps in
    let distinct = subst (λ (l : List (ℕ × Bor (List ℤ))). IsDistinct eqb (keys_of l)) split c.loop-id.invariant.0 in
    let found = btree_map_turn deref_pair c.loop-id.yielded c.into_iter-id-iterator.result c.loop-id.id-iterator c.next.new.self c.next.result (c.in-Some.id, c.in-Some.clause) c.loop-id.yielded_by c.in-Some.is c.next.ensures.steps nat_cmp_total c.args.self.now.added.in_tree (search rules) c.iter-id-items.ensures.ordered in
    let free : front id ≡ None = search rules in (
      distinct_rest id (keys_of c.next.new.self) distinct,
      λ h. passed_more clauses front in_tree id clause (is_left ((id, c.in-Some.clause.now) ∷ c.next.new.self)) (is_left c.next.new.self) c.loop-id.changes c.add.new.self (λ other. refl) free
          (ap (option_map (λ (k : Bor (List ℤ)). k.now)) (sym (by_id id c.args.self.now.added.in_tree.entries) ∙ found.1) ∙ ap Some (sym c.as_slice.ensures.literals)) (not_left id c.next.new.self distinct)
          (c.in_ok-add.ensures clauses) (subst (λ (l : List (ℕ × Bor (List ℤ))). AreChanges clauses (passed front in_tree (is_left l)) c.loop-id.changes) split (c.loop-id.invariant.1 h)),
    )

pub loop-id-preserved : goal.loop-id-preserved
loop-id-preserved g c =
    let clauses = (g.F.ClauseList.formula c.args.formula.now).clauses in
    let front = in_front clauses c.args.self.now in
    let in_tree = in_tree_at c.args.self.now.added in
    let id = c.in-Some.id.now in
    let clause = c.in-Some.clause.now in
    let split = rest_more deref_pair c.loop-id.id-iterator c.next.new.self c.next.result (c.in-Some.id, c.in-Some.clause) c.in-Some.is c.next.ensures.steps in
    let distinct = subst (λ (l : List (ℕ × Bor (List ℤ))). IsDistinct eqb (keys_of l)) split c.loop-id.invariant.0 in
    let held = shows_one (front id) (search rules) in (
      distinct_rest id (keys_of c.next.new.self) distinct,
      λ h. passed_same clauses front in_tree id held.0 (is_left ((id, clause) ∷ c.next.new.self)) (is_left c.next.new.self) c.loop-id.changes (λ other. refl) held.1
          (subst (λ (l : List (ℕ × Bor (List ℤ))). AreChanges clauses (passed front in_tree (is_left l)) c.loop-id.changes) split (c.loop-id.invariant.1 h)),
    )

pub returns : goal.returns
returns g c = λ h.
    let clauses = (g.F.ClauseList.formula c.args.formula.now).clauses in
    let front = in_front clauses c.args.self.now in
    let in_tree = in_tree_at c.args.self.now.added in
    all_passed clauses (kept_at clauses c.args.self.now) (row_at c.args.self.now.added) in_tree c.loop-id.changes
    (subst (λ (l : List (ℕ × Bor (List ℤ))). AreChanges clauses (passed front in_tree (is_left l)) c.loop-id.changes) (rest_all deref_pair c.loop-id.id-iterator c.next.new.self c.next.result c.in-None.is c.next.ensures.steps) (c.loop-id.invariant.1 h))
