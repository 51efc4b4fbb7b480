-- Groups, one after the other.
use Rattle.std.proofs.Common.{◌≡◌, ℕ, ◌-◌, Bool, true, false, cond, eqb, ◌||◌, List, [], ◌∷◌, ◌++◌, length, refl, ap, sym, ◌∙◌, subst, inl, inr, append_assoc, append-nil, rules, arith}
use Rattle.std.specs.Prelude.{ℤ, neg_ℤ, Option, Some, None, MatchBool}
use Rattle.std.specs.List.{filter}
use Rattle.std.specs.Option.{option_map, unwrap_or}
use Rattle.std.proofs.lemmas.Bool.{cases_Bool, cond-false, eqb-true, false≢true}
use Rattle.std.proofs.lemmas.List.Folds.{list_any-append}
use Rattle.lrat_check.specs.Counts.{times, times_at, IsCount}
use Rattle.lrat_check.specs.Hints.{Group, has_group}
use Rattle.lrat_check.specs.Propagation.{has}
use Rattle.lrat_check.specs.Rat.{IsSettled, AreSettled, AreUnsettled, HasAllGroups, LacksGroup}
use Rattle.lrat_check.specs.declared.refusal.StepFault.{StepFault}
use Rattle.lrat_check.proofs.Counting.CountLemmas.{no_times, some_times, count_less, count_same}

-- what holds of the groups that are left holds of all
pub record AreOnTheWay (active : ℕ → Option (List ℤ)) (pivot : ℤ) (reached : List ℤ) (groups left : List Group) : Type 0 where
  pub settled : AreSettled active pivot reached left → AreSettled active pivot reached groups
  pub unsettled : (fault : StepFault) → AreUnsettled active pivot reached left fault → AreUnsettled active pivot reached groups fault

pub group_settled : (active : ℕ → Option (List ℤ)) (pivot : ℤ) (reached : List ℤ) (groups left rest : List Group) (group : Group) → AreOnTheWay active pivot reached groups left → left ≡ group ∷ rest →
    IsSettled active pivot reached group → AreOnTheWay active pivot reached groups rest
group_settled active pivot reached groups left rest group h e is = record {
  settled = λ later. h.settled (subst (λ (l : List Group). AreSettled active pivot reached l) (sym e) (is, later));
  unsettled = λ fault later. h.unsettled fault (subst (λ (l : List Group). AreUnsettled active pivot reached l fault) (sym e) (inr (is, later)));
}

-- the active clauses without those of these groups
abbrev pub without_groups : List Group → (ℕ → Option (List ℤ)) → ℕ → Option (List ℤ)
without_groups groups active id = cond (has_group groups id) None (active id)

-- The groups are passed up to some that are left: the set has the ids of those passed, and the clauses of no group passed hold the
-- literal so often.
pub record ArePassed (active : ℕ → Option (List ℤ)) (z : ℤ) (groups left : List Group) (seen : ℕ → Bool) (count : ℕ) : Type 0 where
  pub before : List Group
  pub split : groups ≡ before ++ left
  pub among : (id : ℕ) → seen id ≡ has_group before id
  pub many : IsCount (without_groups before active) z count

pub pass_start : (active : ℕ → Option (List ℤ)) (z : ℤ) (groups : List Group) (seen : ℕ → Bool) (count : ℕ) → ((id : ℕ) → seen id ≡ false) → IsCount active z count → ArePassed active z groups groups seen count
pass_start active z groups seen count none h = record { before = []; split = refl; among = none; many = h }

has_push : (before : List Group) (group : Group) (id : ℕ) → has_group (before ++ group ∷ []) id ≡ (has_group before id || (eqb group.id id || false))
has_push before group id = list_any-append (λ (g : Group). eqb g.id id) before (group ∷ [])

cond_or : (a b : Bool) (o : Option (List ℤ)) → cond (a || (b || false)) None o ≡ cond (b || false) None (cond a None o)
cond_or true true o = refl
cond_or true false o = refl
cond_or false b o = refl

swap_or : (a b : Bool) → (a || (b || false)) ≡ cond b true a
swap_or true true = refl
swap_or true false = refl
swap_or false true = refl
swap_or false false = refl

-- a group whose id is new
pub pass_new : (active : ℕ → Option (List ℤ)) (z : ℤ) (groups left rest : List Group) (group : Group) (old new : ℕ → Bool) (count less : ℕ) → ArePassed active z groups left old count → left ≡ group ∷ rest →
    old group.id ≡ false → ((id : ℕ) → new id ≡ cond (eqb group.id id) true (old id)) → less ≡ count - times_at active z group.id → ArePassed active z groups rest new less
pass_new active z groups left rest group old new count less h e fresh adds takes =
    let free : has_group h.before group.id ≡ false = sym (h.among group.id) ∙ fresh in
    let there : without_groups h.before active group.id ≡ active group.id = cond-false (has_group h.before group.id) None (active group.id) free in
    record {
      before = h.before ++ group ∷ [];
      split = h.split ∙ ap (λ l. h.before ++ l) e ∙ sym (append_assoc h.before (group ∷ []) rest);
      among = λ id. adds id ∙ ap (cond (eqb group.id id) true) (h.among id) ∙ sym (swap_or (has_group h.before id) (eqb group.id id)) ∙ sym (has_push h.before group id);
      many = count_less (without_groups h.before active) (without_groups (h.before ++ group ∷ []) active) group.id z count less
          (λ id. ap (λ b. cond b None (active id)) (has_push h.before group id) ∙ cond_or (has_group h.before id) (eqb group.id id) (active id))
          (takes ∙ ap (λ o. count - unwrap_or (option_map (λ clause. times clause z) o) 0) (sym there)) h.many;
    }

-- a group whose id was passed before
again : (a b : Bool) → (b ≡ true → a ≡ true) → (a || (b || false)) ≡ a
again true b h = refl
again false true h = absurd (false≢true (h refl))
again false false h = refl

again_so : (before : List Group) (group : Group) (id : ℕ) → has_group before group.id ≡ true → has_group (before ++ group ∷ []) id ≡ has_group before id
again_so before group id h = has_push before group id ∙ again (has_group before id) (eqb group.id id) (λ e. ap (has_group before) (sym (eqb-true group.id id e)) ∙ h)

pub pass_again : (active : ℕ → Option (List ℤ)) (z : ℤ) (groups left rest : List Group) (group : Group) (old new : ℕ → Bool) (count : ℕ) → ArePassed active z groups left old count → left ≡ group ∷ rest →
    old group.id ≡ true → ((id : ℕ) → new id ≡ cond (eqb group.id id) true (old id)) → ArePassed active z groups rest new count
pass_again active z groups left rest group old new count h e known adds =
    let there : has_group h.before group.id ≡ true = sym (h.among group.id) ∙ known in
    record {
      before = h.before ++ group ∷ [];
      split = h.split ∙ ap (λ l. h.before ++ l) e ∙ sym (append_assoc h.before (group ∷ []) rest);
      among = λ id. adds id ∙ ap (cond (eqb group.id id) true) (h.among id) ∙ sym (swap_or (has_group h.before id) (eqb group.id id)) ∙ sym (has_push h.before group id);
      many = count_same (without_groups h.before active) (without_groups (h.before ++ group ∷ []) active) z count (λ id. ap (λ b. cond b None (active id)) (again_so h.before group id there)) h.many;
    }

-- nothing is left of the count: each clause has a group
pub all_counted : (active : ℕ → Option (List ℤ)) (pivot : ℤ) (groups : List Group) (n : ℕ) → n ≡ 0 → IsCount (without_groups groups active) (neg_ℤ pivot) n → HasAllGroups active pivot groups
all_counted active pivot groups n zeros ([], each, many) = λ id clause known opposed. elim (cases_Bool (has_group groups id)) [
  | inl there ↦ there
  | inr missing ↦ absurd (some_times clause (neg_ℤ pivot) opposed
      (sym (each id ∙ ap (λ o. unwrap_or (option_map (λ c. times c (neg_ℤ pivot)) o) 0) (cond-false (has_group groups id) None (active id) missing ∙ known))))
]
all_counted active pivot groups n zeros (other ∷ ids, each, many) = absurd (omega (arith, zeros, many))

-- something is left: a clause has none
first_is : (b : Bool) (k : ℕ) (xs : List ℕ) → b ≡ true → length (cond b (k ∷ xs) xs) ≡ 0 → ⊥
first_is true k xs e none = omega (arith, none)
first_is false k xs e none = false≢true e

lacking : (active : ℕ → Option (List ℤ)) (pivot : ℤ) (groups : List Group) (id : ℕ) (b : Bool) (o : Option (List ℤ)) → has_group groups id ≡ b → active id ≡ o →
    (unwrap_or (option_map (λ c. times c (neg_ℤ pivot)) (cond b None o)) 0 ≡ 0 → ⊥) → LacksGroup active pivot groups
lacking active pivot groups id true o has_it known more = absurd (more refl)
lacking active pivot groups id false None has_it known more = absurd (more refl)
lacking active pivot groups id false (Some clause) has_it known more = elim (cases_Bool (has clause (neg_ℤ pivot))) [
  | inl opposed ↦ (id, clause, known, opposed, has_it)
  | inr not_there ↦ absurd (more (no_times clause (neg_ℤ pivot) not_there))
]

pub one_lacks : (active : ℕ → Option (List ℤ)) (pivot : ℤ) (groups : List Group) (n : ℕ) → (n ≡ 0 → ⊥) → IsCount (without_groups groups active) (neg_ℤ pivot) n → LacksGroup active pivot groups
one_lacks active pivot groups n more ([], each, many) = absurd (more (sym many))
one_lacks active pivot groups n more (id ∷ ids, each, many) =
    lacking active pivot groups id (has_group groups id) (active id) refl refl (λ none. first_is (eqb id id) id (filter (λ k. eqb k id) ids) (search rules) (each id ∙ none))

pub pass_end : (active : ℕ → Option (List ℤ)) (pivot : ℤ) (groups left : List Group) (seen : ℕ → Bool) (count : ℕ) → ArePassed active (neg_ℤ pivot) groups left seen count → left ≡ [] →
    IsCount (without_groups groups active) (neg_ℤ pivot) count
pass_end active pivot groups left seen count h e =
    subst (λ (l : List Group). IsCount (without_groups l active) (neg_ℤ pivot) count) (sym (h.split ∙ ap (λ l. h.before ++ l) e ∙ append-nil h.before)) h.many

-- no clause holds the pivot's negation
pub none_opposes : (active : ℕ → Option (List ℤ)) (pivot : ℤ) (groups : List Group) (n : ℕ) → n ≡ 0 → IsCount active (neg_ℤ pivot) n → HasAllGroups active pivot groups
none_opposes active pivot groups n zeros ([], each, many) = λ id clause known opposed.
    absurd (some_times clause (neg_ℤ pivot) opposed (sym (each id ∙ ap (λ o. unwrap_or (option_map (λ c. times c (neg_ℤ pivot)) o) 0) known)))
none_opposes active pivot groups n zeros (other ∷ ids, each, many) = absurd (omega (arith, zeros, many))

pub decided : (b : Bool) (active : ℕ → Option (List ℤ)) (pivot : ℤ) (groups : List Group) (n : ℕ) → (b ≡ true → n ≡ 0) → (b ≡ false → n ≡ 0 → ⊥) → IsCount (without_groups groups active) (neg_ℤ pivot) n →
    MatchBool b (HasAllGroups active pivot groups) (LacksGroup active pivot groups)
decided true active pivot groups n zeros more h = all_counted active pivot groups n (zeros refl) h
decided false active pivot groups n zeros more h = one_lacks active pivot groups n (more refl) h
