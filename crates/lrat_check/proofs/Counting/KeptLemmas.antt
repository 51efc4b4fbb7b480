-- The clauses that are counted so far, where all are counted.
use Rattle.std.proofs.Common.{◌≡◌, ℕ, ◌+◌, ◌-◌, ◌≤◌, Bool, length, true, false, cond, eqb, leb, rules, ◌||◌, List, [], ◌∷◌, refl, ap, sym, ◌∙◌, subst, inl, inr, le-leb, arith}
use Rattle.std.specs.Prelude.{ℤ, Option, Some, None}
use Rattle.std.specs.Borrow.{Bor}
use Rattle.std.specs.List.{list_any, IsDistinct, AllByRecursion}
use Rattle.std.specs.Map.{keys_of, lookup}
use Rattle.std.specs.Option.{option_map, option_or, is_some}
use Rattle.std.proofs.lemmas.Bool.{cond-true, cond-false, eqb-true, eq-eqb, ne_eqb, leb-true, or_cases, or_left, or_parts, false≢true, true≢false, cases_eq, cases_lt, lt-leb}
use Rattle.lrat_check.specs.AddedAt.{in_row}
use Rattle.lrat_check.specs.Active.{with_clause}
use Rattle.lrat_check.specs.Counted.{AreChanges, AreRightChanges}
use Rattle.lrat_check.specs.declared.count_changes.CountChanges.{CountChanges}
use Rattle.lrat_check.proofs.Counting.AddedLemmas.{past_rows, same_none}
use Rattle.lrat_check.proofs.Justifying.CheckLemmas.{same_active}
use Rattle.lrat_check.proofs.Counting.ChangeLemmas.{changes_same}

none_on : (b : Bool) (o : Option (List ℤ)) → (b ≡ true → o ≡ None) → cond b None o ≡ o
none_on true o h = sym (h refl)
none_on false o h = refl

or_none : (o : Option (List ℤ)) → option_or o None ≡ o
or_none None = refl
or_none (Some clause) = refl

-- Those at the start, and those added that were passed; the others are left.
abbrev pub passed : (ℕ → Option (List ℤ)) → (ℕ → Option (List ℤ)) → (ℕ → Bool) → ℕ → Option (List ℤ)
passed kept added left id = option_or (kept id) (cond (left id) None (added id))

-- those of these entries are left
abbrev pub is_left : List (ℕ × Bor (List ℤ)) → ℕ → Bool
is_left entries id = list_any (λ entry. eqb entry.0 id) entries

found_on : (b c : Bool) (kept added : Option (List ℤ)) (clause : List ℤ) → (b ≡ true → kept ≡ None) → (b ≡ true → added ≡ Some clause) → (b ≡ true → c ≡ false) →
    option_or kept (cond c None added) ≡ cond b (Some clause) (option_or kept (cond (b || c) None added))
found_on true c kept added clause free known last = (λ i. option_or (free refl i) (cond (last refl i) None (known refl i)))
found_on false c kept added clause free known last = refl

pub passed_more : (clauses : List (List ℤ)) (kept added : ℕ → Option (List ℤ)) (id : ℕ) (clause : List ℤ) (left rest : ℕ → Bool) (old new : CountChanges) → ((other : ℕ) → left other ≡ (eqb id other || rest other)) →
    kept id ≡ None → added id ≡ Some clause → rest id ≡ false →
    ((active : ℕ → Option (List ℤ)) (id : ℕ) → active id ≡ None → AreChanges clauses active old → AreChanges clauses (with_clause id clause active) new) → AreChanges clauses (passed kept added left) old → AreChanges clauses (passed kept added rest) new
passed_more clauses kept added id clause left rest old new splits free known last more h =
    changes_same clauses (with_clause id clause (passed kept added left)) (passed kept added rest) new
    (λ other. found_on (eqb id other) (rest other) (kept other) (added other) clause
    (λ e. ap kept (sym (eqb-true id other e)) ∙ free)
    (λ e. ap added (sym (eqb-true id other e)) ∙ known)
    (λ e. ap rest (sym (eqb-true id other e)) ∙ last)
    ∙ (λ i. cond (eqb id other) (Some clause) (option_or (kept other) (cond (sym (splits other) i) None (added other)))))
    (more (passed kept added left) id ((λ i. option_or (free i) (cond (splits id i) None (added id))) ∙ cond-true (eqb id id || rest id) None (added id) (or_left (eqb id id) (rest id) (search rules))) h)

shadowed : (b c : Bool) (kept added : Option (List ℤ)) (clause : List ℤ) → (b ≡ true → kept ≡ Some clause) → option_or kept (cond c None added) ≡ option_or kept (cond (b || c) None added)
shadowed true c kept added clause h = (λ i. option_or (h refl i) (cond c None added)) ∙ (λ i. option_or (sym (h refl) i) None)
shadowed false c kept added clause h = refl

pub passed_same : (clauses : List (List ℤ)) (kept added : ℕ → Option (List ℤ)) (id : ℕ) (clause : List ℤ) (left rest : ℕ → Bool) (changes : CountChanges) → ((other : ℕ) → left other ≡ (eqb id other || rest other)) → kept id ≡ Some clause →
    AreChanges clauses (passed kept added left) changes → AreChanges clauses (passed kept added rest) changes
passed_same clauses kept added id clause left rest changes splits known h =
    changes_same clauses (passed kept added left) (passed kept added rest) changes
    (λ k. shadowed (eqb id k) (rest k) (kept k) (added k) clause (λ e. ap kept (sym (eqb-true id k e)) ∙ known)
    ∙ (λ i. option_or (kept k) (cond (sym (splits k) i) None (added k)))) h

missing_on : (b c : Bool) (kept added : Option (List ℤ)) → (b ≡ true → added ≡ None) → option_or kept (cond c None added) ≡ option_or kept (cond (b || c) None added)
missing_on true c kept added h = (λ i. option_or kept (cond c None (h refl i))) ∙ ap (option_or kept) (same_none c)
missing_on false c kept added h = refl

pub passed_over : (clauses : List (List ℤ)) (kept added : ℕ → Option (List ℤ)) (id : ℕ) (left rest : ℕ → Bool) (changes : CountChanges) → ((other : ℕ) → left other ≡ (eqb id other || rest other)) → added id ≡ None →
    AreChanges clauses (passed kept added left) changes → AreChanges clauses (passed kept added rest) changes
passed_over clauses kept added id left rest changes splits none h =
    changes_same clauses (passed kept added left) (passed kept added rest) changes
    (λ k. missing_on (eqb id k) (rest k) (kept k) (added k) (λ e. ap added (sym (eqb-true id k e)) ∙ none)
    ∙ (λ i. option_or (kept k) (cond (sym (splits k) i) None (added k)))) h

-- of all ids from one on it is the first
pub from_next : (next other : ℕ) → leb next other ≡ (eqb next other || leb (next + 1) other)
from_next next other = elim (cases_lt next other) [
  | inl more ↦ le-leb next other (omega (arith, more)) ∙ sym (λ i. ne_eqb next other (λ e. omega (arith, e, more)) i || le-leb (next + 1) other (omega (arith, more)) i)
  | inr low ↦ elim (cases_eq next other) [
    | inl same ↦ le-leb next other (omega (arith, same)) ∙ sym (λ i. eq-eqb next other same i || leb (next + 1) other)
    | inr apart ↦ lt-leb next other (omega (arith, low, apart)) ∙ sym (λ i. ne_eqb next other apart i || lt-leb (next + 1) other (omega (arith, low)) i)
  ]
]

pub next_is_first : (next : ℕ) → leb (next + 1) next ≡ false
next_is_first next = lt-leb (next + 1) next (omega arith)

-- at first no row is passed, and at last each is
before_rows : (b : Bool) (kept row : Option (List ℤ)) → option_or kept (cond b None (cond b row None)) ≡ kept
before_rows true kept row = or_none kept
before_rows false kept row = or_none kept

pub rows_start : (clauses : List (List ℤ)) (kept : ℕ → Option (List ℤ)) (first : ℕ) (rows : List (Option (Bor (List ℤ)))) (changes : CountChanges) → AreChanges clauses kept changes →
    AreChanges clauses (passed kept (λ id. cond (leb first id) (in_row rows (id - first)) None) (leb first)) changes
rows_start clauses kept first rows changes h =
    changes_same clauses kept (passed kept (λ id. cond (leb first id) (in_row rows (id - first)) None) (leb first)) changes (λ id. before_rows (leb first id) (kept id) (in_row rows (id - first))) h

no_row : (first id : ℕ) (rows : List (Option (Bor (List ℤ)))) → leb (first + length rows) id ≡ true → cond (leb first id) (in_row rows (id - first)) None ≡ None
no_row first id rows h =
    let far : first + length rows ≤ id = leb-true (first + length rows) id h in
    ap (λ o. cond (leb first id) o None) (past_rows rows (id - first) (omega (arith, far))) ∙ same_none (leb first id)

pub rows_end : (clauses : List (List ℤ)) (kept : ℕ → Option (List ℤ)) (first : ℕ) (rows : List (Option (Bor (List ℤ)))) (changes : CountChanges) →
    AreChanges clauses (passed kept (λ id. cond (leb first id) (in_row rows (id - first)) None) (leb (first + length rows))) changes →
    AreChanges clauses (λ id. option_or (kept id) (cond (leb first id) (in_row rows (id - first)) None)) changes
rows_end clauses kept first rows changes h =
    changes_same clauses (passed kept (λ id. cond (leb first id) (in_row rows (id - first)) None) (leb (first + length rows))) (λ id. option_or (kept id) (cond (leb first id) (in_row rows (id - first)) None)) changes
    (λ id. ap (option_or (kept id)) (sym (none_on (leb (first + length rows) id) (cond (leb first id) (in_row rows (id - first)) None) (no_row first id rows)))) h

-- one after the other
or_or : (a b c : Option (List ℤ)) → option_or a (option_or b c) ≡ option_or (option_or a b) c
or_or None b c = refl
or_or (Some clause) b c = refl

pub all_passed : (clauses : List (List ℤ)) (kept rows in_tree : ℕ → Option (List ℤ)) (changes : CountChanges) → AreChanges clauses (λ id. option_or (option_or (kept id) (rows id)) (in_tree id)) changes → AreChanges clauses (λ id. option_or (kept id) (option_or (rows id) (in_tree id))) changes
all_passed clauses kept rows in_tree changes h =
    changes_same clauses (λ id. option_or (option_or (kept id) (rows id)) (in_tree id)) (λ id. option_or (kept id) (option_or (rows id) (in_tree id))) changes (λ id. or_or (kept id) (rows id) (in_tree id)) h

-- at first no entry is passed, and at last each is
no_entry : (entries : List (ℕ × Bor (List ℤ))) (id : ℕ) → is_left entries id ≡ false → lookup (λ other. eqb id other) entries ≡ None
no_entry [] id h = refl
no_entry (e ∷ entries) id h =
    let parts = or_parts (eqb e.0 id) (is_left entries id) h in
    cond-false (eqb id e.0) (Some e.1) (lookup (λ other. eqb id other) entries) (ne_eqb id e.0 (λ same. true≢false (sym (eq-eqb e.0 id (sym same)) ∙ parts.0))) ∙ no_entry entries id parts.1

only_kept : (b : Bool) (kept added : Option (List ℤ)) → (b ≡ false → added ≡ None) → option_or kept (cond b None added) ≡ kept
only_kept true kept added h = or_none kept
only_kept false kept added h = ap (option_or kept) (h refl) ∙ or_none kept

pub passed_none : (clauses : List (List ℤ)) (kept : ℕ → Option (List ℤ)) (entries rest : List (ℕ × Bor (List ℤ))) (changes : CountChanges) → rest ≡ entries → AreChanges clauses kept changes →
    AreChanges clauses (passed kept (λ id. option_map (λ (clause : Bor (List ℤ)). clause.now) (lookup (λ other. eqb id other) entries)) (is_left rest)) changes
passed_none clauses kept entries rest changes e h =
    let added : ℕ → Option (List ℤ) = λ id. option_map (λ (clause : Bor (List ℤ)). clause.now) (lookup (λ other. eqb id other) entries) in
    subst (λ (l : List (ℕ × Bor (List ℤ))). AreChanges clauses (passed kept added (is_left l)) changes) (sym e)
    (changes_same clauses kept (passed kept added (is_left entries)) changes (λ id. only_kept (is_left entries id) (kept id) (added id) (λ none. ap (option_map (λ (clause : Bor (List ℤ)). clause.now)) (no_entry entries id none))) h)

-- no two entries have one id
pub distinct_rest : (id : ℕ) (ids : List ℕ) → IsDistinct eqb (id ∷ ids) → IsDistinct eqb ids
unfolding IsDistinct
distinct_rest id ids h = h.1

none_is : (id : ℕ) (entries : List (ℕ × Bor (List ℤ))) → AllByRecursion (λ other. eqb id other ≡ false) (keys_of entries) → is_left entries id ≡ false
none_is id [] h = refl
none_is id (e ∷ entries) h =
    (λ i. ne_eqb e.0 id (λ same. true≢false (sym (eq-eqb id e.0 (sym same)) ∙ h.0)) i || none_is id entries h.1 i)

pub not_left : (id : ℕ) (entries : List (ℕ × Bor (List ℤ))) → IsDistinct eqb (id ∷ keys_of entries) → is_left entries id ≡ false
unfolding IsDistinct
not_left id entries h = none_is id entries h.0

pub shows_one : (o : Option (List ℤ)) → is_some o ≡ true → (clause : List ℤ) × (o ≡ Some clause)
shows_one None h = absurd (false≢true h)
shows_one (Some clause) h = (clause, refl)

pub shows_none : (o : Option (List ℤ)) → is_some o ≡ false → o ≡ None
shows_none None h = refl
shows_none (Some clause) h = absurd (true≢false h)

-- what is not active is not taken out
pub without_none : (active : ℕ → Option (List ℤ)) (id : ℕ) → active id ≡ None → (other : ℕ) → cond (eqb id other || false) None (active other) ≡ active other
without_none active id h other = none_on (eqb id other || false) (active other) (λ e. elim (or_cases (eqb id other) false e) [
  | inl same ↦ ap active (sym (eqb-true id other same)) ∙ h
  | inr never ↦ absurd (false≢true never)
])

pub right_same : (clauses : List (List ℤ)) (f g : ℕ → Option (List ℤ)) (changes : Option CountChanges) → ((id : ℕ) → g id ≡ f id) → AreRightChanges clauses f changes → AreRightChanges clauses g changes
right_same clauses f g changes h k = subst (λ (active : ℕ → Option (List ℤ)). AreRightChanges clauses active changes) (sym (same_active g f h)) k
