-- Ids that are hidden, and the clauses without them.
use Rattle.std.proofs.Common.{◌≡◌, ℕ, zero, suc, ◌<◌, ◌≤◌, Bool, true, false, cond, eqb, leb, ◌||◌, List, [], ◌∷◌, length, refl, ap, sym, ◌∙◌, inl, inr, le-leb, arith}
use Rattle.std.specs.Prelude.{ℤ, Option, None, slice_index_or}
use Rattle.std.specs.BTreeMap.{is_at}
use Rattle.std.specs.Cmp.{unsigned_tied}
use Rattle.std.specs.BTreeSet.{contains}
use Rattle.std.specs.List.{list_any, IsDistinct, AllByRecursion}
use Rattle.std.specs.Ordering.{nat_cmp}
use Rattle.std.proofs.lemmas.Bool.{cases_Bool, cases_eq, cases_lt, cond-true, cond-false, eqb-true, eq-eqb, ne_eqb, leb-true, or_left, or_parts, false≢true, true≢false}
use Rattle.lrat_check.specs.Hidden.{is_hidden, kept_by_table, passed_by}
use Rattle.lrat_check.specs.Marks.{marked_at}
use Rattle.lrat_check.specs.declared.hidden_ids.HiddenIds.{HiddenIds}

-- past the end of the table the tree decides
pub past_table : (near : List Bool) (place : ℕ) (far : Bool) → length near ≤ place → slice_index_or near place far ≡ far
past_table [] place far h = refl
past_table (mark ∷ near) zero far h = absurd (omega (arith, h))
past_table (mark ∷ near) (suc place) far h = past_table near place far (omega (arith, h))

-- an id is put into the tree
pub put_past : (near : List Bool) (id k : ℕ) (old new : Bool) → length near ≤ id → new ≡ cond (is_at (nat_cmp id) k) true old → slice_index_or near k new ≡ cond (eqb id k) true (slice_index_or near k old)
put_past near id k old new past h =
    ap (slice_index_or near k) (h ∙ ap (λ b. cond b true old) (unsigned_tied id k)) ∙ elim (cases_eq id k) [
      | inl same ↦ (let b = eq-eqb id k same in
          ap (slice_index_or near k) (cond-true (eqb id k) true old b) ∙ past_table near k true (omega (arith, past, same)) ∙ sym (cond-true (eqb id k) true (slice_index_or near k old) b))
      | inr apart ↦ (let b = ne_eqb id k apart in
          ap (slice_index_or near k) (cond-false (eqb id k) true old b) ∙ sym (cond-false (eqb id k) true (slice_index_or near k old) b))
    ]

all_left : (b hidden : Bool) (o : Option (List ℤ)) → b ≡ true → cond b o (cond hidden None o) ≡ o
all_left true hidden o h = refl
all_left false hidden o h = absurd (false≢true h)

-- an id that is left
pub still_there : (start : ℕ → Option (List ℤ)) (hidden left rest : ℕ → Bool) (id : ℕ) → ((other : ℕ) → left other ≡ (eqb id other || rest other)) → passed_by start hidden left id ≡ start id
still_there start hidden left rest id splits = all_left (left id) (hidden id) (start id) (splits id ∙ or_left (eqb id id) (rest id) (eq-eqb id id refl))

more_on : (b rest hidden : Bool) (o : Option (List ℤ)) → (b ≡ true → hidden ≡ true) → (b ≡ true → rest ≡ false) → cond rest o (cond hidden None o) ≡ cond (b || false) None (cond (b || rest) o (cond hidden None o))
more_on true rest hidden o h k = (λ i. cond (k refl i) o (cond (h refl i) None o))
more_on false rest hidden o h k = refl

-- it is hidden
pub passed_hidden : (start : ℕ → Option (List ℤ)) (hidden left rest : ℕ → Bool) (id : ℕ) → ((other : ℕ) → left other ≡ (eqb id other || rest other)) → hidden id ≡ true → rest id ≡ false → (other : ℕ) →
    passed_by start hidden rest other ≡ cond (eqb id other || false) None (passed_by start hidden left other)
passed_hidden start hidden left rest id splits is last other =
    more_on (eqb id other) (rest other) (hidden other) (start other) (λ e. ap hidden (sym (eqb-true id other e)) ∙ is) (λ e. ap rest (sym (eqb-true id other e)) ∙ last)
    ∙ (λ i. cond (eqb id other || false) None (cond (sym (splits other) i) (start other) (cond (hidden other) None (start other))))

same_on : (b rest hidden : Bool) (o : Option (List ℤ)) → (b ≡ true → cond hidden None o ≡ o) → cond rest o (cond hidden None o) ≡ cond (b || rest) o (cond hidden None o)
same_on true true hidden o h = refl
same_on true false hidden o h = h refl
same_on false rest hidden o h = refl

-- it hides nothing
pub passed_shown : (start : ℕ → Option (List ℤ)) (hidden left rest : ℕ → Bool) (id : ℕ) → ((other : ℕ) → left other ≡ (eqb id other || rest other)) → cond (hidden id) None (start id) ≡ start id → (other : ℕ) →
    passed_by start hidden rest other ≡ passed_by start hidden left other
passed_shown start hidden left rest id splits is other =
    same_on (eqb id other) (rest other) (hidden other) (start other) (λ e. ap (λ k. cond (hidden k) None (start k)) (sym (eqb-true id other e)) ∙ is ∙ ap start (eqb-true id other e))
    ∙ (λ i. cond (sym (splits other) i) (start other) (cond (hidden other) None (start other)))

-- at first each id is left
pub none_passed : (start : ℕ → Option (List ℤ)) (hidden left : ℕ → Bool) → ((id : ℕ) → left id ≡ false → cond (hidden id) None (start id) ≡ start id) → (id : ℕ) → passed_by start hidden left id ≡ start id
none_passed start hidden left h id = elim (cases_Bool (left id)) [
  | inl there ↦ cond-true (left id) (start id) (cond (hidden id) None (start id)) there
  | inr passed ↦ cond-false (left id) (start id) (cond (hidden id) None (start id)) passed ∙ h id passed
]

-- and at last none that is hidden
pub hidden_passed : (start : ℕ → Option (List ℤ)) (hidden left : ℕ → Bool) → ((id : ℕ) → left id ≡ true → hidden id ≡ false) → (id : ℕ) → cond (hidden id) None (start id) ≡ passed_by start hidden left id
hidden_passed start hidden left h id = elim (cases_Bool (left id)) [
  | inl there ↦ cond-false (hidden id) None (start id) (h id there) ∙ sym (cond-true (left id) (start id) (cond (hidden id) None (start id)) there)
  | inr passed ↦ sym (cond-false (left id) (start id) (cond (hidden id) None (start id)) passed)
]

-- the ids of the table
pub zero_first : (id : ℕ) → leb 0 id ≡ true
zero_first id = le-leb 0 id (omega arith)

pub past_marks : (near : List Bool) (id : ℕ) → leb (length near) id ≡ true → marked_at near id ≡ false
past_marks near id h = past_table near id false (leb-true (length near) id h)

-- a mark of the table hides wherever the tree is asked too
below_table : (near : List Bool) (place : ℕ) (far : Bool) → place < length near → slice_index_or near place far ≡ marked_at near place
below_table [] place far h = absurd (omega (arith, h))
below_table (mark ∷ near) zero far h = refl
below_table (mark ∷ near) (suc place) far h = below_table near place far (omega (arith, h))

twice : (b : Bool) (o : Option (List ℤ)) → cond b None (cond b None o) ≡ cond b None o
twice true o = refl
twice false o = refl

pub below_table_kept : (hidden : HiddenIds) (start : ℕ → Option (List ℤ)) (id : ℕ) → id < length hidden.near.items → cond (is_hidden hidden id) None (kept_by_table hidden start id) ≡ kept_by_table hidden start id
below_table_kept hidden start id h =
    ap (λ b. cond b None (kept_by_table hidden start id)) (below_table hidden.near.items id (contains nat_cmp hidden.far id) h) ∙ twice (marked_at hidden.near.items id) (start id)

pub past_table_kept : (hidden : HiddenIds) (start : ℕ → Option (List ℤ)) (id : ℕ) → length hidden.near.items ≤ id → kept_by_table hidden start id ≡ start id
past_table_kept hidden start id h = cond-false (marked_at hidden.near.items id) None (start id) (past_table hidden.near.items id false h)

pub past_table_hidden : (hidden : HiddenIds) (id : ℕ) → length hidden.near.items ≤ id → contains nat_cmp hidden.far id ≡ true → is_hidden hidden id ≡ true
past_table_hidden hidden id h found = past_table hidden.near.items id (contains nat_cmp hidden.far id) h ∙ found

-- the keys of a tree that are left
abbrev pub is_among : List ℕ → ℕ → Bool
is_among keys id = list_any (λ key. eqb key id) keys

among_keys : (keys : List ℕ) (id : ℕ) → is_among keys id ≡ false → list_any (is_at (nat_cmp id)) keys ≡ false
among_keys [] id h = refl
among_keys (key ∷ keys) id h =
    let parts = or_parts (eqb key id) (is_among keys id) h in
    (λ i. (unsigned_tied id key ∙ ne_eqb id key (λ same. true≢false (sym (eq-eqb key id (sym same)) ∙ parts.0))) i || among_keys keys id parts.1 i)

-- at first each key is left, and at last none is
pub tree_start : (hidden : HiddenIds) (start : ℕ → Option (List ℤ)) (keys : List ℕ) → keys ≡ hidden.far.keys → (id : ℕ) →
    passed_by (kept_by_table hidden start) (is_hidden hidden) (is_among keys) id ≡ kept_by_table hidden start id
tree_start hidden start keys e = none_passed (kept_by_table hidden start) (is_hidden hidden) (is_among keys) (λ id passed. elim (cases_lt id (length hidden.near.items)) [
  | inl below ↦ below_table_kept hidden start id below
  | inr past ↦ cond-false (is_hidden hidden id) None (kept_by_table hidden start id)
      (past_table hidden.near.items id (contains nat_cmp hidden.far id) (omega (arith, past)) ∙ among_keys hidden.far.keys id (ap (λ l. is_among l id) (sym e) ∙ passed))
])

pub tree_end : (hidden : HiddenIds) (start : ℕ → Option (List ℤ)) (id : ℕ) → cond (is_hidden hidden id) None (start id) ≡ passed_by (kept_by_table hidden start) (is_hidden hidden) (is_among []) id
tree_end hidden start id = elim (cases_lt id (length hidden.near.items)) [
  | inl below ↦ (let b = below_table hidden.near.items id (contains nat_cmp hidden.far id) below in
      ap (λ h. cond h None (start id)) b ∙ sym (below_table_kept hidden start id below))
  | inr past ↦ ap (λ o. cond (is_hidden hidden id) None o) (sym (past_table_kept hidden start id (omega (arith, past))))
]

-- no key stands in the tree twice
pub distinct_after : (key : ℕ) (keys : List ℕ) → IsDistinct eqb (key ∷ keys) → IsDistinct eqb keys
unfolding IsDistinct
distinct_after key keys h = h.1

none_among : (key : ℕ) (keys : List ℕ) → AllByRecursion (λ other. eqb key other ≡ false) keys → is_among keys key ≡ false
none_among key [] h = refl
none_among key (other ∷ keys) h = (λ i. ne_eqb other key (λ same. true≢false (sym (eq-eqb key other (sym same)) ∙ h.0)) i || none_among key keys h.1 i)

pub not_among : (key : ℕ) (keys : List ℕ) → IsDistinct eqb (key ∷ keys) → is_among keys key ≡ false
unfolding IsDistinct
not_among key keys h = none_among key keys h.0
