-- Clauses in rows and in a tree, one by one.
use Rattle.std.proofs.Common.{◌≡◌, ℕ, zero, suc, ◌+◌, ◌-◌, ◌<◌, ◌≤◌, Bool, true, false, cond, eqb, leb, ◌||◌, List, [], ◌∷◌, length, refl, ap, sym, ◌∙◌, inl, inr, arith, le-leb}
use Rattle.std.specs.Prelude.{ℤ, Option, Some, None}
use Rattle.std.specs.Borrow.{Bor}
use Rattle.std.specs.BTreeMap.{is_at}
use Rattle.std.specs.Cmp.{unsigned_tied}
use Rattle.std.specs.Map.{lookup}
use Rattle.std.specs.Option.{option_map, option_or}
use Rattle.std.specs.Ordering.{nat_cmp}
use Rattle.std.proofs.lemmas.Bool.{cases_eq, cases_lt, cond-true, cond-false, eq-eqb, ne_eqb, lt-leb}
use Rattle.lrat_check.specs.AddedAt.{in_row}

pub same_none : (b : Bool) → cond {A = Option (List ℤ)} b None None ≡ None
same_none true = refl
same_none false = refl

abbrev pub shown : Bor (List ℤ) → List ℤ
shown clause = clause.now

-- no clause stands past the last row
pub past_rows : (rows : List (Option (Bor (List ℤ)))) (k : ℕ) → length rows ≤ k → in_row rows k ≡ None
past_rows [] k h = refl
past_rows (row ∷ rows) zero h = absurd (omega (arith, h))
past_rows (row ∷ rows) (suc k) h = past_rows rows k (omega (arith, h))

-- a row of one id is changed
pub row_changed : (first place id other : ℕ) (old new : List (Option (Bor (List ℤ)))) (o : Option (List ℤ)) → id ≡ first + place → ((k : ℕ) → in_row new k ≡ cond (eqb place k) o (in_row old k)) →
    cond (leb first other) (in_row new (other - first)) None ≡ cond (eqb id other) o (cond (leb first other) (in_row old (other - first)) None)
row_changed first place id other old new o e changed = elim (cases_lt first other) [
  | inl more ↦ reached (le-leb first other (omega (arith, more))) (omega (arith, more))
  | inr low ↦ elim (cases_eq first other) [
    | inl same ↦ reached (le-leb first other (omega (arith, same))) (omega (arith, same))
    | inr apart ↦ (let under : other < first = omega (arith, low, apart) in
        cond-false (leb first other) (in_row new (other - first)) None (lt-leb first other under)
        ∙ sym ((λ i. cond (ne_eqb id other (λ same. omega (arith, same, under, e)) i) o (cond (lt-leb first other under i) (in_row old (other - first)) None))))
  ]
]
  where
    same_row : first ≤ other → eqb place (other - first) ≡ eqb id other
    same_row above = elim (cases_eq id other) [
      | inl same ↦ eq-eqb place (other - first) (omega (arith, same, e)) ∙ sym (eq-eqb id other same)
      | inr apart ↦ ne_eqb place (other - first) (λ h. apart (omega (arith, h, e, above))) ∙ sym (ne_eqb id other apart)
    ]

    reached : leb first other ≡ true → first ≤ other → cond (leb first other) (in_row new (other - first)) None ≡ cond (eqb id other) o (cond (leb first other) (in_row old (other - first)) None)
    reached b above =
        cond-true (leb first other) (in_row new (other - first)) None b ∙ changed (other - first)
        ∙ (λ i. cond (same_row above i) o (sym (cond-true (leb first other) (in_row old (other - first)) None b) i))

-- a clause is put into a row, or into the tree, or is taken away
pub put_before : (b : Bool) (row in_tree : Option (List ℤ)) (clause : List ℤ) → option_or (cond b (Some clause) row) in_tree ≡ cond b (Some clause) (option_or row in_tree)
put_before true row in_tree clause = refl
put_before false row in_tree clause = refl

pub put_after : (b : Bool) (row in_tree : Option (List ℤ)) (clause : List ℤ) → (b ≡ true → row ≡ None) → option_or row (cond b (Some clause) in_tree) ≡ cond b (Some clause) (option_or row in_tree)
put_after true row in_tree clause h = ap (λ o. option_or o (Some clause)) (h refl)
put_after false row in_tree clause h = refl

pub taken : (b : Bool) (row in_tree : Option (List ℤ)) → option_or (cond b None row) (cond b None in_tree) ≡ cond (b || false) None (option_or row in_tree)
taken true row in_tree = refl
taken false row in_tree = refl

-- what a tree finds by the order of ids it finds by their equality
pub by_id : (id : ℕ) (entries : List (ℕ × Bor (List ℤ))) → lookup (is_at (nat_cmp id)) entries ≡ lookup (λ other. eqb id other) entries
by_id id entries = λ i. lookup (λ other. unsigned_tied id other i) entries

pub in_tree_changed : (id other : ℕ) (clause : Option (Bor (List ℤ))) (old new : List (ℕ × Bor (List ℤ))) → lookup (is_at (nat_cmp other)) new ≡ cond (is_at (nat_cmp id) other) clause (lookup (is_at (nat_cmp other)) old) →
    option_map shown (lookup (λ k. eqb other k) new) ≡ cond (eqb id other) (option_map shown clause) (option_map shown (lookup (λ k. eqb other k) old))
in_tree_changed id other clause old new h =
    ap (option_map shown) (sym (by_id other new) ∙ h ∙ (λ i. cond (unsigned_tied id other i) clause (by_id other old i))) ∙ mapped (eqb id other) clause (lookup (λ k. eqb other k) old)
  where
    mapped : (b : Bool) (x y : Option (Bor (List ℤ))) → option_map shown (cond b x y) ≡ cond b (option_map shown x) (option_map shown y)
    mapped true x y = refl
    mapped false x y = refl

-- where there are no rows, it does not matter with which id they begin
pub no_rows : (first other : ℕ) (rows : List (Option (Bor (List ℤ)))) → length rows ≡ 0 → cond (leb first other) (in_row rows (other - first)) None ≡ None
no_rows first other rows e = ap (λ o. cond (leb first other) o None) (past_rows rows (other - first) (omega (arith, e))) ∙ same_none (leb first other)

-- and before that id there is no row
pub before_first : (first id other : ℕ) (o : Option (List ℤ)) → id < first → cond (leb first other) o None ≡ cond (eqb id other) None (cond (leb first other) o None)
before_first first id other o h = elim (cases_eq id other) [
  | inl same ↦ cond-false (leb first other) o None (lt-leb first other (omega (arith, h, same))) ∙ sym (cond-true (eqb id other) None (cond (leb first other) o None) (eq-eqb id other same))
  | inr apart ↦ sym (cond-false (eqb id other) None (cond (leb first other) o None) (ne_eqb id other apart))
]
