-- By what the counts of the active clauses differ from the formula's, with one clause more or less.
use Rattle.std.proofs.Common.{◌≡◌, ℕ, zero, suc, ◌+◌, ◌-◌, ◌<◌, ◌≤◌, cond, not, eqb, List, [], ◌∷◌, ◌++◌, length, map, take, get_or, refl, ap, sym, ◌∙◌, subst, inl, inr, append_assoc, append-nil, arith}
use Rattle.std.specs.Prelude.{ℤ, Option, Some, None, slice_index_or}
use Rattle.std.specs.List.{slice_get}
use Rattle.std.specs.Option.{option_map, unwrap_or}
use Rattle.std.proofs.lemmas.Bool.{cases_eq, cond-false, eq-eqb, ne_eqb}
use Rattle.std.proofs.Math.Seq.{take-length}
use Rattle.std.proofs.lemmas.List.{take_more}
use Rattle.std.proofs.lemmas.List.Filters.{length-filter_both}
use Rattle.lrat_check.specs.Active.{numbered, at_start, with_clause, without}
use Rattle.lrat_check.specs.Counted.{AreChanges}
use Rattle.lrat_check.specs.Counts.{times, repeats, IsCount, AreLiteralCounts, literal_count}
use Rattle.lrat_check.specs.declared.count_changes.CountChanges.{CountChanges}
use Rattle.lrat_check.specs.declared.literal_counts.LiteralCounts.{LiteralCounts}
use Rattle.lrat_check.proofs.Counting.ActiveLemmas.{unit_of}
use Rattle.lrat_check.proofs.Justifying.CheckLemmas.{same_active}
use Rattle.lrat_check.proofs.Counting.CountLemmas.{are_more, are_none, are_same_counts, count_more, count_less}

-- no clause holds a literal more often than it is counted
times_within : (active : ℕ → Option (List ℤ)) (id : ℕ) (clause : List ℤ) (z : ℤ) (n : ℕ) → active id ≡ Some clause → IsCount active z n → times clause z ≤ n
times_within active id clause z n known (ids, each, many) =
    let both = length-filter_both (λ k. eqb k id) (λ k. not (eqb k id)) (λ k. refl) ids in
    let here : repeats ids id ≡ times clause z = each id ∙ ap (λ o. unwrap_or (option_map (λ c. times c z) o) 0) known in
    omega (arith, both, here, many)

-- nothing is counted yet
pub no_changes : (clauses : List (List ℤ)) (more less : LiteralCounts) → ((z : ℤ) → literal_count more z ≡ 0) → ((z : ℤ) → literal_count less z ≡ 0) → AreChanges clauses (numbered clauses) (record { more = more; less = less })
no_changes clauses more less none never = λ z base is. (base, is, (let a = none z in let b = never z in omega (arith, a, b)))

pub changes_more : (clauses : List (List ℤ)) (active : ℕ → Option (List ℤ)) (id : ℕ) (clause : List ℤ) (old : CountChanges) (more : LiteralCounts) → active id ≡ None →
    ((z : ℤ) → literal_count more z ≡ literal_count old.more z + times clause z) → AreChanges clauses active old → AreChanges clauses (with_clause id clause active) (record { more = more; less = old.less })
changes_more clauses active id clause old more free adds h = λ z base is.
    let was = h z base is in
    let a = adds z in
    let e = was.2 in
    (was.0 + times clause z, count_more active (with_clause id clause active) id clause z was.0 (was.0 + times clause z) free (λ other. refl) refl was.1, omega (arith, a, e))

pub changes_less : (clauses : List (List ℤ)) (active : ℕ → Option (List ℤ)) (id : ℕ) (clause : List ℤ) (old : CountChanges) (less : LiteralCounts) → active id ≡ Some clause →
    ((z : ℤ) → literal_count less z ≡ literal_count old.less z + times clause z) → AreChanges clauses active old → AreChanges clauses (without (id ∷ []) active) (record { more = old.more; less = less })
changes_less clauses active id clause old less known adds h = λ z base is.
    let was = h z base is in
    let a = adds z in
    let e = was.2 in
    let within = times_within active id clause z was.0 known was.1 in (
      was.0 - times clause z,
      count_less active (without (id ∷ []) active) id z was.0 (was.0 - times clause z) (λ other. refl) (ap (λ o. was.0 - unwrap_or (option_map (λ c. times c z) o) 0) (sym known)) was.1,
      omega (arith, a, e, within),
    )

-- the same clauses
pub changes_same : (clauses : List (List ℤ)) (f g : ℕ → Option (List ℤ)) (changes : CountChanges) → ((id : ℕ) → g id ≡ f id) → AreChanges clauses f changes → AreChanges clauses g changes
changes_same clauses f g changes h k = subst (λ (active : ℕ → Option (List ℤ)). AreChanges clauses active changes) (sym (same_active g f h)) k

-- what is read of them
pub count_applied : (clauses : List (List ℤ)) (active : ℕ → Option (List ℤ)) (changes : CountChanges) (z : ℤ) (base count : ℕ) → count ≡ base + literal_count changes.more z - literal_count changes.less z →
    AreChanges clauses active changes → IsCount (numbered clauses) z base → IsCount active z count
count_applied clauses active changes z base count e h is =
    let now = h z base is in
    let sum = now.2 in
    let same : count ≡ now.0 = omega (arith, e, sum) in
    subst (λ (n : ℕ). IsCount active z n) (sym same) now.1

-- one clause more at the end of a list
got_more : (xs : List (List ℤ)) (x : List ℤ) (p : ℕ) → slice_get (xs ++ x ∷ []) p ≡ cond (eqb (length xs) p) (Some x) (slice_get xs p)
got_more [] x zero = refl
got_more [] x (suc p) = sym (cond-false (eqb 0 (suc p)) (Some x) None (ne_eqb 0 (suc p) (λ e. omega (arith, e))))
got_more (y ∷ xs) x zero = sym (cond-false (eqb (length (y ∷ xs)) 0) (Some x) (Some y) (ne_eqb (length (y ∷ xs)) 0 (λ e. omega (arith, e))))
got_more (y ∷ xs) x (suc p) = got_more xs x p ∙ ap (λ b. cond b (Some x) (slice_get xs p)) (elim (cases_eq (length xs) p) [
  | inl same ↦ eq-eqb (length xs) p same ∙ sym (eq-eqb (length (y ∷ xs)) (suc p) (omega (arith, same)))
  | inr apart ↦ ne_eqb (length xs) p apart ∙ sym (ne_eqb (length (y ∷ xs)) (suc p) (λ e. apart (omega (arith, e))))
])

pub numbered_more : (xs : List (List ℤ)) (x : List ℤ) (id : ℕ) → numbered (xs ++ x ∷ []) id ≡ cond (eqb (length xs + 1) id) (Some x) (numbered xs id)
numbered_more xs x zero = sym (cond-false (eqb (length xs + 1) 0) (Some x) None (ne_eqb (length xs + 1) 0 (λ e. omega (arith, e))))
numbered_more xs x (suc p) = got_more xs x p ∙ ap (λ b. cond b (Some x) (slice_get xs p)) (elim (cases_eq (length xs) p) [
  | inl same ↦ eq-eqb (length xs) p same ∙ sym (eq-eqb (length xs + 1) (suc p) (omega (arith, same)))
  | inr apart ↦ ne_eqb (length xs) p apart ∙ sym (ne_eqb (length xs + 1) (suc p) (λ e. apart (omega (arith, e))))
])

got_none : (xs : List (List ℤ)) (p : ℕ) → length xs ≤ p → slice_get xs p ≡ None
got_none [] p h = refl
got_none (x ∷ xs) zero h = absurd (omega (arith, h))
got_none (x ∷ xs) (suc p) h = got_none xs p (omega (arith, h))

pub numbered_none : (xs : List (List ℤ)) (id : ℕ) → length xs < id → numbered xs id ≡ None
numbered_none xs zero h = refl
numbered_none xs (suc p) h = got_none xs p (omega (arith, h))

-- one literal more in the cube
units_more : (cube : List ℤ) (z : ℤ) → map unit_of (cube ++ z ∷ []) ≡ map unit_of cube ++ (z ∷ []) ∷ []
units_more [] z = refl
units_more (y ∷ cube) z = ap (λ xs. (y ∷ []) ∷ xs) (units_more cube z)

abbrev pub next_id : List (List ℤ) → List ℤ → ℕ
next_id clauses cube = length (clauses ++ map unit_of cube) + 1

pub cube_more : (clauses : List (List ℤ)) (cube : List ℤ) (i : ℕ) (z : ℤ) → i < length cube → z ≡ get_or cube i z → (id : ℕ) →
    at_start clauses (take (i + 1) cube) id ≡ with_clause (next_id clauses (take i cube)) (z ∷ []) (at_start clauses (take i cube)) id
cube_more clauses cube i z h e id =
    ap (λ xs. numbered (clauses ++ map unit_of xs) id) (take_more cube i z h ∙ ap (λ y. take i cube ++ y ∷ []) (sym e))
    ∙ ap (λ xs. numbered (clauses ++ xs) id) (units_more (take i cube) z)
    ∙ ap (λ xs. numbered xs id) (sym (append_assoc clauses (map unit_of (take i cube)) ((z ∷ []) ∷ [])))
    ∙ numbered_more (clauses ++ map unit_of (take i cube)) (z ∷ []) id

pub cube_free : (clauses : List (List ℤ)) (cube : List ℤ) → at_start clauses cube (next_id clauses cube) ≡ None
cube_free clauses cube = numbered_none (clauses ++ map unit_of cube) (next_id clauses cube) (omega arith)

pub no_cube : (clauses : List (List ℤ)) (id : ℕ) → at_start clauses [] id ≡ numbered clauses id
no_cube clauses id = ap (λ xs. numbered xs id) (append-nil clauses)

get_or_same : (xs : List (List ℤ)) (i : ℕ) (d : List ℤ) → i < length xs → get_or xs i d ≡ slice_index_or xs i d
get_or_same [] i d h = absurd (omega (arith, h))
get_or_same (x ∷ xs) zero d h = refl
get_or_same (x ∷ xs) (suc i) d h = get_or_same xs i d (omega (arith, h))

-- the clauses of a formula, one by one
pub formula_more : (clauses : List (List ℤ)) (i : ℕ) (old new : LiteralCounts) → i < length clauses → ((z : ℤ) → literal_count new z ≡ literal_count old z + times (slice_index_or clauses i []) z) →
    AreLiteralCounts (numbered (take i clauses)) old → AreLiteralCounts (numbered (take (i + 1) clauses)) new
formula_more clauses i old new h more k =
    let before = take i clauses in
    let clause = slice_index_or clauses i [] in
    are_more (numbered before) (numbered (take (i + 1) clauses)) (length before + 1) clause old new (numbered_none before (length before + 1) (omega arith))
    (λ other. ap (λ xs. numbered xs other) (take_more clauses i [] h ∙ ap (λ x. before ++ x ∷ []) (get_or_same clauses i [] h)) ∙ numbered_more before clause other) more k

no_clause : (id : ℕ) → numbered [] id ≡ None
no_clause zero = refl
no_clause (suc p) = refl

pub formula_none : (clauses : List (List ℤ)) (counts : LiteralCounts) → ((z : ℤ) → literal_count counts z ≡ 0) → AreLiteralCounts (numbered (take 0 clauses)) counts
formula_none clauses counts h = are_same_counts (λ id. None) (numbered []) counts no_clause (are_none counts h)

pub formula_all : (clauses : List (List ℤ)) (i : ℕ) (counts : LiteralCounts) → i ≡ length clauses → AreLiteralCounts (numbered (take i clauses)) counts → AreLiteralCounts (numbered clauses) counts
formula_all clauses i counts e h = subst (λ (xs : List (List ℤ)). AreLiteralCounts (numbered xs) counts) (ap (λ n. take n clauses) e ∙ take-length clauses) h
