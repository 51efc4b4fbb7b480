-- Counts of literals, with one clause more or less.
use Rattle.std.proofs.Common.{◌≡◌, ℕ, zero, suc, ◌+◌, ◌-◌, ◌<◌, Bool, true, false, cond, not, eqb, ◌||◌, List, [], ◌∷◌, ◌++◌, length, replicate, get_or, take, refl, ap, sym, ◌∙◌, subst, inl, inr, length-append, arith}
use Rattle.std.specs.Prelude.{ℤ, Option, Some, None}
use Rattle.std.specs.List.{filter}
use Rattle.std.specs.Option.{option_map, unwrap_or}
use Rattle.std.specs.Ordering.{int_eq}
use Rattle.std.proofs.lemmas.Bool.{cases_Bool, or_cases, or_parts, cond-false, eqb-true, eq-eqb, ne_eqb, false≢true}
use Rattle.std.proofs.lemmas.List.{length-replicate}
use Rattle.std.proofs.lemmas.List.Elements.{filter-append}
use Rattle.std.proofs.lemmas.List.Filters.{length-filter_more, length-filter_both}
use Rattle.lrat_check.specs.Counts.{times, times_at, repeats, IsCount, literal_count, AreLiteralCounts}
use Rattle.lrat_check.specs.Marks.{place_of}
use Rattle.lrat_check.specs.Propagation.{has}
use Rattle.lrat_check.specs.declared.literal_counts.LiteralCounts.{LiteralCounts}
use Rattle.lrat_check.proofs.Justifying.CheckLemmas.{same_active}
use Rattle.lrat_check.proofs.Justifying.PropagationLemmas.{int_same}
use Rattle.std.proofs.lemmas.Int.{ints}
use Rattle.std.proofs.lemmas.Bool.Decides.{nat_tests}

-- how often a literal stands in a clause
times_cons : (b : Bool) (y : ℤ) (xs : List ℤ) → length (cond b (y ∷ xs) xs) ≡ cond b 1 0 + length xs
times_cons true y xs = omega arith
times_cons false y xs = omega arith

pub no_times : (clause : List ℤ) (z : ℤ) → has clause z ≡ false → times clause z ≡ 0
no_times [] z h = refl
no_times (y ∷ clause) z h =
    let parts = or_parts (int_eq y z) (has clause z) h in
    times_cons (int_eq y z) y (filter (λ x. int_eq x z) clause) ∙ (λ i. cond (parts.0 i) 1 0 + no_times clause z parts.1 i)

pub some_times : (clause : List ℤ) (z : ℤ) → has clause z ≡ true → times clause z ≡ 0 → ⊥
some_times [] z h none = false≢true h
some_times (y ∷ clause) z h none =
    let whole = sym (times_cons (int_eq y z) y (filter (λ x. int_eq x z) clause)) ∙ none in
    elim (or_cases (int_eq y z) (has clause z) h) [
      | inl same ↦ (let more : 1 + times clause z ≡ 0 = ap (λ b. cond b 1 0 + times clause z) (sym same) ∙ whole in omega (arith, more))
      | inr later ↦ some_times clause z later (omega (arith, whole))
    ]

pub times_more : (clause : List ℤ) (i : ℕ) (x z : ℤ) → i < length clause → x ≡ get_or clause i x → times (take (i + 1) clause) z ≡ times (take i clause) z + cond (int_eq x z) 1 0
times_more clause i x z h e = length-filter_more (λ y. int_eq y z) clause i x h ∙ ap (λ y. times (take i clause) z + cond (int_eq y z) 1 0) (sym e)

-- how often an id is among others
repeats_append : (xs ys : List ℕ) (id : ℕ) → repeats (xs ++ ys) id ≡ repeats xs id + repeats ys id
repeats_append xs ys id = ap length (filter-append (λ k. eqb k id) xs ys) ∙ length-append (filter (λ k. eqb k id) xs) (filter (λ k. eqb k id) ys)

repeats_cons : (b : Bool) (k : ℕ) (xs : List ℕ) → length (cond b (k ∷ xs) xs) ≡ cond b 1 0 + length xs
repeats_cons true k xs = omega arith
repeats_cons false k xs = omega arith

one_more : (b : Bool) (n : ℕ) → cond b 1 0 + cond b n 0 ≡ cond b (suc n) 0
one_more true n = omega arith
one_more false n = refl

none_at_all : (b : Bool) → zero ≡ cond b zero zero
none_at_all true = refl
none_at_all false = refl

repeats_replicate : (n id other : ℕ) → repeats (replicate n id) other ≡ cond (eqb id other) n 0
repeats_replicate zero id other = none_at_all (eqb id other)
repeats_replicate (suc n) id other =
    repeats_cons (eqb id other) id (filter (λ k. eqb k other) (replicate n id)) ∙ ap (λ m. cond (eqb id other) 1 0 + m) (repeats_replicate n id other) ∙ one_more (eqb id other) n

dropped : (b d : Bool) (k : ℕ) (xs : List ℕ) → b ≡ d → cond d 0 (length xs) ≡ cond d 0 (length (cond b (k ∷ xs) xs))
dropped b true k xs e = refl
dropped b false k xs e = ap length (sym (cond-false b (k ∷ xs) xs e))

kept_on : (b d : Bool) (n m : ℕ) → (d ≡ true → b ≡ false) → n ≡ cond d 0 m → cond b 1 0 + n ≡ cond d 0 (cond b 1 0 + m)
kept_on b true n m h e = (λ i. cond (h refl i) 1 0 + e i)
kept_on b false n m h e = ap (λ k. cond b 1 0 + k) e

left_one : (a b d : Bool) (k other : ℕ) (xs ids : List ℕ) → b ≡ eqb k other → (a ≡ true → b ≡ d) → (a ≡ false → d ≡ true → b ≡ false) → repeats xs other ≡ cond d 0 (repeats ids other) →
    repeats (cond (not a) (k ∷ xs) xs) other ≡ cond d 0 (repeats (k ∷ ids) other)
left_one true b d k other xs ids is same apart h = h ∙ dropped (eqb k other) d k (filter (λ j. eqb j other) ids) (sym is ∙ same refl)
left_one false b d k other xs ids is same apart h =
    repeats_cons (eqb k other) k (filter (λ j. eqb j other) xs)
    ∙ kept_on (eqb k other) d (repeats xs other) (repeats ids other) (λ e. sym is ∙ apart refl e) h
    ∙ ap (λ n. cond d 0 n) (sym (repeats_cons (eqb k other) k (filter (λ j. eqb j other) ids)))

apart_ids : (k id other : ℕ) → eqb k id ≡ false → eqb id other ≡ true → eqb k other ≡ false
apart_ids k id other h e = ap (eqb k) (sym (eqb-true id other e)) ∙ h

left_out : (ids : List ℕ) (id other : ℕ) → repeats (filter (λ k. not (eqb k id)) ids) other ≡ cond (eqb id other) 0 (repeats ids other)
left_out [] id other = none_at_all (eqb id other)
left_out (k ∷ ids) id other =
    left_one (eqb k id) (eqb k other) (eqb id other) k other (filter (λ j. not (eqb j id)) ids) ids refl (λ e. ap (λ n. eqb n other) (eqb-true k id e)) (apart_ids k id other) (left_out ids id other)

-- one clause more
abbrev shown : ℤ → Option (List ℤ) → ℕ
shown z o = unwrap_or (option_map (λ clause. times clause z) o) 0

put_in : (b : Bool) (z : ℤ) (clause : List ℤ) (o : Option (List ℤ)) → (b ≡ true → o ≡ None) → cond b (times clause z) 0 + shown z o ≡ shown z (cond b (Some clause) o)
put_in true z clause o h = ap (λ p. times clause z + shown z p) (h refl) ∙ (omega arith)
put_in false z clause o h = omega arith

pub count_more : (f g : ℕ → Option (List ℤ)) (id : ℕ) (clause : List ℤ) (z : ℤ) (n m : ℕ) → f id ≡ None → ((other : ℕ) → g other ≡ cond (eqb id other) (Some clause) (f other)) → m ≡ n + times clause z →
    IsCount f z n → IsCount g z m
count_more f g id clause z n m free same more (ids, each, many) = (
  replicate (times clause z) id ++ ids,
  (λ other. repeats_append (replicate (times clause z) id) ids other
      ∙ (λ i. repeats_replicate (times clause z) id other i + each other i)
      ∙ put_in (eqb id other) z clause (f other) (λ e. ap f (sym (eqb-true id other e)) ∙ free)
      ∙ ap (shown z) (sym (same other))),
  (let long = length-append (replicate (times clause z) id) ids in let front = length-replicate (times clause z) id in omega (arith, long, front, many, more)),
)

pub are_more : (f g : ℕ → Option (List ℤ)) (id : ℕ) (clause : List ℤ) (old new : LiteralCounts) → f id ≡ None → ((other : ℕ) → g other ≡ cond (eqb id other) (Some clause) (f other)) →
    ((z : ℤ) → literal_count new z ≡ literal_count old z + times clause z) → AreLiteralCounts f old → AreLiteralCounts g new
are_more f g id clause old new free same more h = λ z. count_more f g id clause z (literal_count old z) (literal_count new z) free same (more z) (h z)

-- one clause less
taken_out : (b : Bool) (z : ℤ) (o : Option (List ℤ)) → cond b 0 (shown z o) ≡ shown z (cond (b || false) None o)
taken_out true z o = refl
taken_out false z o = refl

pub count_less : (f g : ℕ → Option (List ℤ)) (id : ℕ) (z : ℤ) (n m : ℕ) → ((other : ℕ) → g other ≡ cond (eqb id other || false) None (f other)) → m ≡ n - times_at f z id → IsCount f z n → IsCount g z m
count_less f g id z n m same less (ids, each, many) = (
  filter (λ k. not (eqb k id)) ids,
  (λ other. left_out ids id other ∙ ap (cond (eqb id other) 0) (each other) ∙ taken_out (eqb id other) z (f other) ∙ ap (shown z) (sym (same other))),
  (let both = length-filter_both (λ k. eqb k id) (λ k. not (eqb k id)) (λ k. refl) ids in let here = each id in omega (arith, both, here, many, less)),
)

-- the same clauses
pub count_same : (f g : ℕ → Option (List ℤ)) (z : ℤ) (n : ℕ) → ((id : ℕ) → g id ≡ f id) → IsCount f z n → IsCount g z n
count_same f g z n h k = subst (λ (active : ℕ → Option (List ℤ)). IsCount active z n) (sym (same_active g f h)) k

pub are_same_counts : (f g : ℕ → Option (List ℤ)) (counts : LiteralCounts) → ((id : ℕ) → g id ≡ f id) → AreLiteralCounts f counts → AreLiteralCounts g counts
are_same_counts f g counts h k = subst (λ (active : ℕ → Option (List ℤ)). AreLiteralCounts active counts) (sym (same_active g f h)) k

-- no clause
pub are_none : (counts : LiteralCounts) → ((z : ℤ) → literal_count counts z ≡ 0) → AreLiteralCounts (λ id. None) counts
are_none counts h = λ z. ([], (λ id. refl), sym (h z))

-- each literal has a place of its own
place_apart : (x z : ℤ) → int_eq x z ≡ false → place_of x ≡ place_of z → ⊥
place_apart x z h e = grind (arith, ints, nat_tests, h, e)

pub place_same : (x z : ℤ) → eqb (place_of x) (place_of z) ≡ int_eq x z
place_same x z = elim (cases_Bool (int_eq x z)) [
  | inl same ↦ ap (λ y. eqb (place_of x) (place_of y)) (sym (int_same x z same)) ∙ eq-eqb (place_of x) (place_of x) refl ∙ sym same
  | inr apart ↦ ne_eqb (place_of x) (place_of z) (place_apart x z apart) ∙ sym apart
]

-- counts that go up with each literal
pub raised : (old new first place : ℕ) (clause : List ℤ) (i : ℕ) (x z : ℤ) → i < length clause → x ≡ get_or clause i x → place ≡ place_of x → new ≡ old + cond (eqb place (place_of z)) 1 0 →
    old ≡ first + times (take i clause) z → new ≡ first + times (take (i + 1) clause) z
raised old new first place clause i x z h e at now before =
    let by : new ≡ old + cond (int_eq x z) 1 0 = now ∙ ap (λ n. old + cond (eqb n (place_of z)) 1 0) at ∙ ap (λ b. old + cond b 1 0) (place_same x z) in
    let more = times_more clause i x z h e in
    omega (arith, by, before, more)
