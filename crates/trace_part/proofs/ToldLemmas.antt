-- Of the names of a process that a name stands before, the first alone makes a pair with it.
use Rattle.std.proofs.Common.{◌≡◌, ◌⊎◌, ◌<◌, ◌≤◌, ◌+◌, ℕ, suc, List, [], ◌∷◌, ◌++◌, map, Bool, true, false, cond, not, ◌==◌, ◌&&◌, ◌||◌, refl, ap, sym, ◌∙◌, arith, inl, inr, subst, append_assoc}
use Rattle.std.specs.Prelude.{⊤, Some, None, nat_lt}
use Rattle.std.specs.List.{AllPairs, Contains, filter, find, flat_map, list_any}
use Rattle.std.proofs.lemmas.Bool.{and_parts, and_from, leb-true, le-leb, eqb-true, eq-eqb, or_cases}
use Rattle.std.proofs.lemmas.List.Elements.{Contains-append_cases, Contains-append_left, Contains-append_right, filter-append}
use Rattle.std.proofs.lemmas.Grind.{flat_map-append}
use Rattle.text_lines.proofs.BoolLemmas.{same_truth}
use Rattle.trace_semantics.proofs.ElementLemmas.{none_in, cases_in, head_in, tail_in, some_passes, passes_some}
use Rattle.forced_order.specs.Rows.{OrderValue, last_before, stands_by}
use Rattle.restriction.proofs.OrderedPairLemmas.{above_first, behind_first}
use Rattle.trace_part.specs.declared.left_names.LeftName.{LeftName}
use Rattle.trace_part.specs.Rows.{row_is_nearer, row_is_told, told_rows}
use Rattle.trace_part.specs.Told.{is_before, is_told_first, told_by, told_in, told_of, first_of, told_from, told_pairs}
use Rattle.restriction.proofs.CountLemmas.{none_in_it}

abbrev IsLower : LeftName → LeftName → Type 0
IsLower x y = x.name.place < y.name.place

-- the names of one process, in program order
pub record IsGroup (number : ℕ) (group : List LeftName) : Type 0 where
  pub process : (x : LeftName) → Contains group x → x.name.process ≡ number
  pub rising : AllPairs (λ (x y : LeftName). x.name.place < y.name.place) group

-- the groups from a number on
abbrev pub AreGroupsFrom : ℕ → List (List LeftName) → Type 0
AreGroupsFrom number [] = ⊤
AreGroupsFrom number (group ∷ groups) = IsGroup number group × AreGroupsFrom (number + 1) groups

abbrev pub joined : List (List LeftName) → List LeftName
joined groups = flat_map (λ group. group) groups

-- a name of the groups from a number on is of a process no lower
no_lower : (number : ℕ) (groups : List (List LeftName)) → AreGroupsFrom number groups → (x : LeftName) → Contains (joined groups) x → number ≤ x.name.process
no_lower number [] given x c = absurd (none_in x c)
no_lower number (group ∷ groups) given x c =
    elim (Contains-append_cases group (joined groups) x c) [
      | inl d ↦ (let e = given.0.process x d in omega (arith, e))
      | inr d ↦ (let l = no_lower (number + 1) groups given.1 x d in omega (arith, l))
    ]

-- where a group stands among the groups, its process has no other name
pub record IsWhole (names group : List LeftName) : Type 0 where
  pub among : (x : LeftName) → Contains group x → Contains names x
  pub all : (x y : LeftName) → Contains names x → Contains group y → x.name.process ≡ y.name.process → Contains group x
  pub one_process : (x y : LeftName) → Contains group x → Contains group y → x.name.process ≡ y.name.process
  pub rising : AllPairs (λ (x y : LeftName). x.name.place < y.name.place) group

pub whole_from : (number : ℕ) (groups : List (List LeftName)) → AreGroupsFrom number groups → (group : List LeftName) → Contains groups group → IsWhole (joined groups) group
whole_from number [] given group c = absurd (none_in group c)
whole_from number (first ∷ groups) given group c =
    elim (cases_in first groups group c) [
      | inl same ↦ subst (λ g. IsWhole (joined (first ∷ groups)) g) same (record {
        among = λ x d. Contains-append_left first (joined groups) x d;
        all = λ x y d e p. elim (Contains-append_cases first (joined groups) x d) [
          | inl f ↦ f
          | inr f ↦ absurd (let low = no_lower (number + 1) groups given.1 x f in let here = given.0.process y e in omega (arith, low, here, p))
        ];
        one_process = λ x y d e. given.0.process x d ∙ sym (given.0.process y e);
        rising = given.0.rising;
      })
      | inr d ↦ (let rest = whole_from (number + 1) groups given.1 group d in record {
        among = λ x e. Contains-append_right first (joined groups) x (rest.among x e);
        all = λ x y e f p. elim (Contains-append_cases first (joined groups) x e) [
          | inl g ↦ absurd (let here = given.0.process x g in let low = no_lower (number + 1) groups given.1 y (rest.among y f) in omega (arith, low, here, p))
          | inr g ↦ rest.all x y g f p
        ];
        one_process = rest.one_process;
        rising = rest.rising;
      })
    ]

-- the first of a list that passes
record Found {A : Type 0} (p : A → Bool) (xs : List A) (x : A) : Type 0 where
  front : List A
  back : List A
  parts : xs ≡ front ++ x ∷ back
  passes : p x ≡ true
  none : (y : A) → Contains front y → p y ≡ false

found_first : {A : Type 0} (p : A → Bool) (xs : List A) → (((y : A) → Contains xs y → p y ≡ false) × (find p xs ≡ None)) ⊎ ((x : A) × (find p xs ≡ Some x) × Found p xs x)
found_first p [] = inl ((λ y c. absurd (none_in y c)), refl)
found_first {A} p (x ∷ xs) = at (p x) refl (found_first p xs)
  where
    at : (b : Bool) → p x ≡ b → (((y : A) → Contains xs y → p y ≡ false) × (find p xs ≡ None)) ⊎ ((z : A) × (find p xs ≡ Some z) × Found p xs z) →
        (((y : A) → Contains (x ∷ xs) y → p y ≡ false) × (cond b (Some x) (find p xs) ≡ None)) ⊎ ((z : A) × (cond b (Some x) (find p xs) ≡ Some z) × Found p (x ∷ xs) z)
    at true e more = inr (x, refl, record { front = []; back = xs; parts = refl; passes = e; none = λ y c. absurd (none_in y c) })
    at false e (inl none) = inl (
      (λ y c. elim (cases_in x xs y c) [
        | inl same ↦ ap p (sym same) ∙ e
        | inr d ↦ none.0 y d
      ]),
      none.1,
    )
    at false e (inr (z, f, found)) = inr (
      z,
      f,
      record {
        front = x ∷ found.front;
        back = found.back;
        parts = ap (λ l. x ∷ l) found.parts;
        passes = found.passes;
        none = λ y c. elim (cases_in x found.front y c) [
          | inl same ↦ ap p (sym same) ∙ e
          | inr d ↦ found.none y d
        ];
      },
    )

-- in a list that rises: what stands lower is in front, and what stands higher is behind
in_rising_front : (front : List LeftName) (n : LeftName) (back : List LeftName) → AllPairs (λ (x y : LeftName). x.name.place < y.name.place) (front ++ n ∷ back) → (x : LeftName) → Contains (front ++ n ∷ back) x → x.name.place < n.name.place → Contains front x
in_rising_front [] n back up x c l =
    elim (cases_in n back x c) [
      | inl same ↦ absurd (let e : n.name.place ≡ x.name.place = ap (λ (v : LeftName). v.name.place) same in omega (arith, e, l))
      | inr d ↦ absurd (let high = above_first IsLower n back up x d in omega (arith, high, l))
    ]
in_rising_front (y ∷ front) n back up x c l =
    elim (cases_in y (front ++ n ∷ back) x c) [
      | inl same ↦ subst (λ v. Contains (y ∷ front) v) same (head_in y front)
      | inr d ↦ tail_in y front x (in_rising_front front n back (behind_first IsLower y (front ++ n ∷ back) up) x d l)
    ]

higher_behind : (front : List LeftName) (n : LeftName) (back : List LeftName) → AllPairs (λ (x y : LeftName). x.name.place < y.name.place) (front ++ n ∷ back) → (x : LeftName) → Contains back x → n.name.place < x.name.place
higher_behind [] n back up x c = above_first IsLower n back up x c
higher_behind (y ∷ front) n back up x c = higher_behind front n back (behind_first IsLower y (front ++ n ∷ back) up) x c

in_rising_back : (front : List LeftName) (n : LeftName) (back : List LeftName) → AllPairs (λ (x y : LeftName). x.name.place < y.name.place) (front ++ n ∷ back) → (x : LeftName) → Contains (front ++ n ∷ back) x → n.name.place < x.name.place → Contains back x
in_rising_back [] n back up x c l =
    elim (cases_in n back x c) [
      | inl same ↦ absurd (let e : n.name.place ≡ x.name.place = ap (λ (v : LeftName). v.name.place) same in omega (arith, e, l))
      | inr d ↦ d
    ]
in_rising_back (y ∷ front) n back up x c l =
    elim (cases_in y (front ++ n ∷ back) x c) [
      | inl same ↦ absurd (let e : y.name.place ≡ x.name.place = ap (λ (v : LeftName). v.name.place) same in let low = above_first IsLower y (front ++ n ∷ back) up n (Contains-append_right front (n ∷ back) n (head_in n back)) in omega (arith, e, low, l))
      | inr d ↦ in_rising_back front n back (behind_first IsLower y (front ++ n ∷ back) up) x d l
    ]

-- the pairs of one name
module _ (order : OrderValue) (names : List LeftName) (m : LeftName) (front : List LeftName) (back : List LeftName) (own : IsWhole names (front ++ m ∷ back)) where
  abbrev told_here : LeftName → Bool
  told_here n = row_is_told order names m n

  nearer_parts : (n x : LeftName) → row_is_nearer order m n x ≡ true → ((x.name.process ≡ m.name.process) × (m.name.place < x.name.place) × (stands_by order x.name n.name ≡ true)) ⊎ ((x.name.process ≡ n.name.process) × (x.name.place < n.name.place) × (stands_by order m.name x.name ≡ true))
  nearer_parts n x h =
      elim (or_cases ((x.name.process == m.name.process) && (nat_lt m.name.place x.name.place && stands_by order x.name n.name)) ((x.name.process == n.name.process) && (nat_lt x.name.place n.name.place && stands_by order m.name x.name)) h) [
        | inl a ↦ (let p = and_parts (x.name.process == m.name.process) (nat_lt m.name.place x.name.place && stands_by order x.name n.name) a in let q = and_parts (nat_lt m.name.place x.name.place) (stands_by order x.name n.name) p.1 in inl (eqb-true x.name.process m.name.process p.0, leb-true (suc m.name.place) x.name.place q.0, q.1))
        | inr a ↦ (let p = and_parts (x.name.process == n.name.process) (nat_lt x.name.place n.name.place && stands_by order m.name x.name) a in let q = and_parts (nat_lt x.name.place n.name.place) (stands_by order m.name x.name) p.1 in inr (eqb-true x.name.process n.name.process p.0, leb-true (suc x.name.place) n.name.place q.0, q.1))
      ]

  or_first : (a b : Bool) → a ≡ true → (a || b) ≡ true
  or_first a b h = ap (λ c. c || b) h

  or_second : (a b : Bool) → b ≡ true → (a || b) ≡ true
  or_second true b h = refl
  or_second false b h = h

  -- what is behind a name that m stands before makes no pair with m
  not_after : (n y : LeftName) → Contains names n → n.name.process ≡ y.name.process → n.name.place < y.name.place → stands_by order m.name n.name ≡ true → told_here y ≡ false
  not_after n y c p l h =
      let near : row_is_nearer order m y n ≡ true = or_second _ _ (and_from (n.name.process == y.name.process) (nat_lt n.name.place y.name.place && stands_by order m.name n.name) (eq-eqb n.name.process y.name.process p) (and_from (nat_lt n.name.place y.name.place) (stands_by order m.name n.name) (le-leb (suc n.name.place) y.name.place (omega (arith, l))) h)) in
      let any : list_any (row_is_nearer order m y) names ≡ true = passes_some (row_is_nearer order m y) names n c near in
      ap (λ b. stands_by order m.name y.name && (not (m.name.process == y.name.process) && not b)) any ∙ none (stands_by order m.name y.name) (not (m.name.process == y.name.process))
    where
      none : (a b : Bool) → (a && (b && false)) ≡ false
      none true true = refl
      none true false = refl
      none false b = refl

  -- of the names behind m the next one stands before n, if any does
  lower_stands : (z x n : LeftName) → z.name.process ≡ x.name.process → z.name.place < x.name.place → stands_by order x.name n.name ≡ true → stands_by order z.name n.name ≡ true
  lower_stands z x n p l h =
      let high = leb-true x.name.place (last_before order n.name x.name.process) h in
      let same : last_before order n.name z.name.process ≡ last_before order n.name x.name.process = ap (last_before order n.name) p in
      le-leb z.name.place (last_before order n.name z.name.process) (omega (arith, high, same, l))

  rising_behind : (xs : List LeftName) → AllPairs (λ (x y : LeftName). x.name.place < y.name.place) (xs ++ m ∷ back) → AllPairs (λ (x y : LeftName). x.name.place < y.name.place) (m ∷ back)
  rising_behind [] up = up
  rising_behind (y ∷ ys) up = rising_behind ys (behind_first IsLower y (ys ++ m ∷ back) up)

  next_of : (zs : List LeftName) (n : LeftName) → AllPairs (λ (x y : LeftName). x.name.place < y.name.place) zs → ((x y : LeftName) → Contains zs x → Contains zs y → x.name.process ≡ y.name.process) → is_before order (first_of zs) n ≡ list_any (λ (x : LeftName). stands_by order x.name n.name) zs
  next_of [] n up one = refl
  next_of (z ∷ zs) n up one =
      same_truth (stands_by order z.name n.name) (stands_by order z.name n.name || list_any (λ (x : LeftName). stands_by order x.name n.name) zs) (λ h. or_first (stands_by order z.name n.name) _ h)
      (λ h. elim (or_cases (stands_by order z.name n.name) (list_any (λ (x : LeftName). stands_by order x.name n.name) zs) h) [
        | inl here ↦ here
        | inr there ↦ (let x = some_passes (λ (v : LeftName). stands_by order v.name n.name) zs there in lower_stands z x.0 n (one z x.0 (head_in z zs) (tail_in z zs x.0 x.1)) (above_first IsLower z zs up x.0 x.1) x.2)
      ])

  in_back : (x : LeftName) → Contains back x → Contains (front ++ m ∷ back) x
  in_back x c = Contains-append_right front (m ∷ back) x (tail_in m back x c)

  m_in : Contains (front ++ m ∷ back) m
  m_in = Contains-append_right front (m ∷ back) m (head_in m back)

  next_stands : (n : LeftName) → is_before order (first_of back) n ≡ list_any (λ (x : LeftName). stands_by order x.name n.name) back
  next_stands n = next_of back n (behind_first IsLower m back (rising_behind front own.rising)) (λ x y c d. own.one_process x y (in_back x c) (in_back y d))

  -- a pair of m and the first that it stands before says most, unless the next name does
  module _ (before : List LeftName) (n : LeftName) (after : List LeftName) (other : IsWhole names (before ++ n ∷ after)) (none : (y : LeftName) → Contains before y → stands_by order m.name y.name ≡ false) where
    n_in : Contains (before ++ n ∷ after) n
    n_in = Contains-append_right before (n ∷ after) n (head_in n after)

    nearer_is : list_any (row_is_nearer order m n) names ≡ is_before order (first_of back) n
    nearer_is =
        same_truth (list_any (row_is_nearer order m n) names) (is_before order (first_of back) n)
        (λ h. (
        let x = some_passes (row_is_nearer order m n) names h in
        elim (nearer_parts n x.0 x.2) [
          | inl a ↦ next_stands n ∙ (passes_some (λ (v : LeftName). stands_by order v.name n.name) back x.0 (in_rising_back front m back own.rising x.0 (own.all x.0 m x.1 m_in a.0) a.1) a.2)
          | inr b ↦ absurd (let clash : true ≡ false = sym b.2 ∙ none x.0 (in_rising_front before n after other.rising x.0 (other.all x.0 n x.1 n_in b.0) b.1) in cc)
        ]))
        (λ h. (
        let x = some_passes (λ (v : LeftName). stands_by order v.name n.name) back (sym (next_stands n) ∙ h) in
        let here = in_back x.0 x.1 in
        passes_some (row_is_nearer order m n) names x.0 (own.among x.0 here)
        (or_first _ _ (and_from (x.0.name.process == m.name.process) (nat_lt m.name.place x.0.name.place && stands_by order x.0.name n.name) (eq-eqb x.0.name.process m.name.process (own.one_process x.0 m here m_in))
        (and_from (nat_lt m.name.place x.0.name.place) (stands_by order x.0.name n.name) (le-leb (suc m.name.place) x.0.name.place (let high = higher_behind front m back own.rising x.0 x.1 in omega (arith, high))) x.2)))))

    first_told : stands_by order m.name n.name ≡ true → told_here n ≡ is_told_first order m (first_of back) n
    first_told h = λ i. h i && (not (m.name.process == n.name.process) && not (nearer_is i))

    not_before : (y : LeftName) → Contains before y → told_here y ≡ false
    not_before y c = ap (λ b. b && (not (m.name.process == y.name.process) && not (list_any (row_is_nearer order m y) names))) (none y c)

    told_of_first : stands_by order m.name n.name ≡ true → filter told_here (before ++ n ∷ after) ≡ cond (is_told_first order m (first_of back) n) (n ∷ []) []
    told_of_first h =
        filter-append told_here before (n ∷ after)
        ∙ (λ i. none_in_it told_here before not_before i ++ cond (first_told h i) (n ∷ behind i) (behind i))
      where
        behind : filter told_here after ≡ []
        behind = none_in_it told_here after (λ y c. not_after n y (other.among n n_in) (other.one_process n y n_in (Contains-append_right before (n ∷ after) y (tail_in n after y c))) (higher_behind before n after other.rising y c) h)

  pairs_of : (b : Bool) (n : LeftName) → map {B = LeftName × LeftName} (λ (y : LeftName). (m, y)) (cond b (n ∷ []) []) ≡ cond b ((m, n) ∷ []) []
  pairs_of true n = refl
  pairs_of false n = refl

  told_in_group : (other : List LeftName) → IsWhole names other → map {B = LeftName × LeftName} (λ (y : LeftName). (m, y)) (filter told_here other) ≡ told_in order m (first_of back) other
  told_in_group other whole =
      elim (found_first (λ (n : LeftName). stands_by order m.name n.name) other) [
        | inl none ↦
            ap (map {B = LeftName × LeftName} (λ (y : LeftName). (m, y))) (none_in_it told_here other (λ y c. ap (λ b. b && (not (m.name.process == y.name.process) && not (list_any (row_is_nearer order m y) names))) (none.0 y c)))
            ∙ ap (told_by order m (first_of back)) (sym none.1)
        | inr (n, e, found) ↦
            ap (λ l. map {B = LeftName × LeftName} (λ (y : LeftName). (m, y)) (filter told_here l)) found.parts
            ∙ ap (map {B = LeftName × LeftName} (λ (y : LeftName). (m, y))) (told_of_first found.front n found.back (subst (λ l. IsWhole names l) found.parts whole) found.none found.passes)
            ∙ pairs_of (is_told_first order m (first_of back) n) n
            ∙ ap (told_by order m (first_of back)) (sym e)
      ]

-- pairs of which the first is the same
filter_pairs : (q : LeftName → LeftName → Bool) (m : LeftName) (others : List LeftName) → filter (λ (pair : LeftName × LeftName). q pair.0 pair.1) (map {B = LeftName × LeftName} (λ (y : LeftName). (m, y)) others) ≡ map {B = LeftName × LeftName} (λ (y : LeftName). (m, y)) (filter (q m) others)
filter_pairs q m [] = refl
filter_pairs q m (y ∷ others) = at (q m y) (filter_pairs q m others)
  where
    at : (b : Bool) → filter (λ (pair : LeftName × LeftName). q pair.0 pair.1) (map {B = LeftName × LeftName} (λ (z : LeftName). (m, z)) others) ≡ map {B = LeftName × LeftName} (λ (z : LeftName). (m, z)) (filter (q m) others) →
        cond b ((m, y) ∷ filter (λ (pair : LeftName × LeftName). q pair.0 pair.1) (map {B = LeftName × LeftName} (λ (z : LeftName). (m, z)) others)) (filter (λ (pair : LeftName × LeftName). q pair.0 pair.1) (map {B = LeftName × LeftName} (λ (z : LeftName). (m, z)) others)) ≡ map {B = LeftName × LeftName} (λ (z : LeftName). (m, z)) (cond b (y ∷ filter (q m) others) (filter (q m) others))
    at true e = ap (λ l. (m, y) ∷ l) e
    at false e = e

mapped_joined : (m : LeftName) (xs ys : List LeftName) → map {B = LeftName × LeftName} (λ (y : LeftName). (m, y)) (xs ++ ys) ≡ map {B = LeftName × LeftName} (λ (y : LeftName). (m, y)) xs ++ map {B = LeftName × LeftName} (λ (y : LeftName). (m, y)) ys
mapped_joined m [] ys = refl
mapped_joined m (x ∷ xs) ys = ap (λ l. (m, x) ∷ l) (mapped_joined m xs ys)

-- the pairs of all names
module _ (order : OrderValue) (groups : List (List LeftName)) (number : ℕ) (given : AreGroupsFrom number groups) where
  abbrev names : List LeftName
  names = joined groups

  abbrev is_pair : LeftName × LeftName → Bool
  is_pair pair = row_is_told order names pair.0 pair.1

  abbrev pairs_with : List LeftName → List (LeftName × LeftName)
  pairs_with xs = flat_map (λ (m : LeftName). map {B = LeftName × LeftName} (λ (n : LeftName). (m, n)) names) xs

  in_groups : (m : LeftName) (front back : List LeftName) → IsWhole names (front ++ m ∷ back) → (gs : List (List LeftName)) → ((g : List LeftName) → Contains gs g → IsWhole names g) →
      told_of order m (first_of back) gs ≡ map {B = LeftName × LeftName} (λ (y : LeftName). (m, y)) (filter (row_is_told order names m) (joined gs))
  in_groups m front back own [] whole = refl
  in_groups m front back own (g ∷ gs) whole =
      (λ i. sym (told_in_group order names m front back own g (whole g (head_in g gs))) i ++ in_groups m front back own gs (λ h c. whole h (tail_in g gs h c)) i)
      ∙ sym (mapped_joined m (filter (row_is_told order names m) g) (filter (row_is_told order names m) (joined gs)))
      ∙ ap (map {B = LeftName × LeftName} (λ (y : LeftName). (m, y))) (sym (filter-append (row_is_told order names m) g (joined gs)))

  from_names : (front rest : List LeftName) → IsWhole names (front ++ rest) → told_from order groups rest ≡ filter is_pair (pairs_with rest)
  from_names front [] own = refl
  from_names front (m ∷ back) own =
      (λ i. (in_groups m front back own groups (whole_from number groups given) ∙ sym (filter_pairs (row_is_told order names) m names)) i
      ++ from_names (front ++ m ∷ []) back (subst (λ l. IsWhole names l) (sym (append_assoc front (m ∷ []) back)) own) i)
      ∙ sym (filter-append is_pair (map {B = LeftName × LeftName} (λ (n : LeftName). (m, n)) names) (pairs_with back))

  from_groups : (gs : List (List LeftName)) → ((g : List LeftName) → Contains gs g → IsWhole names g) → flat_map (told_from order groups) gs ≡ filter is_pair (pairs_with (joined gs))
  from_groups [] whole = refl
  from_groups (g ∷ gs) whole =
      (λ i. from_names [] g (whole g (head_in g gs)) i ++ from_groups gs (λ h c. whole h (tail_in g gs h c)) i)
      ∙ sym (filter-append is_pair (pairs_with g) (pairs_with (joined gs)))
      ∙ ap (filter is_pair) (sym (flat_map-append (λ (m : LeftName). map {B = LeftName × LeftName} (λ (n : LeftName). (m, n)) names) g (joined gs)))

  pub told_are_rows : told_pairs order groups ≡ told_rows order (joined groups)
  told_are_rows = from_groups groups (whole_from number groups given)
