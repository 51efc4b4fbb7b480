-- How many different names there are: names that are all among others are no more.
use Rattle.std.proofs.Common.{◌≡◌, ℕ, ◌+◌, ◌≤◌, List, [], ◌∷◌, length, Bool, true, false, cond, not, ◌||◌, refl, ap, sym, ◌∙◌, arith}
use Rattle.std.proofs.lemmas.Bool.{both_ways, or_left, or_right}
use Rattle.std.specs.Prelude.{if◌then◌else◌}
use Rattle.std.specs.List.{Contains, filter}
use Rattle.std.specs.Str.{bytes_eq}
use Rattle.trace_semantics.specs.Locations.{distinct, holds_name}
use Rattle.trace_semantics.proofs.ElementLemmas.{some_passes, passes_some}
use Rattle.trace_semantics.proofs.NameLemmas.{same_bytes, bytes_same}

-- the names that are others than this
abbrev without : List ℕ → List (List ℕ) → List (List ℕ)
without a names = filter (λ y. not (bytes_eq y a)) names

differ : (z y a : List ℕ) (b : Bool) → bytes_eq z a ≡ true → bytes_eq y a ≡ false → bytes_eq z y ≡ b → b ≡ false
differ z y a true h k e = absurd (both_ways (bytes_eq y a) k (bytes_same y a (sym (same_bytes z y e) ∙ same_bytes z a h)))
differ z y a false h k e = refl

holds_by : (z y a : List ℕ) (zs : List (List ℕ)) (b : Bool) → bytes_eq z a ≡ b → bytes_eq y a ≡ false → holds_name (without a zs) y ≡ holds_name zs y → holds_name (cond (not b) (z ∷ without a zs) (without a zs)) y ≡ (bytes_eq z y || holds_name zs y)
holds_by z y a zs true h k e = e ∙ sym (ap (λ c. c || holds_name zs y) (differ z y a (bytes_eq z y) h k refl))
holds_by z y a zs false h k e = ap (λ c. bytes_eq z y || c) e

holds_without : (zs : List (List ℕ)) (y a : List ℕ) → bytes_eq y a ≡ false → holds_name (without a zs) y ≡ holds_name zs y
holds_without [] y a k = refl
holds_without (z ∷ zs) y a k = holds_by z y a zs (bytes_eq z a) refl k (holds_without zs y a k)

pub length_chosen : (b : Bool) (name : List ℕ) (names : List (List ℕ)) → length (if b then names else name ∷ names) ≡ (if b then length names else length names + 1)
length_chosen true name names = refl
length_chosen false name names = omega arith

counts_same : (h k : Bool) (d w : ℕ) → h ≡ k → w + cond k 1 0 ≡ d → w + 1 ≡ (if h then d else d + 1)
counts_same true true d w e i = i
counts_same false false d w e i = omega (arith, i)
counts_same true false d w e i = absurd (cc)
counts_same false true d w e i = absurd (cc)

counts_other : (h k : Bool) (d w : ℕ) → w + cond k 1 0 ≡ d → (if h then w else w + 1) + cond k 1 0 ≡ (if h then d else d + 1)
counts_other true k d w i = i
counts_other false true d w i = omega (arith, i)
counts_other false false d w i = omega (arith, i)

counted_by : (y a : List ℕ) (ys : List (List ℕ)) (b : Bool) → bytes_eq y a ≡ b → length (distinct (without a ys)) + cond (holds_name ys a) 1 0 ≡ length (distinct ys) →
    length (distinct (cond (not b) (y ∷ without a ys) (without a ys))) + cond (b || holds_name ys a) 1 0 ≡ length (if holds_name ys y then distinct ys else y ∷ distinct ys)
counted_by y a ys true e i = counts_same (holds_name ys y) (holds_name ys a) (length (distinct ys)) (length (distinct (without a ys))) (ap (holds_name ys) (same_bytes y a e)) i ∙ sym (length_chosen (holds_name ys y) y (distinct ys))
counted_by y a ys false e i =
    ap (λ n. n + cond (holds_name ys a) 1 0) (length_chosen (holds_name (without a ys) y) y (distinct (without a ys)) ∙ ap (λ c. if c then length (distinct (without a ys)) else length (distinct (without a ys)) + 1) (holds_without ys y a e))
    ∙ counts_other (holds_name ys y) (holds_name ys a) (length (distinct ys)) (length (distinct (without a ys))) i ∙ sym (length_chosen (holds_name ys y) y (distinct ys))

counted_without : (ys : List (List ℕ)) (a : List ℕ) → length (distinct (without a ys)) + cond (holds_name ys a) 1 0 ≡ length (distinct ys)
counted_without [] a = omega arith
counted_without (y ∷ ys) a = counted_by y a ys (bytes_eq y a) refl (counted_without ys a)

other_name : (xs : List (List ℕ)) (x q : List ℕ) (b : Bool) → holds_name xs x ≡ false → holds_name xs q ≡ true → bytes_eq q x ≡ b → b ≡ false
other_name xs x q true n h e = absurd (both_ways (holds_name xs x) n (ap (holds_name xs) (sym (same_bytes q x e)) ∙ h))
other_name xs x q false n h e = refl

few_by : (x : List ℕ) (xs ys : List (List ℕ)) (b : Bool) → holds_name xs x ≡ b → ((zs : List (List ℕ)) → ((q : List ℕ) → holds_name xs q ≡ true → holds_name zs q ≡ true) → length (distinct xs) ≤ length (distinct zs)) →
    ((q : List ℕ) → (bytes_eq x q || holds_name xs q) ≡ true → holds_name ys q ≡ true) → length (if b then distinct xs else x ∷ distinct xs) ≤ length (distinct ys)
few_by x xs ys true e more h = more ys (λ q k. h q (or_right (bytes_eq x q) (holds_name xs q) k))
few_by x xs ys false e more h =
    let there : holds_name ys x ≡ true = h x (or_left (bytes_eq x x) (holds_name xs x) (bytes_same x x refl)) in
    let rest : length (distinct xs) ≤ length (distinct (without x ys)) = more (without x ys) (λ q k. holds_without ys q x (other_name xs x q (bytes_eq q x) e k refl) ∙ h q (or_right (bytes_eq x q) (holds_name xs q) k)) in
    let all : length (distinct (without x ys)) + 1 ≡ length (distinct ys) = ap (λ c. length (distinct (without x ys)) + cond c 1 0) (sym there) ∙ counted_without ys x in
    omega (arith, rest, all)

-- without regard to how often each stands there
pub few_within : (xs ys : List (List ℕ)) → ((q : List ℕ) → holds_name xs q ≡ true → holds_name ys q ≡ true) → length (distinct xs) ≤ length (distinct ys)
few_within [] ys h = omega arith
few_within (x ∷ xs) ys h = few_by x xs ys (holds_name xs x) refl (few_within xs) h

pub few_named : (xs ys : List (List ℕ)) → ((q : List ℕ) → Contains xs q → Contains ys q) → length (distinct xs) ≤ length (distinct ys)
few_named xs ys h = few_within xs ys (λ q k.
    let found = some_passes (λ (other : List ℕ). bytes_eq other q) xs k in
    passes_some (λ (other : List ℕ). bytes_eq other q) ys found.0 (h found.0 found.1) found.2)
