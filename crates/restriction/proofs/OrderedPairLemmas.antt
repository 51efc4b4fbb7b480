-- Lists in which each element stands in a relation to those after it, and the order of pairs of new names.
use Rattle.std.proofs.Common.{◌≡◌, ◌≢◌, ◌⊎◌, ◌<◌, ◌+◌, ℕ, zero, suc, List, [], ◌∷◌, ◌++◌, map, take, get_or, true, cond, not, refl, ap, sym, ◌∙◌, arith, inl, inr, subst}
use Rattle.std.specs.Prelude.{Option}
use Rattle.std.specs.Cmp.{nat_cmp_is}
use Rattle.std.specs.Cmp.Lexicographic.{slice_cmp}
use Rattle.std.specs.declared.cmp.Ordering.{Ordering}
use Rattle.std.specs.declared.cmp.Ordering.TheVariants.{Less, Equal}
use Rattle.std.specs.List.{All, AllPairs, Contains, flat_map}
use Rattle.std.specs.Ordering.{nat_cmp, ordering_then}
use Rattle.std.specs.Str.{bytes_eq}
use Rattle.std.proofs.lemmas.Bool.{false_from_ne_true}
use Rattle.std.proofs.lemmas.List.Elements.{Contains-get_or, Contains-append_cases}
use Rattle.std.proofs.lemmas.List.Kept.{AllPairs-cons}
use Rattle.trace_semantics.specs.declared.operation.Op.{Op}
use Rattle.trace_semantics.specs.declared.operation.OpName.{OpName}
use Rattle.trace_semantics.specs.declared.trace.Process.{Process}
use Rattle.trace_semantics.specs.PairOrder.{order_of, pair_order}
use Rattle.trace_semantics.proofs.ElementLemmas.{head_in, tail_in, from_map, from_flat_map}
use Rattle.trace_semantics.proofs.NameLemmas.{same_bytes, bytes_same}
use Rattle.restriction.specs.Left.{is_left, new_name, new_pair, names_from, left_process}
use Rattle.restriction.proofs.LeftLemmas.{higher}
use Rattle.restriction.proofs.PlaceLemmas.{in_names, in_front}

pub all_from : {A : Type 0} (P : A → Type 0) (xs : List A) → ((x : A) → Contains xs x → P x) → All P xs
all_from P xs h k d l = h (get_or xs k d) (Contains-get_or xs k d l)

-- lists in which each element stands in a relation to each later one
module _ {X : Type 0} (R : X → X → Type 0) where
  pub above_first : (x : X) (xs : List X) → AllPairs R (x ∷ xs) → (z : X) → Contains xs z → R x z
  above_first x xs up z (k, l, e) = subst (λ (w : X). R x w) e (up zero (suc k) z (omega arith) (omega (arith, l)))

  pub behind_first : (x : X) (xs : List X) → AllPairs R (x ∷ xs) → AllPairs R xs
  behind_first x xs up i j d b l = up (suc i) (suc j) d (omega (arith, b)) (omega (arith, l))

  pub pairs_nil : AllPairs R []
  pairs_nil i j d b l = absurd (omega (arith, l))

  pub pairs_joined : (xs ys : List X) → AllPairs R xs → AllPairs R ys → ((x y : X) → Contains xs x → Contains ys y → R x y) → AllPairs R (xs ++ ys)
  pairs_joined [] ys p q h = q
  pairs_joined (x ∷ xs) ys p q h =
      AllPairs-cons R x (xs ++ ys) (all_from (R x) (xs ++ ys) (λ z c. either z (Contains-append_cases xs ys z c)))
      (pairs_joined xs ys (behind_first x xs p) q (λ a b c d. h a b (tail_in x xs a c) d))
    where
      either : (z : X) → Contains xs z ⊎ Contains ys z → R x z
      either z (inl c) = above_first x xs p z c
      either z (inr d) = h x z (head_in x xs) d

  pub pairs_in_front : (k : ℕ) (xs : List X) → AllPairs R xs → AllPairs R (take k xs)
  pairs_in_front zero xs p = pairs_nil
  pairs_in_front (suc k) [] p = pairs_nil
  pairs_in_front (suc k) (x ∷ xs) p =
      AllPairs-cons R x (take k xs) (all_from (R x) (take k xs) (λ z c. above_first x xs p z (in_front k xs z c))) (pairs_in_front k xs (behind_first x xs p))

-- of lists that are made of the elements of another
pub pairs_flat : {X Y : Type 0} (R : X → X → Type 0) (S : Y → Y → Type 0) (f : X → List Y) (xs : List X) → AllPairs R xs → ((x : X) → Contains xs x → AllPairs S (f x)) →
    ((x y : X) → Contains xs x → Contains xs y → R x y → (a b : Y) → Contains (f x) a → Contains (f y) b → S a b) → AllPairs S (flat_map f xs)
pairs_flat R S f [] p each across = pairs_nil S
pairs_flat R S f (x ∷ xs) p each across =
    pairs_joined S (f x) (flat_map f xs) (each x (head_in x xs))
    (pairs_flat R S f xs (behind_first R x xs p) (λ y c. each y (tail_in x xs y c)) (λ y z c d. across y z (tail_in x xs y c) (tail_in x xs z d)))
    (λ a b c d. let at = from_flat_map f xs b d in across x at.0 (head_in x xs) (tail_in x xs at.0 at.1) (above_first R x xs p at.0 at.1) a b c at.2)

pub pairs_mapped : {X Y : Type 0} (R : X → X → Type 0) (S : Y → Y → Type 0) (f : X → Y) (xs : List X) → AllPairs R xs → ((x y : X) → Contains xs x → Contains xs y → R x y → S (f x) (f y)) → AllPairs S (map f xs)
pairs_mapped R S f [] p h = pairs_nil S
pairs_mapped R S f (x ∷ xs) p h =
    AllPairs-cons S (f x) (map f xs) (all_from (S (f x)) (map f xs) (λ z c. let at = from_map f xs z c in subst (λ w. S (f x) w) at.2 (h x at.0 (head_in x xs) (tail_in x xs at.0 at.1) (above_first R x xs p at.0 at.1))))
    (pairs_mapped R S f xs (behind_first R x xs p) (λ y z c d. h y z (tail_in x xs y c) (tail_in x xs z d)))

-- a name before another: of an earlier process, or earlier in the same process
abbrev pub IsEarlierName : List Process → OpName → OpName → Type 0
IsEarlierName ps m n = (order_of ps m.process < order_of ps n.process) ⊎ ((m.process ≡ n.process) × (m.place < n.place))

abbrev pub IsEarlierPair : List Process → OpName × OpName → OpName × OpName → Type 0
IsEarlierPair ps x y = IsEarlierName ps x.0 y.0 ⊎ ((x.0 ≡ y.0) × IsEarlierName ps x.1 y.1)

-- the order of the processes is the same in what remains
pub left_order_of : (stays : OpName → Option Op) (ps : List Process) (name : List ℕ) → order_of (map (left_process stays) ps) name ≡ order_of ps name
left_order_of stays [] name = refl
left_order_of stays (p ∷ ps) name = ap (λ k. cond (not (bytes_eq p.name name)) (1 + k) 0) (left_order_of stays ps name)

number_less : (a b : ℕ) (o : Ordering) → a < b → ordering_then (nat_cmp a b) o ≡ Less
number_less a b o l = sym (ap (λ r. ordering_then r o) (nat_cmp_is a b Less l))

number_same : (a b : ℕ) (o : Ordering) → a ≡ b → o ≡ Less → ordering_then (nat_cmp a b) o ≡ Less
number_same a b o e h = sym (ap (λ r. ordering_then r o) (nat_cmp_is a b Equal e)) ∙ h

-- one name of a pair, by its new name
name_less : (stays : OpName → Option Op) (ps qs : List Process) (m n : OpName) (o : Ordering) → qs ≡ map (left_process stays) ps → is_left stays n ≡ true → IsEarlierName ps m n →
    ordering_then (nat_cmp (order_of qs m.process) (order_of qs n.process)) (ordering_then (nat_cmp (new_name stays m).place (new_name stays n).place) o) ≡ Less
name_less stays ps qs m n o made left (inl l) =
    let a : order_of qs m.process ≡ order_of ps m.process = ap (λ rs. order_of rs m.process) made ∙ left_order_of stays ps m.process in
    let b : order_of qs n.process ≡ order_of ps n.process = ap (λ rs. order_of rs n.process) made ∙ left_order_of stays ps n.process in
    number_less (order_of qs m.process) (order_of qs n.process) (ordering_then (nat_cmp (new_name stays m).place (new_name stays n).place) o) (omega (arith, l, a, b))
name_less stays ps qs m n o made left (inr h) =
    number_same (order_of qs m.process) (order_of qs n.process) (ordering_then (nat_cmp (new_name stays m).place (new_name stays n).place) o) (ap (order_of qs) h.0)
    (number_less (new_name stays m).place (new_name stays n).place o (higher stays m n h.0 h.1 left))

pub pair_less : (stays : OpName → Option Op) (ps qs : List Process) (x y : OpName × OpName) → qs ≡ map (left_process stays) ps → is_left stays y.0 ≡ true → is_left stays y.1 ≡ true → IsEarlierPair ps x y →
    slice_cmp nat_cmp (pair_order qs (new_pair stays x)) (pair_order qs (new_pair stays y)) ≡ Less
pair_less stays ps qs x y made first second (inl l) = name_less stays ps qs x.0 y.0 _ made first l
pair_less stays ps qs x y made first second (inr h) =
    number_same (order_of qs x.0.process) (order_of qs y.0.process) _ (ap (λ (n : OpName). order_of qs n.process) h.0)
    (number_same (new_name stays x.0).place (new_name stays y.0).place _ (ap (λ (n : OpName). (new_name stays n).place) h.0)
    (name_less stays ps qs x.1 y.1 Equal made second h.1))

-- the processes in their order
pub order_here : (p : Process) (ps : List Process) → order_of (p ∷ ps) p.name ≡ 0
order_here p ps = ap (λ b. cond (not b) (1 + order_of ps p.name) 0) (bytes_same p.name p.name refl)

pub order_there : (p : Process) (ps : List Process) (name : List ℕ) → p.name ≢ name → order_of (p ∷ ps) name ≡ 1 + order_of ps name
order_there p ps name h = ap (λ b. cond (not b) (1 + order_of ps name) 0) (false_from_ne_true (bytes_eq p.name name) (λ e. h (same_bytes p.name name e)))

pub processes_rise : (ps : List Process) → AllPairs (λ (p q : Process). p.name ≢ q.name) ps → AllPairs (λ (p q : Process). order_of ps p.name < order_of ps q.name) ps
processes_rise [] apart = pairs_nil (λ (p q : Process). order_of [] p.name < order_of [] q.name)
processes_rise (p ∷ ps) apart =
    AllPairs-cons (λ (a b : Process). order_of (p ∷ ps) a.name < order_of (p ∷ ps) b.name) p ps
    (all_from (λ (b : Process). order_of (p ∷ ps) p.name < order_of (p ∷ ps) b.name) ps (λ q c. let e = order_here p ps in let f = there q c in omega (arith, e, f)))
    (again (processes_rise ps (behind_first (λ (a b : Process). a.name ≢ b.name) p ps apart)))
  where
    there : (q : Process) → Contains ps q → order_of (p ∷ ps) q.name ≡ 1 + order_of ps q.name
    there q c = order_there p ps q.name (above_first (λ (a b : Process). a.name ≢ b.name) p ps apart q c)

    again : AllPairs (λ (a b : Process). order_of ps a.name < order_of ps b.name) ps → AllPairs (λ (a b : Process). order_of (p ∷ ps) a.name < order_of (p ∷ ps) b.name) ps
    again up i j d less l =
        let one = up i j d less l in
        let e = there (get_or ps i d) (Contains-get_or ps i d (omega (arith, less, l))) in
        let f = there (get_or ps j d) (Contains-get_or ps j d l) in
        omega (arith, one, e, f)

pub names_rise : (ps : List Process) (process : List ℕ) (low n : ℕ) → AllPairs (IsEarlierName ps) (names_from process low n)
names_rise ps process low zero = pairs_nil (IsEarlierName ps)
names_rise ps process low (suc n) =
    AllPairs-cons (IsEarlierName ps) (record { process = process; place = low }) (names_from process (low + 1) n)
    (all_from (IsEarlierName ps (record { process = process; place = low })) (names_from process (low + 1) n) (λ m c.
    let at = in_names process (low + 1) n m c in inr (sym at.0, omega (arith, at.1))))
    (names_rise ps process (low + 1) n)
