-- Different names, counted one after the other.
use Rattle.std.proofs.Common.{◌≡◌, ℕ, ◌+◌, ◌<◌, ◌≤◌, List, [], ◌∷◌, ◌++◌, length, get_or, map, take, Bool, true, false, not, ◌&&◌, refl, ap, sym, ◌∙◌, subst, arith, append-nil, append_assoc}
use Rattle.std.specs.Prelude.{min, nat_le, nat_lt, if◌then◌else◌}
use Rattle.std.specs.List.{flat_map}
use Rattle.std.proofs.lemmas.Bool.{leb-true, leb-false, ltb-true, ltb-false, lt-ltb, le-ltb}
use Rattle.std.proofs.lemmas.Grind.{flat_map-append}
use Rattle.std.proofs.lemmas.List.{take_more, take_all}
use Rattle.trace_semantics.specs.Locations.{distinct, holds_name}
use Rattle.trace_text.specs.declared.location_count.LocationCount.{LocationCount}
use Rattle.trace_text.specs.LocationCount.{IsCountOf, CountsOne}
use Rattle.trace_text.specs.Seen.{has}
use Rattle.trace_text.proofs.Reading.SeenLemmas.{any_push, distinct_push}
use Rattle.std.specs.Str.{bytes_eq}

count_by : (c : Bool) (d k m : ℕ) → nat_le k 4096 ≡ c → k ≡ min d 4097 → m ≡ (if c then k + 1 else k) → m ≡ min (d + 1) 4097
count_by true d k m t h e = let few = leb-true k 4096 t in omega (arith, few, h, e)
count_by false d k m t h e = let many = leb-false k 4096 t in omega (arith, many, h, e)

count_more : (b : Bool) (d more k m : ℕ) → k ≡ min d 4097 → more ≡ (if not b then d + 1 else d) → m ≡ (if not b && nat_le k 4096 then k + 1 else k) → m ≡ min more 4097
count_more true d more k m h e n = n ∙ h ∙ ap (λ x. min x 4097) (sym e)
count_more false d more k m h e n = count_by (nat_le k 4096) d k m refl h n ∙ ap (λ x. min x 4097) (sym e)

-- one more name
pub counted_one : (names : List (List ℕ)) (name : List ℕ) (old new : LocationCount) → CountsOne old new name → IsCountOf names old → IsCountOf (names ++ name ∷ []) new
counted_one names name old new one h = record {
  known = λ q. any_push (λ other. bytes_eq other q) names name (has new.names q) (has old.names q) (one.known q) (h.known q);
  count = count_more (holds_name names name) (length (distinct names)) (length (distinct (names ++ name ∷ []))) old.count new.count h.count (distinct_push names name)
      (one.count ∙ (λ i. if not (h.known name i) && nat_le old.count 4096 then old.count + 1 else old.count));
}

-- the names of one more element of a list
module _ {A : Type 0} (g : A → List (List ℕ)) (xs : List A) where
  flat_more : (i : ℕ) (x : A) → i < length xs → x ≡ get_or xs i x → flat_map g (take (i + 1) xs) ≡ flat_map g (take i xs) ++ g x
  flat_more i x l at =
      ap (flat_map g) (take_more xs i x l) ∙ flat_map-append g (take i xs) (get_or xs i x ∷ [])
      ∙ ap (λ y. flat_map g (take i xs) ++ (g y ++ [])) (sym at) ∙ ap (λ l. flat_map g (take i xs) ++ l) (append-nil (g x))

  pub counted_none : (old : LocationCount) (names : List (List ℕ)) → IsCountOf names old → IsCountOf (names ++ flat_map g (take 0 xs)) old
  counted_none old names h = subst (λ (l : List (List ℕ)). IsCountOf l old) (sym (append-nil names)) h

  pub counted_more : (i : ℕ) (x : A) (old now new : LocationCount) → i < length xs → x ≡ get_or xs i x → ((names : List (List ℕ)) → IsCountOf names old → IsCountOf (names ++ flat_map g (take i xs)) now) →
      ((names : List (List ℕ)) → IsCountOf names now → IsCountOf (names ++ g x) new) → (names : List (List ℕ)) → IsCountOf names old → IsCountOf (names ++ flat_map g (take (i + 1) xs)) new
  counted_more i x old now new l at so_far step names h =
      subst (λ (all : List (List ℕ)). IsCountOf all new) (append_assoc names (flat_map g (take i xs)) (g x) ∙ ap (λ all. names ++ all) (sym (flat_more i x l at))) (step (names ++ flat_map g (take i xs)) (so_far names h))

  pub counted_all : (i : ℕ) (old new : LocationCount) → length xs ≤ i → ((names : List (List ℕ)) → IsCountOf names old → IsCountOf (names ++ flat_map g (take i xs)) new) → (names : List (List ℕ)) → IsCountOf names old → IsCountOf (names ++ flat_map g xs) new
  counted_all i old new l all names h = subst (λ (ys : List A). IsCountOf (names ++ flat_map g ys) new) (take_all i xs l) (all names h)

-- a name each
pub one_each : {A : Type 0} (f : A → List ℕ) (xs : List A) → flat_map (λ x. f x ∷ []) xs ≡ map f xs
one_each f [] = refl
one_each f (x ∷ xs) = ap (λ l. f x ∷ l) (one_each f xs)

-- the counted locations are more than a limit where all are
many_by : (d k : ℕ) → k ≡ min d 4097 → (b : Bool) → nat_lt 4096 d ≡ b → nat_lt 4096 k ≡ b
many_by d k h true t = let less = ltb-true 4096 d t in lt-ltb 4096 k (omega (arith, less, h))
many_by d k h false t = let few = ltb-false 4096 d t in le-ltb 4096 k (omega (arith, few, h))

pub many_counted : (names : List (List ℕ)) (counted : LocationCount) → IsCountOf names counted → nat_lt 4096 counted.count ≡ nat_lt 4096 (length (distinct names))
many_counted names counted h = many_by (length (distinct names)) counted.count h.count (nat_lt 4096 (length (distinct names))) refl
