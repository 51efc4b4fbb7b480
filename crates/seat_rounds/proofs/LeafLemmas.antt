-- Numbers that are counted up are leaves.
use Rattle.std.proofs.Common.{◌≡◌, ℕ, ℤ, ◌+◌, ◌<◌, List, [], ◌∷◌, ◌++◌, length, subst, sym, arith}
use Rattle.std.specs.List.{All, AllPairs, Contains}
use Rattle.std.proofs.lemmas.List.Elements.{All-nil, All-push, All-weaker, All-contains}
use Rattle.std.proofs.lemmas.List.Quantifiers.{all_pairs_push}
use Rattle.cube_jobs.specs.Results.{AreLeaves}

-- they rise, and are below the next one
pub record AreUpTo (next : ℕ) (numbers : List ℕ) : Type 0 where
  pub rising : AllPairs (λ x y. x < y) numbers
  pub low : All (λ x. x < next) numbers

pub none_yet : (numbers : List ℕ) → numbers ≡ [] → AreUpTo 0 numbers
none_yet numbers none = subst (AreUpTo 0) (sym none) (record { rising = λ i j d below within. absurd (omega (arith, within)); low = All-nil (λ (x : ℕ). x < 0) })

pub one_more : (next : ℕ) (numbers more : List ℕ) → more ≡ numbers ++ next ∷ [] → AreUpTo next numbers → AreUpTo (next + 1) more
one_more next numbers more is so =
    let wider : All (λ (x : ℕ). x < next + 1) numbers = All-weaker (λ (x : ℕ). x < next) (λ (x : ℕ). x < next + 1) (λ x h. omega (arith, h)) numbers so.low in
    subst (AreUpTo (next + 1)) (sym is) (record {
      rising = all_pairs_push (λ (x y : ℕ). x < y) numbers next so.rising so.low;
      low = All-push (λ (x : ℕ). x < next + 1) numbers next wider (omega arith);
    })

pub are_leaves : (cubes : List (List ℤ)) (count : ℕ) (numbers : List ℕ) → length cubes ≡ count → AreUpTo count numbers → AreLeaves cubes numbers
are_leaves cubes count numbers as_many so = record {
  rising = so.rising;
  each = λ leaf c. let low = All-contains (λ (x : ℕ). x < count) numbers leaf so.low c in omega (arith, low, as_many);
}
