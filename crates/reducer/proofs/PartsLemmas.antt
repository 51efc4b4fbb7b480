-- Which name stands before which in a list of parts, and in the names of a process.
use Rattle.std.proofs.Common.{◌≡◌, ◌<◌, ◌+◌, ℕ, zero, suc, List, [], ◌∷◌, ap, sym, arith, inl, inr, subst}
use Rattle.std.specs.List.{Contains, flat_map}
use Rattle.trace_semantics.specs.declared.operation.OpName.{OpName}
use Rattle.trace_semantics.specs.Interleaving.{StandsBefore}
use Rattle.trace_semantics.proofs.ElementLemmas.{head_in, tail_in, from_flat_map, to_flat_map}
use Rattle.restriction.specs.Left.{names_from}
use Rattle.restriction.proofs.PlaceLemmas.{in_names}
use Rattle.restriction.proofs.StandLemmas.{none_stands, stands_here, stands_there, stands_cases, stands_right, stands_across, InJoined, Left, Right, Across, stands_joined}

-- in a list of parts: both in one part, or in the parts of two
pub data InParts (f : OpName → List OpName) (xs : List OpName) (a b : OpName) : Type 0 where
  Same : (x : OpName) → Contains xs x → StandsBefore (f x) a b → InParts f xs a b
  Apart : (x y : OpName) → StandsBefore xs x y → Contains (f x) a → Contains (f y) b → InParts f xs a b

parts_more : (f : OpName → List OpName) (x : OpName) (xs : List OpName) (a b : OpName) → InParts f xs a b → InParts f (x ∷ xs) a b
parts_more f x xs a b (Same y c s) = Same y (tail_in x xs y c) s
parts_more f x xs a b (Apart y z s c d) = Apart y z (stands_there x xs y z s) c d

parts_of : (f : OpName → List OpName) (x : OpName) (xs : List OpName) (a b : OpName) → InJoined (f x) (flat_map f xs) a b → (StandsBefore (flat_map f xs) a b → InParts f xs a b) → InParts f (x ∷ xs) a b
parts_of f x xs a b (Left s) more = Same x (head_in x xs) s
parts_of f x xs a b (Right s) more = parts_more f x xs a b (more s)
parts_of f x xs a b (Across c d) more = let at = from_flat_map f xs b d in Apart x at.0 (stands_here x xs at.0 at.1) c at.2

pub stands_parts : (f : OpName → List OpName) (xs : List OpName) (a b : OpName) → StandsBefore (flat_map f xs) a b → InParts f xs a b
stands_parts f [] a b s = absurd (none_stands a b s)
stands_parts f (x ∷ xs) a b s = parts_of f x xs a b (stands_joined (f x) (flat_map f xs) a b s) (stands_parts f xs a b)

pub parts_stand : (f : OpName → List OpName) (xs : List OpName) (x y a b : OpName) → StandsBefore xs x y → Contains (f x) a → Contains (f y) b → StandsBefore (flat_map f xs) a b
parts_stand f [] x y a b s c d = absurd (none_stands x y s)
parts_stand f (z ∷ zs) x y a b s c d =
    elim (stands_cases z zs x y s) [
      | inl here ↦ stands_across (f z) (flat_map f zs) a b (subst (λ w. Contains (f w) a) (sym here.0) c) (to_flat_map f zs y b here.1 d)
      | inr there ↦ stands_right (f z) (flat_map f zs) a b (parts_stand f zs x y a b there c d)
    ]

-- the names of a process by rising place
pub rising_places : (process : List ℕ) (low n : ℕ) (a b : OpName) → StandsBefore (names_from process low n) a b → a.place < b.place
rising_places process low zero a b s = absurd (none_stands a b s)
rising_places process low (suc n) a b s =
    elim (stands_cases (record { process = process; place = low }) (names_from process (low + 1) n) a b s) [
      | inl here ↦ (
          let within = in_names process (low + 1) n b here.1 in
          let first : low ≡ a.place = ap (λ (m : OpName). m.place) here.0 in
          omega (arith, within.1, first))
      | inr there ↦ rising_places process (low + 1) n a b there
    ]
