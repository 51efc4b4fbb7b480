-- The order of the numbers in a schedule.
use Rattle.std.proofs.Common.{◌≡◌, ◌⊎◌, ℕ, ◌<◌, List, Bool, true, false, not, refl, ap, sym, ◌∙◌, inl, inr}
use Rattle.std.specs.Prelude.{◌≢◌, Option, Some, None}
use Rattle.std.specs.List.{Contains}
use Rattle.trace_semantics.specs.declared.operation.OpName.{OpName}
use Rattle.trace_semantics.specs.Interleaving.{StandsBefore, IsInterleaving}
use Rattle.trace_semantics.specs.Trace.{TraceValue, IsTrace, operation_count}
use Rattle.var_layout.specs.Numbers.{name_at}
use Rattle.var_layout.proofs.NumberLemmas.{name_here}
use Rattle.clause_blocks.proofs.NumbersOfNames.OperationNumberLemmas.{known_at, names_apart}
use Rattle.clause_blocks.proofs.NamesInOrder.StandLemmas.{is_ahead, ahead_stands, stands_ahead, stands_trans, stands_total, stands_once}

-- both have names, and one name stands before the other
abbrev pub is_ahead_named : List OpName → Option OpName → Option OpName → Bool
is_ahead_named names None n = false
is_ahead_named names (Some m) None = false
is_ahead_named names (Some m) (Some n) = is_ahead names m n

-- one operation stands before the other in the list
abbrev pub ahead_in : TraceValue → List OpName → ℕ → ℕ → Bool
ahead_in t names i j = is_ahead_named names (name_at t i) (name_at t j)

pub ahead_named : (t : TraceValue) (names : List OpName) (i j : ℕ) (m n : OpName) → name_at t i ≡ Some m → name_at t j ≡ Some n → ahead_in t names i j ≡ is_ahead names m n
ahead_named t names i j m n e f = λ k. is_ahead_named names (e k) (f k)

module _ (t : TraceValue) (names : List OpName) (ok : IsTrace t) (given : IsInterleaving t names) where
  pub stands_numbered : (i j : ℕ) (m n : OpName) → name_at t i ≡ Some m → name_at t j ≡ Some n → StandsBefore names m n → ahead_in t names i j ≡ true
  stands_numbered i j m n e f s = ahead_named t names i j m n e f ∙ stands_ahead names m n s

  pub numbered_stands : (i j : ℕ) (m n : OpName) → name_at t i ≡ Some m → name_at t j ≡ Some n → ahead_in t names i j ≡ true → StandsBefore names m n
  numbered_stands i j m n e f h = ahead_stands names m n (sym (ahead_named t names i j m n e f) ∙ h)

  listed : (i : ℕ) (n : OpName) → name_at t i ≡ Some n → Contains names n
  listed i n e = given.each n (known_at t ok i n e)

  pub stands_either : (i j : ℕ) (m n : OpName) → i ≢ j → name_at t i ≡ Some m → name_at t j ≡ Some n → StandsBefore names m n ⊎ StandsBefore names n m
  stands_either i j m n d e f =
      elim (stands_total names m n (listed i m e) (listed j n f)) [
        | inl same ↦ absurd (names_apart t ok i j m n d e f same)
        | inr s ↦ s
      ]

  not_ahead : (m n : OpName) → StandsBefore names m n → is_ahead names n m ≡ false
  not_ahead m n s = by_test (is_ahead names n m) refl
    where
      by_test : (b : Bool) → is_ahead names n m ≡ b → is_ahead names n m ≡ false
      by_test true e = absurd (stands_once names given.once m n s (ahead_stands names n m e))
      by_test false e = e

  flips_by : (m n : OpName) → StandsBefore names m n ⊎ StandsBefore names n m → is_ahead names n m ≡ not (is_ahead names m n)
  flips_by m n (inl s) = not_ahead m n s ∙ ap not (sym (stands_ahead names m n s))
  flips_by m n (inr s) = stands_ahead names n m s ∙ ap not (sym (not_ahead n m s))

  pub schedule_flips : (i j : ℕ) → i ≢ j → i < operation_count t → j < operation_count t → ahead_in t names j i ≡ not (ahead_in t names i j)
  schedule_flips i j d h k =
      let first = name_here t i h in
      let second = name_here t j k in
      ahead_named t names j i second.0 first.0 second.1 first.1 ∙ flips_by first.0 second.0 (stands_either i j first.0 second.0 d first.1 second.1)
      ∙ ap not (sym (ahead_named t names i j first.0 second.0 first.1 second.1))

  pub schedule_trans : (i j k : ℕ) → i < operation_count t → j < operation_count t → k < operation_count t → ahead_in t names i j ≡ true → ahead_in t names j k ≡ true → ahead_in t names i k ≡ true
  schedule_trans i j k a b c e f =
      let first = name_here t i a in
      let second = name_here t j b in
      let third = name_here t k c in
      stands_numbered i k first.0 third.0 first.1 third.1 (stands_trans names given.once first.0 second.0 third.0
      (numbered_stands i j first.0 second.0 first.1 second.1 e) (numbered_stands j k second.0 third.0 second.1 third.1 f))
