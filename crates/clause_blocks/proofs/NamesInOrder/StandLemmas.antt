-- Which name stands before which: it is an order where no name stands twice.
use Rattle.std.proofs.Common.{◌≡◌, ◌⊎◌, List, [], ◌∷◌, Bool, true, false, cond, refl, sym, ◌∙◌, inl, inr, subst}
use Rattle.std.specs.List.{Contains}
use Rattle.trace_semantics.specs.declared.operation.OpName.{OpName}
use Rattle.trace_semantics.specs.Interleaving.{StandsBefore}
use Rattle.trace_semantics.specs.Judgement.{has_come}
use Rattle.trace_semantics.specs.Operation.{same_op}
use Rattle.trace_semantics.proofs.ElementLemmas.{cases_in, none_in}
use Rattle.trace_semantics.proofs.NameLemmas.{same_name, name_same, come_in, in_come}
use Rattle.restriction.proofs.StandLemmas.{none_stands, stands_here, stands_there, stands_cases, stands_in}

-- no name stands before itself
abbrev pub IsOnce : List OpName → Type 0
IsOnce names = (n : OpName) → StandsBefore names n n → ⊥

pub once_rest : (x : OpName) (names : List OpName) → IsOnce (x ∷ names) → IsOnce names
once_rest x names once n s = once n (stands_there x names n n s)

pub stands_trans : (names : List OpName) → IsOnce names → (a b c : OpName) → StandsBefore names a b → StandsBefore names b c → StandsBefore names a c
stands_trans [] once a b c s u = absurd (none_stands a b s)
stands_trans (x ∷ xs) once a b c s u =
    elim (stands_cases x xs b c u) [
      | inl here ↦ absurd (elim (stands_cases x xs a b s) [
        | inl first ↦ once b (subst (λ w. StandsBefore (x ∷ xs) w b) here.0 (stands_here x xs b first.1))
        | inr rest ↦ once b (subst (λ w. StandsBefore (x ∷ xs) w b) here.0 (stands_here x xs b (stands_in xs a b rest).1))
      ])
      | inr later ↦ elim (stands_cases x xs a b s) [
        | inl first ↦ subst (λ w. StandsBefore (x ∷ xs) w c) first.0 (stands_here x xs c (stands_in xs b c later).1)
        | inr rest ↦ stands_there x xs a c (stands_trans xs (once_rest x xs once) a b c rest later)
      ]
    ]

-- not both before and after
pub stands_once : (names : List OpName) → IsOnce names → (a b : OpName) → StandsBefore names a b → StandsBefore names b a → ⊥
stands_once names once a b s u = once a (stands_trans names once a b a s u)

pub stands_total : (names : List OpName) (a b : OpName) → Contains names a → Contains names b → (a ≡ b) ⊎ (StandsBefore names a b ⊎ StandsBefore names b a)
stands_total [] a b c d = absurd (none_in a c)
stands_total (x ∷ xs) a b c d =
    elim (cases_in x xs a c) [
      | inl e ↦ elim (cases_in x xs b d) [
        | inl f ↦ inl (sym e ∙ f)
        | inr k ↦ inr (inl (subst (λ w. StandsBefore (x ∷ xs) w b) e (stands_here x xs b k)))
      ]
      | inr h ↦ elim (cases_in x xs b d) [
        | inl f ↦ inr (inr (subst (λ w. StandsBefore (x ∷ xs) w a) f (stands_here x xs a h)))
        | inr k ↦ elim (stands_total xs a b h k) [
          | inl same ↦ inl same
          | inr (inl s) ↦ inr (inl (stands_there x xs a b s))
          | inr (inr s) ↦ inr (inr (stands_there x xs b a s))
        ]
      ]
    ]

-- one name stands before another, as a test
abbrev pub is_ahead : List OpName → OpName → OpName → Bool
is_ahead [] a b = false
is_ahead (x ∷ xs) a b = cond (same_op x a) (has_come xs b) (is_ahead xs a b)

ahead_at : (x : OpName) (xs : List OpName) (a b : OpName) (h : Bool) → same_op x a ≡ h → (is_ahead xs a b ≡ true → StandsBefore xs a b) → cond h (has_come xs b) (is_ahead xs a b) ≡ true → StandsBefore (x ∷ xs) a b
ahead_at x xs a b true e more k = subst (λ w. StandsBefore (x ∷ xs) w b) (same_name x a e) (stands_here x xs b (come_in xs b k))
ahead_at x xs a b false e more k = stands_there x xs a b (more k)

pub ahead_stands : (names : List OpName) (a b : OpName) → is_ahead names a b ≡ true → StandsBefore names a b
ahead_stands [] a b k = absurd (cc)
ahead_stands (x ∷ xs) a b k = ahead_at x xs a b (same_op x a) refl (ahead_stands xs a b) k

stands_at : (x : OpName) (xs : List OpName) (a b : OpName) (h : Bool) → same_op x a ≡ h → (StandsBefore xs a b → is_ahead xs a b ≡ true) → StandsBefore (x ∷ xs) a b → cond h (has_come xs b) (is_ahead xs a b) ≡ true
stands_at x xs a b true e more s =
    elim (stands_cases x xs a b s) [
      | inl here ↦ in_come xs b here.1
      | inr rest ↦ in_come xs b (stands_in xs a b rest).1
    ]
stands_at x xs a b false e more s =
    elim (stands_cases x xs a b s) [
      | inl here ↦ absurd (let clash : true ≡ false = sym (name_same x a here.0) ∙ e in cc)
      | inr rest ↦ more rest
    ]

pub stands_ahead : (names : List OpName) (a b : OpName) → StandsBefore names a b → is_ahead names a b ≡ true
stands_ahead [] a b s = absurd (none_stands a b s)
stands_ahead (x ∷ xs) a b s = stands_at x xs a b (same_op x a) refl (stands_ahead xs a b) s
