-- What a clause says of orders holds in each legal schedule: cycles, before pairs, times, and that some operation comes first.
use Rattle.std.proofs.Common.{◌≡◌, ◌⊎◌, List, [], ◌∷◌, refl, sym, ◌∙◌, inl, inr, subst}
use Rattle.std.specs.Prelude.{◌≢◌, IsSome}
use Rattle.trace_semantics.specs.declared.operation.OpName.{OpName}
use Rattle.trace_semantics.specs.Interleaving.{StandsBefore, IsInterleaving}
use Rattle.trace_semantics.specs.Trace.{TraceValue, operation_at}
use Rattle.restriction.proofs.StandLemmas.{stands_over, stands_either, never_both}
use Rattle.forced_order.specs.Order.{IsInProgramOrder}
use Rattle.forced_order.proofs.ForcedLemmas.{forced_before}
use Rattle.order_reasons.specs.Orders.{HoldsIn}
use Rattle.order_reasons.specs.Reasons.{Says, IsUpTo, TurnsSteps, IsCycleClause, IsPairClause, IsTimesClause}

module _ (t : TraceValue) (names : List OpName) (given : IsInterleaving t names) (clause : List (OpName × OpName)) where
  pub in_program_order : (m n : OpName) → IsInProgramOrder t m n → StandsBefore names m n
  in_program_order m n h = forced_before t names m n given ([], inl h)

  -- what the clause says is so: it holds
  pub said : (m n : OpName) → Says t clause m n → StandsBefore names m n → HoldsIn names clause
  said m n (inl c) s = (m, n, c, s)
  said m n (inr (inl e)) s = absurd (given.once m (subst (λ x. StandsBefore names m x) (sym e) s))
  said m n (inr (inr h)) s = absurd (never_both names given.once m n s (in_program_order n m h))

  -- what stands before m stands before what m is up to
  pub before_up : (x m n : OpName) → IsUpTo t m n → StandsBefore names x m → StandsBefore names x n
  before_up x m n (inl e) s = subst (λ y. StandsBefore names x y) e s
  before_up x m n (inr h) s = stands_over names given.once x m n s (in_program_order m n h)

  pub up_before : (m n x : OpName) → IsUpTo t m n → StandsBefore names n x → StandsBefore names m x
  up_before m n x (inl e) s = subst (λ y. StandsBefore names y x) (sym e) s
  up_before m n x (inr h) s = stands_over names given.once m n x (in_program_order m n h) s

  -- what is up to c, and not c, stands before it
  pub strictly_up : (x w c : OpName) → x ≡ w → x ≢ c → IsUpTo t w c → StandsBefore names x c
  strictly_up x w c e other (inl same) = absurd (other (e ∙ same))
  strictly_up x w c e other (inr h) = subst (λ y. StandsBefore names y c) (sym e) (in_program_order w c h)

  pub apart_by : (m n : OpName) → StandsBefore names m n ⊎ StandsBefore names n m → m ≢ n
  apart_by m n (inl s) e = given.once m (subst (λ y. StandsBefore names m y) (sym e) s)
  apart_by m n (inr s) e = given.once m (subst (λ y. StandsBefore names y m) (sym e) s)

  pub either : (m n : OpName) → m ≢ n → IsSome (operation_at t m) → IsSome (operation_at t n) → StandsBefore names m n ⊎ StandsBefore names n m
  either m n other first second =
      elim (stands_either names m n (given.each m first) (given.each n second)) [
        | inl e ↦ absurd (other e)
        | inr s ↦ s
      ]

  -- the first of the cycle stands before u, or is it
  turned : (first u : OpName) (rest : List OpName) → IsSome (operation_at t first) → (first ≡ u) ⊎ StandsBefore names first u → TurnsSteps t clause first u rest → HoldsIn names clause
  turned first u [] known so (other, here, says) =
      elim so [
        | inl e ↦ absurd (other (sym e))
        | inr s ↦ said first u says s
      ]
  turned first u (v ∷ rest) known so (other, here, says, more) =
      elim (either u v other here (next_known rest more)) [
        | inl s ↦ turned first v rest known (inr (on so s)) more
        | inr s ↦ said v u says s
      ]
    where
      next_known : (rest : List OpName) → TurnsSteps t clause first v rest → IsSome (operation_at t v)
      next_known [] h = h.1
      next_known (w ∷ ws) h = h.1

      on : (first ≡ u) ⊎ StandsBefore names first u → StandsBefore names u v → StandsBefore names first v
      on (inl e) s = subst (λ y. StandsBefore names y v) (sym e) s
      on (inr s) r = stands_over names given.once first u v s r

  pub cycle_holds : (first : OpName) (rest : List OpName) → IsCycleClause t clause first rest → HoldsIn names clause
  cycle_holds first rest h = turned first first rest (first_known rest h) (inl refl) h
    where
      first_known : (rest : List OpName) → TurnsSteps t clause first first rest → IsSome (operation_at t first)
      first_known [] k = k.1
      first_known (w ∷ ws) k = k.1

  pub pair_stands : (m n : OpName) → IsPairClause t clause m n → HoldsIn names clause
  pair_stands m n (c, says) = said m n says (given.known_order m n (inl c))

  pub times_stand : (m n : OpName) → IsTimesClause t clause m n → HoldsIn names clause
  times_stand m n (ended, says) = said m n says (given.known_order m n (inr ended))
