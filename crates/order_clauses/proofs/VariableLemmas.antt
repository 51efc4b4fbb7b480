-- Variables and literals of orders.
use Rattle.std.proofs.Common.{◌≡◌, ◌<◌, ◌+◌, ◌-◌, ℕ, List, [], ◌∷◌, ◌++◌, length, get_or, ap, sym, ◌∙◌, arith, append_assoc}
use Rattle.std.proofs.lemmas.List.{append-nil, get_or_append_left, length-append}
use Rattle.std.proofs.Math.Seq.{get_or-append_seam}
use Rattle.order_clauses.specs.declared.order_pair.OrderPair.{OrderPair}
use Rattle.order_clauses.specs.Literals.{IsPairOf}
use Rattle.order_clauses.specs.OrderVariables.{nowhere, IsExtended}

pub extended_same : (pairs : List OrderPair) → IsExtended pairs pairs
extended_same pairs = ([], sym (append-nil pairs))

pub extended_over : (a b c : List OrderPair) → IsExtended a b → IsExtended b c → IsExtended a c
extended_over a b c (more, e) (rest, f) = (more ++ rest, f ∙ ap (λ l. l ++ rest) e ∙ append_assoc a more rest)

abbrev nothing : OrderPair
nothing = record { first = nowhere; second = nowhere }

-- the pair that was added last
pub added_pair : (pairs : List OrderPair) (pair : OrderPair) (variable : ℕ) → variable ≡ length pairs + 1 → IsPairOf (pairs ++ pair ∷ []) variable pair
added_pair pairs pair variable e = record {
  least = omega (arith, e);
  most = let long = length-append pairs (pair ∷ []) in omega (arith, e, long);
  is = let place : variable - 1 ≡ length pairs = omega (arith, e) in ap (λ k. get_or (pairs ++ pair ∷ []) k nothing) place ∙ get_or-append_seam pairs pair [] nothing;
}

-- a variable keeps its pair
pub pair_kept : (old new : List OrderPair) (variable : ℕ) (pair : OrderPair) → IsExtended old new → IsPairOf old variable pair → IsPairOf new variable pair
pair_kept old new variable pair (more, e) h = record {
  least = h.least;
  most = let long = ap length e ∙ length-append old more in let most = h.most in omega (arith, long, most);
  is = let low : variable - 1 < length old = omega (arith, h.least, h.most) in ap (λ l. get_or l (variable - 1) nothing) e ∙ get_or_append_left old more nothing (variable - 1) low ∙ h.is;
}
