-- Lists, and what is among them.
use Rattle.std.proofs.Common.{◌≡◌, ℕ, zero, suc, Bool, true, false, ◌||◌, ◌==◌, Option, None, Some, List, [], ◌∷◌, ◌++◌, take, drop, set, refl, sym, ◌∙◌, ap, take-append-drop}
use Rattle.std.specs.List.{list_any}
use Rattle.std.proofs.lemmas.List.{map-append}
use Rattle.std.proofs.lemmas.List.Folds.{list_any-append}
use Rattle.dealing.specs.declared.given_outcome.GivenOutcome.{GivenOutcome}
use Rattle.dealing.specs.Machine.{State, held_in, tickets_of, tickets_in, is_among, is_in_hand}

module _ {X : Type 0} where
  -- a prefix of a list that was written to
  pub take_set : (n : ℕ) (xs : List X) (i : ℕ) (x : X) → take n (set xs i x) ≡ set (take n xs) i x
  take_set zero xs i x = refl
  take_set (suc n) [] i x = refl
  take_set (suc n) (y ∷ xs) zero x = refl
  take_set (suc n) (y ∷ xs) (suc i) x = ap (λ (ys : List X). y ∷ ys) (take_set n xs i x)

or_comm : (a b : Bool) → (a || b) ≡ (b || a)
or_comm true true = refl
or_comm true false = refl
or_comm false true = refl
or_comm false false = refl

-- whether it is in flight
pub in_hands : (ticket : ℕ) (hands : List (Option ℕ)) → list_any (is_in_hand ticket) hands ≡ is_among ticket (held_in hands)
in_hands ticket [] = refl
in_hands ticket (None ∷ hands) = in_hands ticket hands
in_hands ticket (Some held ∷ hands) = ap (λ (b : Bool). (held == ticket) || b) (in_hands ticket hands)

-- whether it is the ticket of an outcome
pub in_given : (ticket : ℕ) (given : List GivenOutcome) → list_any (λ (g : GivenOutcome). g.ticket == ticket) given ≡ is_among ticket (tickets_of given)
in_given ticket [] = refl
in_given ticket (g ∷ given) = ap (λ (b : Bool). (g.ticket == ticket) || b) (in_given ticket given)

-- a list that is cut in two
pub among_cut : (ticket : ℕ) (n : ℕ) (given : List GivenOutcome) → is_among ticket (tickets_of (drop n given) ++ tickets_of (take n given)) ≡ is_among ticket (tickets_of given)
among_cut ticket n given =
    list_any-append _ (tickets_of (drop n given)) (tickets_of (take n given))
    ∙ or_comm (is_among ticket (tickets_of (drop n given))) (is_among ticket (tickets_of (take n given)))
    ∙ sym (list_any-append _ (tickets_of (take n given)) (tickets_of (drop n given)))
    ∙ ap (is_among ticket) (sym (map-append (λ (g : GivenOutcome). g.ticket) (take n given) (drop n given)))
    ∙ ap (λ (gs : List GivenOutcome). is_among ticket (tickets_of gs)) (take-append-drop n given)

-- whether it is in the machine
pub in_machine : (ticket : ℕ) (jobs : List ℕ) (hands : List (Option ℕ)) (given : List GivenOutcome) (n : ℕ) (m : State) →
    record { jobs = jobs; hands = hands; results = drop n given; ledger = take n given } ≡ m →
    is_among ticket (tickets_in m) ≡ (list_any (λ other. other == ticket) jobs || (list_any (is_in_hand ticket) hands || list_any (λ (g : GivenOutcome). g.ticket == ticket) given))
in_machine ticket jobs hands given n m is =
    ap (λ (m : State). is_among ticket (tickets_in m)) (sym is)
    ∙ list_any-append _ jobs (held_in hands ++ (tickets_of (drop n given) ++ tickets_of (take n given)))
    ∙ ap (λ (b : Bool). is_among ticket jobs || b)
    (list_any-append _ (held_in hands) (tickets_of (drop n given) ++ tickets_of (take n given))
    ∙ ap (λ (b : Bool). is_among ticket (held_in hands) || b) (among_cut ticket n given ∙ sym (in_given ticket given))
    ∙ ap (λ (b : Bool). b || list_any (λ (g : GivenOutcome). g.ticket == ticket) given) (sym (in_hands ticket hands)))
