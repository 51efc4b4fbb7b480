use Rattle.std.proofs.Common.{arith, ◌≡◌, ℕ, suc, ◌+◌, ◌<◌, ◌==◌, Bool, Option, None, Some, List, [], ◌∷◌, length, take, drop, sym, ap, subst, length-drop, drop-drop, take-add, if◌then◌else◌, ne_eqb}
use Rattle.dealing.specs.declared.event.Event.TheVariants.{Gather}
use Rattle.dealing.specs.declared.given_outcome.GivenOutcome.{GivenOutcome}
use Rattle.dealing.specs.declared.refused.EventCause.{EventCause}
use Rattle.dealing.specs.declared.refused.EventCause.TheVariants.{NoResult}
use Rattle.dealing.specs.Machine.{State, refusal_of, after}
use Rattle.dealing.proofs.machine.Machine.gather.Goals as goal

-- Steps of the machine, over what it keeps.

abbrev no_result_if : Bool → Option EventCause
no_result_if b = if b then Some NoResult else None

-- a list that is not empty
not_empty : (xs : List GivenOutcome) → 0 < length xs → no_result_if (length xs == 0) ≡ None
not_empty [] h = absurd (omega arith)
not_empty (x ∷ xs) h = ap no_result_if (ne_eqb (suc (length xs)) 0 (λ e. absurd (omega (arith, e))))

-- one more outcome is gathered
gathered : (jobs : List ℕ) (hands : List (Option ℕ)) (given : List GivenOutcome) (n : ℕ) (m : State) →
    record { jobs = jobs; hands = hands; results = drop n given; ledger = take n given } ≡ m → n < length given →
    (refusal_of m Gather ≡ None) × (record { jobs = jobs; hands = hands; results = drop (n + 1) given; ledger = take (n + 1) given } ≡ after m Gather)
gathered jobs hands given n m is below =
    let old : State = record { jobs = jobs; hands = hands; results = drop n given; ledger = take n given } in
    let long : 0 < length (drop n given) = omega (arith, length-drop n given, below) in
    subst (λ (m : State). (refusal_of m Gather ≡ None) × (record { jobs = jobs; hands = hands; results = drop (n + 1) given; ledger = take (n + 1) given } ≡ after m Gather))
    is (
      not_empty (drop n given) long,
      λ i. record { jobs = jobs; hands = hands; results = sym (drop-drop 1 n given) i; ledger = take-add n 1 given i },
    )

pub returns : goal.returns
returns c =
    gathered c.self.inside.jobs.items c.self.inside.hands c.self.inside.given.items c.self.inside.gathered c.args.self.now c.self.view_is
    (omega (arith, c.if-self-len.false, c.len.ensures, c.self.inside.given.ok.0))
