-- How often a ticket is among others.
use Rattle.std.proofs.Common.{◌≡◌, ℕ, zero, suc, ◌+◌, ◌<◌, ◌≤◌, ◌==◌, Bool, true, false, ◌||◌, cond, Option, None, List, [], ◌∷◌, ◌++◌, length, get_or, set, replicate, option_to_list, refl, sym, ◌∙◌, ap, eqb-true, arith}
use Rattle.dealing.specs.Machine.{held_in, is_among}
use Rattle.dealing.specs.Counting.{times}

pub times-append : (ticket : ℕ) (xs ys : List ℕ) → times ticket (xs ++ ys) ≡ times ticket xs + times ticket ys
times-append ticket [] ys = omega arith
times-append ticket (x ∷ xs) ys = let more = times-append ticket xs ys in omega (arith, more)

-- a ticket that is not among these
none_cons : (ticket : ℕ) (xs : List ℕ) (b : Bool) → (is_among ticket xs ≡ false → times ticket xs ≡ 0) → (b || is_among ticket xs) ≡ false → cond b 1 0 + times ticket xs ≡ 0
none_cons ticket xs true rest none = absurd (cc)
none_cons ticket xs false rest none = let gone = rest none in omega (arith, gone)

pub none_among : (ticket : ℕ) (xs : List ℕ) → is_among ticket xs ≡ false → times ticket xs ≡ 0
none_among ticket [] none = refl
none_among ticket (x ∷ xs) none = none_cons ticket xs (x == ticket) (none_among ticket xs) none

-- a ticket that is among these once at most
times_cons : (ticket : ℕ) (xs : List ℕ) (b : Bool) → (times ticket xs ≤ 1 → times ticket xs ≡ cond (is_among ticket xs) 1 0) → cond b 1 0 + times ticket xs ≤ 1 →
    cond b 1 0 + times ticket xs ≡ cond (b || is_among ticket xs) 1 0
times_cons ticket xs true rest few = omega (arith, few)
times_cons ticket xs false rest few =
    let more = rest (omega (arith, few)) in
    let none : 0 + times ticket xs ≡ times ticket xs = omega arith in
    none ∙ more

pub times_among : (ticket : ℕ) (xs : List ℕ) → times ticket xs ≤ 1 → times ticket xs ≡ cond (is_among ticket xs) 1 0
times_among ticket [] few = refl
times_among ticket (x ∷ xs) few = times_cons ticket xs (x == ticket) (times_among ticket xs) few

-- one more ticket, that was not there
once_by : (ticket new : ℕ) (xs : List ℕ) (b : Bool) → (new == ticket) ≡ b → times ticket xs ≤ 1 → times new xs ≡ 0 → cond b 1 0 + times ticket xs ≤ 1
once_by ticket new xs true is few none =
    let same : new ≡ ticket = eqb-true new ticket is in
    let gone : times ticket xs ≡ 0 = ap (λ (k : ℕ). times k xs) (sym same) ∙ none in
    omega (arith, gone)
once_by ticket new xs false is few none = omega (arith, few)

pub once_more : (ticket new : ℕ) (xs : List ℕ) → times ticket xs ≤ 1 → times new xs ≡ 0 → times ticket (xs ++ new ∷ []) ≤ 1
once_more ticket new xs few none =
    let h = once_by ticket new xs (new == ticket) refl few none in
    omega (arith, h, times-append ticket xs (new ∷ []))

-- a worker's job in flight that changes
pub held_set : (ticket : ℕ) (hands : List (Option ℕ)) (worker : ℕ) (hand : Option ℕ) → worker < length hands →
    times ticket (held_in (set hands worker hand)) + times ticket (option_to_list (get_or hands worker None)) ≡ times ticket (held_in hands) + times ticket (option_to_list hand)
held_set ticket [] worker hand within = absurd (omega arith)
held_set ticket (h ∷ hands) zero hand within = omega (arith, times-append ticket (option_to_list hand) (held_in hands), times-append ticket (option_to_list h) (held_in hands))
held_set ticket (h ∷ hands) (suc worker) hand within =
    let rest = held_set ticket hands worker hand (omega arith) in
    omega (arith, rest, times-append ticket (option_to_list h) (held_in (set hands worker hand)), times-append ticket (option_to_list h) (held_in hands))

abbrev no_ticket : Option ℕ
no_ticket = None

-- no job in flight
pub none_held : (workers worker : ℕ) → get_or (replicate workers None) worker None ≡ no_ticket
none_held zero worker = refl
none_held (suc workers) zero = refl
none_held (suc workers) (suc worker) = none_held workers worker

pub none_in_hands : (hands : List (Option ℕ)) → ((worker : ℕ) → get_or hands worker None ≡ None) → held_in hands ≡ []
none_in_hands [] none = refl
none_in_hands (h ∷ hands) none = ap (λ (hand : Option ℕ). option_to_list hand ++ held_in hands) (none 0) ∙ none_in_hands hands (λ worker. none (suc worker))
