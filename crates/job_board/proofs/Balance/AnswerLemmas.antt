-- Lists of jobs and of results that weigh the same, however pairs are weighed: the results are those of the jobs.
use Rattle.std.proofs.Common.{◌≡◌, ◌≢◌, ℕ, ℤ, zero, suc, ◌+◌, ◌<◌, ◌≤◌, ◌==◌, Bool, true, false, cond, nat_lt, List, [], ◌∷◌, length, slice_index_or, refl, sym, ◌∙◌, ap, subst, int_eq, lt-ltb, eq-eqb, eqb-true, ⊎_elim, arith}
use lib.Pointwise.{pointwise}
use Rattle.std.specs.Bool.{Decides}
use Rattle.std.specs.List.{All, AllPairs, Contains}
use Rattle.std.proofs.lemmas.Bool.{cases_lt}
use Rattle.std.proofs.lemmas.Bool.Decides.{Decides-int_eq}
use Rattle.std.proofs.lemmas.List.Elements.{All-head, All-tail, All-contains}
use Rattle.std.proofs.lemmas.Slice.Eq.{slice_eq-Decides}
use Rattle.cube_jobs.specs.declared.job.Job.{Job}
use Rattle.cube_jobs.specs.declared.job.Settled.{Settled}
use Rattle.job_board.specs.Pairs.{Pair, of_job, of_result, of_jobs, Rise}
use Rattle.job_board.specs.Accounts.{total, AreAnswersTo}
use Rattle.job_board.proofs.Balance.TotalLemmas.{total-map}
use Rattle.job_board.proofs.Balance.AccountLemmas.{only, job_weight, result_weight}

module _ {X : Type 0} (f : X → ℕ) where
  -- what is among the items weighs no more than all of them
  pub among_weighs : (xs : List X) (k : ℕ) (x : X) → k < length xs → slice_index_or xs k x ≡ x → f x ≤ total f xs
  among_weighs [] k x low is = absurd (omega arith)
  among_weighs (y ∷ xs) zero x low is =
      let same : f y ≡ f x = ap f is in
      omega (arith, same)
  among_weighs (y ∷ xs) (suc k) x low is = omega (arith, among_weighs xs k x (omega arith) is)

  pub contained_weighs : (xs : List X) (x : X) → Contains xs x → f x ≤ total f xs
  contained_weighs xs x among = among_weighs xs among.0 x among.1 among.2

  -- where the items weigh something, one of them does
  pub some_weighs : (xs : List X) → 0 < total f xs → (x : X) × Contains xs x × (0 < f x)
  some_weighs [] heavy = absurd (omega arith)
  some_weighs (y ∷ xs) heavy =
      ⊎_elim
      (λ (here : 0 < f y). (y, (0, omega arith, refl), here))
      (λ (none : f y ≤ 0).
      let rest = some_weighs xs (omega (arith, heavy, none)) in
      (rest.0, (suc rest.1.0, omega (arith, rest.1.1), rest.1.2), rest.2))
      (cases_lt 0 (f y))

-- 1 at this pair, and 0 at any other
abbrev is_pair : Pair → Pair → ℕ
is_pair p q = cond (p.0 == q.0) (cond (pointwise int_eq p.1 q.1) 1 0) 0

same_cube : (c d : List ℤ) → Decides (pointwise int_eq c d) (c ≡ d)
same_cube c d = slice_eq-Decides Decides-int_eq c d (pointwise int_eq c d) refl

both_hold : (a b : Bool) → 0 < cond a (cond b 1 0) 0 → (a ≡ true) × (b ≡ true)
both_hold true true heavy = (refl, refl)
both_hold true false heavy = absurd (omega (arith, heavy))
both_hold false b heavy = absurd (omega (arith, heavy))

is_pair_only : (p q : Pair) → 0 < is_pair p q → p ≡ q
is_pair_only p q heavy =
    let both = both_hold (p.0 == q.0) (pointwise int_eq p.1 q.1) heavy in
    let ticket : p.0 ≡ q.0 = eqb-true p.0 q.0 both.0 in
    let cube : p.1 ≡ q.1 = (same_cube p.1 q.1).0 both.1 in
    λ i. (ticket i, cube i)

is_pair_itself : (p : Pair) → is_pair p p ≡ 1
is_pair_itself p =
    let ticket : (p.0 == p.0) ≡ true = eq-eqb p.0 p.0 refl in
    let cube : pointwise int_eq p.1 p.1 ≡ true = (same_cube p.1 p.1).1 refl in
    ap {B = ℕ} (λ (b : Bool). cond b (cond (pointwise int_eq p.1 p.1) 1 0) 0) ticket ∙ ap {B = ℕ} (λ (b : Bool). cond b 1 0) cube

-- a pair that counts is below, and the same
only_heavy : (cubes : ℕ) (h : Pair → ℕ) (q : Pair) (b : Bool) → nat_lt q.0 cubes ≡ b → 0 < only cubes h q → (b ≡ true) × (0 < h q)
only_heavy cubes h q true is heavy = (refl, subst (λ (t : Bool). 0 < cond t (h q) 0) is heavy)
only_heavy cubes h q false is heavy =
    let none : 0 < 0 = subst (λ (t : Bool). 0 < cond t (h q) 0) is heavy in
    absurd (omega (arith, none))

only_at : (cubes : ℕ) (h : Pair → ℕ) (q : Pair) → nat_lt q.0 cubes ≡ true → only cubes h q ≡ h q
only_at cubes h q low = ap (λ (t : Bool). cond t (h q) 0) low

-- 1 where the pair has this ticket, and 0 elsewhere
abbrev has_ticket : ℕ → Pair → ℕ
has_ticket k q = cond (q.0 == k) 1 0

small : (a b : Bool) → cond a (cond b 1 0) 0 ≤ 1
small true true = omega arith
small true false = omega arith
small false b = omega arith

nothing_at : (a b : Bool) → b ≡ false → cond {A = ℕ} a (cond {A = ℕ} b 1 0) 0 ≡ 0
nothing_at true b is = ap {B = ℕ} (λ (t : Bool). cond t 1 0) is
nothing_at false b is = refl

not_at : (k j : ℕ) (b : Bool) → (j == k) ≡ b → k < j → b ≡ false
not_at k j true is above =
    let same : j ≡ k = eqb-true j k is in
    absurd (omega (arith, same, above))
not_at k j false is above = refl

none_after : (cubes k : ℕ) (pairs : List Pair) → All (λ (q : Pair). k < q.0) pairs → total (only cubes (has_ticket k)) pairs ≡ 0
none_after cubes k [] above = refl
none_after cubes k (q ∷ pairs) above =
    let here : only cubes (has_ticket k) q ≡ 0 =
    nothing_at (nat_lt q.0 cubes) (q.0 == k) (not_at k q.0 (q.0 == k) refl (All-head (λ (p : Pair). k < p.0) q pairs above)) in
    omega (arith, here, none_after cubes k pairs (All-tail (λ (p : Pair). k < p.0) q pairs above))

rise_tail : (p : Pair) (pairs : List Pair) → Rise (p ∷ pairs) → Rise pairs
rise_tail p pairs rise i j d apart low = rise (suc i) (suc j) d (omega (arith, apart)) (omega (arith, low))

rise_above : (p : Pair) (pairs : List Pair) → Rise (p ∷ pairs) → All (λ (q : Pair). p.0 < q.0) pairs
rise_above p pairs rise j d low = rise 0 (suc j) d (omega arith) (omega (arith, low))

first_once : (cubes k : ℕ) (p : Pair) (pairs : List Pair) (b : Bool) → (p.0 == k) ≡ b → All (λ (q : Pair). p.0 < q.0) pairs → total (only cubes (has_ticket k)) pairs ≤ 1 →
    only cubes (has_ticket k) p + total (only cubes (has_ticket k)) pairs ≤ 1
first_once cubes k p pairs true is above rest =
    let same : p.0 ≡ k = eqb-true p.0 k is in
    let none = none_after cubes k pairs (subst (λ (n : ℕ). All (λ (q : Pair). n < q.0) pairs) same above) in
    omega (arith, small (nat_lt p.0 cubes) (p.0 == k), none)
first_once cubes k p pairs false is above rest = omega (arith, nothing_at (nat_lt p.0 cubes) (p.0 == k) is, rest)

-- where tickets rise, none is there twice
rise_once : (cubes k : ℕ) (pairs : List Pair) → Rise pairs → total (only cubes (has_ticket k)) pairs ≤ 1
rise_once cubes k [] rise = omega arith
rise_once cubes k (p ∷ pairs) rise = first_once cubes k p pairs (p.0 == k) refl (rise_above p pairs rise) (rise_once cubes k pairs (rise_tail p pairs rise))

module _ {X : Type 0} (f : X → ℕ) where
  at_weighs : (xs : List X) (k : ℕ) (d : X) → k < length xs → f (slice_index_or xs k d) ≤ total f xs
  at_weighs [] k d low = absurd (omega arith)
  at_weighs (x ∷ xs) zero d low = omega arith
  at_weighs (x ∷ xs) (suc k) d low = omega (arith, at_weighs xs k d (omega arith))

  two_weigh : (xs : List X) (i j : ℕ) (d : X) → i < j → j < length xs → f (slice_index_or xs i d) + f (slice_index_or xs j d) ≤ total f xs
  two_weigh [] i j d apart low = absurd (omega arith)
  two_weigh (x ∷ xs) i zero d apart low = absurd (omega arith)
  two_weigh (x ∷ xs) zero (suc j) d apart low = omega (arith, at_weighs xs j d (omega arith))
  two_weigh (x ∷ xs) (suc i) (suc j) d apart low = omega (arith, two_weigh xs i j d (omega arith) (omega arith))

has_it : (cubes k : ℕ) (q : Pair) → q.0 ≡ k → q.0 < cubes → only cubes (has_ticket k) q ≡ 1
has_it cubes k q same low = only_at cubes (has_ticket k) q (lt-ltb q.0 cubes low) ∙ ap {B = ℕ} (λ (b : Bool). cond b 1 0) (eq-eqb q.0 k same)

module _ (cubes : ℕ) (put : List Job) (got : List Settled) (same : (h : Pair → ℕ) → total (job_weight cubes h) put ≡ total (result_weight cubes h) got)
    (low : All (λ (s : Settled). s.ticket < cubes) got) (rise : Rise (of_jobs put)) where
  each_result : (settled : Settled) → Contains got settled → (settled.ticket < cubes) × ((job : Job) × Contains put job × (of_job job ≡ of_result settled))
  each_result settled among =
      let p = of_result settled in
      let small : settled.ticket < cubes = All-contains (λ (s : Settled). s.ticket < cubes) got settled low among in
      let mine : result_weight cubes (is_pair p) settled ≡ 1 = only_at cubes (is_pair p) p (lt-ltb p.0 cubes small) ∙ is_pair_itself p in
      let heavy : 0 < total (job_weight cubes (is_pair p)) put = omega (arith, contained_weighs (result_weight cubes (is_pair p)) got settled among, mine, same (is_pair p)) in
      let found = some_weighs (job_weight cubes (is_pair p)) put heavy in
      let alike = (only_heavy cubes (is_pair p) (of_job found.0) (nat_lt found.0.ticket cubes) refl found.2).1 in
      (small, (found.0, found.1, sym (is_pair_only p (of_job found.0) alike)))

  every_job : (job : Job) → Contains put job → job.ticket < cubes → (settled : Settled) × Contains got settled × (of_result settled ≡ of_job job)
  every_job job among small =
      let p = of_job job in
      let mine : job_weight cubes (is_pair p) job ≡ 1 = only_at cubes (is_pair p) p (lt-ltb p.0 cubes small) ∙ is_pair_itself p in
      let heavy : 0 < total (result_weight cubes (is_pair p)) got = omega (arith, contained_weighs (job_weight cubes (is_pair p)) put job among, mine, same (is_pair p)) in
      let found = some_weighs (result_weight cubes (is_pair p)) got heavy in
      let alike = (only_heavy cubes (is_pair p) (of_result found.0) (nat_lt found.0.ticket cubes) refl found.2).1 in
      (found.0, found.1, sym (is_pair_only p (of_result found.0) alike))

  no_result_twice : AllPairs (λ (s t : Settled). s.ticket ≢ t.ticket) got
  no_result_twice i j d apart within alike =
      let s = slice_index_or got i d in
      let t = slice_index_or got j d in
      let k = t.ticket in
      let one : result_weight cubes (has_ticket k) s ≡ 1 = has_it cubes k (of_result s) alike (low i d (omega (arith, apart, within))) in
      let two : result_weight cubes (has_ticket k) t ≡ 1 = has_it cubes k (of_result t) refl (low j d within) in
      let most : total (job_weight cubes (has_ticket k)) put ≤ 1 = subst (λ (n : ℕ). n ≤ 1) (total-map (only cubes (has_ticket k)) of_job put) (rise_once cubes k (of_jobs put) rise) in
      omega (arith, two_weigh (result_weight cubes (has_ticket k)) got i j d apart within, one, two, same (has_ticket k), most)

  -- the results are those of the jobs put, each once, and of no other
  pub answers : AreAnswersTo cubes put got
  answers = record { each = each_result; every = every_job; once = no_result_twice }
