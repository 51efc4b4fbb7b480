-- Which operations come before one that the trace puts before them.
use Rattle.std.proofs.Common.{◌≡◌, ◌<◌, ◌+◌, ℕ, List, [], ◌∷◌, ◌++◌, length, take, get_or, map, Bool, true, false, cond, ◌&&◌, ◌||◌, not, refl, ap, sym, ◌∙◌, arith}
use Rattle.std.specs.Prelude.{Option, Some, None, is_some}
use Rattle.std.specs.List.{slice_get, list_any, list_all, filter}
use Rattle.std.proofs.lemmas.List.Folds.{list_any_more, list_all-append}
use Rattle.schedule_judge.specs.declared.op_numbers.OpNumbers.{OpNumbers}
use Rattle.trace_semantics.specs.declared.operation.OpName.{OpName}
use Rattle.trace_semantics.specs.Judgement.{has_come, paired_before}
use Rattle.trace_semantics.specs.Operation.{same_op}
use Rattle.schedule_judge.specs.Tables.{number_at, is_broken, first_in, FindsEarlyIn}
use Rattle.trace_semantics.specs.Trace.{TraceValue}
use Rattle.trace_semantics.proofs.NameLemmas.{same_name}
use Rattle.schedule_judge.proofs.PlaceLemmas.{below_first, first_at, same_op_refl}

-- the pair is broken, and this operation is its second
abbrev pub is_early_by : OpNumbers → OpName → OpName × OpName → Bool
is_early_by places n pair = same_op pair.1 n && is_broken (number_at places pair.0) (number_at places pair.1)

more : (s b : Bool) (old : Option ℕ) → b ≡ true → is_some (cond s (Some 0) old) ≡ (is_some old || (s && b))
more true true None e = refl
more true true (Some k) e = refl
more false true None e = refl
more false true (Some k) e = refl
more s false old e = absurd (cc)

same : (s b : Bool) (old : Option ℕ) → b ≡ false → is_some old ≡ (is_some old || (s && b))
same true false None e = refl
same true false (Some k) e = refl
same false false None e = refl
same false false (Some k) e = refl
same s true old e = absurd (cc)

step : (f : OpName × OpName → Bool) (before : List (OpName × OpName)) (i : ℕ) (pair : OpName × OpName) (old new : Bool) → i < length before → pair ≡ get_or before i pair → old ≡ list_any f (take i before) → new ≡ (old || f pair) → new ≡ list_any f (take (i + 1) before)
step f before i pair old new l at there here =
    here ∙ (λ j. there j || f (at j)) ∙ sym (list_any_more f before i pair l)

-- one more pair, which is broken
pub early_more : (before : List (OpName × OpName)) (places : OpNumbers) (i : ℕ) (pair : OpName × OpName) (n : OpName) (old new : Option ℕ) → i < length before → pair ≡ get_or before i pair → is_some old ≡ list_any (is_early_by places n) (take i before) → is_broken (number_at places pair.0) (number_at places pair.1) ≡ true → new ≡ cond (same_op pair.1 n) (Some 0) old → is_some new ≡ list_any (is_early_by places n) (take (i + 1) before)
early_more before places i pair n old new l at there broken here =
    step (is_early_by places n) before i pair (is_some old) (is_some new) l at there (ap is_some here ∙ more (same_op pair.1 n) (is_broken (number_at places pair.0) (number_at places pair.1)) old broken)

-- one more pair, which is kept
pub early_same : (before : List (OpName × OpName)) (places : OpNumbers) (i : ℕ) (pair : OpName × OpName) (n : OpName) (old : Option ℕ) → i < length before → pair ≡ get_or before i pair → is_some old ≡ list_any (is_early_by places n) (take i before) → is_broken (number_at places pair.0) (number_at places pair.1) ≡ false → is_some old ≡ list_any (is_early_by places n) (take (i + 1) before)
early_same before places i pair n old l at there kept =
    step (is_early_by places n) before i pair (is_some old) (is_some old) l at there (same (same_op pair.1 n) (is_broken (number_at places pair.0) (number_at places pair.1)) old kept)

not_and : (h a : Bool) → (not h || not a) ≡ not (h && a)
not_and true a = refl
not_and false a = refl

any_step : {P : Type 0} (v b : Bool) (first : P → OpName) (h : OpName → Bool) (x : P) (xs : List P) (rest : Bool) → (v ≡ true → b ≡ not (h (first x))) → rest ≡ not (list_all h (map first xs)) → ((v && b) || rest) ≡ not (list_all h (map first (cond v (x ∷ xs) xs)))
any_step true b first h x xs rest each tail = (λ i. each refl i || tail i) ∙ not_and (h (first x)) (list_all h (map first xs))
any_step false b first h x xs rest each tail = tail

-- some chosen one fails if and only if not all chosen ones pass
any_not_all : {P : Type 0} (q b : P → Bool) (first : P → OpName) (h : OpName → Bool) → ((x : P) → q x ≡ true → b x ≡ not (h (first x))) → (xs : List P) → list_any (λ x. q x && b x) xs ≡ not (list_all h (map first (filter q xs)))
any_not_all q b first h each [] = refl
any_not_all q b first h each (x ∷ xs) =
    any_step (q x) (b x) first h x (filter q xs) (list_any (λ x. q x && b x) xs) (each x) (any_not_all q b first h each xs)

-- an operation that comes first here comes before one that a pair puts before it, if and only if not all of those have come
pub early_is : (t : TraceValue) (names : List OpName) (early : OpNumbers) (i : ℕ) (n : OpName) → FindsEarlyIn t.before names early → slice_get names i ≡ Some n → has_come (take i names) n ≡ false → is_some (number_at early n) ≡ not (list_all (has_come (take i names)) (paired_before t n))
early_is t names early i n finds at fresh =
    let zeros : 0 + i ≡ i = omega arith in
    let here : first_in names n ≡ Some i = first_at (same_op n) names 0 i n at (same_op_refl n) fresh ∙ ap Some zeros in
    finds n ∙ any_not_all {P = OpName × OpName} (λ pair. same_op pair.1 n) (λ pair. is_broken (first_in names pair.0) (first_in names pair.1)) (λ pair. pair.0) (has_come (take i names)) (λ pair e. each pair e here) t.before
  where
    each : (pair : OpName × OpName) → same_op pair.1 n ≡ true → first_in names n ≡ Some i → is_broken (first_in names pair.0) (first_in names pair.1) ≡ not (has_come (take i names) pair.0)
    each pair e here = ap (λ m. is_broken (first_in names pair.0) (first_in names m)) (same_name pair.1 n e) ∙ ap (is_broken (first_in names pair.0)) here ∙ ap not (below_first (same_op pair.0) names i)

-- one that pairs put before it has not come, or else all of those have
pub by_pairs : (h : OpName → Bool) (paired timed : List OpName) (early : Bool) → early ≡ not (list_all h paired) → early ≡ true → true ≡ not (list_all h (paired ++ timed))
by_pairs h paired timed early is here =
    ap not (sym (ap (λ b. b && list_all h timed) (failed (list_all h paired) (sym is ∙ here)))) ∙ ap not (sym (list_all-append h paired timed))
  where
    failed : (b : Bool) → not b ≡ true → b ≡ false
    failed true e = absurd (cc)
    failed false e = refl

pub by_times : (h : OpName → Bool) (paired timed : List OpName) (early overtaken : Bool) → early ≡ not (list_all h paired) → early ≡ false → overtaken ≡ not (list_all h timed) → overtaken ≡ not (list_all h (paired ++ timed))
by_times h paired timed early overtaken is here over =
    over ∙ ap not (sym (ap (λ b. b && list_all h timed) (passed (list_all h paired) (sym is ∙ here)))) ∙ ap not (sym (list_all-append h paired timed))
  where
    passed : (b : Bool) → not b ≡ false → b ≡ true
    passed true e = refl
    passed false e = absurd (cc)
