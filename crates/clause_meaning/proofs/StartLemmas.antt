-- The places at which the runs begin, and what stands behind them.
use Rattle.std.proofs.Common.{◌≡◌, ℕ, ◌+◌, ◌-◌, ◌<◌, ◌≤◌, List, [], ◌∷◌, ◌++◌, length, length-append, drop, take, get_or, Some, None, sym, ap, subst, ◌∙◌, arith, append-nil}
use Rattle.std.specs.Prelude.{slice_get}
use Rattle.std.specs.List.{flat_map}
use Rattle.std.proofs.lemmas.List.{drop_more, length-map, take-append-drop, take_all, take_more}
use Rattle.std.proofs.lemmas.List.Concat.{flat_map-append}
use Rattle.std.proofs.lemmas.Option.{get_or_from_slice_get, slice_get_past, slice_get_within}
use Rattle.trace_semantics.specs.Trace.{TraceValue}
use Rattle.clause_blocks.specs.Clauses.{clauses_of}
use Rattle.clause_meaning.specs.declared.run.ClauseRun.{ClauseRun}
use Rattle.clause_meaning.specs.Meanings.{clause_of, meanings_of_run}
use Rattle.clause_meaning.specs.Runs.{runs}
use Rattle.clause_meaning.specs.Starts.{meanings, start_of}
use Rattle.clause_meaning.proofs.MeaningLemmas.{all_said}
use Rattle.clause_meaning.proofs.PlaceLemmas.{slice_left, slice_right}

module _ (t : TraceValue) (k : ℕ) where
  parted : flat_map (meanings_of_run t) (take k (runs t)) ++ flat_map (meanings_of_run t) (drop k (runs t)) ≡ meanings t
  parted = sym (flat_map-append (meanings_of_run t) (take k (runs t)) (drop k (runs t))) ∙ ap (flat_map (meanings_of_run t)) (take-append-drop k (runs t))

  pub few_before : start_of t k ≤ length (clauses_of t)
  few_before =
      let both = length-append (flat_map (meanings_of_run t) (take k (runs t))) (flat_map (meanings_of_run t) (drop k (runs t))) in
      let all = ap length parted in
      let said = length-map (meanings t) (clause_of t) in
      let listed = ap length (all_said t) in
      omega (arith, both, all, said, listed)

  module _ (d : ClauseRun) (within : k < length (runs t)) where
    pub next_start : start_of t (k + 1) ≡ start_of t k + length (meanings_of_run t (get_or (runs t) k d))
    next_start =
        let f = meanings_of_run t in
        ap (λ l. length (flat_map f l)) (take_more (runs t) k d within)
        ∙ ap length (flat_map-append f (take k (runs t)) (get_or (runs t) k d ∷ []))
        ∙ length-append (flat_map f (take k (runs t))) (f (get_or (runs t) k d) ++ [])
        ∙ ap (λ l. start_of t k + length l) (append-nil (f (get_or (runs t) k d)))

    pub said_here : (place : ℕ) → start_of t k ≤ place → place < start_of t (k + 1) → slice_get (meanings_of_run t (get_or (runs t) k d)) (place - start_of t k) ≡ slice_get (meanings t) place
    said_here place low high =
        let f = meanings_of_run t in
        let inside : place - start_of t k < length (f (get_or (runs t) k d)) = omega (arith, low, high, next_start) in
        sym (ap (λ l. slice_get l place) (sym parted)
        ∙ slice_right (flat_map f (take k (runs t))) (flat_map f (drop k (runs t))) place low
        ∙ ap (λ l. slice_get (flat_map f l) (place - start_of t k)) (drop_more (runs t) k d within)
        ∙ slice_left (f (get_or (runs t) k d)) (flat_map f (drop (k + 1) (runs t))) (place - start_of t k) inside)

-- no meaning stands behind all runs
pub none_behind : (t : TraceValue) (k place : ℕ) → length (runs t) ≤ k → start_of t k ≤ place → None ≡ slice_get (meanings t) place
none_behind t k place all low =
    let whole : length (meanings t) ≤ place = omega (arith, low, ap (λ l. length (flat_map (meanings_of_run t) l)) (take_all k (runs t) all)) in
    sym (slice_get_past (meanings t) place whole)

-- the start of the next run, by a list that is that of the runs, and by how many clauses the run is known to have
pub next_by : (t : TraceValue) (all : List ClauseRun) → all ≡ runs t → (k : ℕ) (d : ClauseRun) → k < length all → (n : ℕ) → n ≡ length (meanings_of_run t (get_or all k d)) → start_of t (k + 1) ≡ start_of t k + n
next_by t all e k d within n count =
    let inside : k < length (runs t) = subst (λ (l : List ClauseRun). k < length l) e within in
    let same : n ≡ length (meanings_of_run t (get_or (runs t) k d)) = count ∙ ap (λ (l : List ClauseRun). length (meanings_of_run t (get_or l k d))) e in
    omega (arith, next_start t k d inside, same)

-- the same meaning, by the run that stands there
pub said_at : (t : TraceValue) (k : ℕ) (r : ClauseRun) (place first : ℕ) → slice_get (runs t) k ≡ Some r → first ≡ start_of t k → first ≤ place → place < start_of t (k + 1) → slice_get (meanings_of_run t r) (place - first) ≡ slice_get (meanings t) place
said_at t k r place first e at low high =
    let within = slice_get_within (runs t) k r e in
    let here : get_or (runs t) k r ≡ r = get_or_from_slice_get (runs t) k r r e in
    let from : start_of t k ≤ place = omega (arith, at, low) in
    (λ p. slice_get (meanings_of_run t (sym here p)) (place - at p)) ∙ said_here t k r within place from high
