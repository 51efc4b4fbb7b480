-- One operation more in runs.
use Rattle.std.proofs.Common.{◌≡◌, ◌≢◌, ◌⊎◌, ◌<◌, ◌-◌, ℕ, Bool, true, false, List, [], ◌∷◌, ◌++◌, length, get_or, set, refl, ap, sym, ◌∙◌, arith, inl, inr, subst}
use Rattle.std.specs.Bool.{MatchBool}
use Rattle.std.specs.List.{All, Contains}
use Rattle.std.proofs.lemmas.Bool.{cases_order}
use Rattle.std.proofs.lemmas.List.{get_or_default, set-get_or, get_or-set_other, get_or-set_same, length-set}
use Rattle.std.proofs.lemmas.List.Elements.{Contains-append_left, Contains-append_right, Contains-append_cases}
use Rattle.trace_semantics.proofs.ElementLemmas.{head_in, none_in, cases_in}
use Rattle.writer_table.specs.declared.runs.Run.{Run}
use Rattle.writer_table.specs.Longer.{IsLonger}
use Rattle.writer_table.specs.Runs.{AreUpTo, IsIn, HasOneMore}
use Rattle.writer_table.proofs.OrderedLemmas.{up_to_appended, up_to_longer}

-- a list of one element has that alone
in_one : {X : Type 0} (x y : X) → Contains (x ∷ []) y → x ≡ y
in_one x y c =
    elim (cases_in x [] y c) [
      | inl e ↦ e
      | inr d ↦ absurd (none_in y d)
    ]

-- a list in which one element is replaced
module _ {X : Type 0} (xs : List X) (i : ℕ) (v : X) (low : i < length xs) where
  pub set_here : Contains (set xs i v) v
  set_here = (i, subst (λ n. i < n) (sym (length-set xs i v)) low, get_or-set_same xs i v v low)

  apart : (k : ℕ) → (k < i) ⊎ (i < k) → k ≢ i
  apart k (inl l) e = absurd (omega (arith, l, e))
  apart k (inr l) e = absurd (omega (arith, l, e))

  pub set_kept : (x : X) → Contains xs x → (get_or xs i x ≡ x) ⊎ Contains (set xs i v) x
  set_kept x (k, l, e) =
      elim (cases_order k i) [
        | inl same ↦ inl (subst (λ j. get_or xs j x ≡ x) same e)
        | inr other ↦ inr (k, subst (λ n. k < n) (sym (length-set xs i v)) l, get_or-set_other xs i k v x (apart k other) ∙ e)
      ]

  pub set_cases : (x : X) → Contains (set xs i v) x → (v ≡ x) ⊎ Contains xs x
  set_cases x (k, l, e) =
      elim (cases_order k i) [
        | inl same ↦ inl (sym (get_or-set_same xs i v x low) ∙ subst (λ j. get_or (set xs i v) j x ≡ x) same e)
        | inr other ↦ inr (k, subst (λ n. k < n) (length-set xs i v) l, sym (get_or-set_other xs i k v x (apart k other)) ∙ e)
      ]

-- a run of one place is appended
pub run_more : (runs : List Run) (run : Run) (place : ℕ) → run.places ≡ place ∷ [] → ((k : ℕ) → k < place → AreUpTo runs run.process k → All (λ (r : Run). r.process < run.process) runs) → HasOneMore runs (runs ++ run ∷ []) run.process place
run_more runs run place e past = record {
  here = (run, Contains-append_right runs (run ∷ []) run (head_in run []), refl, subst (λ l. Contains l place) (sym e) (head_in place []));
  kept = λ q k h. (h.0, Contains-append_left runs (run ∷ []) h.0 h.1, h.2, h.3);
  only = λ q k h. from q k h (Contains-append_cases runs (run ∷ []) h.0 h.1);
  ordered = λ k less so. up_to_appended runs run place k e less (past k less so) so;
}
  where
    from : (q k : ℕ) → (h : IsIn (runs ++ run ∷ []) q k) → Contains runs h.0 ⊎ Contains (run ∷ []) h.0 → IsIn runs q k ⊎ ((q ≡ run.process) × (k ≡ place))
    from q k h (inl c) = inl (h.0, c, h.2, h.3)
    from q k h (inr d) =
        let same : run ≡ h.0 = in_one run h.0 d in
        inr (sym h.2 ∙ sym (ap (λ (r : Run). r.process) same), sym (in_one place k (subst (λ l. Contains l k) (ap (λ (r : Run). r.places) (sym same) ∙ e) h.3)))

-- a place is appended to a run
pub place_more : (runs : List Run) (i : ℕ) (old new : Run) (place : ℕ) → i < length runs → get_or runs i old ≡ old → new.process ≡ old.process → new.places ≡ old.places ++ place ∷ [] → HasOneMore runs (set runs i new) old.process place
place_more runs i old new place low at called longer = record {
  here = (new, set_here runs i new low, called, subst (λ l. Contains l place) (sym longer) (Contains-append_right old.places (place ∷ []) place (head_in place [])));
  kept = λ q k h. stays q k h (set_kept runs i new low h.0 h.1);
  only = λ q k h. from q k h (set_cases runs i new low h.0 h.1);
  ordered = λ k less so. up_to_longer runs i old new place k low at called longer less so;
}
  where
    stays : (q k : ℕ) → (h : IsIn runs q k) → (get_or runs i h.0 ≡ h.0) ⊎ Contains (set runs i new) h.0 → IsIn (set runs i new) q k
    stays q k h (inr c) = (h.0, c, h.2, h.3)
    stays q k h (inl e) =
        let same : old ≡ h.0 = sym at ∙ get_or_default runs i old h.0 low ∙ e in
        (new, set_here runs i new low, called ∙ ap (λ (r : Run). r.process) same ∙ h.2, subst (λ l. Contains l k) (sym longer) (Contains-append_left old.places (place ∷ []) k (subst (λ (r : Run). Contains r.places k) (sym same) h.3)))

    from : (q k : ℕ) → (h : IsIn (set runs i new) q k) → (new ≡ h.0) ⊎ Contains runs h.0 → IsIn runs q k ⊎ ((q ≡ old.process) × (k ≡ place))
    from q k h (inr c) = inl (h.0, c, h.2, h.3)
    from q k h (inl e) =
        elim (Contains-append_cases old.places (place ∷ []) k (subst (λ l. Contains l k) (ap (λ (r : Run). r.places) (sym e) ∙ longer) h.3)) [
          | inl c ↦ inl (old, (i, low, at), sym called ∙ ap (λ (r : Run). r.process) e ∙ h.2, c)
          | inr d ↦ inr (sym h.2 ∙ sym (ap (λ (r : Run). r.process) e) ∙ called, sym (in_one place k d))
        ]

-- the last run is longer by the place, or all is as it was
pub last_longer : (runs : List Run) (count : ℕ) (old new : Run) (process place : ℕ) (done : Bool) → count ≡ length runs → (count ≡ 0 → ⊥) → get_or runs (count - 1) old ≡ old → old.process ≡ process → MatchBool done (IsLonger old new place) (new ≡ old) →
    MatchBool done (HasOneMore runs (set runs (count - 1) new) process place) (set runs (count - 1) new ≡ runs)
last_longer runs count old new process place true long some at called more =
    subst (λ q. HasOneMore runs (set runs (count - 1) new) q place) called (place_more runs (count - 1) old new place (omega (arith, long, some)) at more.process more.places)
last_longer runs count old new process place false long some at called same =
    ap (λ r. set runs (count - 1) r) (same ∙ sym at) ∙ set-get_or runs (count - 1) old
