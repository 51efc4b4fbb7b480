-- One operation more in a table, and the operations of a process.
use Rattle.std.proofs.Common.{◌≡◌, ◌⊎◌, ◌<◌, ◌+◌, ℕ, zero, suc, List, [], ◌∷◌, ◌++◌, length, set, refl, ap, sym, ◌∙◌, arith, inl, inr, subst}
use Rattle.std.specs.Prelude.{Option, Some, None, MatchOption}
use Rattle.std.specs.List.{slice_get}
use Rattle.std.proofs.lemmas.Bool.{cases_order}
use Rattle.std.proofs.lemmas.List.{get_or-set_other, get_or-set_same}
use Rattle.writer_table.specs.declared.runs.Run.{Run}
use Rattle.writer_table.specs.Runs.{AreUpTo, IsIn, HasOneMore}
use Rattle.writer_table.specs.PlaceTable.{row, HasOneMoreIn, HasFirst}
use Rattle.writer_table.proofs.OrderedLemmas.{up_to_later}

-- an empty row at the end is as no row
pub row_more : (table : List (List Run)) (c : ℕ) → row (table ++ [] ∷ []) c ≡ row table c
row_more [] zero = refl
row_more [] (suc c) = refl
row_more (r ∷ rs) zero = refl
row_more (r ∷ rs) (suc c) = row_more rs c

-- where the row of a class is replaced
pub one_more_in : (old mid : List (List Run)) (class process place : ℕ) (new : List Run) → ((c : ℕ) → row mid c ≡ row old c) → class < length mid → HasOneMore (row mid class) new process place → HasOneMoreIn old (set mid class new) class process place
one_more_in old mid class process place new same low more = record {
  one = subst (λ (l : List Run). HasOneMore (row old class) l process place) (sym (get_or-set_same mid class new [] low)) (subst (λ (l : List Run). HasOneMore l new process place) (same class) more);
  others = λ c other. get_or-set_other mid class c new [] other ∙ same c;
}

pub first_none : (table : List (List Run)) (process : ℕ) (classes : List (Option ℕ)) → HasFirst table table process classes 0
first_none table process classes = record { here = λ class k low e. absurd (omega (arith, low)); kept = λ class q k h. h; only = λ class q k h. inl h; ordered = λ class so. so }

-- it is one of the first n operations, and has the class
abbrev IsOneOf : ℕ → List (Option ℕ) → ℕ → ℕ → ℕ → ℕ → Type 0
IsOneOf process classes n class q k = (q ≡ process) × ((j : ℕ) × (k ≡ j + 1) × (j < n) × (slice_get classes j ≡ Some (Some class)))

-- the next operation has no class
pub first_passed : (old new : List (List Run)) (process : ℕ) (classes : List (Option ℕ)) (n : ℕ) → HasFirst old new process classes n → slice_get classes n ≡ Some None → HasFirst old new process classes (n + 1)
first_passed old new process classes n so none = record {
  here = λ class k low e. elim (cases_order k n) [
    | inl same ↦ absurd (let clash : Some None ≡ Some (Some class) = sym none ∙ subst (λ i. slice_get classes i ≡ Some (Some class)) same e in cc)
    | inr (inl less) ↦ so.here class k less e
    | inr (inr more) ↦ absurd (omega (arith, low, more))
  ];
  kept = so.kept;
  only = λ class q k h. wider class q k (so.only class q k h);
  ordered = λ class before. up_to_later (row new class) process n (n + 1) (omega arith) (so.ordered class before);
}
  where
    wider : (class q k : ℕ) → IsIn (row old class) q k ⊎ IsOneOf process classes n class q k → IsIn (row old class) q k ⊎ IsOneOf process classes (n + 1) class q k
    wider class q k (inl h) = inl h
    wider class q k (inr (same, (j, e, l, it))) = inr (same, (j, e, omega (arith, l), it))

-- the next operation is added to its class
pub first_added : (old mid new : List (List Run)) (process : ℕ) (classes : List (Option ℕ)) (n class place : ℕ) → HasFirst old mid process classes n → slice_get classes n ≡ Some (Some class) → place ≡ n + 1 → HasOneMoreIn mid new class process place → HasFirst old new process classes (n + 1)
first_added old mid new process classes n class place so it count more = record {
  here = λ other k low e. elim (cases_order k n) [
    | inl same ↦ (
        let alike : class ≡ other = some_same class other (sym it ∙ subst (λ i. slice_get classes i ≡ Some (Some other)) same e) in
        subst (λ i. IsIn (row new other) process (i + 1)) (sym same) (subst (λ i. IsIn (row new other) process i) count (subst (λ i. IsIn (row new i) process place) alike more.one.here)))
    | inr (inl less) ↦ on other process (k + 1) (so.here other k less e)
    | inr (inr past) ↦ absurd (omega (arith, low, past))
  ];
  kept = λ other q k h. on other q k (so.kept other q k h);
  only = λ other q k h. back other q k h;
  ordered = λ other before. later other (so.ordered other before);
}
  where
    some_same : (a b : ℕ) → Some (Some a) ≡ Some (Some b) → a ≡ b
    some_same a b e = cc

    on : (other q k : ℕ) → IsIn (row mid other) q k → IsIn (row new other) q k
    on other q k h =
        elim (cases_order other class) [
          | inl same ↦ subst (λ i. IsIn (row new i) q k) (sym same) (more.one.kept q k (subst (λ i. IsIn (row mid i) q k) same h))
          | inr (inl less) ↦ subst (λ l. IsIn l q k) (sym (more.others other (λ e. omega (arith, e, less)))) h
          | inr (inr past) ↦ subst (λ l. IsIn l q k) (sym (more.others other (λ e. omega (arith, e, past)))) h
        ]

    wider : (other q k : ℕ) → IsIn (row old other) q k ⊎ IsOneOf process classes n other q k → IsIn (row old other) q k ⊎ IsOneOf process classes (n + 1) other q k
    wider other q k (inl h) = inl h
    wider other q k (inr (same, (j, e, l, listed))) = inr (same, (j, e, omega (arith, l), listed))

    from : (other q k : ℕ) → other ≡ class → IsIn (row mid class) q k ⊎ ((q ≡ process) × (k ≡ place)) → IsIn (row old other) q k ⊎ IsOneOf process classes (n + 1) other q k
    from other q k same (inl h) = wider other q k (so.only other q k (subst (λ i. IsIn (row mid i) q k) (sym same) h))
    from other q k same (inr (called, e)) = inr (called, (n, e ∙ count, omega arith, it ∙ ap (λ i. Some (Some i)) (sym same)))

    back : (other q k : ℕ) → IsIn (row new other) q k → IsIn (row old other) q k ⊎ IsOneOf process classes (n + 1) other q k
    back other q k h =
        elim (cases_order other class) [
          | inl same ↦ from other q k same (more.one.only q k (subst (λ i. IsIn (row new i) q k) same h))
          | inr (inl less) ↦ wider other q k (so.only other q k (subst (λ l. IsIn l q k) (more.others other (λ e. omega (arith, e, less))) h))
          | inr (inr past) ↦ wider other q k (so.only other q k (subst (λ l. IsIn l q k) (more.others other (λ e. omega (arith, e, past))) h))
        ]

    later : (other : ℕ) → AreUpTo (row mid other) process n → AreUpTo (row new other) process (n + 1)
    later other before =
        elim (cases_order other class) [
          | inl same ↦ subst (λ i. AreUpTo (row new i) process (n + 1)) (sym same) (subst (λ i. AreUpTo (row new class) process i) count (more.one.ordered n (omega (arith, count)) (subst (λ i. AreUpTo (row mid i) process n) same before)))
          | inr (inl less) ↦ subst (λ l. AreUpTo l process (n + 1)) (sym (more.others other (λ e. omega (arith, e, less)))) (up_to_later (row mid other) process n (n + 1) (omega arith) before)
          | inr (inr past) ↦ subst (λ l. AreUpTo l process (n + 1)) (sym (more.others other (λ e. omega (arith, e, past)))) (up_to_later (row mid other) process n (n + 1) (omega arith) before)
        ]

-- the next operation has this class or none
pub first_next : (old mid new : List (List Run)) (process : ℕ) (classes : List (Option ℕ)) (n place : ℕ) (class : Option ℕ) → HasFirst old mid process classes n → slice_get classes n ≡ Some class → place ≡ n + 1 → MatchOption class (new ≡ mid) (λ number. HasOneMoreIn mid new number process place) → HasFirst old new process classes (n + 1)
first_next old mid new process classes n place None so it count same = subst (λ (l : List (List Run)). HasFirst old l process classes (n + 1)) (sym same) (first_passed old mid process classes n so it)
first_next old mid new process classes n place (Some class) so it count more = first_added old mid new process classes n class place so it count more
