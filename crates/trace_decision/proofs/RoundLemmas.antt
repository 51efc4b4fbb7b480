-- The rounds of a search.
use Rattle.std.proofs.Common.{◌≡◌, ℕ, suc, ◌+◌, ◌<◌, ◌≤◌, ℤ, List, map, length, Some, None, refl, sym, ◌∙◌, ap, subst, arith}
use Rattle.std.specs.Prelude.{Option, IsSome}
use Rattle.std.specs.List.{Contains, slice_get}
use Rattle.clause_blocks.specs.Clauses.{clauses_of}
use Rattle.cube_jobs.specs.declared.job.Settled.{Settled}
use Rattle.cube_jobs.specs.declared.outcome.Outcome.{Outcome}
use Rattle.cube_jobs.specs.Options.{OptionsValue}
use Rattle.cube_tree.specs.CubeTree.{cubes_of}
use Rattle.result_ledger.specs.declared.slot.Slot.{Slot}
use Rattle.result_ledger.specs.declared.verdict.Verdict.{Verdict}
use Rattle.result_ledger.specs.declared.verdict.Verdict.TheVariants.{Unknown}
use Rattle.result_ledger.specs.Entered.{FitEmptySlots}
use Rattle.result_ledger.specs.Ledger.{cubes_in, empty_slot, HasAnswerAt}
use Rattle.result_ledger.specs.Verdict.{IsVerdict}
use Rattle.result_ledger.proofs.SlotLemmas.{cube_at}
use Rattle.trace_semantics.specs.Trace.{TraceValue}
use Rattle.trace_decision.specs.declared.decided.Decided.{Decided}
use Rattle.trace_decision.specs.declared.decided.Next.{Next}
use Rattle.trace_decision.specs.declared.decided.Next.TheVariants.{Ended, Searched}
use Rattle.trace_decision.specs.Rounds.{AreAfterRounds, AreAfterSplits, AreOfUnanswered, HasNoNewLeaves, HaveEnded, IsAfterRound, IsConfirmed, IsNext, IsSearched, first_tree, variables_of}
use Rattle.trace_decision.proofs.GrownLemmas.{as_before, not_fewer, slot_at}

-- ---- results of leaves without an answer

empty_slot_at : (slots : List Slot) (leaf : ℕ) (cube : List ℤ) (slot : Slot) → slice_get slots leaf ≡ Some slot → slot.cube ≡ cube → (HasAnswerAt slots leaf → ⊥) →
    (answer : Option Outcome) → slot.outcome ≡ answer → slice_get slots leaf ≡ Some (empty_slot cube)
empty_slot_at slots leaf cube slot there same none None is =
    let slots_same : slot ≡ empty_slot cube = λ i. record { cube = same i; outcome = is i } in
    there ∙ ap (λ (s : Slot). Some s) slots_same
empty_slot_at slots leaf cube slot there same none (Some answer) is = absurd (none (record { slot = slot; there = there; answered = subst (λ (o : Option Outcome). IsSome o) (sym is) refl }))

unanswered_at : (slots : List Slot) (leaf : ℕ) (cube : List ℤ) → leaf < length slots → slice_get (cubes_in slots) leaf ≡ Some cube → (HasAnswerAt slots leaf → ⊥) → slice_get slots leaf ≡ Some (empty_slot cube)
unanswered_at slots leaf cube within at none =
    let (slot, there) = slot_at slots leaf within in
    let both : Some slot.cube ≡ Some cube = sym (cube_at slots leaf slot there) ∙ at in
    let same : slot.cube ≡ cube = cc both in
    empty_slot_at slots leaf cube slot there same none slot.outcome refl

-- they can be entered
pub fits : (clauses : List (List ℤ)) (slots : List Slot) (results : List Settled) → AreOfUnanswered clauses slots results → FitEmptySlots slots results
fits clauses slots results found = record {
  each = λ s c.
      let its = found.results_are.each s c in
      let asked = found.asked.each s.ticket its.0 in
      unanswered_at slots s.ticket s.cube asked.0 its.1 asked.1;
  once = found.results_are.once;
}

-- ---- one round more

-- the leaves that a verdict leaves open are there
pub open_within : (clauses : List (List ℤ)) (slots : List Slot) (leaves : List ℕ) (verdict : Verdict) → verdict ≡ Unknown leaves → IsVerdict clauses slots verdict → (leaf : ℕ) → Contains leaves leaf → leaf < length slots
open_within clauses slots leaves verdict is v leaf c = told (subst (λ (x : Verdict). IsVerdict clauses slots x) is v)
  where
    told : IsVerdict clauses slots (Unknown leaves) → leaf < length slots
    told (none, left, some) = (left.each leaf c).0

-- where there are no more leaves than before, none could be split
pub no_new_leaves : (variables leaves : List ℕ) (old new : List Slot) (verdict : Verdict) → verdict ≡ Unknown leaves → AreAfterSplits variables leaves 0 old new → length new ≡ length old → HasNoNewLeaves variables new verdict × (new ≡ old)
no_new_leaves variables leaves old new verdict is split long =
    let same : new ≡ old = as_before variables leaves 0 old new split long in
    let still : AreAfterSplits variables leaves 0 new new = subst (λ (slots : List Slot). AreAfterSplits variables leaves 0 slots new) (sym same) split in
    (subst (λ (v : Verdict). HasNoNewLeaves variables new v) (sym is) still, same)

pub after_round : (clauses : List (List ℤ)) (variables leaves : List ℕ) (old between new : List Slot) (verdict : Verdict) → verdict ≡ Unknown leaves → IsVerdict clauses old verdict → AreAfterSplits variables leaves 0 old between →
    (length between ≡ length old → ⊥) → IsSearched clauses between new → IsAfterRound clauses variables old new
after_round clauses variables leaves old between new verdict is v split more searched = record {
  leaves = leaves;
  open_are = subst (λ (x : Verdict). IsVerdict clauses old x) is v;
  between = between;
  split = split;
  more = unequal (length old) (length between) (not_fewer variables leaves 0 old between split) more;
  searched = searched;
}
  where
    unequal : (a b : ℕ) → a ≤ b → (b ≡ a → ⊥) → a < b
    unequal a b less apart = omega (arith, less, apart)

-- ---- all rounds

-- as many rounds were made as there are numbers below this one, and none was the last
pub record AreUnderWay (t : TraceValue) (options : OptionsValue) (round : ℕ) (decided : Decided) : Type 0 where
  pub confirmed : IsConfirmed (clauses_of t) decided
  pub more : ℕ
  pub counted : more + 1 ≡ round
  pub after : AreAfterRounds (clauses_of t) (variables_of t) (first_tree t options.split) more decided.ledger

module _ (t : TraceValue) (options : OptionsValue) where
  pub first_round : (decided : Decided) → IsConfirmed (clauses_of t) decided → IsSearched (clauses_of t) (map empty_slot (cubes_of (first_tree t options.split))) decided.ledger → AreUnderWay t options 1 decided
  first_round decided confirmed searched = record { confirmed = confirmed; more = 0; counted = omega arith; after = searched }

  pub next_round : (round : ℕ) (before after : Decided) → AreUnderWay t options round before → IsConfirmed (clauses_of t) after → IsAfterRound (clauses_of t) (variables_of t) before.ledger after.ledger → AreUnderWay t options (round + 1) after
  next_round round before after way confirmed made = record {
    confirmed = confirmed;
    more = suc way.more;
    counted = omega (arith, way.counted);
    after = (before.ledger, way.after, made);
  }

  -- there were as many rounds as there may be
  pub last_round : (decided : Decided) → AreUnderWay t options options.rounds decided → HaveEnded t options decided.ledger decided.verdict
  last_round decided way = record {
    more = way.more;
    within = omega (arith, way.counted);
    after = way.after;
    verdict_is = way.confirmed.verdict_is;
    ended = λ less. absurd (omega (arith, less, way.counted));
  }

  -- there are no new leaves
  pub no_further : (round : ℕ) (before after : Decided) → round < options.rounds → AreUnderWay t options round before → IsConfirmed (clauses_of t) after → HasNoNewLeaves (variables_of t) after.ledger after.verdict → after.ledger ≡ before.ledger → HaveEnded t options after.ledger after.verdict
  no_further round before after below way confirmed none same = record {
    more = way.more;
    within = omega (arith, way.counted, below);
    after = subst (λ (slots : List Slot). AreAfterRounds (clauses_of t) (variables_of t) (first_tree t options.split) way.more slots) (sym same) way.after;
    verdict_is = confirmed.verdict_is;
    ended = λ less. none;
  }

  -- what one more round has made of it
  pub ended_here : (round : ℕ) (variables : List ℕ) (before : Decided) (next : Next) (after : Decided) → round < options.rounds → variables ≡ variables_of t → AreUnderWay t options round before →
      IsNext (clauses_of t) variables before next → next ≡ Ended after → HaveEnded t options after.ledger after.verdict
  ended_here round variables before next after below same way made is = told (subst (λ (vs : List ℕ). IsNext (clauses_of t) vs before (Ended after)) same (subst (λ (n : Next). IsNext (clauses_of t) variables before n) is made))
    where
      told : IsNext (clauses_of t) (variables_of t) before (Ended after) → HaveEnded t options after.ledger after.verdict
      told (confirmed, none, kept) = no_further round before after below way confirmed none kept

  pub searched_again : (round : ℕ) (variables : List ℕ) (before : Decided) (next : Next) (after : Decided) → variables ≡ variables_of t → AreUnderWay t options round before →
      IsNext (clauses_of t) variables before next → next ≡ Searched after → AreUnderWay t options (round + 1) after
  searched_again round variables before next after same way made is = told (subst (λ (vs : List ℕ). IsNext (clauses_of t) vs before (Searched after)) same (subst (λ (n : Next). IsNext (clauses_of t) variables before n) is made))
    where
      told : IsNext (clauses_of t) (variables_of t) before (Searched after) → AreUnderWay t options (round + 1) after
      told (confirmed, more) = next_round round before after way confirmed more
