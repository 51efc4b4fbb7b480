-- A search in rounds: the leaves of a tree are searched, and those that stay open are split and searched again.
use Rattle.std.specs.Prelude.{◌≡◌, ◌⊎◌, ⊤, ℕ, zero, suc, ◌+◌, ◌<◌, ◌≤◌, ℤ, pos, neg_ℤ, nat_abs, Bool, not, ◌&&◌, ◌==◌, List, [], ◌∷◌, ◌++◌, map, length, take, drop, Option, Some, None}
use Rattle.std.specs.List.{find, list_any, slice_get}
use Rattle.clause_blocks.specs.Clauses.{clauses_of}
use Rattle.cube_jobs.specs.declared.job.Settled.{Settled}
use Rattle.cube_jobs.specs.Options.{OptionsValue}
use Rattle.cube_jobs.specs.Results.{AreResultsOf}
use Rattle.cube_tree.specs.CubeTree.{CubeTree, cubes_of, full_tree, is_variable}
use Rattle.result_ledger.specs.declared.slot.Slot.{Slot}
use Rattle.result_ledger.specs.declared.verdict.Verdict.{Verdict}
use Rattle.result_ledger.specs.declared.verdict.Verdict.TheVariants.{Consistent, Inconsistent, Unknown}
use Rattle.result_ledger.specs.Entered.{AreEntered}
use Rattle.result_ledger.specs.Ledger.{cubes_in, empty_slot, HasAnswerAt}
use Rattle.result_ledger.specs.Verdict.{AreWithout, IsVerdict}
use Rattle.trace_semantics.specs.Trace.{TraceValue}
use Rattle.trace_decision.specs.declared.decided.Decided.{Decided}
use Rattle.trace_decision.specs.declared.decided.Next.{Next}
use Rattle.trace_decision.specs.declared.decided.Next.TheVariants.{Ended, Searched}
use Rattle.var_layout.specs.Split.{splits}

-- ---- a search

-- exactly the leaves without an answer were searched, and these are their results
pub record AreOfUnanswered (clauses : List (List ℤ)) (slots : List Slot) (results : List Settled) : Type 0 where
  pub which : List ℕ
  pub asked : AreWithout (HasAnswerAt slots) (length slots) which
  pub results_are : AreResultsOf clauses (cubes_in slots) which results

-- exactly the leaves without an answer were searched, and each of their results was entered
pub record IsSearched (clauses : List (List ℤ)) (old new : List Slot) : Type 0 where
  pub results : List Settled
  pub found : AreOfUnanswered clauses old results
  pub entered : AreEntered old results new

-- ---- splits

-- a literal of the cube is of the variable
abbrev pub has_variable : List ℤ → ℕ → Bool
has_variable cube variable = list_any (λ literal. nat_abs literal == variable) cube

-- the first of these variables that the cube does not have
abbrev pub first_free : List ℕ → List ℤ → Option ℕ
first_free variables cube = find (λ variable. is_variable variable && not (has_variable cube variable)) variables

-- The slots with that of this leaf replaced by two without an answer. Their cubes are its own with the first of these variables that
-- it does not have, and with the negation of that variable.
pub record IsSplitOn (variables : List ℕ) (leaf : ℕ) (old new : List Slot) : Type 0 where
  pub slot : Slot
  pub variable : ℕ
  pub there : slice_get old leaf ≡ Some slot
  pub first : first_free variables slot.cube ≡ Some variable
  pub new_is : new ≡ take leaf old ++ (empty_slot (slot.cube ++ pos variable ∷ []) ∷ (empty_slot (slot.cube ++ neg_ℤ (pos variable) ∷ []) ∷ drop (leaf + 1) old))

-- The leaf cannot be split: its cube has all of these variables, or the tree would be too deep, or it would have too many leaves.
pub record CannotBeSplit (variables : List ℕ) (leaf : ℕ) (slots : List Slot) : Type 0 where
  pub slot : Slot
  pub there : slice_get slots leaf ≡ Some slot
  pub why : (first_free variables slot.cube ≡ None) ⊎ ((20 ≤ length slot.cube) ⊎ (1024 ≤ length slots))

-- the leaf was split, or it cannot be split and all stays as it is
abbrev pub IsSplitIfPossible : List ℕ → ℕ → List Slot → List Slot → Type 0
IsSplitIfPossible variables leaf old new = IsSplitOn variables leaf old new ⊎ (CannotBeSplit variables leaf old × (new ≡ old))

-- The slots after each of these leaves, rising, was split, or was left as it is where it cannot be split. A leaf's number is that before
-- the first split; since then there are as many leaves more before it as splits.
abbrev pub AreAfterSplits : List ℕ → List ℕ → ℕ → List Slot → List Slot → Type 0
AreAfterSplits variables [] more old new = new ≡ old
AreAfterSplits variables (leaf ∷ leaves) more old new =
    ((between : List Slot) × IsSplitOn variables (leaf + more) old between × AreAfterSplits variables leaves (more + 1) between new)
    ⊎ (CannotBeSplit variables (leaf + more) old × AreAfterSplits variables leaves more old new)

-- ---- rounds

-- A round after the first: exactly the leaves that were open were split, except those that cannot be, and exactly the new leaves were
-- searched.
pub record IsAfterRound (clauses : List (List ℤ)) (variables : List ℕ) (old new : List Slot) : Type 0 where
  pub leaves : List ℕ
  pub open_are : IsVerdict clauses old (Unknown leaves)
  pub between : List Slot
  pub split : AreAfterSplits variables leaves 0 old between
  pub more : length old < length between
  pub searched : IsSearched clauses between new

-- The slots after the first round, in which the leaves of this tree were searched, and after this number of further rounds.
abbrev pub AreAfterRounds : List (List ℤ) → List ℕ → CubeTree → ℕ → List Slot → Type 0
AreAfterRounds clauses variables tree zero slots = IsSearched clauses (map empty_slot (cubes_of tree)) slots
AreAfterRounds clauses variables tree (suc rounds) slots = (before : List Slot) × AreAfterRounds clauses variables tree rounds before × IsAfterRound clauses variables before slots

-- no leaf is open, or none of those that are can be split
abbrev pub HasNoNewLeaves : List ℕ → List Slot → Verdict → Type 0
HasNoNewLeaves variables slots (Consistent leaf truth) = ⊤
HasNoNewLeaves variables slots (Inconsistent count) = ⊤
HasNoNewLeaves variables slots (Unknown leaves) = AreAfterSplits variables leaves 0 slots slots

-- the variables on which leaves are split: as many as a cube can have literals
abbrev pub variables_of : TraceValue → List ℕ
variables_of t = take 20 (splits t)

-- the first tree: the full tree of the first split variables, by their number or all that there are
abbrev pub first_tree : TraceValue → ℕ → CubeTree
first_tree t depth = full_tree (take depth (splits t))

-- The rounds of a search over the clauses of a trace have ended with this verdict: as many as there may be were done, or there are no
-- new leaves.
pub record HaveEnded (t : TraceValue) (options : OptionsValue) (slots : List Slot) (verdict : Verdict) : Type 0 where
  pub more : ℕ
  pub within : more < options.rounds
  pub after : AreAfterRounds (clauses_of t) (variables_of t) (first_tree t options.split) more slots
  pub verdict_is : IsVerdict (clauses_of t) slots verdict
  pub ended : more + 1 < options.rounds → HasNoNewLeaves (variables_of t) slots verdict

-- the ledger is one of the tree, and the verdict follows from its answers
pub record IsConfirmed (clauses : List (List ℤ)) (decided : Decided) : Type 0 where
  pub cubes_are : cubes_in decided.ledger ≡ cubes_of decided.tree
  pub verdict_is : IsVerdict clauses decided.ledger decided.verdict

-- how a search goes on: it has ended, since there are no new leaves, and nothing has changed; or one more round was made
abbrev pub IsNext : List (List ℤ) → List ℕ → Decided → Next → Type 0
IsNext clauses variables before (Ended after) = IsConfirmed clauses after × HasNoNewLeaves variables after.ledger after.verdict × (after.ledger ≡ before.ledger)
IsNext clauses variables before (Searched after) = IsConfirmed clauses after × IsAfterRound clauses variables before.ledger after.ledger
