-- The text of a legal schedule spells it.
use Rattle.std.proofs.Common.{◌≡◌, ◌⊎◌, ℕ, ◌≤◌, true, List, [], ◌∷◌, ◌++◌, length, inl, inr, refl, ap, subst, arith, length-append}
use Rattle.std.specs.List.{Contains, list_all}
use Rattle.std.proofs.lemmas.Bool.{and_parts}
use Rattle.std.proofs.lemmas.List.Elements.{Contains-append_cases, Contains-append_left, Contains-append_right}
use Rattle.std.proofs.lemmas.List.Sums.{get_or-le-sum_by}
use Rattle.schedule_text.proofs.OpNameLemmas.{op_name_from}
use Rattle.schedule_text.proofs.ScheduleWrittenLemmas.{written_spells}
use Rattle.schedule_text.specs.ScheduleText.{SpellsSchedule, is_op_name}
use Rattle.schedule_text.specs.ScheduleWritten.{canonical_schedule}
use Rattle.trace_semantics.proofs.ElementLemmas.{all_pass, cases_in, head_in, pass_all, placed, tail_in}
use Rattle.trace_semantics.proofs.NameLemmas.{known_listed, known_named}
use Rattle.trace_semantics.proofs.OrderLemmas.{stands_ahead}
use Rattle.trace_semantics.specs.declared.operation.OpName.{OpName}
use Rattle.trace_semantics.specs.declared.trace.Process.{Process}
use Rattle.trace_semantics.specs.Interleaving.{StandsBefore}
use Rattle.trace_semantics.specs.Legal.{IsLegal}
use Rattle.trace_semantics.specs.Names.{is_name}
use Rattle.trace_semantics.specs.Trace.{TraceValue, IsTrace, is_written_op, is_written_process, operation_count, operation_names}
use Rattle.var_layout.proofs.NumberLemmas.{names_counted}
use Rattle.trace_semantics.specs.Limits.{max_operations}
use Rattle.trace_semantics.specs.ScheduleLimits.{limits_for}
use Rattle.trace_semantics.proofs.LimitLemmas.{all_named}
use Rattle.trace_semantics.proofs.ScheduleLimitLemmas.{schedule_room}

-- ---- how many names a schedule has

-- a name among these and one more in their middle
one_or_other : (x n : OpName) (front back : List OpName) → Contains (front ++ x ∷ back) n → (x ≡ n) ⊎ Contains (front ++ back) n
one_or_other x n front back c =
    elim (Contains-append_cases front (x ∷ back) n c) [
      | inl early ↦ inr (Contains-append_left front back n early)
      | inr rest ↦ elim (cases_in x back n rest) [
        | inl same ↦ inl same
        | inr late ↦ inr (Contains-append_right front back n late)
      ]
    ]

-- what stands in this order after a name stands so with the name
behind : (x : OpName) (xs : List OpName) (m n : OpName) → StandsBefore xs m n → StandsBefore (x ∷ xs) m n
behind x xs m n (front, middle, back, parts) = (x ∷ front, middle, back, ap (λ (l : List OpName). x ∷ l) parts)

-- names of which none stands twice are no more than those among which they are
no_more : (xs ys : List OpName) → ((n : OpName) → Contains xs n → Contains ys n) → ((n : OpName) → StandsBefore xs n n → ⊥) → length xs ≤ length ys
no_more [] ys among once = omega arith
no_more (x ∷ xs) ys among once =
    let at = placed ys x (among x (head_in x xs)) in
    let rest = no_more xs (at.front ++ at.back) (λ n c. elim (one_or_other x n at.front at.back (subst (λ (l : List OpName). Contains l n) at.parts (among n (tail_in x xs n c)))) [
      | inl same ↦ absurd (once n (subst (λ (m : OpName). StandsBefore (x ∷ xs) m n) same (stands_ahead (x ∷ xs) [] x xs n refl c)))
      | inr other ↦ other
    ]) (λ n twice. once n (behind x xs n n twice)) in
    omega (arith, rest, ap length at.parts, length-append at.front at.back, length-append at.front (x ∷ at.back))

-- a process has no more operations than its trace
operations_within : (t : TraceValue) (p : Process) → Contains t.processes p → length p.operations ≤ operation_count t
operations_within t p (k, l, e) = subst (λ (q : Process). length q.operations ≤ operation_count t) e (get_or-le-sum_by (λ (q : Process). length q.operations) t.processes k p l)

-- ---- its text

module _ (t : TraceValue) (names : List OpName) (ok : IsTrace t) (legal : IsLegal t names) where
  few : length names ≤ max_operations (limits_for t)
  few =
      let most = no_more names (operation_names t) (λ n c. known_listed t n (legal.interleaving.only n c)) legal.interleaving.once in
      omega (arith, most, names_counted t, schedule_room t ok)

  writable : (n : OpName) → Contains names n → is_op_name (limits_for t) n ≡ true
  writable n c =
      let at = known_named t n (legal.interleaving.only n c) in
      let written = all_pass is_written_process t.processes ok.written.processes at.process at.listed in
      let name = (and_parts (is_name at.process.name) (list_all is_written_op at.process.operations) written).0 in
      op_name_from (limits_for t) n (subst (λ (p : List ℕ). is_name p ≡ true) at.called name) at.least (omega (arith, at.most, operations_within t at.process at.listed, schedule_room t ok, all_named (limits_for t)))

  pub spells : SpellsSchedule (limits_for t) (canonical_schedule names) names
  spells = written_spells (limits_for t) names (pass_all (is_op_name (limits_for t)) names writable) few
