use Rattle.std.proofs.Common.{◌≡◌, ℕ, ◌≤◌, true, List, length, ap, refl, subst, arith}
use Rattle.std.specs.Prelude.{not}
use Rattle.std.specs.List.{Contains, list_all}
use Rattle.std.proofs.lemmas.Bool.{and_parts}
use Rattle.std.proofs.lemmas.List.Filters.{length-filter_both}
use Rattle.std.proofs.lemmas.List.Sums.{get_or-le-sum_by}
use Rattle.trace_semantics.specs.declared.operation.OpName.{OpName}
use Rattle.trace_semantics.specs.declared.trace.Process.{Process}
use Rattle.trace_semantics.specs.Judgement.{has_come}
use Rattle.trace_semantics.specs.Names.{is_name}
use Rattle.trace_semantics.specs.Trace.{TraceValue, IsTrace, is_written_op, is_written_process, operation_count, operation_names}
use Rattle.trace_semantics.proofs.ElementLemmas.{all_pass, from_filter, pass_all}
use Rattle.trace_semantics.proofs.NameLemmas.{known_named, listed_known}
use Rattle.schedule_text.specs.ScheduleText.{SpellsSchedule, is_op_name}
use Rattle.schedule_text.specs.ScheduleWritten.{canonical_schedule}
use Rattle.schedule_text.proofs.OpNameLemmas.{op_name_from}
use Rattle.schedule_text.proofs.ScheduleWrittenLemmas.{written_spells}
use Rattle.var_layout.proofs.NumberLemmas.{names_counted}
use Rattle.survey_verdict.specs.Surveyed.{core_of}
use Rattle.survey_verdict.proofs.laws.core_names_spell.Goals as goal
use Rattle.trace_semantics.specs.Limits.{max_operations}
use Rattle.trace_semantics.specs.ScheduleLimits.{limits_for}
use Rattle.trace_semantics.proofs.LimitLemmas.{all_named}
use Rattle.trace_semantics.proofs.ScheduleLimitLemmas.{schedule_room}

-- The names of a core can be written, and their text spells them.

-- a process has no more operations than its trace
operations_within : (t : TraceValue) (p : Process) → Contains t.processes p → length p.operations ≤ operation_count t
operations_within t p (k, l, e) = subst (λ (q : Process). length q.operations ≤ operation_count t) e (get_or-le-sum_by (λ (q : Process). length q.operations) t.processes k p l)

module _ (t : TraceValue) (ok : IsTrace t) where
  writable : (n : OpName) → Contains (operation_names t) n → is_op_name (limits_for t) n ≡ true
  writable n c =
      let at = known_named t n (listed_known t ok n c) in
      let written = all_pass is_written_process t.processes ok.written.processes at.process at.listed in
      let name = (and_parts (is_name at.process.name) (list_all is_written_op at.process.operations) written).0 in
      op_name_from (limits_for t) n (subst (λ (p : List ℕ). is_name p ≡ true) at.called name) at.least (omega (arith, at.most, operations_within t at.process at.listed, schedule_room t ok, all_named (limits_for t)))

  -- names in the order of the trace are spelled by their text
  names_spell : (names : List OpName) → names ≡ core_of t names → SpellsSchedule (limits_for t) (canonical_schedule names) names
  names_spell names in_order =
      let listed : (n : OpName) → Contains names n → Contains (operation_names t) n = λ n c. (from_filter (has_come names) (operation_names t) n (subst (λ (l : List OpName). Contains l n) in_order c)).0 in
      let both = length-filter_both (has_come names) (λ n. not (has_come names n)) (λ n. refl) (operation_names t) in
      let few : length names ≤ max_operations (limits_for t) = omega (arith, both, names_counted t, schedule_room t ok, ap length in_order) in
      written_spells (limits_for t) names (pass_all (is_op_name (limits_for t)) names (λ n c. writable n (listed n c))) few

pub returns : goal.returns
returns c options t core ok given = names_spell t ok core.names given.in_order
