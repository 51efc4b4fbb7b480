use Rattle.std.proofs.Common.{rules, ◌≡◌, [], List, refl, sym, ◌∙◌, ap, subst}
use Rattle.std.specs.Bool.{MatchBool}
use Rattle.std.specs.Prelude.{false}
use Rattle.trace_semantics.specs.Trace.{value_of}
use Rattle.writer_table.specs.declared.runs.Run.{Run}
use Rattle.reason_clauses.specs.LastBarred.{AreWriterRuns, HasWriter}
use Rattle.reason_clauses.specs.LastRefused.{AreNotGivenLate}
use Rattle.reason_clauses.specs.declared.cause.ReasonCause.{ReasonCause}
use Rattle.reason_clauses.proofs.LastLemmas.{writer_runs}
use Rattle.reason_clauses.proofs.RefusedLemmas.{refusal_on}
use Rattle.reason_counting.specs.declared.left_sources.LeftSources.{LeftSources}
use Rattle.reason_counting.specs.LeftEnds.{AreLastRunsLeft, EndNotGiven, EndTaken, EndUnwritten, IsEndRefused, IsEndTakenRefused}
use Rattle.reason_counting.proofs.EndLemmas.{are_ends, ends_left}
use Rattle.reason_counting.proofs.left_ends.left_ends.Goals as goal

pub bar_taken_lasts-requires-clause-final_value : goal.bar_taken_lasts-requires-clause-final_value
bar_taken_lasts-requires-clause-final_value c = sym (c.value_at-final_value.ensures ∙ ap (λ l. value_of l c.args.location.now) c.final_values.ensures)

pub bar_taken_lasts-requires-clause-runs : goal.bar_taken_lasts-requires-clause-runs
bar_taken_lasts-requires-clause-runs c =
    subst (λ (l : List Run). AreWriterRuns c.args.trace.now c.args.location.now l) (sym c.runs-runs.ensures) (writer_runs c.args.trace.now c.recall_invariant.ensures c.args.writers.now.by_location c.requires.by_location c.requires.kind c.args.location.now)

pub returns-clause-bars : goal.returns-clause-bars
returns-clause-bars c =
    let t = c.args.trace.now in
    let location = c.args.location.now in
    let left : LeftSources = record { location = c.args.location; stretches = c.bar_taken_lasts.new.left; is_initial_left = false } in
    let is = sym (c.value_at-final_value.ensures ∙ ap (λ l. value_of l c.args.location.now) c.final_values.ensures) in
    ends_left t c.recall_invariant.ensures c.args.writers.now.by_location c.args.writers.now.by_value c.requires.by_location c.requires.kind c.requires.by_value c.bar_taken_lasts.new.orders.items left location c.args.pieces.now (c.in_ok-want_late_pieces.ensures.given is)
    (subst (λ (l : List Run). AreLastRunsLeft t c.bar_taken_lasts.new.orders.items c.bar_taken_lasts.new.left.items location c.args.pieces.now l) c.runs-runs.ensures c.in_ok-is_written.ensures.bars) refl
    (subst (λ b. MatchBool b (HasWriter t location) (HasWriter t location → ⊥)) c.if-not-is_written.false c.in_ok-is_written.ensures.writes)

pub returns-clause-left : goal.returns-clause-left
returns-clause-left c =
    let left : LeftSources = record { location = c.args.location; stretches = c.bar_taken_lasts.new.left; is_initial_left = false } in
    let none : c.new-stretches.result.items ≡ [] = search rules in
    are_ends c.args.trace.now c.args.location.now c.args.pieces.now left refl refl c.new-stretches.result.items none c.in_ok-is_written.ensures.left

pub returns-in_err-want_late_pieces-clause-refused : goal.returns-in_err-want_late_pieces-clause-refused
returns-in_err-want_late_pieces-clause-refused c =
    let t = c.args.trace.now in
    let location = c.args.location.now in
    let is = sym (c.value_at-final_value.ensures ∙ ap (λ l. value_of l c.args.location.now) c.final_values.ensures) in
    refusal_on (λ (cause : ReasonCause). value_of t.final_values location ≡ c.value_at-final_value.result → AreNotGivenLate t location c.args.pieces.now cause) (IsEndRefused t location c.args.pieces.now) c.from_residual.result c.in_err-want_late_pieces.field-0.0 c.from_residual.ensures.1
    (λ cause h. EndNotGiven (h is)) c.in_err-want_late_pieces.ensures.refused

pub returns-in_err-is_written-clause-refused : goal.returns-in_err-is_written-clause-refused
returns-in_err-is_written-clause-refused c =
    let t = c.args.trace.now in
    let location = c.args.location.now in
    refusal_on (IsEndTakenRefused t location c.args.pieces.now) (IsEndRefused t location c.args.pieces.now) c.from_residual-in_err-is_written.result c.in_err-is_written.field-0.0 c.from_residual-in_err-is_written.ensures.1
    (λ cause h. EndTaken h) c.in_err-is_written.ensures.refused

pub returns-then-not-is_written-clause-refused : goal.returns-then-not-is_written-clause-refused
returns-then-not-is_written-clause-refused c =
    let t = c.args.trace.now in
    let location = c.args.location.now in
    EndUnwritten (subst (λ b. MatchBool b (HasWriter t location) (HasWriter t location → ⊥)) c.if-not-is_written.true c.in_ok-is_written.ensures.writes) refl
