use Rattle.std.proofs.Common.{◌≡◌, List, sym, ◌∙◌, ap, subst}
use Rattle.std.specs.Prelude.{ℕ, Some}
use Rattle.std.specs.Bool.{MatchBool}
use Rattle.trace_semantics.specs.Trace.{value_of}
use Rattle.writer_table.specs.declared.operation_place.OperationPlace.{OperationPlace}
use Rattle.writer_table.specs.declared.runs.Run.{Run}
use Rattle.reason_clauses.specs.declared.cause.ReasonCause.{ReasonCause}
use Rattle.reason_clauses.specs.declared.cause.ReasonCause.TheVariants.{NoWriter}
use Rattle.reason_clauses.specs.LastBarred.{AreLastsBarred, AreWriterRuns, HasWriter}
use Rattle.reason_clauses.specs.LastRefused.{AreNotGivenLate, IsLastRefused, IsLastWriterRefused, IsPossibleLast, NotGiven, Unwritten, AtWriter}
use Rattle.reason_clauses.specs.Made.{Makes, IsLastOf}
use Rattle.reason_clauses.proofs.LastLemmas.{lasts_made, lost_made, last_holds, writer_runs}
use Rattle.reason_clauses.proofs.RefusedLemmas.{refusal_on}
use Rattle.reason_clauses.proofs.last.last_clause.Goals as goal

pub bar_lasts-requires-clause-final_value : goal.bar_lasts-requires-clause-final_value
bar_lasts-requires-clause-final_value c = sym (c.value_at-final_value.ensures ∙ ap (λ l. value_of l c.args.location.now) c.final_values.ensures)

pub bar_lasts-requires-clause-runs : goal.bar_lasts-requires-clause-runs
bar_lasts-requires-clause-runs c =
    subst (λ (l : List Run). AreWriterRuns c.args.trace.now c.args.location.now l) (sym c.runs-runs.ensures) (writer_runs c.args.trace.now c.recall_invariant.ensures c.args.writers.now.by_location c.requires.by_location c.requires.kind c.args.location.now)

pub returns-then-is_written-clause-made : goal.returns-then-is_written-clause-made
returns-then-is_written-clause-made c =
    let t = c.args.trace.now in
    let location = c.args.location.now in
    let is = sym (c.value_at-final_value.ensures ∙ ap (λ l. value_of l location) c.final_values.ensures) in
    lasts_made t c.recall_invariant.ensures c.args.writers.now.by_location c.requires.by_location c.requires.kind location c.bar_lasts.new.orders.items c.args.pieces.now (c.in_ok-want_late_pieces.ensures.given is)
    (subst (λ (l : List Run). AreLastsBarred t c.bar_lasts.new.orders.items location c.args.pieces.now l) c.runs-runs.ensures c.in_ok-is_written.ensures.bars)
    (subst (λ b. MatchBool b (HasWriter t location) (HasWriter t location → ⊥)) c.if-is_written.true c.in_ok-is_written.ensures.writes)

pub returns-clause-made : goal.returns-clause-made
returns-clause-made c =
    let t = c.args.trace.now in
    let location = c.args.location.now in
    let is = sym (c.value_at-final_value.ensures ∙ ap (λ l. value_of l location) c.final_values.ensures) in
    lost_made t c.recall_invariant.ensures c.args.writers.now.by_location c.requires.by_location c.requires.kind location c.bar_lasts.new.orders.items c.value_at-final_value.result is c.in_ok-want_lost.ensures.lost
    (subst (λ b. MatchBool b (HasWriter t location) (HasWriter t location → ⊥)) c.if-is_written.false c.in_ok-is_written.ensures.writes)

pub returns-then-is_written-clause-holds : goal.returns-then-is_written-clause-holds
returns-then-is_written-clause-holds c =
    let made : Makes c.args.trace.now c.bar_lasts.new.orders.items (IsLastOf c.args.trace.now c.args.location.now) = returns-then-is_written-clause-made c in
    last_holds c.args.trace.now c.recall_invariant.ensures c.args.writers.now.by_location c.requires.by_location c.requires.kind c.args.location.now c.bar_lasts.new.orders.items made

pub returns-clause-holds : goal.returns-clause-holds
returns-clause-holds c =
    let made : Makes c.args.trace.now c.bar_lasts.new.orders.items (IsLastOf c.args.trace.now c.args.location.now) = returns-clause-made c in
    last_holds c.args.trace.now c.recall_invariant.ensures c.args.writers.now.by_location c.requires.by_location c.requires.kind c.args.location.now c.bar_lasts.new.orders.items made

pub returns-in_err-want_late_pieces-clause-refused : goal.returns-in_err-want_late_pieces-clause-refused
returns-in_err-want_late_pieces-clause-refused c =
    let t = c.args.trace.now in
    let location = c.args.location.now in
    let is = sym (c.value_at-final_value.ensures ∙ ap (λ l. value_of l location) c.final_values.ensures) in
    refusal_on (λ (cause : ReasonCause). value_of t.final_values location ≡ c.value_at-final_value.result → AreNotGivenLate t location c.args.pieces.now cause) (IsLastRefused t location c.args.pieces.now) c.from_residual.result c.in_err-want_late_pieces.field-0.0 c.from_residual.ensures.1
    (λ cause h. NotGiven (h is)) c.in_err-want_late_pieces.ensures.refused

pub returns-in_err-is_written-clause-refused : goal.returns-in_err-is_written-clause-refused
returns-in_err-is_written-clause-refused c =
    let t = c.args.trace.now in
    let location = c.args.location.now in
    refusal_on (λ (cause : ReasonCause). (w : OperationPlace) × IsPossibleLast t location w × IsLastWriterRefused c.args.pieces.now w cause) (IsLastRefused t location c.args.pieces.now) c.from_residual-in_err-is_written.result c.in_err-is_written.field-0.0 c.from_residual-in_err-is_written.ensures.1
    (λ cause h. AtWriter h.0 h.1 h.2) c.in_err-is_written.ensures.refused

pub returns-in_err-want_lost-clause-refused : goal.returns-in_err-want_lost-clause-refused
returns-in_err-want_lost-clause-refused c =
    let t = c.args.trace.now in
    let location = c.args.location.now in
    let is = sym (c.value_at-final_value.ensures ∙ ap (λ l. value_of l location) c.final_values.ensures) in
    refusal_on (λ (cause : ReasonCause). ((d : ℕ) → c.value_at-final_value.result ≡ Some d → value_of t.initial location ≡ Some d) × (cause ≡ NoWriter)) (IsLastRefused t location c.args.pieces.now) c.from_residual-in_err-want_lost.result c.in_err-want_lost.field-0.0 c.from_residual-in_err-want_lost.ensures.1
    (λ cause h. Unwritten (subst (λ b. MatchBool b (HasWriter t location) (HasWriter t location → ⊥)) c.if-is_written.false c.in_ok-is_written.ensures.writes) (λ lost. lost.initial (h.0 lost.value (sym is ∙ lost.final_value))) h.1) c.in_err-want_lost.ensures.refused
