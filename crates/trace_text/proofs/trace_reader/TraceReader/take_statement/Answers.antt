use Rattle.std.proofs.Common.{◌∙◌, ap, sym, ◌≡◌, List, [], ◌∷◌, ◌++◌, Bool, true, false, not, ◌&&◌, refl, subst}
use Rattle.std.specs.Prelude.{Option, Some, None, is_some, IsSome, if◌then◌else◌}
use Rattle.std.specs.List.{list_any, list_all}
use Rattle.std.proofs.lemmas.Result.{on_ok_weaker, IfErr-weaker, err_from_is_err_and}
use Rattle.text_lines.specs.declared.plain_fault.PlainFault.{PlainFault}
use Rattle.text_lines.specs.PlainFault.{IsRefusedFor}
use Rattle.text_lines.proofs.BoolLemmas.{never_without}
use Rattle.trace_semantics.specs.Names.{is_name}
use Rattle.trace_text.specs.Said.{said}
use Rattle.trace_text.specs.Seen.{early_fault, fault_behind, Notes}
use Rattle.trace_text.specs.TraceFault.{is_operation, is_proc, is_value_line, names_of, times_of, are_turned, repeats, twice_cause, statement_fault}
use Rattle.trace_text.specs.declared.entry.Entry.{Entry}
use Rattle.trace_text.specs.declared.trace_fault.TraceCause.{TraceCause}
use Rattle.trace_text.specs.declared.trace_fault.TraceCause.TheVariants.{EndsBeforeStart}
use Rattle.trace_text.specs.declared.trace_reader.TraceReader.{TraceReader}
use Rattle.trace_text.specs.Entry.{statement_for, has_numbers, number_fault, entry_fits, is_turned}
use Rattle.trace_text.specs.Gathered.{Adds, IsGathered}
use Rattle.trace_text.specs.Progress.{IsProgress}
use Rattle.trace_text.specs.Statement.{Statement}
use Rattle.trace_text.proofs.LineWords.SpanLemmas.{turned_said}
use Rattle.trace_text.proofs.Reading.EntryLemmas.{written_more}
use Rattle.trace_text.proofs.Reading.GatheredLemmas.{gathered_more, begun_more, distinct_more}
use Rattle.trace_text.proofs.Reading.SeenLemmas.{fault_early, fault_number, fault_turned, fault_late, fault_seen, seen_more, early_of, late_fault}
use Rattle.trace_text.proofs.trace_reader.TraceReader.take_statement.Goals as goal
use Rattle.trace_semantics.specs.declared.limits.Limits.{Limits}

-- One more statement.

-- a fault of the place or of a name
refused_early : (limits : Limits) (ss : List Statement) (r : TraceReader) (s : Statement) (cause : TraceCause) → IsProgress limits ss r → Some cause ≡ early_fault (is_some r.gathered.last) s → statement_fault limits ss s ≡ Some cause
refused_early limits ss r s cause p h = fault_early limits ss s (is_some r.gathered.last) cause p.begun (sym h)

-- a number is wrong
refused_number : (limits : Limits) (ss : List Statement) (r : TraceReader) (s : Statement) (refusal : PlainFault TraceCause) → IsProgress limits ss r → None ≡ early_fault (is_some r.gathered.last) s → IsRefusedFor (number_fault (has_numbers limits s)) refusal → IsRefusedFor (statement_fault limits ss s) refusal
refused_number limits ss r s refusal p h n = fault_number limits ss s (is_some r.gathered.last) refusal p.begun (sym h) n

-- what is asked of an entry is asked of the statement
times_turned : (s : Statement) (e : Entry) (b : Bool) → statement_for e ≡ s → b ≡ is_turned e → entry_fits e ≡ true → are_turned (times_of s) ≡ b
times_turned s e b says is fits = ap (λ t. are_turned (times_of t)) (sym says) ∙ turned_said e fits ∙ sym is

-- it ends before it starts
refused_turned : (limits : Limits) (ss : List Statement) (r : TraceReader) (s : Statement) → IsProgress limits ss r → None ≡ early_fault (is_some r.gathered.last) s → has_numbers limits s ≡ true → are_turned (times_of s) ≡ true → statement_fault limits ss s ≡ Some EndsBeforeStart
refused_turned limits ss r s p h n t = fault_turned limits ss s (is_some r.gathered.last) p.begun (sym h) n t

-- a fault after the others
refused_late : (limits : Limits) (ss : List Statement) (r : TraceReader) (s : Statement) (refusal : PlainFault TraceCause) → IsProgress limits ss r → None ≡ early_fault (is_some r.gathered.last) s → has_numbers limits s ≡ true → are_turned (times_of s) ≡ false → IsRefusedFor (fault_behind limits r.seen s) refusal → IsRefusedFor (statement_fault limits ss s) refusal
refused_late limits ss r s refusal p h n t f = subst (λ o. IsRefusedFor o refusal) (fault_seen limits ss r.seen s p.seen ∙ sym (fault_late limits ss s (is_some r.gathered.last) p.begun (sym h) n t)) f

not_outside : (a b c : Bool) → early_of a b c ≡ None → b ≡ false
not_outside a false c h = refl
not_outside true true c h = absurd (cc)
not_outside false true c h = absurd (cc)

named : (a b c : Bool) → early_of a b c ≡ None → c ≡ true
named true b c h = absurd (cc)
named false true c h = absurd (cc)
named false false true h = refl
named false false false h = absurd (cc)

-- an operation has an open process
is_open : (r : TraceReader) (s : Statement) → None ≡ early_fault (is_some r.gathered.last) s → is_operation s ≡ true → IsSome r.gathered.last
is_open r s h o = never_without (is_operation s) (is_some r.gathered.last) (not_outside (is_value_line s && is_some r.gathered.last) (is_operation s && not (is_some r.gathered.last)) (list_all is_name (names_of s)) (sym h)) o

unrepeated_late : (b : Bool) (cause : TraceCause) (rest : Option TraceCause) → (if b then Some cause else rest) ≡ None → b ≡ false
unrepeated_late true cause rest h = absurd (cc)
unrepeated_late false cause rest h = refl

-- a statement without a fault is taken
taken : (limits : Limits) (ss : List Statement) (old new : TraceReader) (s : Statement) (e : Entry) → IsProgress limits ss old → None ≡ early_fault (is_some old.gathered.last) s → has_numbers limits s ≡ true → are_turned (times_of s) ≡ false → statement_for e ≡ s → entry_fits e ≡ true → Notes limits old.seen new.seen s → Adds old.gathered new.gathered e →
    (statement_fault limits ss s ≡ None) × IsProgress limits (ss ++ s ∷ []) new
taken limits ss old new s e p h n straight said fits notes adds =
    let late : late_fault limits ss s ≡ None = sym (fault_seen limits ss old.seen s p.seen) ∙ notes.faultless in
    let once : list_any (repeats (statement_for e)) ss ≡ false = ap (λ t. list_any (repeats t) ss) said ∙ unrepeated_late (list_any (repeats s) ss) (twice_cause s) _ late in
    let inside_one : is_operation (statement_for e) ≡ true → IsSome old.gathered.last = λ (o : is_operation (statement_for e) ≡ true). is_open old s h (ap is_operation (sym said) ∙ o) in (
      fault_late limits ss s (is_some old.gathered.last) p.begun (sym h) n straight ∙ late,
      record {
        seen = seen_more limits ss s old.seen new.seen p.seen notes;
        gathered = subst (λ (t : Statement). IsGathered (ss ++ t ∷ []) new.gathered) said (gathered_more ss e old.gathered new.gathered inside_one p.gathered adds);
        begun = ap (λ t. list_any is_proc (ss ++ t ∷ [])) (sym said) ∙ begun_more ss e old.gathered new.gathered p.begun adds;
        distinct = distinct_more ss e old.gathered new.gathered once p.gathered p.distinct adds;
        written = written_more e old.gathered new.gathered (ap (λ t. list_all is_name (names_of t)) said ∙ named (is_value_line s && is_some old.gathered.last) (is_operation s && not (is_some old.gathered.last)) (list_all is_name (names_of s)) (sym h)) fits p.written adds;
      },
    )

pub returns-in-Some-clause-refused : goal.returns-in-Some-clause-refused
returns-in-Some-clause-refused c ss p = refused_early c.args.limits ss c.args.self.now (said c.args.statement) c.in-Some.cause p (c.in-Some.ensures ∙ ap (λ b. early_fault b (said c.args.statement)) c.has_open_process.ensures)

pub returns-in_err-entry-clause-refused : goal.returns-in_err-entry-clause-refused
returns-in_err-entry-clause-refused c =
    let p = err_from_is_err_and c.from_residual.result c.from_residual.ensures.1 in
    rw (p.1, p.2) (λ ss q. refused_number c.args.limits ss c.args.self.now (said c.args.statement) c.in_err-entry.field-0.0 q (c.in_default.ensures ∙ ap (λ b. early_fault b (said c.args.statement)) c.has_open_process.ensures) c.in_err-entry.ensures.refused)

pub returns-then-is_turned-clause-refused : goal.returns-then-is_turned-clause-refused
returns-then-is_turned-clause-refused c ss p =
    refused_turned c.args.limits ss c.args.self.now (said c.args.statement) p (c.in_default.ensures ∙ ap (λ b. early_fault b (said c.args.statement)) c.has_open_process.ensures) c.in_ok-entry.ensures.fine
    (times_turned (said c.args.statement) c.in_ok-entry.entry c.is_turned.result c.in_ok-entry.ensures.said c.is_turned.ensures c.in_ok-entry.ensures.fits ∙ c.if-is_turned.true)

pub returns-in_err-take-clause-refused : goal.returns-in_err-take-clause-refused
returns-in_err-take-clause-refused c =
    let p = err_from_is_err_and c.from_residual-in_err-take.result c.from_residual-in_err-take.ensures.1 in
    rw (p.1, p.2) (λ ss q. refused_late c.args.limits ss c.args.self.now (said c.args.statement) c.in_err-take.field-0.0 q (c.in_default.ensures ∙ ap (λ b. early_fault b (said c.args.statement)) c.has_open_process.ensures) c.in_ok-entry.ensures.fine (times_turned (said c.args.statement) c.in_ok-entry.entry c.is_turned.result c.in_ok-entry.ensures.said c.is_turned.ensures c.in_ok-entry.ensures.fits ∙ c.if-is_turned.false) c.in_err-take.ensures.refused)

pub add-requires : goal.add-requires
add-requires c o = is_open c.args.self.now (said c.args.statement) (c.in_default.ensures ∙ ap (λ b. early_fault b (said c.args.statement)) c.has_open_process.ensures) (ap is_operation (sym c.in_ok-entry.ensures.said) ∙ o)

pub returns-clause-refused : goal.returns-clause-refused
returns-clause-refused c = IfErr-weaker c.add.result _ _ (λ y r ss q. rw r tt) c.add.ensures.memory

pub returns-clause-taken : goal.returns-clause-taken
returns-clause-taken c = on_ok_weaker c.add.result (λ adds ss p.
    taken c.args.limits ss c.args.self.now (record { seen = c.take.new.self; gathered = c.add.new.self }) (said c.args.statement) c.in_ok-entry.entry p (c.in_default.ensures ∙ ap (λ b. early_fault b (said c.args.statement)) c.has_open_process.ensures)
    c.in_ok-entry.ensures.fine (times_turned (said c.args.statement) c.in_ok-entry.entry c.is_turned.result c.in_ok-entry.ensures.said c.is_turned.ensures c.in_ok-entry.ensures.fits ∙ c.if-is_turned.false) c.in_ok-entry.ensures.said c.in_ok-entry.ensures.fits c.in_ok-take.ensures.noted adds) c.add.ensures.added
