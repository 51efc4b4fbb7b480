use Rattle.std.proofs.Common.{◌≡◌, ℕ, List, ◌∷◌, sym, subst, arith}
use Rattle.text_lines.specs.Lines.{lines_of}
use Rattle.text_lines.specs.Words.{words_of}
use Rattle.reason_check.specs.Reading.{IsReadAndTaken, IsReadBehind}
use Rattle.reason_check.specs.declared.line_clause.LineOutcome.{LineOutcome}
use Rattle.reason_check.specs.declared.line_clause.LineOutcome.TheVariants.{More, Refuted, Derivation}
use Rattle.reason_check.proofs.ReadSoFar.{read_none, more_read, next_read, ends_empty, begins_behind}
use Rattle.reason_check.proofs.RefusedLemmas.{refused_at_line}
use Rattle.reason_check.specs.Refused.{IsRefusedReading}
use Rattle.reason_check.specs.declared.reasons_fault.ReasonsFault.{ReasonsFault}
use Rattle.reason_check.proofs.clause_lines.read_clauses.Goals as goal

pub loop-line-init : goal.loop-line-init
loop-line-init c = record {
  read = read_none c.args.trace.now c.args.text.now c.args.list.now c.in-Ok.ensures.lines.header (lines_of c.in-Ok.rest.now) c.in-Ok.ensures.lines.lines c.in-Ok.ensures.lines.headed c.requires;
  behind = let less = c.in-Ok.ensures.shorter in omega (arith, less);
}

pub loop-line-preserved : goal.loop-line-preserved
loop-line-preserved c =
    let t = c.args.trace.now in
    let text = c.args.text.now in
    let new = c.read_and_take-taken.new.list in
    let h : IsReadBehind t text c.loop-line.list c.loop-line.before (c.in-Some.line.now ∷ lines_of c.in-Some.after.now) = subst (λ (l : List (List ℕ)). IsReadBehind t text c.loop-line.list c.loop-line.before l) c.in-Some.ensures.lines c.loop-line.invariant.read in
    let taken : IsReadAndTaken t (words_of c.in-Some.line.now) c.loop-line.list new c.in-Ok-More.field-0 = rw c.in-Ok-More.is at c.read_and_take-taken.ensures.taken in
    let same : c.in-Ok-More.field-0 ≡ More = rw c.in-Ok-More.is at c.in-Ok-More.field-0-is in
    record {
      read = more_read t text c.loop-line.list new c.loop-line.before c.in-Some.line.now (lines_of c.in-Some.after.now) c.in-Ok-More.field-0 same h taken;
      behind = let most = c.loop-line.invariant.behind in let less = c.in-Some.ensures.shorter in omega (arith, most, less);
    }

pub returns-in-Ok-Refuted-clause-read : goal.returns-in-Ok-Refuted-clause-read
returns-in-Ok-Refuted-clause-read c =
    let t = c.args.trace.now in
    let text = c.args.text.now in
    let new = c.read_and_take-taken.new.list in
    let h : IsReadBehind t text c.loop-line.list c.loop-line.before (c.in-Some.line.now ∷ lines_of c.in-Some.after.now) = subst (λ (l : List (List ℕ)). IsReadBehind t text c.loop-line.list c.loop-line.before l) c.in-Some.ensures.lines c.loop-line.invariant.read in
    let taken : IsReadAndTaken t (words_of c.in-Some.line.now) c.loop-line.list new c.in-Ok-Refuted.field-0 = rw c.in-Ok-Refuted.is at c.read_and_take-taken.ensures.taken in
    let same : c.in-Ok-Refuted.field-0 ≡ Refuted = rw c.in-Ok-Refuted.is at c.in-Ok-Refuted.field-0-is in
    let refuted : IsReadAndTaken t (words_of c.in-Some.line.now) c.loop-line.list new Refuted = subst (λ (o : LineOutcome). IsReadAndTaken t (words_of c.in-Some.line.now) c.loop-line.list new o) same taken in (
      lines_of c.in-Some.after.now,
      next_read t text c.loop-line.list new c.in-Some.line.now (lines_of c.in-Some.after.now) Refuted (λ e. (let clash : Refuted ≡ Derivation = e in cc)) h.0.0 refuted,
      ends_empty t text c.loop-line.list new (words_of c.in-Some.line.now) h.0.1 refuted,
    )

pub returns-in-Ok-Derivation-clause-read : goal.returns-in-Ok-Derivation-clause-read
returns-in-Ok-Derivation-clause-read c =
    let t = c.args.trace.now in
    let text = c.args.text.now in
    let new = c.read_and_take-taken.new.list in
    let h : IsReadBehind t text c.loop-line.list c.loop-line.before (c.in-Some.line.now ∷ lines_of c.in-Some.after.now) = subst (λ (l : List (List ℕ)). IsReadBehind t text c.loop-line.list c.loop-line.before l) c.in-Some.ensures.lines c.loop-line.invariant.read in
    let taken : IsReadAndTaken t (words_of c.in-Some.line.now) c.loop-line.list new c.in-Ok-Derivation.field-0 = rw c.in-Ok-Derivation.is at c.read_and_take-taken.ensures.taken in
    let same : c.in-Ok-Derivation.field-0 ≡ Derivation = rw c.in-Ok-Derivation.is at c.in-Ok-Derivation.field-0-is in
    begins_behind t text c.loop-line.list new c.loop-line.before c.in-Some.line.now c.in-Some.after.now h (subst (λ (o : LineOutcome). IsReadAndTaken t (words_of c.in-Some.line.now) c.loop-line.list new o) same taken)

pub returns-in-Err-taken-clause-refused : goal.returns-in-Err-taken-clause-refused
returns-in-Err-taken-clause-refused c =
    let t = c.args.trace.now in
    let text = c.args.text.now in
    let h : IsReadBehind t text c.loop-line.list c.loop-line.before (c.in-Some.line.now ∷ lines_of c.in-Some.after.now) = subst (λ (l : List (List ℕ)). IsReadBehind t text c.loop-line.list c.loop-line.before l) c.in-Some.ensures.lines c.loop-line.invariant.read in
    subst (λ (fault : ReasonsFault). IsRefusedReading t text fault) (sym c.of_line-in-Err-taken.ensures)
    (refused_at_line t text c.loop-line.list c.loop-line.before c.in-Some.line.now (lines_of c.in-Some.after.now) h c.in-Err-taken.refusal (c.in-Err-taken.ensures.refused c.in_ok-tables.ensures.holds))
