-- A refusal of the text is a true one.
use Rattle.std.proofs.Common.{◌≡◌, ◌<◌, ◌≤◌, ◌+◌, ◌-◌, ◌^◌, ℕ, List, [], ◌∷◌, false, cond, leb, length, get_or, refl, ap, sym, ◌∙◌, arith, inl, inr, subst}
use Rattle.std.specs.Prelude.{Option, Some, None, IsSome, MatchOption, Result, Ok, Err, IfErr, IsErrAnd, decimal}
use Rattle.std.specs.Option.{option_and_then}
use Rattle.std.specs.Str.{bytes_eq}
use Rattle.std.proofs.lemmas.Bool.{cases_order, cond-true, cond-false, false_from_ne_true, le-leb}
use Rattle.std.proofs.lemmas.List.{get_or_default}
use Rattle.std.proofs.lemmas.List.Elements.{All-cons, All-nil}
use Rattle.std.proofs.lemmas.Option.{none-some}
use Rattle.text_lines.specs.Numbers.{plain_number_up_to}
use Rattle.text_lines.proofs.Decimals.PlainLemmas.{decimal_is_plain}
use Rattle.text_lines.specs.declared.plain_fault.PlainFault.{PlainFault}
use Rattle.text_lines.specs.declared.plain_fault.PlainFault.TheVariants.{OutOfMemory, For}
use Rattle.trace_semantics.specs.declared.name_table.NameTable.{NameTable}
use Rattle.trace_semantics.specs.declared.operation.OpName.{OpName}
use Rattle.trace_semantics.specs.declared.trace.Process.{Process}
use Rattle.trace_semantics.specs.NameNumbers.{number_of}
use Rattle.trace_semantics.specs.Trace.{TraceValue, IsTrace, operation_at}
use Rattle.trace_semantics.proofs.NameLemmas.{bytes_same, same_bytes, known_named}
use Rattle.trace_semantics.proofs.WrittenLemmas.{value_written}
use Rattle.order_clauses.specs.Numbered.{IsKnown}
use Rattle.reason_clauses.specs.declared.cause.ReasonCause.{ReasonCause}
use Rattle.writer_table.specs.declared.operation_place.OperationPlace.{OperationPlace}
use Rattle.reason_clauses.specs.RefusedBy.{IsRefusedBy}
use Rattle.reason_text.specs.LineFault.{HasOperandFault, HasOperandsFault}
use Rattle.reason_text.specs.OperationNumbers.{AreNumbered, HoldsTrace}
use Rattle.reason_text.specs.OperationWord.{operation_word}
use Rattle.reason_text.specs.declared.operation_table.OperationTable.{OperationTable}

-- a refusal for one cause is one for a weaker one
pub refused_weaker : (P Q : ReasonCause → Type 0) → ((cause : ReasonCause) → P cause → Q cause) → (refusal : PlainFault ReasonCause) → IsRefusedBy P refusal → IsRefusedBy Q refusal
refused_weaker P Q f OutOfMemory h = tt
refused_weaker P Q f (For cause) h = f cause h

module _ {A : Type 0} (table : OperationTable) (P Q : ReasonCause → Type 0) where
  -- a refusal is handed on, for a weaker cause
  pub handed_on : (r : Result A (PlainFault ReasonCause)) (refusal : PlainFault ReasonCause) → IsErrAnd r (λ other. other ≡ refusal) → ((cause : ReasonCause) → P cause → Q cause) →
      (HoldsTrace table → IsRefusedBy P refusal) → IfErr r (λ other. HoldsTrace table → IsRefusedBy Q other)
  handed_on (Ok x) refusal e f h = absurd e
  handed_on (Err other) refusal e f h = λ holds. refused_weaker P Q f other (subst (λ o. IsRefusedBy P o) (sym e) (h holds))

  -- so is one that says nothing of the table
  pub handed_back : (r : Result A (PlainFault ReasonCause)) → ((cause : ReasonCause) → P cause → Q cause) → IfErr r (IsRefusedBy P) → IfErr r (λ other. HoldsTrace table → IsRefusedBy Q other)
  handed_back (Ok x) f h = tt
  handed_back (Err other) f h = λ holds. refused_weaker P Q f other h

-- an operation is wanted
pub first_wanted : (t : TraceValue) (wanted : ℕ) (words : List (List ℕ)) (cause : ReasonCause) → 0 < wanted → HasOperandFault t words cause → HasOperandsFault t wanted words cause
first_wanted t wanted words cause some h = ([], words, refl, All-nil (IsKnown t), some, h)

-- so is one behind another
pub second_wanted : (t : TraceValue) (n : OperationPlace) (words rest : List (List ℕ)) (cause : ReasonCause) → words ≡ operation_word t n ∷ rest → IsKnown t n → HasOperandFault t rest cause → HasOperandsFault t 2 words cause
second_wanted t n words rest cause e known h = (n ∷ [], rest, e, All-cons (IsKnown t) n [] known (All-nil (IsKnown t)), omega arith, h)

pub same_some : (a b : ℕ) → Some a ≡ Some b → a ≡ b
same_some a b e = cc

module _ {A : Type 0} where
  pub none_if_not : (o : Option A) → (IsSome o → ⊥) → o ≡ None
  none_if_not None h = refl
  none_if_not (Some x) h = absurd (h refl)

-- of the first processes each has its number, and so has one more
pub numbered_next : (t : TraceValue) → IsTrace t → (old new : NameTable) (k : ℕ) (r : Process) → k < length t.processes → get_or t.processes k r ≡ r → AreNumbered t old k →
    ((name : List ℕ) → number_of new name ≡ cond (bytes_eq r.name name) (Some k) (number_of old name)) → AreNumbered t new (k + 1)
numbered_next t ok old new k r low there before more q p less at =
    elim (cases_order q k) [
      | inl e ↦ (
          let same : p ≡ r = sym at ∙ (ap (λ i. get_or t.processes i p) e ∙ get_or_default t.processes k p r low ∙ there) in
          more p.name ∙ cond-true (bytes_eq r.name p.name) (Some k) (number_of old p.name) (bytes_same r.name p.name (ap (λ (x : Process). x.name) (sym same))) ∙ ap Some (sym e))
      | inr (inl lower) ↦ (
          let other : bytes_eq r.name p.name ≡ false = false_from_ne_true (bytes_eq r.name p.name) (λ h.
          ok.distinct q k p lower low (ap (λ (x : Process). x.name) at ∙ (sym (same_bytes r.name p.name h) ∙ ap (λ (x : Process). x.name) (sym (get_or_default t.processes k p r low ∙ there))))) in
          more p.name ∙ cond-false (bytes_eq r.name p.name) (Some k) (number_of old p.name) other ∙ before q p lower at)
      | inr (inr higher) ↦ absurd (omega (arith, less, higher))
    ]

-- where the trace has an operation of the name, the number of its process is in the table, and its place is one of the process
pub record IsFound (t : TraceValue) (numbers : NameTable) (n : OpName) : Type 0 where
  pub number : ℕ
  pub process : Process
  pub low : number < length t.processes
  pub at : get_or t.processes number process ≡ process
  pub called : process.name ≡ n.process
  pub numbered : number_of numbers n.process ≡ Some number
  pub least : 1 ≤ n.place
  pub most : n.place ≤ length process.operations

pub found : (t : TraceValue) (numbers : NameTable) → AreNumbered t numbers (length t.processes) → (n : OpName) → IsSome (operation_at t n) → IsFound t numbers n
found t numbers h n there =
    let named = known_named t n there in
    record {
      number = named.listed.0;
      process = named.process;
      low = named.listed.1;
      at = named.listed.2;
      called = named.called;
      numbered = subst (λ a. number_of numbers a ≡ Some named.listed.0) named.called (h named.listed.0 named.process named.listed.1 named.listed.2);
      least = named.least;
      most = named.most;
    }

-- what is read as no number writes none
pub value_read : (o : Option ℕ) (word : List ℕ) → o ≡ plain_number_up_to (2 ^ 64 - 1) word → MatchOption o ((value : ℕ) → value < 2 ^ 64 → word ≡ decimal value → ⊥) (λ value. word ≡ decimal value)
value_read None word h = λ value small e. none-some value (h ∙ ap (plain_number_up_to (2 ^ 64 - 1)) e
    ∙ ap (option_and_then (λ n. cond (leb n (2 ^ 64 - 1)) (Some n) None)) (decimal_is_plain value small)
    ∙ cond-true (leb value (2 ^ 64 - 1)) (Some value) None (le-leb value (2 ^ 64 - 1) (omega (arith, small))))
value_read (Some value) word h = value_written (Some value) word h
