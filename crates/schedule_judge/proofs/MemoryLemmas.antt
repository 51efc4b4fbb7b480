-- Memory after the operations so far.
use Rattle.std.proofs.Common.{◌≡◌, ℕ, List, [], ◌∷◌, ◌++◌, Bool, true, false, cond, refl, ap, sym, ◌∙◌}
use Rattle.std.specs.Prelude.{Option, Some, None, is_some, MatchOption}
use Rattle.std.specs.List.{slice_get, filter, last_or}
use Rattle.std.specs.Option.{option_and_then}
use Rattle.std.specs.Str.{bytes_eq}
use Rattle.text_lines.proofs.LastLemmas.{over, last_given}
use Rattle.text_lines.proofs.BoolLemmas.{hidden_none}
use Rattle.schedule_judge.specs.declared.memory.Memory.{Memory}
use Rattle.trace_semantics.specs.declared.operation.Op.{Op}
use Rattle.trace_semantics.specs.declared.operation.OpName.{OpName}
use Rattle.schedule_judge.specs.Memory.{IsMemoryAfter, Writes, Runs, writer_of}
use Rattle.trace_semantics.specs.Operation.{location_of, written_value}
use Rattle.trace_semantics.specs.NameNumbers.{number_of}
use Rattle.trace_semantics.specs.Trace.{TraceValue, operation_at, value_of}
use Rattle.trace_semantics.specs.ValueAfter.{value_left_at, value_after, last_writer}

last_push : {X : Type 0} (p : X → Bool) (o : Option X) (xs : List X) (x : X) → last_or o (filter p (xs ++ x ∷ [])) ≡ cond (p x) (Some x) (last_or o (filter p xs))
last_push {X = X} p o [] x = chosen (p x)
  where
    chosen : (b : Bool) → last_or o (cond b (x ∷ []) []) ≡ cond b (Some x) o
    chosen true = refl
    chosen false = refl
last_push {X = X} p o (y ∷ ys) x = chosen (p y) (λ o. last_push p o ys x)
  where
    chosen : (b : Bool) → ((o : Option X) → last_or o (filter p (ys ++ x ∷ [])) ≡ cond (p x) (Some x) (last_or o (filter p ys))) → last_or o (cond b (y ∷ filter p (ys ++ x ∷ [])) (filter p (ys ++ x ∷ []))) ≡ cond (p x) (Some x) (last_or o (cond b (y ∷ filter p ys) (filter p ys)))
    chosen true rest = rest (Some y)
    chosen false rest = rest o

value_push : (t : TraceValue) (location : List ℕ) (done : List OpName) (n : OpName) (o : Option ℕ) → value_left_at t location n ≡ o → value_after t location (done ++ n ∷ []) ≡ over o (value_after t location done)
value_push t location done n o e = last_given (value_left_at t location) (value_of t.initial location) done n ∙ ap (λ v. over v (value_after t location done)) e

writer_push : (t : TraceValue) (location : List ℕ) (done : List OpName) (n : OpName) (o : Option ℕ) → value_left_at t location n ≡ o → last_writer t location (done ++ n ∷ []) ≡ cond (is_some o) (Some n) (last_writer t location done)
writer_push t location done n o e = last_push (λ m. is_some (value_left_at t location m)) None done n ∙ ap (λ v. cond (is_some v) (Some n) (last_writer t location done)) e

left_at : (t : TraceValue) (location : List ℕ) (n : OpName) (op : Op) (w : Option ℕ) → operation_at t n ≡ Some op → written_value op ≡ w → value_left_at t location n ≡ cond (bytes_eq (location_of op) location) w None
left_at t location n op w known value = ap (option_and_then (λ op. cond (bytes_eq (location_of op) location) (written_value op) None)) known ∙ ap (λ v. cond (bytes_eq (location_of op) location) v None) value

chosen_value : (b : Bool) (v : ℕ) (o : Option ℕ) → cond b (Some v) o ≡ over (cond b (Some v) None) o
chosen_value true v o = refl
chosen_value false v o = refl

chosen_writer : (names : List OpName) (place : ℕ) (n : OpName) (b : Bool) (v : ℕ) (o : Option ℕ) (w : Option OpName) → slice_get names place ≡ Some n → option_and_then (slice_get names) o ≡ w → option_and_then (slice_get names) (cond b (Some place) o) ≡ cond (is_some (cond b (Some v) None)) (Some n) w
chosen_writer names place n true v o w at e = at
chosen_writer names place n false v o w at e = e

-- one more operation is run
run_step : (t : TraceValue) (names done : List OpName) (old new : Memory) (n : OpName) (op : Op) (place : ℕ) (w : Option ℕ) → written_value op ≡ w → IsMemoryAfter t names done old → slice_get names place ≡ Some n → operation_at t n ≡ Some op → MatchOption w (new ≡ old) (λ value. Writes old (location_of op) value place new) → IsMemoryAfter t names (done ++ n ∷ []) new
run_step t names done old new n op place None value before at known stays = record {
  values = λ location. ap (λ (m : Memory). number_of m.values location) stays ∙ before.values location ∙ sym (value_push t location done n None (left_at t location n op None known value ∙ hidden_none (bytes_eq (location_of op) location) None refl));
  writers = λ location. ap (λ (m : Memory). writer_of names m location) stays ∙ before.writers location ∙ sym (writer_push t location done n None (left_at t location n op None known value ∙ hidden_none (bytes_eq (location_of op) location) None refl));
}
run_step t names done old new n op place (Some v) value before at known writes = record {
  values = λ location. writes.values location ∙ ap (cond (bytes_eq (location_of op) location) (Some v)) (before.values location) ∙ chosen_value (bytes_eq (location_of op) location) v (value_after t location done) ∙ sym (value_push t location done n (cond (bytes_eq (location_of op) location) (Some v) None) (left_at t location n op (Some v) known value));
  writers = λ location. ap (option_and_then (slice_get names)) (writes.writers location) ∙ chosen_writer names place n (bytes_eq (location_of op) location) v (number_of old.writers location) (last_writer t location done) at (before.writers location) ∙ sym (writer_push t location done n (cond (bytes_eq (location_of op) location) (Some v) None) (left_at t location n op (Some v) known value));
}

pub memory_run : (t : TraceValue) (names done : List OpName) (old new : Memory) (n : OpName) (op : Op) (place : ℕ) → IsMemoryAfter t names done old → slice_get names place ≡ Some n → operation_at t n ≡ Some op → Runs old op place new → IsMemoryAfter t names (done ++ n ∷ []) new
memory_run t names done old new n op place before at known runs = run_step t names done old new n op place (written_value op) refl before at known runs
