-- Operations by words.
use Rattle.std.proofs.Common.{◌≡◌, ◌<◌, ◌≤◌, ◌-◌, ℕ, List, [], ◌∷◌, ◌++◌, length, get_or, ap, sym, ◌∙◌, arith, append_assoc, append-nil}
use Rattle.std.specs.Prelude.{Some}
use Rattle.std.specs.List.{slice_get}
use Rattle.std.proofs.lemmas.List.{map_push}
use Rattle.std.proofs.lemmas.Option.{slice_get-get_or}
use Rattle.trace_semantics.specs.Trace.{TraceValue, IsTrace}
use Rattle.trace_semantics.specs.declared.operation.Op.{Op}
use Rattle.trace_semantics.specs.declared.trace.Process.{Process}
use Rattle.order_clauses.specs.Numbered.{IsKnown}
use Rattle.reason_clauses.proofs.MakerLemmas.{number_of_operation, number_known}
use Rattle.writer_table.specs.declared.operation_place.OperationPlace.{OperationPlace}
use Rattle.reason_text.specs.OperationWord.{operation_word, operation_words}

-- one word more
pub next_word : (t : TraceValue) (words rest after : List (List ℕ)) (operations : List OperationPlace) (word : List ℕ) (n : OperationPlace) → words ≡ operation_words t operations ++ rest → rest ≡ word ∷ after → word ≡ operation_word t n →
    words ≡ operation_words t (operations ++ n ∷ []) ++ after
next_word t words rest after operations word n e f g =
    e ∙ ap (λ r. operation_words t operations ++ r) (f ∙ (λ i. g i ∷ after))
    ∙ sym (ap (λ l. l ++ after) (map_push (operation_word t) operations n) ∙ append_assoc (operation_words t operations) (operation_word t n ∷ []) after)

-- no further word
pub last_word : (t : TraceValue) (words rest : List (List ℕ)) (operations : List OperationPlace) → words ≡ operation_words t operations ++ rest → rest ≡ [] → words ≡ operation_words t operations
last_word t words rest operations e f = e ∙ ap (λ r. operation_words t operations ++ r) f ∙ append-nil (operation_words t operations)

operation_there : (xs : List Op) (k : ℕ) → k < length xs → (op : Op) × (slice_get xs k ≡ Some op)
operation_there [] k l = absurd (omega (arith, l))
operation_there (x ∷ xs) k l = (get_or (x ∷ xs) k x, slice_get-get_or (x ∷ xs) k x l)

-- a place of a process is that of an operation
pub is_known : (t : TraceValue) → IsTrace t → (n : OperationPlace) (p : Process) → n.process < length t.processes → get_or t.processes n.process p ≡ p → 1 ≤ n.place → n.place ≤ length p.operations → IsKnown t n
is_known t ok n p low at some most =
    let op = operation_there p.operations (n.place - 1) (omega (arith, some, most)) in
    number_known t n op.0 (number_of_operation t ok n p op.0 low at some op.1)
