-- Lists of which the first twelve are said.
use Rattle.std.proofs.Common.{◌≡◌, ◌≢◌, ◌≤◌, ◌++◌, ℕ, zero, suc, List, [], refl, ap, length, take, decimal}
use Rattle.std.specs.Prelude.{Some}
use Rattle.std.proofs.lemmas.List.{take_all}
use Rattle.trace_semantics.specs.declared.operation.Op.{Op}
use Rattle.trace_semantics.specs.Operation.{location_of, value_read}
use Rattle.trace_semantics.specs.Trace.{TraceValue, operation_at}
use Rattle.order_clauses.specs.Numbered.{named}
use Rattle.writer_table.specs.declared.operation_place.OperationPlace.{OperationPlace}
use Rattle.reason_text.specs.OperationWord.{operation_word}
use Rattle.reason_notes.specs.Words.{more_text, read_text, read_words, value_text}

module _ {A : Type 0} where
  -- all of a short list
  pub take_short : (xs : List A) → length xs ≤ 12 → take 12 xs ≡ xs
  take_short xs few = take_all 12 xs few

-- nothing is left
pub more_none : (lead tail : List ℕ) (count : ℕ) → count ≡ 0 → more_text lead tail count ≡ []
more_none lead tail zero e = refl
more_none lead tail (suc n) e = absurd (cc)

-- some are left
pub more_some : (lead tail : List ℕ) (count : ℕ) → count ≢ 0 → more_text lead tail count ≡ lead ++ (decimal count ++ tail)
more_some lead tail zero e = absurd (e refl)
more_some lead tail (suc n) e = refl

-- what a known operation reads
pub read_of_known : (t : TraceValue) (n : OperationPlace) (op : Op) → operation_at t (named t n) ≡ Some op → read_text t n ≡ operation_word t n ++ value_text (location_of op) (value_read op)
read_of_known t n op e = ap (λ o. operation_word t n ++ read_words o) e
