-- What is wrong with the pieces of a reader is wrong with its line, and what they ask for the line does.
use Rattle.std.proofs.Common.{◌≡◌, ℕ, List, inr, subst}
use Rattle.std.specs.Prelude.{Some}
use Rattle.trace_semantics.specs.declared.operation.Op.{Op}
use Rattle.trace_semantics.specs.declared.operation.Origin.{Origin}
use Rattle.trace_semantics.specs.Operation.{location_of, value_read, origin_of}
use Rattle.trace_semantics.specs.Trace.{TraceValue}
use Rattle.writer_table.specs.declared.operation_place.OperationPlace.{OperationPlace}
use Rattle.order_clauses.specs.declared.order_pair.OrderPair.{OrderPair}
use Rattle.reason_clauses.specs.Makers.{IsNumberOf}
use Rattle.reason_clauses.specs.SourceRefused.{AreNotGiven, NotGiven, IsReaderRefused, Partly, IsReaderOrder, IsSourceRefused, IsSourceOrder}
use Rattle.reason_clauses.specs.declared.cause.ReasonCause.{ReasonCause}
use Rattle.reason_clauses.specs.declared.pieces.SourcePieces.{SourcePieces}

module _ (t : TraceValue) (r : OperationPlace) (pieces : SourcePieces) (op : Op) (d : ℕ) (location : List ℕ) (origin : Origin) (place : location ≡ location_of op) (said : origin ≡ origin_of op) (number : IsNumberOf t r op) (reads : value_read op ≡ Some d) where
  pub reader_refused : (cause : ReasonCause) → IsReaderRefused t r pieces origin location d cause → IsSourceRefused t r pieces cause
  reader_refused cause h = inr (op, d, number, reads, subst (λ l. IsReaderRefused t r pieces (origin_of op) l d cause) place (subst (λ o. IsReaderRefused t r pieces o location d cause) said h))

  pub reader_order : (o : OrderPair) → IsReaderOrder t r pieces origin location d o → IsSourceOrder t r pieces o
  reader_order o h = (op, d, number, reads, subst (λ l. IsReaderOrder t r pieces (origin_of op) l d o) place (subst (λ from. IsReaderOrder t r pieces from location d o) said h))

pub given_refused : (t : TraceValue) (r : OperationPlace) (pieces : SourcePieces) (op : Op) (d : ℕ) (location : List ℕ) → location ≡ location_of op → IsNumberOf t r op → value_read op ≡ Some d → (cause : ReasonCause) → AreNotGiven t location d r pieces cause → IsSourceRefused t r pieces cause
given_refused t r pieces op d location place number reads cause h = inr (op, d, number, reads, Partly (NotGiven (subst (λ l. AreNotGiven t l d r pieces cause) place h)))
