-- What follows from an order and the only possible source of a reading operation.
use Rattle.std.specs.Prelude.{◌≡◌, ◌≢◌, true, ℕ, List, Some, Bool}
use Rattle.trace_semantics.specs.declared.operation.Op.{Op}
use Rattle.trace_semantics.specs.declared.operation.OpName.{OpName}
use Rattle.trace_semantics.specs.Operation.{location_of, value_read}
use Rattle.trace_semantics.specs.Trace.{TraceValue, operation_at, value_of}
use Rattle.part_law.specs.Part.{writes_at, may_be_source}

-- n reads at the location a value that is not the initial one, and w alone may be its source
pub record IsOnlySource (t : TraceValue) (ordered : OpName → OpName → Bool) (location : List ℕ) (w n : OpName) : Type 0 where
  pub op : Op
  pub value : ℕ
  pub known : operation_at t n ≡ Some op
  pub location_is : location_of op ≡ location
  pub reads : value_read op ≡ Some value
  pub not_initial : value_of t.initial location ≢ Some value
  pub only : (x : OpName) → may_be_source t ordered n location value x ≡ true → x ≡ w

-- the only source stands before what reads from it, and another writer of the location before both or after both
pub data IsDerived (t : TraceValue) (ordered : OpName → OpName → Bool) (m n : OpName) : Type 0 where
  Source : (location : List ℕ) → IsOnlySource t ordered location m n → IsDerived t ordered m n
  After : (location : List ℕ) (w : OpName) → IsOnlySource t ordered location w m → writes_at t location n ≡ true → n ≢ m → ordered w n ≡ true → IsDerived t ordered m n
  Before : (location : List ℕ) (r : OpName) → IsOnlySource t ordered location n r → writes_at t location m ≡ true → m ≢ n → ordered m r ≡ true → IsDerived t ordered m n
