-- The possible sources of a reading operation, and the possible last writers of a location, with what a clause says of each.
use Rattle.std.specs.Prelude.{◌≡◌, ◌≢◌, ◌⊎◌, ⊤, ℕ, Some, None, IsSome, List}
use Rattle.trace_semantics.specs.declared.operation.Op.{Op}
use Rattle.trace_semantics.specs.declared.operation.OpName.{OpName}
use Rattle.trace_semantics.specs.declared.operation.Origin.{Origin}
use Rattle.trace_semantics.specs.declared.operation.Origin.TheVariants.{Any, Initial, Operation}
use Rattle.trace_semantics.specs.Operation.{location_of, value_read, origin_of}
use Rattle.trace_semantics.specs.Trace.{TraceValue, operation_at, value_of}
use Rattle.trace_semantics.specs.ValueAfter.{value_left_at}
use Rattle.order_reasons.specs.Reasons.{Says, IsUpTo, IsWitness, value_read_at}

-- from where a value is: an operation left it, or it is the initial value of a location
pub data ValueSource : Type 0 where
  LeftBy : OpName → ValueSource
  InitialAt : List ℕ → ValueSource

-- what is said of where a value comes from lets it come from w, or be the initial value
abbrev pub AllowsWriter : Origin → OpName → Type 0
AllowsWriter Any w = ⊤
AllowsWriter Initial w = ⊥
AllowsWriter (Operation n) w = w ≡ n

abbrev pub AllowsInitial : Origin → Type 0
AllowsInitial Any = ⊤
AllowsInitial Initial = ⊤
AllowsInitial (Operation n) = ⊥

-- If r reads d from w, one of the orders that the clause says stands.
-- Hidden: a witness other than r stands before w, if it is not w itself, or after r; so, as it is not c, it stands before c, which is w or comes after it, or after r.
-- Behind: c, which is w or comes before it, stands before r.
-- Apart: an operation u stands after c, which is w or comes before it, or before r.
pub data IsBarred (t : TraceValue) (clause : List (OpName × OpName)) (location : List ℕ) (d : ℕ) (r w : OpName) : Type 0 where
  Hidden : (x c : OpName) → IsWitness t location d x → x ≢ r → x ≢ c → IsUpTo t w c → Says t clause x c → Says t clause r x → IsBarred t clause location d r w
  Behind : (c : OpName) → IsUpTo t c w → Says t clause c r → IsBarred t clause location d r w
  Apart : (c u : OpName) → IsUpTo t c w → IsSome (operation_at t u) → Says t clause c u → Says t clause u r → IsBarred t clause location d r w

-- if r reads the initial value d, a witness stands after it, and the clause says so
pub record IsInitialBarred (t : TraceValue) (clause : List (OpName × OpName)) (location : List ℕ) (d : ℕ) (r : OpName) : Type 0 where
  pub witness : OpName
  pub witnesses : IsWitness t location d witness
  pub other : witness ≢ r
  pub says : Says t clause r witness

-- r is a reading operation, and the clause bars each of its possible sources but those of some kind
pub record BarsSources (t : TraceValue) (clause : List (OpName × OpName)) (r : OpName) (kept : ValueSource → Type 0) : Type 0 where
  pub op : Op
  pub value : ℕ
  pub known : operation_at t r ≡ Some op
  pub reads : value_read op ≡ Some value
  pub writers : (w : OpName) → value_left_at t (location_of op) w ≡ Some value → AllowsWriter (origin_of op) w → IsBarred t clause (location_of op) value r w ⊎ kept (LeftBy w)
  pub initial : value_of t.initial (location_of op) ≡ Some value → AllowsInitial (origin_of op) → IsInitialBarred t clause (location_of op) value r ⊎ kept (InitialAt (location_of op))

-- the clause bars each possible source of r: as r has a source, one of the clause's orders stands
abbrev pub IsSourceClause : TraceValue → List (OpName × OpName) → OpName → Type 0
IsSourceClause t clause r = BarsSources t clause r (λ s. ⊥)

-- a witness against a last writer of the location: it writes there, or reads another value than the final one
abbrev pub IsLateWitness : TraceValue → List ℕ → OpName → Type 0
IsLateWitness t location x = IsSome (value_left_at t location x) ⊎ ((e : ℕ) × (d : ℕ) × (value_read_at t location x ≡ Some e) × (value_of t.final_values location ≡ Some d) × (e ≢ d))

-- if w is the last writer, no witness stands after it, so one other than the bound stands before the bound, which is w or comes after it; and the clause says so
pub record IsLastBarred (t : TraceValue) (clause : List (OpName × OpName)) (location : List ℕ) (w : OpName) : Type 0 where
  pub witness : OpName
  pub bound : OpName
  pub witnesses : IsLateWitness t location witness
  pub other : witness ≢ bound
  pub above : IsUpTo t w bound
  pub says : Says t clause witness bound

-- some operation writes the location, and the clause bars each that may be the last to do so, as it leaves the final value if there is one, but those of some kind
pub record BarsLastWriters (t : TraceValue) (clause : List (OpName × OpName)) (location : List ℕ) (kept : ValueSource → Type 0) : Type 0 where
  pub writer : OpName
  pub writes : IsSome (value_left_at t location writer)
  pub writers : (w : OpName) (e : ℕ) → value_left_at t location w ≡ Some e → ((d : ℕ) → value_of t.final_values location ≡ Some d → d ≡ e) → IsLastBarred t clause location w ⊎ kept (LeftBy w)

-- the clause bars each last writer of the location; or no operation writes there, and the final value is not the initial one
abbrev pub IsLastClause : TraceValue → List (OpName × OpName) → List ℕ → Type 0
IsLastClause t clause location = BarsLastWriters t clause location (λ s. ⊥)

pub record IsLostFinal (t : TraceValue) (location : List ℕ) : Type 0 where
  pub value : ℕ
  pub final_value : value_of t.final_values location ≡ Some value
  pub initial : value_of t.initial location ≢ Some value
  pub unwritten : (w : OpName) → value_left_at t location w ≡ None
