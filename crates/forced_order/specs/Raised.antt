-- Rows in which one place may have been raised.
use Rattle.std.specs.Prelude.{◌≡◌, ◌⊎◌, ◌<◌, slice_index_or, ℕ, Bool, true, false, List, []}
use Rattle.forced_order.specs.declared.numbered.OperationNumber.{OperationNumber}
use Rattle.trace_semantics.specs.Trace.{TraceValue}
use Rattle.forced_order.specs.Forced.{AreForced}
use Rattle.forced_order.specs.Room.{room}
use Rattle.forced_order.specs.Rows.{OrderValue, HasRow, HasRows, last_before}

-- each place is as it was, or is that of the process and now this one
abbrev pub IsRowRaised : List ℕ → List ℕ → ℕ → ℕ → Type 0
IsRowRaised old new process place = (q : ℕ) → (slice_index_or new q 0 ≡ slice_index_or old q 0) ⊎ ((q ≡ process) × (slice_index_or new q 0 ≡ place))

abbrev pub AreRowsRaised : List (List ℕ) → List (List ℕ) → ℕ → ℕ → ℕ → Type 0
AreRowsRaised old new at process place = (k q : ℕ) →
    (slice_index_or (slice_index_or new k []) q 0 ≡ slice_index_or (slice_index_or old k []) q 0)
    ⊎ ((k ≡ at) × (q ≡ process) × (slice_index_or (slice_index_or new k []) q 0 ≡ place))

abbrev pub IsRaised : OrderValue → OrderValue → OperationNumber → ℕ → ℕ → Type 0
IsRaised old new at process place = (n : OperationNumber) (q : ℕ) →
    (last_before new n q ≡ last_before old n q)
    ⊎ ((n.process ≡ at.process) × (n.place ≡ at.place) × (q ≡ process) × (last_before new n q ≡ place))

-- some place rose, so that there is less room, or nothing changed; each operation that had a row has one
pub record IsRise (rose : Bool) (old new : OrderValue) : Type 0 where
  pub less : rose ≡ true → room new < room old
  pub same : rose ≡ false → new ≡ old
  pub rows : (n : OperationNumber) → HasRow old n → HasRow new n

-- a pass over steps raises no more than is forced, and if nothing rises, these steps are closed
pub record IsPass (t : TraceValue) (rose : Bool) (old new : OrderValue) (Closed : OrderValue → Type 0) : Type 0 where
  pub forced : AreForced t old → AreForced t new
  pub rise : IsRise rose old new
  pub closed : rose ≡ false → HasRows t.processes old → Closed new
