-- Orders of operations by numbers, as the code keeps them.
use Rattle.std.specs.Prelude.{◌≡◌, ◌≤◌, ◌⊎◌, ℕ, List, Option, Some}
use Rattle.std.specs.List.{Contains}
use Rattle.trace_semantics.specs.declared.operation.OpName.{OpName}
use Rattle.trace_semantics.specs.Trace.{TraceValue}
use Rattle.writer_table.specs.declared.operation_place.OperationPlace.{OperationPlace}
use Rattle.order_clauses.specs.declared.order_pair.OrderPair.{OrderPair}
use Rattle.reason_clauses.specs.declared.stretches.Stretches.{Stretches}
use Rattle.order_clauses.specs.Numbered.{named, IsKnown, named_orders}
use Rattle.order_reasons.specs.Reasons.{Says, IsUpTo, IsWitness}
use Rattle.order_reasons.specs.Sources.{IsBarred}

-- what the pairs say is in the clause
abbrev pub AreIn : TraceValue → List OrderPair → List (OpName × OpName) → Type 0
AreIn t orders clause = (p : OpName × OpName) → Contains (named_orders t orders) p → Contains clause p

-- each clause that has the new pairs has the old ones
abbrev pub Grows : List OrderPair → List OrderPair → Type 0
Grows old new = (t : TraceValue) (clause : List (OpName × OpName)) → AreIn t new clause → AreIn t old clause

-- each clause that has the new pairs says that m stands before n
abbrev pub MakesSay : List OrderPair → OperationPlace → OperationPlace → Type 0
MakesSay new m n = (t : TraceValue) (clause : List (OpName × OpName)) → AreIn t new clause → IsKnown t m → IsKnown t n → Says t clause (named t m) (named t n)

-- each clause that has the new pairs bars as a source of r what is up to the bound, if the witness is one
abbrev pub MakesHidden : List OrderPair → OperationPlace → OperationPlace → OperationPlace → Type 0
MakesHidden new r x c = (t : TraceValue) (clause : List (OpName × OpName)) (location : List ℕ) (d : ℕ) (w : OpName) → AreIn t new clause → IsKnown t r → IsKnown t x → IsKnown t c →
    IsWitness t location d (named t x) → (named t x ≡ named t r → ⊥) → (named t x ≡ named t c → ⊥) → IsUpTo t w (named t c) → IsBarred t clause location d (named t r) w

-- each clause that has the new pairs bars what c is up to, as c does not stand before u or u not before r
abbrev pub MakesApart : List OrderPair → OperationPlace → OperationPlace → OperationPlace → Type 0
MakesApart new r c u = (t : TraceValue) (clause : List (OpName × OpName)) (location : List ℕ) (d : ℕ) (w : OpName) → AreIn t new clause → IsKnown t r → IsKnown t c → IsKnown t u → IsUpTo t (named t c) w → IsBarred t clause location d (named t r) w

-- the place is in one of the stretches: up to the last hidden one, from the first later one on, or within the main one
abbrev pub IsTaken : Stretches → ℕ → Type 0
IsTaken s p = (p ≤ s.hidden) ⊎ (((1 ≤ s.later) × (s.later ≤ p)) ⊎ ((1 ≤ s.first) × (s.first ≤ p) × (p ≤ s.last)))

-- no stretch goes past this place
abbrev pub AreUpTo : Stretches → ℕ → Type 0
AreUpTo s n = (s.hidden ≤ n) × (s.later ≤ n) × (s.first ≤ n) × (s.last ≤ n)

-- the operation at a place of a process, by numbers
abbrev pub at_number : ℕ → ℕ → OperationPlace
at_number process place = record { process = process; place = place }

-- of the places up to n of a process, these are in the stretch
abbrev pub IsInHidden : Stretches → ℕ → ℕ → Type 0
IsInHidden s n p = (p ≤ s.hidden) × (s.hidden ≤ n)

abbrev pub IsFrom : ℕ → ℕ → ℕ → Type 0
IsFrom place n p = (1 ≤ place) × (place ≤ p)

abbrev pub IsInMain : Stretches → ℕ → ℕ → Type 0
IsInMain s n p = (1 ≤ s.first) × (s.first ≤ p) × (p ≤ s.last) × (s.last ≤ n)

abbrev pub AreTaken : Stretches → ℕ → ℕ → Type 0
AreTaken s n p = AreUpTo s n × IsTaken s p

-- different operations have different names
abbrev pub AreApart : TraceValue → Type 0
AreApart t = (m n : OperationPlace) → IsKnown t m → IsKnown t n → named t m ≡ named t n → m ≡ n

-- x is a witness against d at the location, and another operation than r
abbrev pub IsGivenWitness : TraceValue → List ℕ → ℕ → OperationPlace → OperationPlace → Type 0
IsGivenWitness t location d r x = IsKnown t x × IsWitness t location d (named t x) × (named t x ≡ named t r → ⊥)

abbrev pub IsGivenFront : TraceValue → List ℕ → ℕ → OperationPlace → Option OperationPlace → Type 0
IsGivenFront t location d r witness = (x : OperationPlace) → witness ≡ Some x → IsGivenWitness t location d r x

-- each clause that has the new pairs bars the operations of a process at the taken places as sources of r
abbrev pub BarsPlaces : List OrderPair → OperationPlace → ℕ → (TraceValue → List ℕ → ℕ → Type 0) → (ℕ → ℕ → Type 0) → Type 0
BarsPlaces new r process given taken = (t : TraceValue) (clause : List (OpName × OpName)) (location : List ℕ) (d n : ℕ) → AreApart t → AreIn t new clause → IsKnown t r → ((k : ℕ) → 1 ≤ k → k ≤ n → IsKnown t (at_number process k)) →
    given t location d → (p : ℕ) → 1 ≤ p → p ≤ n → taken n p → IsBarred t clause location d (named t r) (named t (at_number process p))
