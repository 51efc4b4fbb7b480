-- Of the writers of a location that stand before an operation, the last ones.
use Rattle.std.specs.Prelude.{◌≡◌, ◌≤◌, ◌&&◌, not, true, false, nat_le, ◌==◌, ℕ, List, [], ◌∷◌, Option, Some, None, Bool, if◌then◌else◌}
use Rattle.std.specs.List.{Contains, list_any}
use Rattle.trace_semantics.specs.Judgement.{is_held}
use Rattle.forced_order.specs.declared.numbered.OperationNumber.{OperationNumber}
use Rattle.forced_order.specs.Rows.{OrderValue, stands_by}
use Rattle.trace_part.specs.declared.writers.ChosenWriter.{ChosenWriter}
use Rattle.trace_part.specs.Rows.{is_same}

-- what stands before a writer stands before the later writers of its process too
abbrev pub IsForwardAmong : OrderValue → List ChosenWriter → Type 0
IsForwardAmong order writers = (w x y : ChosenWriter) → Contains writers w → Contains writers x → Contains writers y → x.name.process ≡ y.name.process → x.name.place ≤ y.name.place → stands_by order w.name x.name ≡ true → stands_by order w.name y.name ≡ true

-- one of the latest is of the writer's process, and no earlier than it
abbrev pub IsCovered : List OperationNumber → ChosenWriter → Type 0
IsCovered latest x = (y : OperationNumber) × Contains latest y × (y.process ≡ x.name.process) × (x.name.place ≤ y.place)

-- the latest are writers that stand before the reader, and each writer that does is covered
pub record AreLatest (order : OrderValue) (writers : List ChosenWriter) (reader : OperationNumber) (latest : List OperationNumber) : Type 0 where
  pub among : (y : OperationNumber) → Contains latest y → (x : ChosenWriter) × Contains writers x × (x.name ≡ y) × (stands_by order y reader ≡ true)
  pub cover : (x : ChosenWriter) → Contains writers x → stands_by order x.name reader ≡ true → IsCovered latest x

-- by the latest writers, the reader may read the value from w
abbrev pub is_source_by : OrderValue → List OperationNumber → OperationNumber → ℕ → ChosenWriter → Bool
is_source_by order latest reader d w = is_held w.value d && (not (is_same w.name reader) && (not (stands_by order reader w.name) && not (list_any (stands_by order w.name) latest)))

-- the next of the writers is of the same process, no earlier, and stands before the reader
abbrev pub follows_by : OrderValue → OperationNumber → ChosenWriter → Option ChosenWriter → Bool
follows_by order reader x None = false
follows_by order reader x (Some next) = (next.name.process == x.name.process) && (nat_le x.name.place next.name.place && stands_by order next.name reader)

-- the writer stands before the reader, and the next of the writers does not take its place
abbrev pub is_latest : OrderValue → OperationNumber → ChosenWriter → Option ChosenWriter → Bool
is_latest order reader x next = stands_by order x.name reader && not (follows_by order reader x next)

-- the writer's name, if it is one of the latest
abbrev pub latest_of : OrderValue → OperationNumber → ChosenWriter → Option ChosenWriter → List OperationNumber
latest_of order reader x next = if is_latest order reader x next then x.name ∷ [] else []
