-- Runs of the dealing machine over a list of events, of which those that are refused are skipped.
use Rattle.std.specs.Prelude.{List, [], ◌∷◌, is_some, if◌then◌else◌}
use Rattle.dealing.specs.declared.event.Event.{Event}
use Rattle.dealing.specs.Machine.{State, refusal_of, after}

-- the machine after all events
abbrev pub run : State → List Event → State
run m [] = m
run m (event ∷ events) = run (if is_some (refusal_of m event) then m else after m event) events

-- the events that were not refused, in order
abbrev pub accepted : State → List Event → List Event
accepted m [] = []
accepted m (event ∷ events) = if is_some (refusal_of m event) then accepted m events else event ∷ accepted (after m event) events
