-- The numbers and the names of the causes for which the dealing machine refuses an event.
use Rattle.std.specs.Prelude.{ℕ, List, codes}
use Rattle.dealing.specs.declared.refused.EventCause.{EventCause}
use Rattle.dealing.specs.declared.refused.EventCause.TheVariants.{PutTwice, NoJob, Busy, HoldsNothing, NoResult, NoSuchWorker}

abbrev pub cause_number : EventCause → ℕ
cause_number PutTwice = 2
cause_number NoJob = 3
cause_number Busy = 4
cause_number HoldsNothing = 5
cause_number NoResult = 6
cause_number NoSuchWorker = 7

abbrev pub cause_name : EventCause → List ℕ
cause_name PutTwice = codes "PutTwice"
cause_name NoJob = codes "NoJob"
cause_name Busy = codes "Busy"
cause_name HoldsNothing = codes "HoldsNothing"
cause_name NoResult = codes "NoResult"
cause_name NoSuchWorker = codes "NoSuchWorker"
