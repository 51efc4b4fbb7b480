-- The faults of engines, as they are numbered and printed, and the exit statuses.
use Rattle.std.specs.Prelude.{◌≡◌, ◌+◌, ℕ, List, ◌++◌, Option, Some, None, Result, Ok, Err, codes}
use Rattle.dimacs.specs.declared.sink_fault.SinkFault.{SinkFault}
use Rattle.dimacs.specs.declared.sink_fault.SinkFault.TheVariants.{OutOfMemory as NoRoom, Device as SinkFailed}
use Rattle.trace_semantics.specs.declared.judgement.Judgement.{Judgement}
use Rattle.trace_semantics.specs.declared.judgement.Judgement.TheVariants.{Legal, Illegal}
use Rattle.text_lines.specs.Printed.{printed_at}
use Rattle.text_lines.specs.declared.fault.PlacedFault.{PlacedFault as PartFault}
use Rattle.text_lines.specs.declared.fault.PlacedFault.TheVariants.{OutOfMemory as NoPartMemory, At}
use Rattle.text_lines.specs.declared.plain_fault.PlainFault.{PlainFault}
use Rattle.text_lines.specs.declared.plain_fault.PlainFault.TheVariants.{OutOfMemory as NoMemoryToSearch, For}
use Rattle.cnf_text.specs.CnfCauses as cnf
use Rattle.certificate.specs.CertCause as cert
use Rattle.lrat_check.specs.LratFault as lrat
use Rattle.lrat_check.specs.Refusal as check
use Rattle.model_text.specs.ModelCauses as model
use Rattle.reason_clauses.specs.Cause as reasons
use Rattle.reducer.specs.ReduceCauses as reduce
use Rattle.schedule_decode.specs.DecodeCauses as decode
use Rattle.schedule_text.specs.ScheduleCauses as schedule
use Rattle.trace_part.specs.PartCauses as part
use Rattle.trace_text.specs.TraceCauses as trace
use Rattle.cube_jobs.specs.SearchCauses as search
use Rattle.cube_jobs.specs.declared.search_fault.SearchCause.{SearchCause}
use Rattle.verdict_report.specs.declared.fault.Fault.{Fault}
use Rattle.verdict_report.specs.declared.fault.Fault.TheVariants.{OutOfMemory, Device, InputTooLong, Trace, Schedule, Part, Model, Cnf, Lrat, Reduce, Decode, Check, Cert, Reasons, Search}
use Rattle.reason_check.specs.declared.reasons_fault.ReasonsFault.{ReasonsFault}
use Rattle.reason_check.specs.declared.reasons_fault.ReasonsFault.TheVariants.{OutOfMemory as NoReasonMemory, Line, Lrat as BadText, Step}
use Rattle.verdict_report.specs.declared.reading.ReadFault.{ReadFault}
use Rattle.verdict_report.specs.declared.reading.ReadFault.TheVariants.{OutOfMemory as NoReadMemory, Device as SourceFailed, TooLong}
use Rattle.verdict_report.specs.declared.status.Status.{Status}
use Rattle.verdict_report.specs.declared.status.Status.TheVariants.{Yes, No, Unknown}

-- what is reported of a fault: what refused, the number where it is printed, the name, and what stands after `at`
pub record Told : Type 0 where
  pub area : List ℕ
  pub number : Option ℕ
  pub name : List ℕ
  pub place : Option ℕ

-- of a cause of this number and this name at a place
abbrev pub located : List ℕ → ℕ → List ℕ → ℕ → Told
located area number name place = record { area = area; number = Some number; name = name; place = Some place }

abbrev pub told : Fault → Told
told OutOfMemory = record { area = codes "memory"; number = None; name = codes "OutOfMemory"; place = None }
told Device = record { area = codes "device"; number = None; name = codes "Device"; place = None }
told InputTooLong = record { area = codes "input"; number = Some 2; name = codes "InputTooLong"; place = None }
told (Trace cause line) = located (codes "trace") (trace.cause_number cause) (trace.cause_name cause) line
told (Schedule cause line) = located (codes "schedule") (schedule.cause_number cause) (schedule.cause_name cause) line
told (Part cause line) = located (codes "part") (part.cause_number cause) (part.cause_name cause) line
told (Model cause line) = located (codes "model") (model.cause_number cause) (model.cause_name cause) line
told (Cnf cause line) = located (codes "cnf") (cnf.cause_number cause) (cnf.cause_name cause) line
told (Lrat cause line) = located (codes "lrat") (lrat.cause_number cause) (lrat.cause_name cause) line
told (Reduce cause left) = located (codes "reduce") (reduce.cause_number cause) (reduce.cause_name cause) left
told (Decode cause clause) = located (codes "decode") (decode.cause_number cause) (decode.cause_name cause) clause
told (Search cause) = record { area = codes "search"; number = Some (search.cause_number cause); name = search.cause_name cause; place = None }
told (Check cause step) = located (codes "check") (check.fault_number cause) (check.fault_name cause) step
told (Cert cause place) = located (codes "cert") (cert.cause_number cause) (cert.cause_name cause) place
told (Reasons cause line) = located (codes "reasons") (reasons.cause_number cause) (reasons.cause_name cause) line

-- what refused
abbrev pub area_of : Fault → List ℕ
area_of fault = (told fault).area

-- the number of a fault in its area
abbrev pub number_of : Fault → Option ℕ
number_of OutOfMemory = Some 1
number_of fault = (told fault).number

-- its name
abbrev pub name_of : Fault → List ℕ
name_of fault = (told fault).name

-- what it has after `at`: a line, how many operations are left, the number of a clause, a step, or a leaf
abbrev pub place_of : Fault → Option ℕ
place_of fault = (told fault).place

-- the area, and then the number, the name and the place; where there is no number, the area alone
abbrev pub printed_parts : List ℕ → Option ℕ → List ℕ → Option ℕ → List ℕ
printed_parts area None name place = area
printed_parts area (Some number) name place = area ++ (codes " " ++ printed_at number name place)

-- a fault as it is printed, as `trace 13 TooManyOps at 4099`
abbrev pub printed : Fault → List ℕ
printed fault = printed_parts (told fault).area (told fault).number (told fault).name (told fault).place

-- the line that reports it
abbrev pub line_of : Fault → List ℕ
line_of fault = codes "refused: " ++ (printed fault ++ codes "\n")

-- what a fault of a part becomes, by what its causes become
abbrev pub fault_of_part : {C : Type 0} → (C → ℕ → Fault) → PartFault C → Fault
fault_of_part refusal NoPartMemory = OutOfMemory
fault_of_part refusal (At cause place) = refusal cause place

abbrev pub fault_of_reading : ReadFault → Fault
fault_of_reading NoReadMemory = OutOfMemory
fault_of_reading SourceFailed = Device
fault_of_reading TooLong = InputTooLong

-- what is wrong with a derivation of reasons is said as of any derivation
abbrev pub fault_of_reasons : ReasonsFault → Fault
fault_of_reasons NoReasonMemory = OutOfMemory
fault_of_reasons (Line cause line) = Reasons cause line
fault_of_reasons (BadText cause line) = Lrat cause line
fault_of_reasons (Step fault step) = Check fault step

-- lack of memory is the engine's own
abbrev pub fault_of_search : PlainFault SearchCause → Fault
fault_of_search NoMemoryToSearch = OutOfMemory
fault_of_search (For cause) = Search cause

abbrev pub fault_of_sink : SinkFault → Fault
fault_of_sink NoRoom = OutOfMemory
fault_of_sink SinkFailed = Device

-- the status that goes with a judgement
abbrev pub status_after : Judgement → Status
status_after Legal = Yes
status_after (Illegal cause place) = No

-- the exit status of the program
abbrev pub exit_status_of : Result Status Fault → ℕ
exit_status_of (Ok Yes) = 0
exit_status_of (Ok No) = 1
exit_status_of (Ok Unknown) = 3
exit_status_of (Err Device) = 4
exit_status_of (Err fault) = 2
