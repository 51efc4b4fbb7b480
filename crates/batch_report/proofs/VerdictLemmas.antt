-- What is decided is so of a piece.
use Rattle.std.proofs.Common.{ℕ, List}
use Rattle.batch_report.specs.declared.piece_verdict.PieceVerdict.{PieceVerdict}
use Rattle.batch_report.specs.declared.piece_verdict.PieceVerdict.TheVariants.{Consistent, Refuted, RefutedCore, Reasoned, Open, Undecided, Refused}
use Rattle.batch_report.specs.PieceVerdicts.{IsVerdictOf, IsVerdictOn, verdict_of_decision, verdict_of_surveyed}
use Rattle.cube_jobs.specs.declared.search_fault.SearchCause.{SearchCause}
use Rattle.cube_jobs.specs.Options.{OptionsValue}
use Rattle.survey_verdict.specs.declared.surveyed.Surveyed.{Surveyed}
use Rattle.survey_verdict.specs.declared.surveyed.Surveyed.TheVariants.{Decided, Refuted as CoreRefuted, Reasoned as ByReasons, Undecided as NothingShown}
use Rattle.survey_verdict.specs.Surveyed.{IsSurveyed}
use Rattle.text_lines.specs.declared.plain_fault.PlainFault.{PlainFault}
use Rattle.text_lines.specs.declared.plain_fault.PlainFault.TheVariants.{OutOfMemory as NoMemoryToSearch, For}
use Rattle.trace_decision.specs.declared.decision.Decision.{Decision}
use Rattle.trace_decision.specs.declared.decision.Decision.TheVariants.{Consistent as HasSchedule, Inconsistent as HasNone, Unknown as NotDecided}
use Rattle.trace_decision.specs.Decision.{IsDecided}
use Rattle.trace_semantics.specs.Trace.{TraceValue, IsTrace}
use Rattle.trace_text.specs.TraceText.{SpellsTrace}
use Rattle.verdict_report.specs.declared.fault.Fault.TheVariants.{OutOfMemory, Device, InputTooLong, Trace, Schedule, Part, Model, Cnf, Lrat, Reduce, Decode, Check, Cert, Reasons, Search}
use Rattle.verdict_report.specs.Fault.{fault_of_search}

pub decided_is : (options : OptionsValue) (t : TraceValue) (decision : Decision) → IsDecided options t decision → IsVerdictOf t (verdict_of_decision decision)
decided_is options t (HasSchedule schedule) h = (schedule, h)
decided_is options t (HasNone refutation) h = h.1
decided_is options t (NotDecided cubes) h = tt

pub surveyed_is : (options : OptionsValue) (t : TraceValue) (surveyed : Surveyed) → IsSurveyed options t surveyed → IsVerdictOf t (verdict_of_surveyed surveyed)
surveyed_is options t (Decided (HasSchedule schedule)) h = (schedule, h)
surveyed_is options t (Decided (HasNone refutation)) h = h.0.1
surveyed_is options t (Decided (NotDecided cubes)) h = absurd h
surveyed_is options t (CoreRefuted core) h = h.none_legal
surveyed_is options t (ByReasons reasons) h = h.none_legal
surveyed_is options t (NothingShown extent) h = tt

pub unsearched_is : (t : TraceValue) (fault : PlainFault SearchCause) → IsVerdictOf t (Refused (fault_of_search fault))
unsearched_is t NoMemoryToSearch = tt
unsearched_is t (For cause) = tt

-- a verdict that is so of the trace that a piece spells is one on the piece
pub on_piece : (before : ℕ) (text : List ℕ) (t : TraceValue) → IsTrace t → SpellsTrace text t → (verdict : PieceVerdict) → IsVerdictOf t verdict → IsVerdictOn before text verdict
on_piece before text t is spelled Consistent so = record { value = t; is_trace = is; spelled = spelled; is_so = so }
on_piece before text t is spelled (Refuted cubes) so = record { value = t; is_trace = is; spelled = spelled; is_so = so }
on_piece before text t is spelled (RefutedCore operations cubes) so = record { value = t; is_trace = is; spelled = spelled; is_so = so }
on_piece before text t is spelled (Reasoned operations reasons) so = record { value = t; is_trace = is; spelled = spelled; is_so = so }
on_piece before text t is spelled (Open open_cubes) so = record { value = t; is_trace = is; spelled = spelled; is_so = so }
on_piece before text t is spelled (Undecided placed undecided) so = record { value = t; is_trace = is; spelled = spelled; is_so = so }
on_piece before text t is spelled (Refused OutOfMemory) so = tt
on_piece before text t is spelled (Refused (Search cause)) so = record { value = t; is_trace = is; spelled = spelled; is_so = so }
on_piece before text t is spelled (Refused Device) so = absurd so
on_piece before text t is spelled (Refused InputTooLong) so = absurd so
on_piece before text t is spelled (Refused (Trace cause line)) so = absurd so
on_piece before text t is spelled (Refused (Schedule cause line)) so = absurd so
on_piece before text t is spelled (Refused (Part cause line)) so = absurd so
on_piece before text t is spelled (Refused (Model cause line)) so = absurd so
on_piece before text t is spelled (Refused (Cnf cause line)) so = absurd so
on_piece before text t is spelled (Refused (Lrat cause line)) so = absurd so
on_piece before text t is spelled (Refused (Reduce cause left)) so = absurd so
on_piece before text t is spelled (Refused (Decode cause clause)) so = absurd so
on_piece before text t is spelled (Refused (Check cause step)) so = absurd so
on_piece before text t is spelled (Refused (Cert cause place)) so = absurd so
on_piece before text t is spelled (Refused (Reasons cause line)) so = absurd so
