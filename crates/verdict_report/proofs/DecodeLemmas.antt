-- What decoding a model of a kept trace says of the whole trace.
use Rattle.std.proofs.Common.{◌≡◌, ◌≤◌, ℕ, Bool, List, subst, sym}
use Rattle.std.specs.Prelude.{Result, Ok, Err}
use Rattle.dimacs.specs.Assignment.{value_of}
use Rattle.model_text.specs.ModelText.{SpellsModel}
use Rattle.dimacs.specs.Models.{IsModel}
use Rattle.trace_semantics.specs.declared.operation.OpName.{OpName}
use Rattle.trace_semantics.specs.Legal.{IsLegal}
use Rattle.trace_semantics.specs.Trace.{TraceValue, IsTrace, operation_count}
use Rattle.trace_text.specs.TraceText.{SpellsTrace}
use Rattle.reducer.specs.Expansion.{expansion}
use Rattle.text_lines.specs.declared.fault.PlacedFault.{PlacedFault as PartFault}
use Rattle.text_lines.specs.declared.fault.PlacedFault.TheVariants.{OutOfMemory as NoPartMemory, At}
use Rattle.text_lines.specs.Fault.{IsRefusal}
use Rattle.reducer.specs.declared.reduce_fault.ReduceCause.{ReduceCause}
use Rattle.reducer.specs.Reduced.{ReducedValue, IsReduced, HasReduceFault}
use Rattle.reducer.proofs.DroppedReads.ScheduleLemmas.{expansion_legal}
use Rattle.clause_blocks.specs.Clauses.{clauses_of}
use Rattle.clause_blocks.specs.ModelOrder.{IsInOrderOf}
use Rattle.reducer.specs.declared.reduce_fault.ReduceCause.TheVariants.{StillTooLarge}
use Rattle.schedule_decode.specs.declared.decode_fault.DecodeCause.TheVariants.{NotAModel}
use Rattle.verdict_report.specs.declared.fault.Fault.{Fault}
use Rattle.verdict_report.specs.declared.fault.Fault.TheVariants.{OutOfMemory, Device, InputTooLong, Trace, Schedule, Part, Model, Cnf, Lrat, Reduce, Decode, Check, Cert, Reasons, Search}
use Rattle.verdict_report.specs.Admitted.{Admits}
use Rattle.verdict_report.specs.Fault.{fault_of_part}
use Rattle.verdict_report.specs.DecodeEngine.{IsDecoding, IsDecodedFrom, IsSaidOfModel}

module _ (r : ReducedValue) (ok : IsReduced r) (truth : List Bool) where
  pub decoding : (kept schedule : List OpName) → IsModel (value_of truth) (clauses_of r.kept) → IsInOrderOf (value_of truth) r.kept kept → IsLegal r.kept kept →
      schedule ≡ expansion r.whole kept → IsDecoding r.whole truth schedule
  decoding kept schedule model ordered legal expanded = record {
    model = subst (λ (t : TraceValue). IsModel (value_of truth) (clauses_of t)) ok.reduction model;
    kept = kept;
    ordered = subst (λ (t : TraceValue). IsInOrderOf (value_of truth) t kept) ok.reduction ordered;
    expanded = expanded;
    legal = subst (λ (s : List OpName). IsLegal r.whole s) (sym expanded) (expansion_legal r.whole kept ok.is_trace (subst (λ (t : TraceValue). IsLegal t kept) ok.reduction legal));
  }

  module _ (trace_text model_text : List ℕ) (spelled : SpellsTrace trace_text r.whole) (read : SpellsModel model_text truth) where
    admitted : Admits trace_text r.whole
    admitted = record { is_trace = ok.is_trace; spelled = spelled; few = subst (λ (t : TraceValue). operation_count t ≤ 160) ok.reduction ok.few }

    pub said : (result : Result (List OpName) Fault) → IsDecodedFrom r truth result → IsSaidOfModel trace_text model_text result
    said (Ok schedule) d = record { value = r.whole; admitted = admitted; truth = truth; spelled = read; decoded = d }
    said (Err OutOfMemory) d = tt
    said (Err (Decode NotAModel clause)) d = record { value = r.whole; admitted = admitted; truth = truth; spelled = read; first_false = d }
    said (Err Device) d = absurd d
    said (Err InputTooLong) d = absurd d
    said (Err (Trace cause line)) d = absurd d
    said (Err (Schedule cause line)) d = absurd d
    said (Err (Part cause line)) d = absurd d
    said (Err (Model cause line)) d = absurd d
    said (Err (Cnf cause line)) d = absurd d
    said (Err (Lrat cause line)) d = absurd d
    said (Err (Reduce StillTooLarge left)) d = absurd d
    said (Err (Check fault step)) d = absurd d
    said (Err (Cert cause place)) d = absurd d
    said (Err (Reasons cause line)) d = absurd d
    said (Err (Search fault)) d = absurd d

-- a trace that is not reduced, where both texts are read
pub unreduced : (trace_text model_text : List ℕ) (value : TraceValue) → IsTrace value → SpellsTrace trace_text value → (truth : List Bool) → SpellsModel model_text truth →
    (fault : PartFault ReduceCause) → IsRefusal (HasReduceFault value) fault → IsSaidOfModel trace_text model_text (Err (fault_of_part Reduce fault))
unreduced trace_text model_text value is_trace spelled truth read NoPartMemory refused = tt
unreduced trace_text model_text value is_trace spelled truth read (At StillTooLarge left) refused =
    record { large = record { value = value; is_trace = is_trace; spelled = spelled; left_is = refused.1; many = refused.0 }; truth = truth; spelled = read }
