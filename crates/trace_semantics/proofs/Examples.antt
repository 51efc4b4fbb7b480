-- What times say of a small trace, computed.
use Rattle.std.proofs.Common.{◌≡◌, List, [], ◌∷◌, ℕ, true, false, Some, None, refl}
use Rattle.trace_semantics.specs.declared.judgement.IllegalCause.TheVariants.{BeforeBroken}
use Rattle.trace_semantics.specs.declared.operation.Op.TheVariants.{Read, Write}
use Rattle.trace_semantics.specs.declared.operation.OpName.{OpName}
use Rattle.trace_semantics.specs.declared.operation.Origin.TheVariants.{Any}
use Rattle.trace_semantics.specs.Judgement.{fault_at, put_before}
use Rattle.trace_semantics.specs.KnownOrder.{ended_before}
use Rattle.trace_semantics.specs.Trace.{TraceValue}

abbrev x_name : List ℕ
x_name = 120 ∷ []

abbrev p_first : OpName
p_first = record { process = 80 ∷ []; place = 1 }

abbrev q_first : OpName
q_first = record { process = 81 ∷ []; place = 1 }

abbrev q_second : OpName
q_second = record { process = 81 ∷ []; place = 2 }

-- P: W x 1 at 10 20. Q: W x 2 at 20 30, R x 2 at 21 40
abbrev timed : TraceValue
timed = record {
  processes = record { name = 80 ∷ []; operations = Write x_name 1 (Some (record { start = 10; end = 20 })) ∷ [] }
      ∷ record { name = 81 ∷ []; operations = Write x_name 2 (Some (record { start = 20; end = 30 })) ∷ Read x_name 2 Any (Some (record { start = 21; end = 40 })) ∷ [] } ∷ [];
  initial = [];
  final_values = [];
  before = [];
}

-- equal times put nothing before anything
equal_times : ended_before timed p_first q_first ≡ false
equal_times = refl

earlier_end : ended_before timed p_first q_second ≡ true
earlier_end = refl

-- spans that overlap put nothing before anything
overlapping : ended_before timed q_first q_second ≡ false
overlapping = refl

put_by_times : put_before timed q_second ≡ p_first ∷ []
put_by_times = refl

-- the read comes too early while P's write has not come
too_early : fault_at timed (q_first ∷ []) q_second ≡ Some BeforeBroken
too_early = refl

write_may_come_first : fault_at timed [] q_first ≡ None
write_may_come_first = refl
