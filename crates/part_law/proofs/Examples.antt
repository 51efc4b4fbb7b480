-- Parts of small traces, computed.
use Rattle.std.proofs.Common.{◌≡◌, List, [], ◌∷◌, ℕ, Bool, true, false, not, ◌&&◌, refl}
use Rattle.std.specs.Prelude.{Option, Some, None}
use Rattle.std.specs.Str.{bytes_eq}
use Rattle.trace_semantics.specs.declared.operation.Op.TheVariants.{Read, Write, Update}
use Rattle.trace_semantics.specs.declared.operation.Origin.TheVariants.{Any}
use Rattle.trace_semantics.specs.declared.operation.OpName.{OpName}
use Rattle.trace_semantics.specs.declared.operation.Span.{Span}
use Rattle.trace_semantics.specs.Operation.{same_op}
use Rattle.trace_semantics.specs.Trace.{TraceValue}
use Rattle.part_law.specs.Part.{part}

abbrev p_name : List ℕ
p_name = 80 ∷ []

abbrev q_name : List ℕ
q_name = 81 ∷ []

abbrev x_name : List ℕ
x_name = 120 ∷ []

-- P: W x 1, W x 2. Q: R x 2, R x 1, U x 1 3
abbrev small : TraceValue
small = record {
  processes = record { name = p_name; operations = Write x_name 1 None ∷ Write x_name 2 None ∷ [] } ∷ record { name = q_name; operations = Read x_name 2 Any None ∷ Read x_name 1 Any None ∷ Update x_name 1 3 Any None ∷ [] } ∷ [];
  initial = [];
  final_values = (x_name, 3) ∷ [];
  before = [];
}

-- without P.2: the read of 2 is left out, and the rest keeps its reads
without_second : part small (λ m n. false) (λ n. not (same_op n (record { process = p_name; place = 2 }))) ≡ record {
  processes = record { name = p_name; operations = Write x_name 1 None ∷ [] } ∷ record { name = q_name; operations = Read x_name 1 Any None ∷ Update x_name 1 3 Any None ∷ [] } ∷ [];
  initial = [];
  final_values = (x_name, 3) ∷ [];
  before = [];
}
without_second = refl

-- of Q alone: the update becomes a write
second_alone : part small (λ m n. false) (λ n. bytes_eq n.process q_name) ≡ record {
  processes = record { name = p_name; operations = [] } ∷ record { name = q_name; operations = Write x_name 3 None ∷ [] } ∷ [];
  initial = [];
  final_values = (x_name, 3) ∷ [];
  before = [];
}
second_alone = refl

-- P: W x 1. Q: W x 2. Each has the times that are given, if any are
abbrev pub two_writes : Option Span → Option Span → List (OpName × OpName) → TraceValue
two_writes first second before = record {
  processes = record { name = p_name; operations = Write x_name 1 first ∷ [] } ∷ record { name = q_name; operations = Write x_name 2 second ∷ [] } ∷ [];
  initial = [];
  final_values = [];
  before = before;
}

abbrev p_first : OpName → OpName → Bool
p_first m n = bytes_eq m.process p_name && bytes_eq n.process q_name

abbrev writes : OpName × OpName
writes = (record { process = p_name; place = 1 }, record { process = q_name; place = 1 })

-- an order of both is given by a pair, if times do not say it
order_told : part (two_writes None None []) p_first (λ n. true) ≡ two_writes None None (writes ∷ [])
order_told = refl

times_told : part (two_writes (Some (record { start = 1; end = 2 })) (Some (record { start = 3; end = 4 })) []) p_first (λ n. true) ≡ two_writes (Some (record { start = 1; end = 2 })) (Some (record { start = 3; end = 4 })) []
times_told = refl

-- an operation that ends when another starts is not before it
times_equal : part (two_writes (Some (record { start = 1; end = 3 })) (Some (record { start = 3; end = 4 })) []) p_first (λ n. true) ≡ two_writes (Some (record { start = 1; end = 3 })) (Some (record { start = 3; end = 4 })) (writes ∷ [])
times_equal = refl
