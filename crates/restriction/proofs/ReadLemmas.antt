-- What remains of an operation reads right if its location holds the same value, from the same operation.
use Rattle.std.proofs.Common.{◌≡◌, ℕ, List, ap, ◌∙◌}
use Rattle.std.specs.Prelude.{Option}
use Rattle.std.specs.Option.{option_map}
use Rattle.trace_semantics.specs.declared.operation.Op.{Op}
use Rattle.trace_semantics.specs.declared.operation.Op.TheVariants.{Read, Write, Update}
use Rattle.trace_semantics.specs.declared.operation.OpName.{OpName}
use Rattle.trace_semantics.specs.declared.operation.Origin.{Origin}
use Rattle.trace_semantics.specs.declared.operation.Origin.TheVariants.{Any, Initial, Operation}
use Rattle.trace_semantics.specs.Legal.{ComesFrom, ReadsRight}
use Rattle.trace_semantics.specs.Operation.{location_of}
use Rattle.trace_semantics.specs.Trace.{TraceValue}
use Rattle.trace_semantics.specs.ValueAfter.{value_after, last_writer}
use Rattle.restriction.specs.Left.{new_name, new_origin, new_op}

module _ (t q : TraceValue) (stays : OpName → Option Op) (names left : List OpName) where
  comes_from : (location : List ℕ) (o : Origin) → last_writer q location left ≡ option_map (new_name stays) (last_writer t location names) →
      ComesFrom t names location o → ComesFrom q left location (new_origin stays o)
  comes_from location Any e h = tt
  comes_from location Initial e h = e ∙ ap (option_map (new_name stays)) h
  comes_from location (Operation n) e h = e ∙ ap (option_map (new_name stays)) h

  pub reads_left : (op : Op) → value_after q (location_of op) left ≡ value_after t (location_of op) names → last_writer q (location_of op) left ≡ option_map (new_name stays) (last_writer t (location_of op) names) →
      ReadsRight t names op → ReadsRight q left (new_op stays op)
  reads_left (Read location value origin span) same writer right = record { value = λ d f. same ∙ right.value d f; source = comes_from location origin writer right.source }
  reads_left (Write location value span) same writer right = record { value = λ d f. absurd (cc); source = tt }
  reads_left (Update location read left_there origin span) same writer right = record { value = λ d f. same ∙ right.value d f; source = comes_from location origin writer right.source }
