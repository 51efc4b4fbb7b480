use Rattle.std.proofs.Common.{◌≡◌, map, take}
use Rattle.trace_semantics.specs.declared.operation.OpName.{OpName}
use Rattle.var_layout.specs.Numbers.{number_of}
use Rattle.var_layout.proofs.before_numbers.before_numbers.Given as goal

abbrev pub invariant-loop-pair : goal.invariant-loop-pair
invariant-loop-pair l = l.pairs.items ≡ map (λ (pair : OpName × OpName). (number_of l.numbering pair.0, number_of l.numbering pair.1)) (take l.pair-index l.before)
