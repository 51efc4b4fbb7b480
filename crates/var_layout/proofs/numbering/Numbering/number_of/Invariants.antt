use Rattle.std.proofs.Common.{◌≡◌, ◌<◌, ℕ, false}
use Rattle.trace_semantics.specs.Judgement.{is_the_op}
use Rattle.var_layout.specs.Numbers.{name_at}
use Rattle.var_layout.proofs.numbering.Numbering.number_of.Given as goal

abbrev pub invariant-loop-i : goal.invariant-loop-i
invariant-loop-i l = (k : ℕ) → k < l.i → is_the_op (name_at l.self k) l.name ≡ false
