-- The void variable of a reading operation or of a final value, which two clauses contradict: without a candidate there is no model.
use Rattle.std.specs.Prelude.{ℕ, Option}
use Rattle.trace_semantics.specs.Trace.{TraceValue}
use Rattle.var_layout.specs.declared.layout.ReadsFromOwner.{ReadsFromOwner}
use Rattle.var_layout.specs.declared.layout.ReadsFromOwner.TheVariants.{Read, Final}
use Rattle.var_layout.specs.ChoiceVariables.{void_choice}
use Rattle.var_layout.specs.FinalVariables.{void_final}

abbrev pub void_variable : TraceValue → ReadsFromOwner → Option ℕ
void_variable t (Read r) = void_choice t r
void_variable t (Final k) = void_final t k
