-- When an assignment is decoded, and when it is not.
use Rattle.std.specs.Prelude.{◌≡◌, ℕ, ℤ, Bool, List}
use Rattle.clause_blocks.specs.Clauses.{clauses_of}
use Rattle.dimacs.specs.Models.{IsFirstFalse, IsModel}
use Rattle.trace_semantics.specs.Trace.{TraceValue}
use Rattle.schedule_decode.specs.declared.decode_fault.DecodeCause.{DecodeCause}
use Rattle.schedule_decode.specs.declared.decode_fault.DecodeCause.TheVariants.{NotAModel}

-- the variables are those of the kept trace, and the truth values are a model of its clauses
pub record IsModelOfKept (value : ℕ → Bool) (variables kept : TraceValue) : Type 0 where
  pub same : variables ≡ kept
  pub model : IsModel value (clauses_of kept)

-- truth values are not decoded since this clause, counted from 1, is the first that they make false
abbrev pub HasDecodeFault : (ℕ → Bool) → List (List ℤ) → DecodeCause → ℕ → Type 0
HasDecodeFault value clauses NotAModel clause = IsFirstFalse value clauses clause
