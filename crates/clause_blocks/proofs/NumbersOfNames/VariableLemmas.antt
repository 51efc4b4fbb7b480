-- Numbers of variables and of operations are in their ranges.
use Rattle.std.proofs.Common.{◌≡◌, ℕ, ◌<◌, ◌≤◌, List, [], Option, Some, None, refl, arith}
use Rattle.std.specs.Prelude.{slice_get}
use Rattle.std.specs.List.{Contains}
use Rattle.std.specs.Option.{option_map_or}
use Rattle.trace_semantics.specs.Trace.{TraceValue, IsTrace, operation_count}
use Rattle.var_layout.specs.declared.candidate.Candidate.{Candidate}
use Rattle.var_layout.specs.declared.candidate.Candidate.TheVariants.{InitialValue, Writer}
use Rattle.var_layout.specs.declared.candidate.ReadsFromChoice.{ReadsFromChoice}
use Rattle.var_layout.specs.declared.candidate.FinalChoice.{FinalChoice}
use Rattle.var_layout.specs.ChoiceVariables.{choices}
use Rattle.var_layout.specs.FinalVariables.{finals}
use Rattle.var_layout.specs.Numbers.{other_writers, writers}
use Rattle.var_layout.specs.Ranges.{IsVariable}
use Rattle.var_layout.proofs.BoundLemmas.{few_variables}
use Rattle.var_layout.proofs.VariableLemmas as variables
use Rattle.var_layout.proofs.WriterLemmas.{writer_within, other_writer}
use Rattle.clause_blocks.specs.Ranges.{FitsFormula, IsSource}

pub fits_formula : (t : TraceValue) → IsTrace t → operation_count t ≤ 160 → (v : ℕ) → IsVariable t v → FitsFormula v
fits_formula t ok few v h = let most = few_variables t ok few in (h.0, omega (arith, h.1, most))

source_is : (t : TraceValue) (r : ℕ) → r < operation_count t → (c : Candidate) → ((w : ℕ) → c ≡ Writer w → Contains (other_writers t r) w) → IsSource t r c
source_is t r within InitialValue h = tt
source_is t r within (Writer w) h = let other = other_writer t r w (h w refl) in (other.0, within, other.1)

pub choice_source : (t : TraceValue) (r : ℕ) (c : ReadsFromChoice) → r < operation_count t → Contains (choices t r) c → IsSource t r c.candidate
choice_source t r c within d = source_is t r within c.candidate (λ w e. variables.choice_writer t r c w d e)

-- the writers of a final value's location
abbrev pub writers_at : TraceValue → Option (List ℕ × ℕ) → List ℕ
writers_at t o = option_map_or (λ (entry : List ℕ × ℕ). writers t entry.0) o []

pub within_at : (t : TraceValue) (o : Option (List ℕ × ℕ)) (w : ℕ) → Contains (writers_at t o) w → w < operation_count t
within_at t None w d = absurd (omega (arith, d.1))
within_at t (Some entry) w d = writer_within t entry.0 w d

pub final_writer : (t : TraceValue) (k : ℕ) (c : FinalChoice) → Contains (finals t k) c → c.writer < operation_count t
final_writer t k c d = within_at t (slice_get t.final_values k) c.writer (variables.final_writer t k c d)
