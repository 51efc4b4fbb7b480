-- What the engine that checks LRAT proofs answers and writes.
use Rattle.std.specs.Prelude.{⊤, ℕ, Bool, List, [], ◌∷◌, codes, Result, Ok, Err}
use Rattle.cnf_text.specs.CnfReading.{SpellsCnf, HasCnfFault}
use Rattle.dimacs.specs.Formula.{FormulaValue}
use Rattle.dimacs.specs.Models.{IsModel}
use Rattle.lrat_check.specs.declared.checker.Accepted.{Accepted}
use Rattle.lrat_check.specs.declared.derivation.Step.{Step}
use Rattle.lrat_check.specs.declared.lrat_fault.LratCause.{LratCause}
use Rattle.lrat_check.specs.declared.refusal.StepFault.{StepFault}
use Rattle.lrat_check.specs.Checked.{IsAccepted, IsRefused}
use Rattle.lrat_check.specs.LratFaults.{HasLratFault}
use Rattle.lrat_check.specs.LratText.{SpellsDerivation}
use Rattle.verdict_report.specs.declared.fault.Fault.{Fault}
use Rattle.verdict_report.specs.declared.fault.Fault.TheVariants.{OutOfMemory, Cnf, Lrat, Check}
use Rattle.verdict_report.specs.declared.status.Status.{Status}
use Rattle.verdict_report.specs.declared.status.Status.TheVariants.{Yes}
use Rattle.verdict_report.specs.Runs.{SourceRun, SinkRun}
use Rattle.verdict_report.specs.Engine.{AtOnce, IsRunOfEngine, of_two}

-- the texts spell a formula and a derivation that is accepted for it without a cube; so the formula has no model
pub record AreAccepted (cnf_text proof_text : List ℕ) : Type 0 where
  pub formula : FormulaValue
  pub spelled : SpellsCnf cnf_text formula
  pub steps : List Step
  pub derived : SpellsDerivation proof_text steps
  pub accepted : IsAccepted formula.clauses [] steps
  pub no_model : (value : ℕ → Bool) → IsModel value formula.clauses → ⊥

-- the first text spells a formula, and the second one has this first fault
pub record HasFaultyProof (cnf_text proof_text : List ℕ) (cause : LratCause) (line : ℕ) : Type 0 where
  pub formula : FormulaValue
  pub spelled : SpellsCnf cnf_text formula
  pub faulty : HasLratFault proof_text cause line

-- the texts spell a formula and a derivation that is refused at this step
pub record AreRefused (cnf_text proof_text : List ℕ) (fault : StepFault) (step : ℕ) : Type 0 where
  pub formula : FormulaValue
  pub spelled : SpellsCnf cnf_text formula
  pub steps : List Step
  pub derived : SpellsDerivation proof_text steps
  pub refused : IsRefused formula.clauses [] steps fault step

-- what is said of two texts: that the proof is accepted, or why not
abbrev pub IsSaidOfProof : List ℕ → List ℕ → Result Accepted Fault → Type 0
IsSaidOfProof cnf_text proof_text (Ok accepted) = AreAccepted cnf_text proof_text
IsSaidOfProof cnf_text proof_text (Err OutOfMemory) = ⊤
IsSaidOfProof cnf_text proof_text (Err (Cnf cause line)) = HasCnfFault cnf_text cause line
IsSaidOfProof cnf_text proof_text (Err (Lrat cause line)) = HasFaultyProof cnf_text proof_text cause line
IsSaidOfProof cnf_text proof_text (Err (Check fault step)) = AreRefused cnf_text proof_text fault step
IsSaidOfProof cnf_text proof_text (Err fault) = ⊥

-- the line that is written
abbrev pub accepted_line : Accepted → List ℕ
accepted_line accepted = codes "ACCEPTED\n"

abbrev pub accepted_status : Accepted → Status
accepted_status accepted = Yes

-- what the engine answers, by what the sources hand out and the sink takes
abbrev pub IsRunOfLrat : SourceRun → SourceRun → SinkRun → Result Status Fault → Type 0
IsRunOfLrat cnf proof out =
    IsRunOfEngine AtOnce (of_two IsSaidOfProof) (λ accepted. accepted_line accepted ∷ []) accepted_status (cnf ∷ proof ∷ []) (out ∷ [])
