-- The judge's walk over the names.
use Rattle.std.specs.Prelude.{◌≡◌, ◌+◌, ℕ, List, take, true}
use Rattle.text_lines.specs.FirstFault.{IsFaultless}
use Rattle.schedule_judge.specs.declared.memory.Memory.{Memory}
use Rattle.trace_semantics.specs.declared.operation.OpName.{OpName}
use Rattle.schedule_judge.specs.declared.survey.Survey.{Survey}
use Rattle.trace_semantics.specs.Judgement.{fault_at, has_come}
use Rattle.schedule_judge.specs.Come.{AreCountsOfCome}
use Rattle.schedule_judge.specs.Endings.{have_come_in_front}
use Rattle.schedule_judge.specs.Memory.{IsMemoryAfter}

-- with an operation, the one before it in its process has come
abbrev pub IsInProgramOrder : List OpName → Type 0
IsInProgramOrder names = (process : List ℕ) (k : ℕ) → has_come names (record { process = process; place = k + 2 }) ≡ true → has_come names (record { process = process; place = k + 1 }) ≡ true

-- the first `count` names have no fault, the counts say which operations they are, and memory is what they leave
pub record IsWalk (survey : Survey) (counts : List ℕ) (state : Memory) (count : ℕ) : Type 0 where
  pub faultless : IsFaultless (fault_at survey.trace.now) (take count survey.names.now)
  pub in_program_order : IsInProgramOrder (take count survey.names.now)
  pub come : AreCountsOfCome survey.processes counts (take count survey.names.now)
  pub memory : IsMemoryAfter survey.trace.now survey.names.now (take count survey.names.now) state

-- the same, and the operations in front of this entry of the endings are among those names
pub record IsTimedWalk (survey : Survey) (counts : List ℕ) (state : Memory) (next count : ℕ) : Type 0 where
  pub walk : IsWalk survey counts state count
  pub ended : have_come_in_front (take count survey.names.now) survey.endings.items next ≡ true
