-- The numbers and the names of the causes for which a text is refused.
use Rattle.std.specs.Prelude.{ℕ, List, codes}
use Rattle.schedule_text.specs.declared.schedule_fault.ScheduleCause.{ScheduleCause}
use Rattle.schedule_text.specs.declared.schedule_fault.ScheduleCause.TheVariants.{BadName, BadNumber, TooMany}

-- the number of a cause
abbrev pub cause_number : ScheduleCause → ℕ
cause_number BadName = 2
cause_number BadNumber = 3
cause_number TooMany = 4

-- the name of a cause
abbrev pub cause_name : ScheduleCause → List ℕ
cause_name BadName = codes "BadName"
cause_name BadNumber = codes "BadNumber"
cause_name TooMany = codes "TooMany"
