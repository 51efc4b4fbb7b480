-- The options of a search, and which of them is out of its range.
use Rattle.std.specs.Prelude.{ℕ, List, Option, Some, None, nat_lt, ◌||◌, if◌then◌else◌, codes}
use Rattle.cube_jobs.specs.declared.options.BadOption.{BadOption}
use Rattle.cube_jobs.specs.declared.options.BadOption.TheVariants.{Workers, Split, Budget, Rounds}

-- how many workers search, how deep the first tree is at most, how many conflicts are worked on in a cube, and how many rounds
-- there are at most
pub record OptionsValue : Type 0 where
  pub workers : ℕ
  pub split : ℕ
  pub budget : ℕ
  pub rounds : ℕ

-- the first option that is out of its range
abbrev pub bad_option : OptionsValue → Option BadOption
bad_option o =
    if nat_lt o.workers 1 || nat_lt 8 o.workers then Some Workers
    else if nat_lt 10 o.split then Some Split
    else if nat_lt 1000000000 o.budget then Some Budget
    else if nat_lt o.rounds 1 || nat_lt 4 o.rounds then Some Rounds
    else None

-- the number of a cause
abbrev pub cause_number : BadOption → ℕ
cause_number Workers = 2
cause_number Split = 3
cause_number Budget = 4
cause_number Rounds = 5

-- the name of a cause
abbrev pub cause_name : BadOption → List ℕ
cause_name Workers = codes "Workers"
cause_name Split = codes "Split"
cause_name Budget = codes "Budget"
cause_name Rounds = codes "Rounds"
