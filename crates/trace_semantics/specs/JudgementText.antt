-- How a judgement is printed.
use Rattle.std.specs.Prelude.{ℕ, List, ◌++◌, Some, codes}
use Rattle.trace_semantics.specs.declared.judgement.IllegalCause.{IllegalCause}
use Rattle.trace_semantics.specs.declared.judgement.IllegalCause.TheVariants.{UnknownOp, RepeatedOp, OutOfProgramOrder, WrongRead, MissingOp, WrongFinal, BeforeBroken, WrongSource}
use Rattle.trace_semantics.specs.declared.judgement.Judgement.{Judgement}
use Rattle.trace_semantics.specs.declared.judgement.Judgement.TheVariants.{Legal, Illegal}
use Rattle.text_lines.specs.Printed.{printed_at}

-- the number of a cause
abbrev pub number_of : IllegalCause → ℕ
number_of UnknownOp = 1
number_of RepeatedOp = 2
number_of OutOfProgramOrder = 3
number_of WrongRead = 4
number_of MissingOp = 5
number_of WrongFinal = 6
number_of BeforeBroken = 7
number_of WrongSource = 8

-- the name of a cause
abbrev pub name_of : IllegalCause → List ℕ
name_of UnknownOp = codes "UnknownOp"
name_of RepeatedOp = codes "RepeatedOp"
name_of OutOfProgramOrder = codes "OutOfProgramOrder"
name_of WrongRead = codes "WrongRead"
name_of MissingOp = codes "MissingOp"
name_of WrongFinal = codes "WrongFinal"
name_of BeforeBroken = codes "BeforeBroken"
name_of WrongSource = codes "WrongSource"

-- a judgement as it is printed, as `LEGAL` or `ILLEGAL 4 WrongRead at 1`
abbrev pub printed : Judgement → List ℕ
printed Legal = codes "LEGAL"
printed (Illegal cause place) = codes "ILLEGAL " ++ printed_at (number_of cause) (name_of cause) (Some place)
