-- The numbers and the names of what may be wrong with a line of reasons.
use Rattle.std.specs.Prelude.{ℕ, List, codes}
use Rattle.reason_clauses.specs.declared.cause.ReasonCause.{ReasonCause}
use Rattle.reason_clauses.specs.declared.cause.ReasonCause.TheVariants.{NoOperation, NoReader, NoWitness, HidesItself, InitialLeft, BadCycle, NoPair, EnoughSources, AlwaysTrue, TooManyVariables, BadHeader, BadLine, OneProcess, SecondPiece, NoWriter, LastLeft, SourceBefore}

-- the number of a cause
abbrev pub cause_number : ReasonCause → ℕ
cause_number NoOperation = 2
cause_number NoReader = 3
cause_number NoWitness = 4
cause_number HidesItself = 5
cause_number InitialLeft = 7
cause_number BadCycle = 8
cause_number NoPair = 9
cause_number EnoughSources = 10
cause_number AlwaysTrue = 11
cause_number TooManyVariables = 12
cause_number BadHeader = 13
cause_number BadLine = 14
cause_number OneProcess = 15
cause_number SecondPiece = 16
cause_number NoWriter = 17
cause_number LastLeft = 18
cause_number SourceBefore = 19

-- the name of a cause
abbrev pub cause_name : ReasonCause → List ℕ
cause_name NoOperation = codes "NoOperation"
cause_name NoReader = codes "NoReader"
cause_name NoWitness = codes "NoWitness"
cause_name HidesItself = codes "HidesItself"
cause_name InitialLeft = codes "InitialLeft"
cause_name BadCycle = codes "BadCycle"
cause_name NoPair = codes "NoPair"
cause_name EnoughSources = codes "EnoughSources"
cause_name AlwaysTrue = codes "AlwaysTrue"
cause_name TooManyVariables = codes "TooManyVariables"
cause_name BadHeader = codes "BadHeader"
cause_name BadLine = codes "BadLine"
cause_name OneProcess = codes "OneProcess"
cause_name SecondPiece = codes "SecondPiece"
cause_name NoWriter = codes "NoWriter"
cause_name LastLeft = codes "LastLeft"
cause_name SourceBefore = codes "SourceBefore"
