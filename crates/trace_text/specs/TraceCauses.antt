-- The numbers and the names of the causes for which a text is refused.
use Rattle.std.specs.Prelude.{ℕ, List, codes}
use Rattle.trace_text.specs.declared.trace_fault.TraceCause.{TraceCause}
use Rattle.trace_text.specs.declared.trace_fault.TraceCause.TheVariants.{NotAscii, Header, UnknownLine, BadName, BadNumber, InitTwice, FinalTwice, ProcTwice, OpOutsideProc, LateHeaderLine, TooManyProcs, TooManyOps, TooManyLocations, NoSuchOp, BeforeItself, TooManyBefore, EndsBeforeStart}

abbrev pub cause_number : TraceCause → ℕ
cause_number NotAscii = 2
cause_number Header = 3
cause_number UnknownLine = 4
cause_number BadName = 5
cause_number BadNumber = 6
cause_number InitTwice = 7
cause_number FinalTwice = 8
cause_number ProcTwice = 9
cause_number OpOutsideProc = 10
cause_number LateHeaderLine = 11
cause_number TooManyProcs = 12
cause_number TooManyOps = 13
cause_number TooManyLocations = 14
cause_number NoSuchOp = 15
cause_number BeforeItself = 16
cause_number TooManyBefore = 17
cause_number EndsBeforeStart = 18

abbrev pub cause_name : TraceCause → List ℕ
cause_name NotAscii = codes "NotAscii"
cause_name Header = codes "Header"
cause_name UnknownLine = codes "UnknownLine"
cause_name BadName = codes "BadName"
cause_name BadNumber = codes "BadNumber"
cause_name InitTwice = codes "InitTwice"
cause_name FinalTwice = codes "FinalTwice"
cause_name ProcTwice = codes "ProcTwice"
cause_name OpOutsideProc = codes "OpOutsideProc"
cause_name LateHeaderLine = codes "LateHeaderLine"
cause_name TooManyProcs = codes "TooManyProcs"
cause_name TooManyOps = codes "TooManyOps"
cause_name TooManyLocations = codes "TooManyLocations"
cause_name NoSuchOp = codes "NoSuchOp"
cause_name BeforeItself = codes "BeforeItself"
cause_name TooManyBefore = codes "TooManyBefore"
cause_name EndsBeforeStart = codes "EndsBeforeStart"
