-- A statement of the code, as the statement that it is.
use Rattle.trace_text.specs.declared.statement.ReadsFrom.{ReadsFrom as WrittenReadsFrom}
use Rattle.trace_text.specs.declared.statement.ReadsFrom.TheVariants.{Unsaid as WrittenUnsaid, FromInit as WrittenFromInit, FromOp as WrittenFromOp}
use Rattle.trace_text.specs.declared.statement.TimesSaid.{TimesSaid as WrittenTimesSaid}
use Rattle.trace_text.specs.declared.statement.TimesSaid.TheVariants.{Untimed as WrittenUntimed, At as WrittenAt}
use Rattle.trace_text.specs.declared.statement.Statement.{Statement as Written}
use Rattle.trace_text.specs.declared.statement.Statement.TheVariants.{Init as WrittenInit, Final as WrittenFinal, Proc as WrittenProc, Read as WrittenRead, Write as WrittenWrite, Update as WrittenUpdate, Before as WrittenBefore}
use Rattle.trace_text.specs.Statement.{ReadsFrom, Unsaid, FromInit, FromOp, TimesSaid, Untimed, At, Statement, Init, Final, Proc, Read, Write, Update, Before}

abbrev pub said_source : WrittenReadsFrom → ReadsFrom
said_source WrittenUnsaid = Unsaid
said_source WrittenFromInit = FromInit
said_source (WrittenFromOp process place) = FromOp process.now place.now

abbrev pub said_times : WrittenTimesSaid → TimesSaid
said_times WrittenUntimed = Untimed
said_times (WrittenAt start end) = At start.now end.now

abbrev pub said : Written → Statement
said (WrittenInit location value) = Init location.now value.now
said (WrittenFinal location value) = Final location.now value.now
said (WrittenProc name) = Proc name.now
said (WrittenRead location value source times) = Read location.now value.now (said_source source) (said_times times)
said (WrittenWrite location value times) = Write location.now value.now (said_times times)
said (WrittenUpdate location read left source times) = Update location.now read.now left.now (said_source source) (said_times times)
said (WrittenBefore process place other other_place) = Before process.now place.now other.now other_place.now
