use Rattle.trace_text.proofs.seen.Seen.take.Goals as goal

pub returns-in-Init-clause-refused : goal.returns-in-Init-clause-refused
returns-in-Init-clause-refused c = rw c.in-Init.is c.note_initial.ensures.refused

pub returns-in-Final-clause-refused : goal.returns-in-Final-clause-refused
returns-in-Final-clause-refused c = rw c.in-Final.is c.note_final.ensures.refused

pub returns-in-Read-clause-refused : goal.returns-in-Read-clause-refused
returns-in-Read-clause-refused c = rw c.in-Read.is c.note_operation.ensures.refused

pub returns-in-Write-clause-refused : goal.returns-in-Write-clause-refused
returns-in-Write-clause-refused c = rw c.in-Write.is c.note_operation-in-Write.ensures.refused

pub returns-in-Update-clause-refused : goal.returns-in-Update-clause-refused
returns-in-Update-clause-refused c = rw c.in-Update.is c.note_operation-in-Update.ensures.refused
