-- The command is new, and has no argument.
use Rattle.command_line.proofs.refusals_command.new_refusals_command.Goals as goal

pub returns-clause-app : goal.returns-clause-app
returns-clause-app c = c.new_command.ensures.app

pub returns-clause-local : goal.returns-clause-local
returns-clause-local c = c.new_command.ensures.local
