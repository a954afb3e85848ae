use Rattle.faasm_top.proofs.Sessions.{command_due}
use Rattle.faasm_top.proofs.commands.answer_command.Goals as goal

pub returns-in-Trace-clause-due : goal.returns-in-Trace-clause-due
returns-in-Trace-clause-due g c = command_due _ _ _ _ _ _ c.trace.result c.in-Trace.is c.trace.ensures.due
