use Rattle.std.proofs.Common.{sym}
use Rattle.faasm_top.specs.Commands.{command_of}
use Rattle.faasm_top.proofs.Dues.{module_due}
use Rattle.faasm_top.proofs.commands.answer_other.Goals as goal

pub returns-clause-due : goal.returns-clause-due
returns-clause-due g c =
    module_due (command_of c.args.command.now) c.in-Some.file.now c.in-Ok.bytes.items _ _ _ c.answer_module.result (sym c.in-Some.ensures) c.in-Ok.ensures.whole (rw c.deref.ensures.value at c.answer_module.ensures.due)
