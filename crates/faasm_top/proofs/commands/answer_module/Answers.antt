use Rattle.faasm_top.proofs.Dues.{call_due, check_due, calm}
use Rattle.faasm_top.proofs.commands.answer_module.Goals as goal

pub returns-in-Call-clause-due : goal.returns-in-Call-clause-due
returns-in-Call-clause-due c =
    let accepted = rw c.in-Ok.is at c.in_ok-module.ensures.accepted in
    call_due c.args.command.now c.in-Call.file c.in-Call.input c.in-Call.fuel c.args.bytes.now c.in-Ok.module c.call_module.result c.in-Call.is accepted (rw c.as_slice.ensures at c.call_module.ensures.due)

pub returns : goal.returns
returns c =
    let accepted = rw c.in-Ok.is at c.in_ok-module.ensures.accepted in
    record {
      due = check_due c.args.command.now c.args.bytes.now c.in-Ok.module c.valid.result c.requires.reads c.in_default.not-Call accepted c.valid.ensures.status c.valid.ensures.line;
      no_fault = calm c.valid.result c.valid.ensures.status;
    }
