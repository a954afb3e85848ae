-- What comes of a session is due.
use Rattle.std.specs.String.{string_bytes}
use Rattle.faasm_top.proofs.Sessions.{fault_due, refused_due, same_due}
use Rattle.faasm_top.proofs.trace.trace.Goals as goal

pub returns-in-Ok-clause-due : goal.returns-in-Ok-clause-due
returns-in-Ok-clause-due g c = λ words command. record { file = c.args.file.now; is_command = command; session = c.in-Ok.ensures.accepted }

pub returns-in-Err-Refused-clause-due : goal.returns-in-Err-Refused-clause-due
returns-in-Err-Refused-clause-due g c =
    let h = rw c.in-Err-Refused.field-0-is at c.in-Err-Refused.ensures.stopped in
    λ words command. refused_due c.args.file.now _ (g.F.Shelf.faults c.args.shelf.now) (g.F.Shelf.faults c.read_whole.new.shelf) (string_bytes c.in-Err-Refused.line) h.1 words c.args.seed command

pub returns-in_ok-read_fault-in-Err-Unreadable-clause-due : goal.returns-in_ok-read_fault-in-Err-Unreadable-clause-due
returns-in_ok-read_fault-in-Err-Unreadable-clause-due g c =
    let h = rw c.in-Err-Unreadable.field-0-is at c.in-Err-Unreadable.ensures.stopped in
    let told = c.in_ok-read_fault-in-Err-Unreadable in
    λ words command. same_due words _ _ _ _ _ _ _ told.ensures.status told.ensures.line
    (fault_due c.args.file.now _ (g.F.Shelf.faults c.args.shelf.now) (g.F.Shelf.faults c.read_whole.new.shelf) h.0 words c.args.seed command)
