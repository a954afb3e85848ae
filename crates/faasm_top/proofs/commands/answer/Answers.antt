-- What was written of what is due, and what a trace has of some functions and keys.
use Rattle.faasm_top.specs.Commands.{texts}
use Rattle.faasm_top.proofs.Dues.{Left, part_due, want_due, whole_due}
use Rattle.faasm_top.proofs.Traces.{has_parts}
use Rattle.faasm_top.proofs.commands.answer.Goals as goal

pub returns-in-Err-clause-two_worlds : goal.returns-in-Err-clause-two_worlds
returns-in-Err-clause-two_worlds g c = λ status text t. has_parts t.draft t.seed status text t.traces

pub returns-clause-two_worlds : goal.returns-clause-two_worlds
returns-clause-two_worlds g c = λ status text t. has_parts t.draft t.seed status text t.traces

pub returns-clause-whole : goal.returns-clause-whole
returns-clause-whole g c = rw c.code-2.ensures
    (λ few. whole_due (texts c.args.words.now) _ _ _ c.in-Ok.due _ _ _ c.in-Ok.ensures.due (c.write_due.ensures.whole few))

pub returns-clause-part : goal.returns-clause-part
returns-clause-part g c = rw c.code-2.ensures
    (λ five. part_due (texts c.args.words.now) _ _ _ c.in-Ok.due _ _ _ _ c.in-Ok.ensures.due (c.write_due.ensures.part five)
    (record { closed = c.in-Ok.ensures.closed; ended = c.in-Ok.ensures.ended; left_open = c.in-Ok.ensures.left_open }))

pub returns-clause-want : goal.returns-clause-want
returns-clause-want g c = rw c.code-2.ensures
    (λ six. want_due (texts c.args.words.now) _ _ _ c.in-Ok.due _ _ _ _ _ c.in-Ok.ensures.due (c.write_due.ensures.want six)
    (record { closed = c.in-Ok.ensures.closed; ended = c.in-Ok.ensures.ended; left_open = c.in-Ok.ensures.left_open }))
