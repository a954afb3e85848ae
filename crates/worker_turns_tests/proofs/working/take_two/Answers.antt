-- Both were taken, and the second on another bench.
use Rattle.std.proofs.Common.{◌∙◌}
use Rattle.worker_turns_tests.proofs.Steps.{both}
use Rattle.worker_turns_tests.proofs.working.take_two.Goals as goal

pub returns-clause-both : goal.returns-clause-both
returns-clause-both g c =
    let first = rw c.in-Call.is at c.take_next-pass.ensures.took in
    let second = rw c.in-Some.is at c.take_this-pass.ensures.took in
    both _ _ _ _ _ _ _ _ _ _ _ _ _ _ c.requires.begun (c.take_next-pass.ensures.cell.1 ∙ c.requires.worker) c.if-first-lt2.false c.if-second-lt2.false first second.0
