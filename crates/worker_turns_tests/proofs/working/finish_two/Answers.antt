-- The first still runs on its bench once the second has ended.
use Rattle.std.proofs.Common.{sym, subst}
use Rattle.turn_cell.specs.Cell.{pass_list, start_of}
use Rattle.worker_turns.specs.Ending.{MayFinish}
use Rattle.worker_turns_tests.proofs.Steps.{first_may, second_runs}
use Rattle.worker_turns_tests.proofs.working.finish_two.Goals as goal

pub finish-requires-clause-may : goal.finish-requires-clause-may
finish-requires-clause-may g c =
    let e = c.finish-pass.ensures in
    let ended = e.finishes 1 (second_runs _ _ _ _ c.requires.begun c.requires.both) in
    subst (λ n. MayFinish (start_of c.args.table.now) n (pass_list c.finish-pass.result) c.args.first 2 1) (sym e.cell.1)
    (first_may _ _ _ _ _ _ _ _ _ _ c.requires.begun c.requires.worker c.requires.both ended)
