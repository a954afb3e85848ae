-- The search stops at the first that is queued.
use Rattle.call_table.specs.Heads.{anywhere}
use Rattle.call_table.proofs.Fronts.{found_is}
use Rattle.call_table.proofs.heads.Heads.next_anywhere.Goals as goal

pub returns-clause-first : goal.returns-clause-first
returns-clause-first c = found_is anywhere c.args.records.now c.seek-self.result c.found.result c.seek-self.ensures c.found.ensures.some c.found.ensures.none
