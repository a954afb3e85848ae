-- The search stops at the first of the host's queue.
use Rattle.call_table.specs.Heads.{at_host}
use Rattle.call_table.proofs.Fronts.{found_is}
use Rattle.call_table.proofs.heads.Heads.next_at.Goals as goal

pub returns-clause-first : goal.returns-clause-first
returns-clause-first c = found_is (at_host c.args.host) c.args.records.now c.seek_at-place.result c.found.result c.seek_at-place.ensures c.found.ensures.some c.found.ensures.none
