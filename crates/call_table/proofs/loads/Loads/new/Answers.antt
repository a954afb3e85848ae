-- Nothing is queued, and nothing warm.
use Rattle.call_table.proofs.Loaded.{none_loaded}
use Rattle.call_table.proofs.loads.Loads.new.Goals as goal

pub returns : goal.returns
returns c = none_loaded c.args.hosts (record { queued = c.in_ok-queued.queued; warm = c.new.result }) (c.in_ok-queued.ensures.items_if_clones_equal (λ y e. e)) c.new.ensures.items
