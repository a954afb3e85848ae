-- What the registry has is what the plan has.
use Rattle.std.proofs.Common.{map, ap, refl, ◌∙◌}
use Rattle.world_objects.specs.Served.{told_of}
use Rattle.world_core.proofs.Requests.{none_requested, small_rooms, starts_fit}
use Rattle.world_core.proofs.running.Running.empty.Goals as goal

pub new-requires-clause-rooms : goal.new-requires-clause-rooms
new-requires-clause-rooms c = small_rooms c.registry-registry.result.now c.deref.result.now c.hosts-hosts.ensures.limits (c.deref.ensures.value ∙ c.in_ok-functions.ensures)

pub new-requires-2 : goal.new-requires-2
new-requires-2 c = starts_fit c.registry-registry.result.now c.deref-2.result.now c.hosts-hosts.ensures.limits (ap (map told_of) c.deref-2.ensures.value ∙ c.in_ok-keys.ensures)

pub returns : goal.returns
returns c =
    none_requested c.args.protos.now c.registry-registry.result.now c.registry-registry.ensures.plan c.registry-registry.ensures.formed
    (record { alloc = c.args.alloc; protos = c.args.protos; table = c.in_ok-table.table; objects = c.in_ok-new.field-0; floor = c.new-3.result; players = c.new-4.result; events = c.new-5.result })
    refl c.new-5.ensures.items c.new-4.ensures.items c.hosts-hosts.result c.workers-2.result c.workers.result c.requests.result c.hosts-hosts.ensures.value c.workers-2.ensures.value
    c.deref.result.now (c.deref.ensures.value ∙ c.in_ok-functions.ensures) (c.in_ok-table.ensures)
    c.deref-2.result.now (ap (map told_of) c.deref-2.ensures.value ∙ c.in_ok-keys.ensures) c.in_ok-new.ensures
    c.new-3.ensures.hosts c.new-3.ensures.workers c.new-3.ensures.queued c.new-3.ensures.open_so
