-- What an event leaves of each part of a session that has nothing to do with the others.
use Rattle.std.proofs.Common.{refl}
use Rattle.session_meaning.specs.declared.event.Event.{Event}
use Rattle.session_meaning.specs.Cut.{CutStep}
use Rattle.session_meaning.specs.Plan.{Closed, Names}
use Rattle.session_meaning.proofs.AsksGranted.{one_event}
use Rattle.world_core.specs.Living.{Lives, world_of}
use Rattle.world_core.specs.declared.running.Running.{Running}

pub event_cut : (r : Running) → Lives r → (e : Event) (functions keys : Names) → Closed r.protos.now functions keys → CutStep r.protos.now functions keys (world_of r) e
event_cut r l e functions keys closed = one_event r.protos.now functions keys r.events.items (world_of r) e closed (record { stand = l.settling.stand; world_so = refl })
