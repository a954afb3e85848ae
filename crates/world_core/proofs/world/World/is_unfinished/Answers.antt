use Rattle.std.proofs.Common.{not, ap, sym, refl, ◌∙◌}
use Rattle.faaslet_meaning.specs.Lists.{is_empty}
use Rattle.session_meaning.proofs.OpenCalls.{calls_open}
use Rattle.session_meaning.specs.Schedule.{unfinished_calls}
use Rattle.world_core.specs.Living.{world_of}
use Rattle.world_core.specs.Whole.{world_after}
use Rattle.world_core.proofs.Readers.{none_unfinished}
use Rattle.world_core.proofs.world.World.is_unfinished.Goals as goal

pub returns : goal.returns
returns c =
    let r = c.self.inside.running in
    let s = c.self.invariant.settling in
    let opens = calls_open r.protos.now r.events.items (world_of r) s.formed (record { stand = s.stand; world_so = refl }) in
    let none = none_unfinished r.protos.now (world_of r) (λ q. q.call) (λ p. p.call) r.floor.queued.items r.players.items opens s.keeps.floor.queued (s.keeps.numbers ∙ s.keeps.floor.open_so) in
    ap not (c.is_idle.ensures ∙ sym none ∙ ap (λ v. is_empty (unfinished_calls (world_after v))) c.self.view_is)
