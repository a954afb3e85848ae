use Rattle.std.proofs.Common.{ap, arith, length, ◌∙◌}
use Rattle.std.specs.Prelude.{◌==◌, position}
use Rattle.world_core.specs.Living.{world_of}
use Rattle.world_core.proofs.Entering.{made_of}
use Rattle.world_core.proofs.Takes.{function_known}
use Rattle.world_core.proofs.running.Running.take.Goals as goal

pub faaslet_for-requires : goal.faaslet_for-requires
faaslet_for-requires c =
    let r = c.args.self.now in
    let settling = c.requires.lives.settling in
    let l = function_known r.protos.now r.events.items (world_of r) r c.record_of.result.now.function settling.formed (made_of r settling) settling.keeps c.record_of.ensures.held.function in
    let same = ap (λ p. length p.now.functions) c.make_rooms.ensures.same.same.protos in
    omega (arith, l, same)

pub enter-requires-clause-place : goal.enter-requires-clause-place
enter-requires-clause-place c = ap (position (λ q. q.call == c.args.call)) c.make_rooms.ensures.same.queued ∙ c.in-Ok.ensures.place
