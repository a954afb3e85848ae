use Rattle.std.proofs.Common.{◌≡◌, ◌+◌, ◌≤◌, length, take, drop, arith, ap, sym, subst, ◌∙◌}
use Rattle.std.specs.Prelude.{IfSome}
use Rattle.host_calls.proofs.Buffers.{next_few}
use Rattle.host_calls.proofs.Loops.{bring_step, stops_some}
use Rattle.host_calls.proofs.buffer.send.Goals as goal

pub bring_back-requires : goal.bring_back-requires
bring_back-requires g c =
    let r = c.store_on-reached in
    let f = stops_some (g.M.Linear.memory r.new.machine.memory) r.result.span r.result.piece c.in-Some.piece r.ensures.stops c.in-Some.is in
    omega (arith, next_few _ _ _ f, f.next, r.ensures.within.few, r.ensures.within.most)

pub returns-in-Some-clause-bytes : goal.returns-in-Some-clause-bytes
returns-in-Some-clause-bytes g c =
    let r = c.store_on-reached in
    let p = c.in-Some.piece in
    let f = stops_some (g.M.Linear.memory r.new.machine.memory) r.result.span r.result.piece p r.ensures.stops c.in-Some.is in
    let few : r.result.span.done + p.len ≤ 65536 = omega (arith, next_few _ _ _ f, f.next, r.ensures.within.few, r.ensures.within.most) in
    let b = bring_step c.args.machine.now c.room-room.new.machine c.scratch_room-scratch.new.machine r.new.machine c.bring_back.new.self r.result.span.done p.len c.room-room.ensures.long c.scratch_room-scratch.ensures.long c.room-room.ensures.same c.scratch_room-scratch.ensures.same r.ensures.only c.bring_back.ensures few in
    subst (λ o. IfSome o (λ q. take q.len c.bring_back.new.self.scratch ≡ take q.len (drop r.result.span.done c.args.machine.now.aside))) (sym c.in-Some.is) b.bytes

pub returns-in-Some-clause-long : goal.returns-in-Some-clause-long
returns-in-Some-clause-long g c =
    let r = c.store_on-reached in
    let p = c.in-Some.piece in
    let f = stops_some (g.M.Linear.memory r.new.machine.memory) r.result.span r.result.piece p r.ensures.stops c.in-Some.is in
    let few : r.result.span.done + p.len ≤ 65536 = omega (arith, next_few _ _ _ f, f.next, r.ensures.within.few, r.ensures.within.most) in
    let b = bring_step c.args.machine.now c.room-room.new.machine c.scratch_room-scratch.new.machine r.new.machine c.bring_back.new.self r.result.span.done p.len c.room-room.ensures.long c.scratch_room-scratch.ensures.long c.room-room.ensures.same c.scratch_room-scratch.ensures.same r.ensures.only c.bring_back.ensures few in
    b.long

pub returns-in_default-clause-long : goal.returns-in_default-clause-long
returns-in_default-clause-long g c = ap (λ z. length z.scratch) c.store_on-reached.ensures.only ∙ ap (λ z. length z.scratch) c.scratch_room-scratch.ensures.same ∙ c.scratch_room-scratch.ensures.long
