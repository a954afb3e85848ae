-- The turns of two makers, one after the other, and what stands when both tiers are closed.
use Rattle.std.proofs.Common.{◌≡◌, ℕ, List, [], ◌∷◌, ap, ◌∙◌, subst}
use Rattle.faaslet_meaning.specs.declared.ask.Ask.TheVariants as an_ask
use Rattle.faaslet_meaning.specs.declared.ask.AskOp.TheVariants as op
use Rattle.faaslet_meaning.specs.declared.ask.Move.TheVariants as move
use Rattle.faaslet_meaning.specs.declared.ask.Reply as coded
use Rattle.faaslet_meaning.specs.declared.grant.Channel.TheVariants.{Local}
use Rattle.faaslet_meaning.specs.Channels.{fill, write, send, put}
use Rattle.faaslet_meaning.specs.Region.{replica, global_value}
use Rattle.faaslet_meaning.specs.Spelling.{spelled}
use Rattle.turn_cell.specs.Cell.{start_of}
use Rattle.turn_cell.specs.History.{entry, Extends}
use Rattle.region_tier.specs.Tiers.{Goes}
use Rattle.state_service.specs.Asked.{moved_size}
use Rattle.state_service.specs.May.{Cells, Slots}
use Rattle.state_service.specs.Served.{Served}
use Rattle.state_service_tests.specs.Makers.{IsOneKey, Sees, InOrder}
use Rattle.state_service_tests.proofs.Order.{on_replica, on_global}
use Rattle.state_service_tests.proofs.Moved.{Filled, filled, Pushed, Written, written, Same, Hears, tells, Heard, hears, sent_first, sent_second}

-- the first maker's passes p at the replica and r at the global value, the second's q and t, call by call
pub record Went (locals globals : Cells) (p0 p1 p2 p3 q0 q1 q2 r0 r1 t0 t1 : Slots) : Type 0 where
  pub first : Filled locals globals p0 p1 r0 r1 0 [] []
  pub heard : Heard locals q1 1 [] first.here.list
  pub second : Written locals globals q1 q2 t0 t1 1 heard.list []
  pub back : Heard locals p3 0 first.here.list second.here.list

pub went : (locals globals : Cells) (p0 p1 p2 p3 q0 q1 q2 r0 r1 t0 t1 : Slots) (code code2 : coded.Reply) (told told2 : List ℕ) → IsOneKey locals (replica 2)
    → Sees locals p0 0 [] → Sees globals r0 0 [] → Sees locals q0 1 [] → Sees globals t0 1 []
    → Served (an_ask.Move 0 move.Fill) (moved_size locals (an_ask.Move 0 move.Fill)) locals globals p0 p1 r0 r1 code [] told
    → Goes locals p1 p2 0 Same → Goes locals q0 q1 0 (Hears p1) → Served (an_ask.Region (Local 0) (op.Write 0 1)) 0 locals globals q1 q2 t0 t1 code2 (9 ∷ []) told2
    → Goes locals p2 p3 0 (Hears q2) → Went locals globals p0 p1 p2 p3 q0 q1 q2 r0 r1 t0 t1
went locals globals p0 p1 p2 p3 q0 q1 q2 r0 r1 t0 t1 code code2 told told2 k sp sr sq st served tell hear wrote hear2 =
    let f = filled locals globals p0 p1 r0 r1 0 [] [] code told k sp sr served in
    let h = hears locals q0 q1 p1 1 0 [] f.here.list sq f.here.sees hear in
    let w = written locals globals q1 q2 t0 t1 1 h.list [] code2 told2 h.sees st wrote in
    let b = hears locals p2 p3 q2 0 1 f.here.list w.here.list (tells locals p1 p2 0 f.here.list f.here.sees tell) w.here.sees hear2 in
    record { first = f; heard = h; second = w; back = b }

-- in the end
pub ends_in_order : (locals globals : Cells) (p0 p1 p2 p3 p4 q0 q1 q2 q3 r0 r1 r2 t0 t1 : Slots) → IsOneKey locals (replica 2) → IsOneKey globals (global_value 2 (1 ∷ 2 ∷ [])) → (x : Went locals globals p0 p1 p2 p3 q0 q1 q2 r0 r1 t0 t1)
    → Goes locals q2 q3 0 Same → Pushed locals globals p3 p4 r1 r2 0 x.back.list x.first.there.list → InOrder locals globals p4 q3 r2 t1
ends_in_order locals globals p0 p1 p2 p3 p4 q0 q1 q2 q3 r0 r1 r2 t0 t1 k m x tell z w v y u cl cg =
    let s = start_of k.cell in
    let o = start_of m.cell in
    let f = x.first in
    let last = tells locals q2 q3 1 x.second.here.list x.second.here.sees tell in
    let pin : Extends 0 z.here.list w = subst (λ l. Extends 0 l w) z.here.sees.list_so (cl.first_in z.here.sees.pass z.here.sees.at_pass) in
    let qin : Extends 1 x.second.here.list w = subst (λ l. Extends 1 l w) last.list_so (cl.second_in last.pass last.at_pass) in
    let rin : Extends 0 z.there.list v = subst (λ l. Extends 0 l v) z.there.sees.list_so (cg.first_in z.there.sees.pass z.there.sees.at_pass) in
    let tin : Extends 1 [] v = subst (λ l. Extends 1 l v) x.second.there.list_so (cg.second_in x.second.there.pass x.second.there.at_pass) in
    let a1 = f.here.answered k.cell k.at_cell in
    let a2 = x.second.here.answered k.cell k.at_cell in
    let a3 = z.here.answered k.cell k.at_cell in
    let b1 = f.there.answered m.cell m.at_cell in
    let b2 = z.there.answered m.cell m.at_cell in
    let here = on_replica s x.second.reply f.bytes z.bytes f.here.list x.heard.list x.second.here.list x.back.list z.here.list w a1 x.heard.grows x.heard.told a2 x.back.grows x.back.told a3 pin qin cl.makers in
    let there = on_global o f.bytes z.bytes f.there.list z.there.list v b1 b2 rin tin cg.makers in
    let bs : f.bytes ≡ 1 ∷ 2 ∷ [] = sent_first o f.bytes f.there.list b1 m.start_so there.1 in
    let before = here.1 ∙ ap (λ l. entry 0 (spelled (fill l)) ∷ entry 1 (spelled (write 0 (9 ∷ []))) ∷ []) bs in
    let cs : z.bytes ≡ 9 ∷ 2 ∷ [] = sent_second s z.bytes x.back.list z.here.list a3 k.start_so before in (
      here.0 ∙ ap (λ l. entry 0 (spelled (fill l)) ∷ entry 1 (spelled (write 0 (9 ∷ []))) ∷ entry 0 (spelled (send 0 2)) ∷ []) bs,
      there.0 ∙ ap (λ l. entry 0 (spelled (send 0 2)) ∷ entry 0 (spelled (put 0 l)) ∷ []) cs,
    )
