-- The player goes on, its child is queued, the call at which it looks next is awaited, and the event stands behind the others.
use Rattle.std.proofs.Common.{◌<◌, ◌++◌, ◌∷◌, [], cond, sym, ap, ◌∙◌, subst, length, slice_get, vec_len, vec_capacity}
use Rattle.std.proofs.lemmas.Option.{get_or_from_slice_get}
use Rattle.session_meaning.specs.declared.event.Event.TheVariants.{Ask as AskEvent}
use Rattle.world_core.specs.Asking.{looked_by, marked_as, with_scratch}
use Rattle.world_core.specs.declared.player.Player.{Player}
use Rattle.world_core.specs.declared.running.Running.{Running}
use Rattle.world_core.proofs.OnePlace.{set_here}
use Rattle.world_core.proofs.Resuming.{entered, gone, player_now, replied, seat_set, some_records}
use Rattle.world_core.proofs.running.Running.resume.Goals as goal

pub go_on-requires : goal.go_on-requires
go_on-requires c =
    let old = c.args.self.now in
    let h = c.requires.served in
    let q = c.index_mut.result.now in
    replied c.args.call c.args.seat c.args.reply old h q (c.index_mut.ensures.value ∙ get_or_from_slice_get old.players.items c.args.seat (with_scratch h.served.bytes h.player) q (player_now c.args.call c.args.seat c.args.reply old h))

pub queue_child-requires-clause-some : goal.queue_child-requires-clause-some
queue_child-requires-clause-some c = some_records c.args.call c.args.seat c.args.reply c.args.self.now c.requires.served

pub mark_awaited-requires : goal.mark_awaited-requires
mark_awaited-requires c = subst (λ (r : Running). c.args.seat < length r.players.items) (sym c.queue_child.ensures.only) (seat_set c.args.call c.args.seat c.args.reply c.args.self.now c.requires.served c.go_on.new.player)

pub returns : goal.returns
returns c =
    let old = c.args.self.now in
    let h = c.requires.served in
    let q = c.index_mut.result.now in
    let x = c.go_on.new.player in
    let now = player_now c.args.call c.args.seat c.args.reply old h in
    let e = c.index_mut.ensures.value ∙ get_or_from_slice_get old.players.items c.args.seat (with_scratch h.served.bytes h.player) q now in
    let queue = c.queue_child.ensures in
    let mark = c.mark_awaited.ensures in
    let vec = ap (λ (r : Running). r.events) mark.only ∙ ap (λ (r : Running). r.events) queue.only in
    let ok = c.push.ensures.succeeds (subst (λ v. vec_len v < vec_capacity v) (sym vec) c.requires.event) in
    entered c.args.call c.args.seat c.args.reply old h x (gone c.args.call c.args.seat c.args.reply old h q e x c.go_on.ensures.goes) (c.go_on.ensures.call ∙ ap (λ (p : Player). p.call) e) (c.go_on.ensures.host ∙ ap (λ (p : Player). p.host) e) (record c.mark_awaited.new.self { events = c.push.new.self })
    (ap (λ (r : Running). r.players.items) mark.only ∙ ap (λ (r : Running). r.players.items) queue.only)
    (ap (λ (r : Running). r.table) mark.only ∙ ap (λ (r : Running). r.table) queue.only)
    (ap (λ (r : Running). r.objects) mark.only ∙ ap (λ (r : Running). r.objects) queue.only)
    (ap (λ (r : Running). r.protos) mark.only ∙ ap (λ (r : Running). r.protos) queue.only)
    (c.push.ensures.items ∙ ap (λ b. cond b (c.mark_awaited.new.self.events.items ++ AskEvent c.args.call ∷ []) c.mark_awaited.new.self.events.items) ok ∙ ap (λ v. v.items ++ AskEvent c.args.call ∷ []) vec)
    (mark.queued x (ap (λ (r : Running). slice_get r.players.items c.args.seat) queue.only ∙ set_here old.players.items c.args.seat (with_scratch h.served.bytes h.player) x now)
    ∙ ap (λ (r : Running). marked_as (looked_by r.table.table.records x.call x.place) c.queue_child.new.self.floor.queued.items) queue.only
    ∙ ap (λ l. marked_as (looked_by old.table.table.records x.call x.place) l) queue.queued)
    (record { hosts = mark.rest.hosts ∙ queue.rest.hosts; workers = mark.rest.workers ∙ queue.rest.workers; open_so = mark.rest.open_so ∙ queue.rest.open_so })
