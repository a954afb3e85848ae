-- An Ask that may stand is served, and the call goes on; for want of memory the world is the same.
use Rattle.std.proofs.Common.{◌≡◌, ◌++◌, ◌∷◌, [], ◌<◌, None, sym, ap, ◌∙◌, subst, slice_get, vec_len, vec_capacity}
use Rattle.session_meaning.specs.declared.event.Event.TheVariants.{Ask as AskEvent}
use Rattle.session_meaning.specs.Events.{why}
use Rattle.world_core.specs.Living.{world_of}
use Rattle.world_core.specs.Seating.{HasPlace}
use Rattle.world_core.specs.declared.player.Player.{Player}
use Rattle.world_core.proofs.Seats.{call_at, world_same}
use Rattle.world_core.proofs.Whys.{found}
use Rattle.world_core.proofs.running.Running.ask.Goals as goal

pub serve-requires-clause-free : goal.serve-requires-clause-free
serve-requires-clause-free c p here =
    let old = c.args.self.now in
    let new = c.make_rooms.new.self in
    let same = c.make_rooms.ensures.same in
    let call = call_at old c.requires.lives c.args.call c.in-Ok.found.0 c.in-Ok.ensures.seat p (ap (λ ps. slice_get ps c.in-Ok.found.0) (sym same.players) ∙ here) in
    subst (λ w. why w (AskEvent p.call) ≡ None) (sym (world_same old new same.same)) (subst (λ n. why (world_of old) (AskEvent n) ≡ None) (sym call) c.in-Ok.ensures.free)

pub resume-requires-clause-served : goal.resume-requires-clause-served
resume-requires-clause-served c =
    let old = c.args.self.now in
    let new = c.make_rooms.new.self in
    let same = c.make_rooms.ensures.same in
    let f = found (λ (p : Player). p.call) c.args.call c.in-Ok.found.0 old.players.items c.in-Ok.ensures.seat in
    let here = ap (λ ps. slice_get ps c.in-Ok.found.0) same.players ∙ f.here in
    record {
      before = new;
      lives = c.make_rooms.ensures.lives;
      player = f.item;
      here = here;
      call_so = f.is;
      free = subst (λ w. why w (AskEvent c.args.call) ≡ None) (sym (world_same old new same.same)) c.in-Ok.ensures.free;
      question = c.in-Ok.found.1;
      served = c.in-Ok-serve.ensures.served f.item here;
    }

pub resume-requires-clause-place : goal.resume-requires-clause-place
resume-requires-clause-place c =
    let old = c.args.self.now in
    let f = found (λ (p : Player). p.call) c.args.call c.in-Ok.found.0 old.players.items c.in-Ok.ensures.seat in
    let served = c.in-Ok-serve.ensures.served f.item (ap (λ ps. slice_get ps c.in-Ok.found.0) c.make_rooms.ensures.same.players ∙ f.here) in
    subst HasPlace (sym served.floor) c.in-Ok-make_rooms.ensures.room.place

pub resume-requires-clause-event : goal.resume-requires-clause-event
resume-requires-clause-event c =
    let old = c.args.self.now in
    let f = found (λ (p : Player). p.call) c.args.call c.in-Ok.found.0 old.players.items c.in-Ok.ensures.seat in
    let served = c.in-Ok-serve.ensures.served f.item (ap (λ ps. slice_get ps c.in-Ok.found.0) c.make_rooms.ensures.same.players ∙ f.here) in
    subst (λ v. vec_len v < vec_capacity v) (sym served.events) c.in-Ok-make_rooms.ensures.room.event

pub returns-in-Ok-serve : goal.returns-in-Ok-serve
returns-in-Ok-serve c =
    let old = c.args.self.now in
    let same = c.make_rooms.ensures.same.same in
    let f = found (λ (p : Player). p.call) c.args.call c.in-Ok.found.0 old.players.items c.in-Ok.ensures.seat in
    let served = c.in-Ok-serve.ensures.served f.item (ap (λ ps. slice_get ps c.in-Ok.found.0) c.make_rooms.ensures.same.players ∙ f.here) in
    let r = c.resume.ensures in (
      c.in-Ok.ensures.free,
      record {
        protos = r.protos ∙ served.protos ∙ same.protos;
        events = r.events ∙ ap (λ es. es ++ AskEvent c.args.call ∷ []) (ap (λ v. v.items) served.events ∙ same.events);
        settling = r.settling;
      },
    )
