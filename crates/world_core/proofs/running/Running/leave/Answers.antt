use Rattle.std.proofs.Common.{◌≡◌, ◌<◌, [], ◌∷◌, ◌++◌, ap, refl, rules, subst, sym, ◌∙◌}
use Rattle.std.specs.Prelude.{vec_capacity, vec_len}
use Rattle.session_meaning.specs.declared.event.Event.TheVariants.{End}
use Rattle.world_core.specs.Ending.{IsFinished}
use Rattle.world_core.specs.Living.{world_of}
use Rattle.world_core.specs.declared.running.Running.{Running}
use Rattle.world_core.proofs.Ends.{goes_by, keeps_ended}
use Rattle.world_core.proofs.Entering.{entered, made_of}
use Rattle.world_core.proofs.Standing.{end_step}
use Rattle.world_core.proofs.Starts.{if_there}
use Rattle.world_core.proofs.Whys.{found}
use Rattle.world_core.proofs.running.Running.leave.Goals as goal

pub unreachable-requires : goal.unreachable-requires
unreachable-requires c =
    let r = c.args.self.now in
    let f = found (λ p. p.call) c.args.call c.args.seat r.players.items c.requires.seat in
    let h = if_there (λ p. IsFinished r p.call c.finish.new.self) _ f.item f.here c.finish.ensures in
    let kept = ap (λ s. s.events) h.rest in
    let room : vec_len c.finish.new.self.events < vec_capacity c.finish.new.self.events = subst (λ v. vec_len v < vec_capacity v) (sym kept) c.requires.rooms.event in
    search rules

pub returns : goal.returns
returns c =
    let r = c.args.self.now in
    let plan = r.protos.now in
    let w = world_of r in
    let s = c.requires.lives.settling in
    let f = found (λ p. p.call) c.args.call c.args.seat r.players.items c.requires.seat in
    let h = subst (λ call. IsFinished r call c.finish.new.self) f.is (if_there (λ p. IsFinished r p.call c.finish.new.self) _ f.item f.here c.finish.ensures) in
    let new : Running = record c.finish.new.self { floor = c.remove_seat.new.self; players = c.remove.new.self; events = c.push.new.self } in
    let goes = goes_by r c.finish.new.self new c.args.seat h.rest refl c.remove_seat.ensures.seats c.remove_seat.ensures.rest c.remove.ensures.items in
    let keeps = keeps_ended plan r.events.items w s.formed (made_of r s) r s.keeps c.args.call c.args.seat c.requires.seat c.requires.free h.o h.e h.open_so h.ended_so new h.table goes in
    let pushed : c.push.new.self.items ≡ c.finish.new.self.events.items ++ End c.args.call ∷ [] = search rules in
    entered _ r new _ s c.requires.free (ap (λ s. s.protos) h.rest) (pushed ∙ ap (λ s. s.events.items ++ End c.args.call ∷ []) h.rest) (end_step plan w c.args.call h.o h.e h.open_so h.ended_so) keeps
