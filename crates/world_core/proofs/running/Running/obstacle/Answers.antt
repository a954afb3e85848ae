-- A lock, a child that is not finished, or nothing.
use Rattle.std.proofs.Common.{◌≡◌, length, refl, sym, ◌∙◌, subst}
use Rattle.std.specs.Prelude.{option_map}
use Rattle.std.proofs.lemmas.Option.{slice_get_read}
use Rattle.session_meaning.specs.SessionReport as report
use Rattle.session_report.specs.Told as told
use Rattle.world_core.specs.Living.{world_of}
use Rattle.world_core.specs.declared.player.Player.{Player}
use Rattle.world_core.proofs.KeptBack.{lock_needs, lock_obstacle, look_needs, look_obstacle, submit_obstacle, of_place}
use Rattle.world_core.proofs.RegionAsks.{IsOnRegion}
use Rattle.world_core.proofs.running.Running.obstacle.Goals as goal

pub lock_held-requires : goal.lock_held-requires
lock_held-requires c =
    let r = c.args.self.now in
    let p = c.index-player.result.now in
    let here = slice_get_read r.players.items (length r.players.items) c.args.seat p refl c.requires.within c.index-player.ensures in
    lock_needs r c.requires.settling c.args.seat p here c.in_ok-ask.ask (sym c.question.ensures ∙ c.in_ok-ask.was) (subst IsOnRegion (sym c.in-Region.is) tt)

pub lock_held-requires-in-Move : goal.lock_held-requires-in-Move
lock_held-requires-in-Move c =
    let r = c.args.self.now in
    let p = c.index-player.result.now in
    let here = slice_get_read r.players.items (length r.players.items) c.args.seat p refl c.requires.within c.index-player.ensures in
    lock_needs r c.requires.settling c.args.seat p here c.in_ok-ask.ask (sym c.question.ensures ∙ c.in_ok-ask.was) (subst IsOnRegion (sym c.in-Move.is) tt)

pub unfinished_child-requires : goal.unfinished_child-requires
unfinished_child-requires c =
    let r = c.args.self.now in
    let p = c.index-player.result.now in
    let here = slice_get_read r.players.items (length r.players.items) c.args.seat p refl c.requires.within c.index-player.ensures in
    look_needs r c.requires.settling c.args.seat p here c.in_ok-ask.ask c.in-Look.child (sym c.question.ensures ∙ c.in_ok-ask.was) c.in-Look.is

pub returns-in-Region : goal.returns-in-Region
returns-in-Region c =
    let r = c.args.self.now in
    let p = c.index-player.result.now in
    let here = slice_get_read r.players.items (length r.players.items) c.args.seat p refl c.requires.within c.index-player.ensures in
    of_place r c.requires.settling c.args.seat p here (λ (p : Player). option_map told.obstacle_of c.lock_held.result ≡ report.obstacle_of (world_of r) p.call)
    (lock_obstacle r c.requires.settling c.args.seat p here c.in_ok-ask.ask (sym c.question.ensures ∙ c.in_ok-ask.was) (subst IsOnRegion (sym c.in-Region.is) tt) (option_map told.obstacle_of c.lock_held.result) c.lock_held.ensures)

pub returns-in-Move : goal.returns-in-Move
returns-in-Move c =
    let r = c.args.self.now in
    let p = c.index-player.result.now in
    let here = slice_get_read r.players.items (length r.players.items) c.args.seat p refl c.requires.within c.index-player.ensures in
    of_place r c.requires.settling c.args.seat p here (λ (p : Player). option_map told.obstacle_of c.lock_held-in-Move.result ≡ report.obstacle_of (world_of r) p.call)
    (lock_obstacle r c.requires.settling c.args.seat p here c.in_ok-ask.ask (sym c.question.ensures ∙ c.in_ok-ask.was) (subst IsOnRegion (sym c.in-Move.is) tt) (option_map told.obstacle_of c.lock_held-in-Move.result) c.lock_held-in-Move.ensures)

pub returns-in-Submit : goal.returns-in-Submit
returns-in-Submit c =
    let r = c.args.self.now in
    let p = c.index-player.result.now in
    let here = slice_get_read r.players.items (length r.players.items) c.args.seat p refl c.requires.within c.index-player.ensures in
    of_place r c.requires.settling c.args.seat p here _
    (sym (submit_obstacle r c.requires.settling c.args.seat p here c.in_ok-ask.ask c.in-Submit.function c.in-Submit.len (sym c.question.ensures ∙ c.in_ok-ask.was) c.in-Submit.is))

pub returns-in-Look : goal.returns-in-Look
returns-in-Look c =
    let r = c.args.self.now in
    let p = c.index-player.result.now in
    let here = slice_get_read r.players.items (length r.players.items) c.args.seat p refl c.requires.within c.index-player.ensures in
    of_place r c.requires.settling c.args.seat p here (λ (p : Player). option_map told.obstacle_of c.unfinished_child.result ≡ report.obstacle_of (world_of r) p.call)
    (c.unfinished_child.ensures ∙ sym (look_obstacle r c.requires.settling c.args.seat p here c.in_ok-ask.ask c.in-Look.child (sym c.question.ensures ∙ c.in_ok-ask.was) c.in-Look.is))
