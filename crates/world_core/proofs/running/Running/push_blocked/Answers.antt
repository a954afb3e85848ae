-- It is kept back, or it isn't.
use Rattle.std.proofs.Common.{◌≡◌, ◌+◌, length, refl, sym, subst}
use Rattle.std.specs.Prelude.{option_map}
use Rattle.std.proofs.lemmas.Option.{slice_get_read}
use Rattle.session_meaning.specs.SessionReport as report
use Rattle.session_report.specs.Told as told
use Rattle.world_core.specs.Blocked.{BlockedTo}
use Rattle.world_core.specs.Living.{world_of}
use Rattle.world_core.specs.declared.player.Player.{Player}
use Rattle.world_core.proofs.Blocked.{at_place, none_blocked, one_blocked, player_there}
use Rattle.world_core.proofs.running.Running.push_blocked.Goals as goal

pub returns-in_default : goal.returns-in_default
returns-in_default c =
    let r = c.args.self.now in
    let p = player_there r.players.items c.args.seat c.requires.within in
    let so = at_place r.players.items c.args.seat p.0 (λ (p : Player). option_map told.obstacle_of c.obstacle.result ≡ report.obstacle_of (world_of r) p.call) p.1 c.obstacle.ensures in
    record { one_more = none_blocked (world_of r) r.players.items c.args.seat p.0 p.1 c.obstacle.result so c.args.all.now.items c.in_default.is c.requires.so_far }

pub returns : goal.returns
returns c =
    let r = c.args.self.now in
    let p = c.index.result.now in
    let here = slice_get_read r.players.items (length r.players.items) c.args.seat p refl c.requires.within c.index.ensures in
    let so = at_place r.players.items c.args.seat p (λ (p : Player). option_map told.obstacle_of c.obstacle.result ≡ report.obstacle_of (world_of r) p.call) here c.obstacle.ensures in
    record {
      one_more = subst (BlockedTo (world_of r) r.players.items (c.args.seat + 1)) (sym c.in_ok-push.ensures.items)
          (one_blocked (world_of r) r.players.items c.args.seat p here c.obstacle.result so c.in-Some.by c.args.all.now.items c.in-Some.is c.requires.so_far);
    }
