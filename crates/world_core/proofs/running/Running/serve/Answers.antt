-- The question of an open call is served: a Look, a Submit, a question on a region, or a move.
use Rattle.std.proofs.Common.{◌≡◌, refl, sym, ◌∙◌, subst, length}
use Rattle.std.proofs.lemmas.Option.{same_Some, slice_get_read}
use Rattle.std.specs.Prelude.{IfOk}
use Rattle.std.specs.Vec.{with_item}
use Rattle.world_core.specs.Asking.{IsServed}
use Rattle.world_core.specs.Living.{Lives}
use Rattle.world_core.specs.declared.player.Player.{Player}
use Rattle.world_core.specs.declared.running.Running.{Running}
use Rattle.world_core.proofs.ServedAsks.{is_open_so, look_needs, look_served, on_both, on_err, on_region, region_needs, region_ok, same_item, set_changed, set_none, still_lives, submit_function, submit_input, submit_known, submit_ok}
use Rattle.world_core.proofs.running.Running.serve.Goals as goal

pub look-requires : goal.look-requires
look-requires c =
    let r = c.args.self.now in
    let p = c.index_mut-player.result.now in
    let here = slice_get_read r.players.items (length r.players.items) c.args.seat p refl c.requires.within c.index_mut-player.ensures.value in
    let at = c.requires.asks p here in
    let free = c.requires.free p here in
    look_needs r c.requires.lives c.args.seat p here c.args.ask.now at free c.in-Look.child c.in-Look.is

pub submit-requires-clause-open_so : goal.submit-requires-clause-open_so
submit-requires-clause-open_so c =
    let r = c.args.self.now in
    let p = c.index_mut-player.result.now in
    let here = slice_get_read r.players.items (length r.players.items) c.args.seat p refl c.requires.within c.index_mut-player.ensures.value in
    let at = c.requires.asks p here in
    let free = c.requires.free p here in
    is_open_so r c.requires.lives c.args.seat p here c.args.ask.now at free

pub submit-requires-clause-known : goal.submit-requires-clause-known
submit-requires-clause-known c =
    let r = c.args.self.now in
    let p = c.index_mut-player.result.now in
    let here = slice_get_read r.players.items (length r.players.items) c.args.seat p refl c.requires.within c.index_mut-player.ensures.value in
    let at = c.requires.asks p here in
    let free = c.requires.free p here in
    submit_known r c.requires.lives c.args.seat p here c.args.ask.now at free c.registry-registry.result.now c.registry-registry.ensures.plan

pub submit-requires-clause-function : goal.submit-requires-clause-function
submit-requires-clause-function c =
    let r = c.args.self.now in
    let p = c.index_mut-player.result.now in
    let here = slice_get_read r.players.items (length r.players.items) c.args.seat p refl c.requires.within c.index_mut-player.ensures.value in
    let at = c.requires.asks p here in
    let free = c.requires.free p here in
    submit_function r c.requires.lives c.args.seat p here c.args.ask.now at free c.in-Submit.function c.in-Submit.len c.in-Submit.is c.registry-registry.result.now c.registry-registry.ensures.plan

pub submit-requires-clause-input : goal.submit-requires-clause-input
submit-requires-clause-input c =
    let r = c.args.self.now in
    let p = c.index_mut-player.result.now in
    let here = slice_get_read r.players.items (length r.players.items) c.args.seat p refl c.requires.within c.index_mut-player.ensures.value in
    let at = c.requires.asks p here in
    let free = c.requires.free p here in
    submit_input r c.requires.lives c.args.seat p here c.args.ask.now at free c.in-Submit.function c.in-Submit.len c.in-Submit.is

pub returns-in-Look-clause-served : goal.returns-in-Look-clause-served
returns-in-Look-clause-served c x e =
    let r = c.args.self.now in
    let p = c.index_mut-player.result.now in
    let here = slice_get_read r.players.items (length r.players.items) c.args.seat p refl c.requires.within c.index_mut-player.ensures.value in
    let at = c.requires.asks p here in
    let free = c.requires.free p here in
    let bytes = c.look.new.player.faaslet.scratch in
    let new : Running = record r { players = with_item r.players c.args.seat c.look.new.player } in
    subst (λ (x : Player). IsServed r new c.args.seat x c.args.ask.now c.look.result) (same_Some _ _ (sym here ∙ e))
    (look_served r c.requires.lives c.args.seat p here c.args.ask.now at free c.in-Look.child c.in-Look.is new c.look.result bytes c.look.ensures.told refl refl (record {
      players = set_changed r.players.items c.args.seat p c.look.new.player bytes here c.look.ensures.player;
      floor = refl;
      events = refl;
      protos = refl;
    }))

pub returns-in-Submit-clause-served : goal.returns-in-Submit-clause-served
returns-in-Submit-clause-served c x e =
    let r = c.args.self.now in
    let p = c.index_mut-player.result.now in
    let here = slice_get_read r.players.items (length r.players.items) c.args.seat p refl c.requires.within c.index_mut-player.ensures.value in
    let at = c.requires.asks p here in
    let free = c.requires.free p here in
    let new : Running = record r { table = c.submit.new.table; players = with_item r.players c.args.seat c.submit.new.player } in
    subst (λ (x : Player). IfOk c.submit.result (IsServed r new c.args.seat x c.args.ask.now)) (same_Some _ _ (sym here ∙ e))
    (submit_ok r c.requires.lives c.args.seat p here c.args.ask.now at free c.in-Submit.function c.in-Submit.len c.in-Submit.is c.registry-registry.result.now c.registry-registry.ensures.plan new c.submit.result c.submit.ensures.ok refl (record {
      players = set_none r.players.items c.args.seat p c.submit.new.player here c.submit.ensures.player ∙ sym (same_item r.players.items c.args.seat p here);
      floor = refl;
      events = refl;
      protos = refl;
    }))

pub returns-in-Submit-clause-lives : goal.returns-in-Submit-clause-lives
returns-in-Submit-clause-lives c =
    let r = c.args.self.now in
    let p = c.index_mut-player.result.now in
    let here = slice_get_read r.players.items (length r.players.items) c.args.seat p refl c.requires.within c.index_mut-player.ensures.value in
    let at = c.requires.asks p here in
    let free = c.requires.free p here in
    let new : Running = record r { table = c.submit.new.table; players = with_item r.players c.args.seat c.submit.new.player } in
    on_err c.submit.result (c.submit.new.table ≡ r.table) (Lives new) c.submit.ensures.want (λ t. still_lives r new c.requires.lives t refl refl (set_none r.players.items c.args.seat p c.submit.new.player here c.submit.ensures.player) (record { protos = refl; events = refl }))

pub serve_region-requires-clause-there : goal.serve_region-requires-clause-there
serve_region-requires-clause-there c =
    let r = c.args.self.now in
    let p = c.index_mut-player.result.now in
    let here = slice_get_read r.players.items (length r.players.items) c.args.seat p refl c.requires.within c.index_mut-player.ensures.value in
    let at = c.requires.asks p here in
    let free = c.requires.free p here in
    (region_needs r c.requires.lives c.args.seat p here c.args.ask.now at free (on_region c.args.ask.now c.in-Region.is)).there

pub serve_region-requires-clause-within : goal.serve_region-requires-clause-within
serve_region-requires-clause-within c =
    let r = c.args.self.now in
    let p = c.index_mut-player.result.now in
    let here = slice_get_read r.players.items (length r.players.items) c.args.seat p refl c.requires.within c.index_mut-player.ensures.value in
    let at = c.requires.asks p here in
    let free = c.requires.free p here in
    (region_needs r c.requires.lives c.args.seat p here c.args.ask.now at free (on_region c.args.ask.now c.in-Region.is)).within

pub serve_region-requires-clause-free : goal.serve_region-requires-clause-free
serve_region-requires-clause-free c =
    let r = c.args.self.now in
    let p = c.index_mut-player.result.now in
    let here = slice_get_read r.players.items (length r.players.items) c.args.seat p refl c.requires.within c.index_mut-player.ensures.value in
    let at = c.requires.asks p here in
    let free = c.requires.free p here in
    (region_needs r c.requires.lives c.args.seat p here c.args.ask.now at free (on_region c.args.ask.now c.in-Region.is)).free

pub returns-in-Region-clause-served : goal.returns-in-Region-clause-served
returns-in-Region-clause-served c x e =
    let r = c.args.self.now in
    let p = c.index_mut-player.result.now in
    let here = slice_get_read r.players.items (length r.players.items) c.args.seat p refl c.requires.within c.index_mut-player.ensures.value in
    let at = c.requires.asks p here in
    let free = c.requires.free p here in
    let bytes = c.serve_region.new.player.faaslet.scratch in
    let new : Running = record r { objects = c.serve_region.new.objects; players = with_item r.players c.args.seat c.serve_region.new.player } in
    subst (λ (x : Player). IfOk c.serve_region.result (IsServed r new c.args.seat x c.args.ask.now)) (same_Some _ _ (sym here ∙ e))
    (region_ok r c.requires.lives c.args.seat p here c.args.ask.now at free (on_region c.args.ask.now c.in-Region.is) new c.serve_region.result bytes c.serve_region.ensures.after c.serve_region.ensures.reply refl (record {
      players = set_changed r.players.items c.args.seat p c.serve_region.new.player bytes here c.serve_region.ensures.player;
      floor = refl;
      events = refl;
      protos = refl;
    }))

pub returns-in-Region-clause-lives : goal.returns-in-Region-clause-lives
returns-in-Region-clause-lives c =
    let r = c.args.self.now in
    let p = c.index_mut-player.result.now in
    let here = slice_get_read r.players.items (length r.players.items) c.args.seat p refl c.requires.within c.index_mut-player.ensures.value in
    let at = c.requires.asks p here in
    let free = c.requires.free p here in
    let new : Running = record r { objects = c.serve_region.new.objects; players = with_item r.players c.args.seat c.serve_region.new.player } in
    on_both c.serve_region.result (c.serve_region.new.objects ≡ r.objects) (c.serve_region.new.player ≡ p) (Lives new) c.serve_region.ensures.want c.serve_region.ensures.wanting (λ o k. still_lives r new c.requires.lives refl o refl (set_none r.players.items c.args.seat p c.serve_region.new.player here k) (record { protos = refl; events = refl }))
