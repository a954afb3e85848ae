-- The turns end with the move or as they were.
use Rattle.std.proofs.Common.{◌∙◌, refl, sym, ap, subst}
use Rattle.shared_region.specs.Moves.{MoveFits}
use Rattle.shared_region.specs.Shared.{Shared}
use Rattle.state_service.proofs.Turned.{waits}
use Rattle.state_service.proofs.Turns.{is_out, sized, move_made}
use Rattle.state_service.proofs.moving.try_move.Goals as goal

pub move_between-requires-clause-one_size : goal.move_between-requires-clause-one_size
move_between-requires-clause-one_size g c =
    let z = sized c.args.locals.now c.args.globals.now _ _ _ _ c.args.key c.args.kind _ _ c.requires c.take_both-local.ensures.local c.take_both-local.ensures.global in
    let size = λ (s : Shared). s.region.size in
    ap size c.value_mut.ensures.value ∙ (z.local_size ∙ (sym z.global_size ∙ ap size (sym c.value_mut-2.ensures.value)))

pub move_between-requires-clause-fits : goal.move_between-requires-clause-fits
move_between-requires-clause-fits g c =
    let z = sized c.args.locals.now c.args.globals.now _ _ _ _ c.args.key c.args.kind _ _ c.requires c.take_both-local.ensures.local c.take_both-local.ensures.global in
    subst (MoveFits c.args.kind) (sym (ap (λ (s : Shared). s.region.size) c.value_mut.ensures.value ∙ z.local_size)) z.fits

pub give_both-requires-clause-local : goal.give_both-requires-clause-local
give_both-requires-clause-local g c = is_out _ _ _ _ _ c.take_both-local.result.local _ c.take_both-local.ensures.local refl (λ t s. s)

pub give_both-requires-clause-global : goal.give_both-requires-clause-global
give_both-requires-clause-global g c = is_out _ _ _ _ _ c.take_both-local.result.global _ c.take_both-local.ensures.global refl (λ t s. s)

pub give_back_both-requires-clause-local : goal.give_back_both-requires-clause-local
give_back_both-requires-clause-local g c = is_out _ _ _ _ _ c.take_both-local.result.local _ c.take_both-local.ensures.local refl (λ t s. s)

pub give_back_both-requires-clause-global : goal.give_back_both-requires-clause-global
give_back_both-requires-clause-global g c = is_out _ _ _ _ _ c.take_both-local.result.global _ c.take_both-local.ensures.global refl (λ t s. s)

pub returns-in-Ok-clause-made : goal.returns-in-Ok-clause-made
returns-in-Ok-clause-made g c _ =
    move_made c.args.locals.now c.args.globals.now _ _ _ _ _ _ c.args.key c.args.kind c.take_both-local.result.local _ c.take_both-local.result.global _ c.requires c.take_both-local.ensures.local c.take_both-local.ensures.global refl refl c.give_both.ensures.local
    c.give_both.ensures.global

pub returns-in-Err-clause-blocked_local : goal.returns-in-Err-clause-blocked_local
returns-in-Err-clause-blocked_local g c _ = waits _ _ _ _ _ c.take_both-local.result.local _ c.take_both-local.ensures.local c.give_back_both.ensures.local refl refl

pub returns-in-Err-clause-blocked_global : goal.returns-in-Err-clause-blocked_global
returns-in-Err-clause-blocked_global g c _ = waits _ _ _ _ _ c.take_both-local.result.global _ c.take_both-local.ensures.global c.give_back_both.ensures.global refl refl
