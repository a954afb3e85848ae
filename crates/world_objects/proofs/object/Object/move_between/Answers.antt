-- Both objects have the operation of the move that is theirs.
use Rattle.std.proofs.Common.{◌∷◌, ◌++◌, [], sym, ap, ◌∙◌, subst, arith}
use Rattle.shared_region.specs.Moves.{MoveFits}
use Rattle.world_objects.specs.Kept.{Kept}
use Rattle.world_objects.proofs.Moved.{Sized, local_moved, global_moved, moved_here}
use Rattle.world_objects.proofs.object.Object.move_between.Goals as goal

sized : (c : goal.In-Ok) → Sized c.size-size.result c.local.inside.region.region c.global.inside.region.region c.args.kind
sized c = record {
  local_so = c.size-size.ensures.told;
  global_so = omega (arith, c.size-size.ensures.told, c.size.ensures.told, c.if-prove_eq.false);
  local_whole = c.size-size.ensures.within;
  global_whole = omega (arith, c.size.ensures.told, c.size.ensures.within, c.if-prove_eq.false);
  fits = subst (λ (k : Kept). MoveFits c.args.kind k.region.size) (sym c.local.view_is) c.requires.fits;
}

pub returns-clause-local : goal.returns-clause-local
returns-clause-local c =
    local_moved c.args.maker c.size-size.result c.args.kind c.local.inside.region c.global.inside.region c.move_between.new.local c.local.inside.trail.items c.global.inside.trail.items c.push_reserved.new.self.items c.args.local.now c.args.global.now c.local_mark.result c.local.view_is c.global.view_is (sized c) c.local_mark.ensures c.in-Ok.ensures.local (c.push_reserved.ensures.items ∙ ap (λ xs. xs ++ c.local_mark.result ∷ []) c.in_ok-reserve.ensures.items)

pub returns-clause-global : goal.returns-clause-global
returns-clause-global c =
    global_moved c.args.maker c.size-size.result c.args.kind c.local.inside.region c.global.inside.region c.move_between.new.global c.local.inside.trail.items c.global.inside.trail.items c.push.new.self.items c.args.local.now c.args.global.now c.global_mark.result c.local.view_is c.global.view_is (sized c) c.global_mark.ensures c.in-Ok.ensures.global c.in_ok-push.ensures.items

pub returns-clause-long : goal.returns-clause-long
returns-clause-long c =
    moved_here c.size-size.result c.args.kind c.local.inside.region c.global.inside.region c.local.inside.trail.items c.global.inside.trail.items c.args.local.now c.args.global.now c.local.view_is c.global.view_is (sized c)
