-- The objects of the key are those of the row.
use Rattle.std.proofs.Common.{length, sym, ap, ◌∙◌, refl}
use Rattle.std.proofs.lemmas.Option.{slice_get_read}
use Rattle.world_objects.specs.Kept.{Kept, sizes, applied}
use Rattle.shared_region.specs.Moves.{global_part, local_part, moved}
use Rattle.world_objects.proofs.Placed.{host_there, local_object, global_object, both_after}
use Rattle.world_objects.proofs.Sizes.{one_size}
use Rattle.world_objects.proofs.objects.Objects.move_between.Goals as goal

pub move_between-requires-clause-one_size : goal.move_between-requires-clause-one_size
move_between-requires-clause-one_size c x e y f =
    let rows = c.self.inside.locals.items in
    let there = host_there c.args.self.now rows c.self.inside.globals c.args.host c.args.key c.self.view_is c.requires.local in
    let row = c.index_mut.result.now in
    one_size row c.self.inside.globals c.args.key x y (ap sizes c.index_mut.ensures.value ∙ c.self.invariant c.args.host row there) e f

pub move_between-requires-clause-free : goal.move_between-requires-clause-free
move_between-requires-clause-free c x e y f =
    let rows = c.self.inside.locals.items in
    let there = host_there c.args.self.now rows c.self.inside.globals c.args.host c.args.key c.self.view_is c.requires.local in
    let row = c.index_mut.result.now in
    let read = slice_get_read rows (length rows) c.args.host row refl there c.index_mut.ensures.value in
    c.requires.free x (sym (local_object c.args.self.now rows c.self.inside.globals c.args.host c.args.key row c.self.view_is read) ∙ e) y (sym (global_object c.args.self.now rows c.self.inside.globals c.args.host c.args.key c.self.view_is) ∙ f)

pub returns-clause-after : goal.returns-clause-after
returns-clause-after c =
    let rows = c.self.inside.locals.items in
    let there = host_there c.args.self.now rows c.self.inside.globals c.args.host c.args.key c.self.view_is c.requires.local in
    let row = c.index_mut.result.now in
    let read = slice_get_read rows (length rows) c.args.host row refl there c.index_mut.ensures.value in
    both_after c.args.self.now rows c.self.inside.globals c.args.host c.args.key row c.move_between.new.locals c.move_between.new.globals (λ (l : Kept) (g : Kept). applied c.args.call (local_part c.args.kind (moved l.region g.region c.args.kind))) (λ (l : Kept) (g : Kept). applied c.args.call (global_part c.args.kind g.region.size (moved l.region g.region c.args.kind))) c.move_between.result c.self.view_is read c.move_between.ensures.local c.move_between.ensures.global
