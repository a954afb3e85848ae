-- The sizes stay.
use Rattle.std.proofs.Common.{ap, ◌∙◌}
use Rattle.world_objects.specs.Kept.{sizes}
use Rattle.world_objects.proofs.Sizes.{sizes_set}
use Rattle.world_objects.proofs.row.Row.move_between.Goals as goal

pub returns-clause-local_sizes : goal.returns-clause-local_sizes
returns-clause-local_sizes c =
    sizes_set c.locals.inside.objects.items c.args.key c.index_mut-local.result.now c.move_between.new.local c.index_mut-local.ensures.value c.move_between.ensures.local_size ∙ ap sizes c.locals.view_is

pub returns-clause-global_sizes : goal.returns-clause-global_sizes
returns-clause-global_sizes c =
    sizes_set c.globals.inside.objects.items c.args.key c.index_mut-global.result.now c.move_between.new.global c.index_mut-global.ensures.value c.move_between.ensures.global_size ∙ ap sizes c.globals.view_is
