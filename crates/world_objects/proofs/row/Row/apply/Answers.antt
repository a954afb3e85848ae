-- The sizes stay.
use Rattle.std.proofs.Common.{ap, ◌∙◌}
use Rattle.world_objects.specs.Kept.{sizes}
use Rattle.world_objects.proofs.Sizes.{sizes_set}
use Rattle.world_objects.proofs.row.Row.apply.Goals as goal

pub returns-clause-sizes : goal.returns-clause-sizes
returns-clause-sizes c =
    sizes_set c.self.inside.objects.items c.args.key c.index_mut.result.now c.apply.new.self c.index_mut.ensures.value c.apply.ensures.size ∙ ap sizes c.self.view_is
