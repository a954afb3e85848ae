-- Each replica has the size of its key.
use Rattle.std.proofs.Common.{sym, ap, ◌∙◌, subst, map}
use Rattle.std.specs.Prelude.{◌≡◌, All}
use Rattle.std.proofs.lemmas.List.Elements.{All-replicate}
use Rattle.world_objects.specs.Kept.{sizes}
use Rattle.world_objects.specs.Served.{local_start}
use Rattle.world_objects.proofs.Sizes.{start_sizes}
use Rattle.world_objects.proofs.objects.Objects.new.Goals as goal

pub invariant_of-result : goal.invariant_of-result
invariant_of-result c =
    subst (λ rows. All (λ row. sizes row ≡ sizes c.in_ok-global_values.field-0) rows) (sym c.hosts.invariant)
    (All-replicate (λ row. sizes row ≡ sizes c.in_ok-global_values.field-0) c.hosts._host (map local_start c.args.keys.now) (start_sizes c.args.keys.now ∙ ap sizes (sym c.in_ok-global_values.ensures)))
