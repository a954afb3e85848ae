-- Where there is no memory the global values end with the passes that they came with.
use Rattle.std.proofs.Common.{sym, subst}
use Rattle.region_tier.proofs.Dealing.{fresh_are_rows}
use Rattle.region_tier.specs.Tiers.{AreRows, cells_of}
use Rattle.session_objects.specs.Shape.{benches}
use Rattle.session_objects.proofs.opening.open_shared.Goals as goal

pub close-requires-clause-passes : goal.close-requires-clause-passes
close-requires-clause-passes c = let o = c.in-Ok.ensures in
    subst (λ n. AreRows (cells_of c.in-Ok.globals) n c.in-Ok.rows.items) (sym o.tier.numbered) (fresh_are_rows (cells_of c.in-Ok.globals) (benches c.args.registry.now) c.in-Ok.rows.items o.passes)
