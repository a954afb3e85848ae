use Rattle.std.proofs.Common.{[], refl, sym}
use Rattle.grant_registry.specs.Entries.{function_of}
use Rattle.grant_registry.proofs.Placed.{found}
use Rattle.grant_registry.proofs.registry.Registry.grants_of.Goals as goal

pub returns : goal.returns
returns c = rw (← c.self.view_is) (sym (found function_of _ c.args.f c.index.result.now (λ f. f.grants) [] c.index.ensures _ (λ k. refl)))
