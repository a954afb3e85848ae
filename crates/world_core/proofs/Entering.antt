-- An event that may stand came, and what is kept is the world behind it.
use Rattle.std.proofs.Common.{◌≡◌, List, [], ◌∷◌, ◌++◌, None, refl, sym, ap, subst, ◌∙◌}
use Rattle.session_meaning.specs.declared.event.Event.{Event}
use Rattle.session_meaning.specs.Events.{Stand, Worlds, step, why, world}
use Rattle.session_meaning.specs.Plan.{Plan}
use Rattle.session_meaning.specs.WellFormed.{WellFormed}
use Rattle.session_meaning.specs.World.{World, first_world}
use Rattle.session_meaning.proofs.CallsRan.{worlds_more}
use Rattle.world_core.specs.Living.{Entered, KeepsWorld, Settling, world_of}
use Rattle.world_core.specs.declared.running.Running.{Running}

pub made_of : (c : Running) → Settling c → Worlds c.protos.now c.events.items (world_of c)
made_of c settling = record { stand = settling.stand; world_so = refl }

-- where this is the world behind it
pub entered : (e : Event) (c new : Running) (v : World) → Settling c → why (world_of c) e ≡ None → new.protos ≡ c.protos → new.events.items ≡ c.events.items ++ e ∷ [] → step c.protos.now (world_of c) e ≡ v → KeepsWorld c.protos.now v new → Entered e c new
entered e c new v settling free protos events is keeps =
    record {
      protos = protos;
      events = events;
      settling = record {
        formed = subst WellFormed (sym same) settling.formed;
        stand = subst (λ (q : Plan). Stand q (first_world q) new.events.items) (sym same) (subst (λ (es : List Event). Stand c.protos.now (first_world c.protos.now) es) (sym events) more.stand);
        keeps = subst (λ (q : Plan). KeepsWorld q (world q new.events.items) new) (sym same) (subst (λ (es : List Event). KeepsWorld c.protos.now (world c.protos.now es) new) (sym events) (subst (λ v. KeepsWorld c.protos.now v new) (sym is ∙ more.world_so) keeps));
      };
    }
  where
    more : Worlds c.protos.now (c.events.items ++ e ∷ []) (step c.protos.now (world_of c) e)
    more = worlds_more c.protos.now c.events.items (world_of c) e (made_of c settling) free

    same : new.protos.now ≡ c.protos.now
    same = ap (λ p. p.now) protos
