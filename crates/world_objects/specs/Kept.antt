-- What is kept of the objects of a world: their regions, and their histories without the bytes. This project's own.
use Rattle.std.specs.Prelude.{ℕ, List, [], ◌∷◌, ◌++◌, map}
use Rattle.session_meaning.specs.declared.mark.Mark.{Mark}
use Rattle.faaslet_meaning.specs.Channels.{RegionOperation}
use Rattle.faaslet_meaning.specs.Region as region
use Rattle.faaslet_meaning.specs.Region.{Region}
use Rattle.session_meaning.specs.Trail.{mark}
use Rattle.session_meaning.specs.World.{Object, World}

pub record Kept : Type 0 where
  pub region : Region
  pub trail : List Mark

abbrev pub kept : Object → Kept
kept o = record { region = o.region; trail = map mark o.history }

-- the replicas of each host, and the global values, in the order of the keys
pub record Objects : Type 0 where
  pub locals : List (List Kept)
  pub globals : List Kept

abbrev pub objects_of : World → Objects
objects_of w = record { locals = map (λ objects. map kept objects) w.locals; globals = map kept w.globals }

-- with one more operation of a maker
abbrev pub applied : ℕ → RegionOperation → Kept → Kept
applied maker op o = record { region = region.after o.region maker op; trail = o.trail ++ mark (maker, op) ∷ [] }

-- the sizes of the keys
abbrev pub sizes : List Kept → List ℕ
sizes row = map (λ x. x.region.size) row
