-- A machine that is about to run `main` of a snapshot, with nothing mapped. This project's own.
use Rattle.std.specs.Prelude.{◌≡◌, ℕ, List, Some}
use Rattle.faaslet_meaning.specs.declared.grant.Grant.{Grant}
use Rattle.faaslet_meaning.specs.Configuration.{Configuration, goes}
use Rattle.faaslet_meaning.specs.Fresh.{Function, entry, makes}
use Rattle.faaslet_meaning.specs.Memory.{IsMemory}
use Rattle.proto_faaslet.specs.Entries.{IsFor}
use Rattle.proto_faaslet.specs.Snapshots.{Snapshot, stored}
use Rattle.region_map.specs.Segments.{Segmented}
use Rattle.wasm_interp.specs.StandsFor.{StandsFor}
use Rattle.wasm_interp.specs.declared.machine.Machine.{Machine}

-- it stands for what a function with these grants begins with, and its memory keeps to what every memory does
pub record IsBegun (m : Machine Segmented) (p : Snapshot) (grants : List Grant) (fuel : ℕ) : Type 0 where
  pub stands : (f : Function) (c : Configuration) → IsFor f p.code p.quota fuel → f.grants ≡ grants → entry f (stored p) (Some p.main) ≡ makes c → StandsFor (λ x. x.memory) m p.code f.grants fuel (goes c)
  pub sound : IsMemory m.memory.memory
