-- What a snapshot keeps. This project's own.
use Rattle.std.specs.Prelude.{◌≡◌, ℕ, ◌≤◌, List, [], ◌∷◌, Option, Some, codes}
use Rattle.faaslet_meaning.specs.declared.grant.Grant.{Grant}
use Rattle.faaslet_meaning.specs.declared.module.Module.{Module}
use Rattle.faaslet_meaning.specs.Configuration.{Configuration, goes}
use Rattle.faaslet_meaning.specs.Fresh.{Function, Store, makes, fresh, entry}
use Rattle.faaslet_meaning.specs.Memory.{Content, Memory, private}
use Rattle.faaslet_meaning.specs.Program.{export_of}
use Rattle.faaslet_meaning.specs.Runnable.{HostImports}
use Rattle.region_map.specs.Segments.{Segmented, backing_of}
use Rattle.wasm_interp.specs.declared.machine.Machine.{Machine}
use Rattle.wasm_interp.specs.Rooms.{SameRooms}
use Rattle.wasm_interp.specs.StandsFor.{Agrees, StandsFor}
use Rattle.proto_faaslet.specs.Entries.{CanEnter, IsKept, IsFor}
use Rattle.proto_faaslet.specs.declared.proto.Proto.TheInside.{Inside}

-- the memory that an image is of: one private segment, with this quota
abbrev pub image_memory : Content → ℕ → Memory
image_memory c quota = record { segments = record { home = private; pages = c.pages } ∷ []; bytes = c.bytes; quota = quota }

-- a module with its quota, and what it keeps where it is about to run `main`
pub record Snapshot : Type 0 where
  pub code : Module
  pub quota : ℕ
  pub globals : List ℕ
  pub table : List (Option ℕ)
  pub image : Content
  pub main : ℕ

abbrev pub snapshot_in : Inside → Snapshot
snapshot_in p = record { code = p.module.now; quota = p.quota; globals = p.kept.globals; table = p.kept.table; image = p.image; main = p.main }

-- what is kept, as a store
abbrev pub stored : Snapshot → Store
stored p = record { globals = p.globals; table = p.table; memory = image_memory p.image p.quota }

pub record IsSnapshot (p : Snapshot) : Type 0 where
  pub imports : HostImports p.code
  pub kept : IsKept p.code p.quota (stored p)
  pub within : p.image.pages ≤ p.quota
  pub main : CanEnter p.code p.main

-- a snapshot of the module that keeps this store
pub record Keeps (p : Snapshot) (m : Module) (quota : ℕ) (s : Store) : Type 0 where
  pub code : p.code ≡ m
  pub quota_is : p.quota ≡ quota
  pub store_is : stored p ≡ s
  pub main_is : export_of m (codes "main") ≡ Some p.main
  pub enters : CanEnter m p.main

-- The snapshot of functions with this module, this quota and this fuel: they have a fresh state, and that is about to run
-- `main` of what is kept.
pub record IsSnapshotOf (m : Module) (quota fuel : ℕ) (p : Snapshot) : Type 0 where
  pub code : p.code ≡ m
  pub quota_is : p.quota ≡ quota
  pub fresh_is : (f : Function) → IsFor f m quota fuel → (c : Configuration) × (fresh f ≡ makes c) × (entry f (stored p) (Some p.main) ≡ makes c)

-- The machine stands for what the snapshot keeps, with so much fuel, for any grants that agree with what it may write. As
-- there are such grants, it can be run. Behind its memory are the snapshot's quota and content, which no run changes.
pub record IsRestored (p : Snapshot) (fuel : ℕ) (old new : Machine Segmented) : Type 0 where
  pub stands : (f : Function) (c : Configuration) → IsFor f p.code p.quota fuel → Agrees old.writable f.grants → entry f (stored p) (Some p.main) ≡ makes c → StandsFor (λ m. m.memory) new p.code f.grants fuel (goes c)
  pub ready : (grants : List Grant) × (c : Configuration) × StandsFor (λ m. m.memory) new p.code grants fuel (goes c)
  pub writable : new.writable ≡ old.writable
  pub rooms : SameRooms old.thread new.thread
  pub backing : backing_of new.memory ≡ record { quota = p.quota; room = old.memory.room; last = Some p.image }
