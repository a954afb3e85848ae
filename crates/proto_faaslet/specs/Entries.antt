-- Which functions are entered, and what is kept between their entries. This project's own.
use Rattle.std.specs.Prelude.{◌≡◌, ℕ, ◌≤◌, [], Option, Some, None, length, codes}
use Rattle.faaslet_meaning.specs.declared.module.Module.{Module}
use Rattle.faaslet_meaning.specs.declared.module.FuncType.{FuncType}
use Rattle.faaslet_meaning.specs.declared.outcome.Broken.{Broken}
use Rattle.faaslet_meaning.specs.declared.outcome.Broken.TheVariants as broken
use Rattle.faaslet_meaning.specs.declared.outcome.Outcome.{Outcome}
use Rattle.faaslet_meaning.specs.declared.outcome.Outcome.TheVariants as outcome
use Rattle.faaslet_meaning.specs.Configuration.{Configuration}
use Rattle.faaslet_meaning.specs.ControlRules.{entered}
use Rattle.faaslet_meaning.specs.Fine.{ground_of, TableOk}
use Rattle.faaslet_meaning.specs.Fresh.{Function, Store, Made, makes, then_make, through}
use Rattle.faaslet_meaning.specs.IndexSpaces as spaces
use Rattle.faaslet_meaning.specs.Program.{table_size, export_of}
use Rattle.faaslet_meaning.specs.Tree.{Tree}
use Rattle.proto_faaslet.specs.Instances.{IsOne}
use Rattle.wasm_interp.specs.StandsFor.{IsEntry}
use Rattle.wasm_interp.specs.declared.machine.Event.{Event}
use Rattle.wasm_interp.specs.declared.machine.Event.TheVariants as event
use Rattle.wasm_interp.specs.declared.machine.Machine.{Machine}

-- a function of the module that can be entered
pub record CanEnter (m : Module) (k : ℕ) : Type 0 where
  pub type : FuncType
  pub locals : ℕ
  pub body : Tree
  pub entry : IsEntry m k type locals body

-- about to run it, with so much fuel
abbrev pub begun : {m : Module} {k : ℕ} → CanEnter m k → Store → ℕ → Configuration
begun e s fuel = record { frame = entered e.type e.locals e.body []; callers = []; globals = s.globals; table = s.table; memory = s.memory; fuel = fuel }

-- what a module keeps, with one private segment and this quota
pub record IsKept (m : Module) (quota : ℕ) (s : Store) : Type 0 where
  pub globals : length s.globals ≡ length (spaces.globals m)
  pub table : length s.table ≡ table_size m
  pub indices : TableOk (ground_of m) s.table
  pub one : IsOne s.memory.segments
  pub quota_is : s.memory.quota ≡ quota

-- the function has this module, this quota and this fuel
pub record IsFor (f : Function) (m : Module) (quota fuel : ℕ) : Type 0 where
  pub code : f.code ≡ m
  pub quota_is : f.quota ≡ quota
  pub fuel_is : f.fuel ≡ fuel

-- an entry left this of what was kept
pub record Passes (m : Module) (quota fuel : ℕ) (entry : Option ℕ) (s t : Store) : Type 0 where
  pub kept : IsKept m quota t
  pub through_is : (f : Function) → IsFor f m quota fuel → through f entry s ≡ makes t

-- How an outcome breaks the function; where the entry is done it doesn't. Other outcomes a machine alone doesn't come to.
abbrev pub fault_of_outcome : Outcome → Option Broken
fault_of_outcome (outcome.Trap t) = Some (broken.Trap t)
fault_of_outcome outcome.FuelOut = Some broken.Fuel
fault_of_outcome _ = None

-- the start function, and then `init`
abbrev pub initialized : Function → Store → Made Store
initialized f s = then_make (through f f.code.start s) λ t. through f (export_of f.code (codes "init")) t

-- both left this of what was kept
pub record IsInitialized (m : Module) (quota fuel : ℕ) (s t : Store) : Type 0 where
  pub kept : IsKept m quota t
  pub is : (f : Function) → IsFor f m quota fuel → initialized f s ≡ makes t

-- ---- What a machine tells.

-- how the end of an entry, or its stop, breaks the function
abbrev pub fault_of : Event → Option Broken
fault_of (event.Ended o) = fault_of_outcome o
fault_of (event.Host ask) = Some broken.HostCall
fault_of (event.Piece ask) = None

-- what a machine alone comes to, over private memory
abbrev pub EndsAlone : Outcome → Type 0
EndsAlone (outcome.Broken kind) = ⊥
EndsAlone outcome.Want = ⊥
EndsAlone _ = Unit {0}

abbrev pub IsAlone : Event → Type 0
IsAlone (event.Ended o) = EndsAlone o
IsAlone (event.Host ask) = Unit {0}
IsAlone (event.Piece ask) = ⊥

-- a machine has room for the module
pub record HasRoom {M : Type 0} (machine : Machine M) (m : Module) : Type 0 where
  pub globals : length (spaces.globals m) ≤ machine.thread.globals.room
  pub table : table_size m ≤ machine.thread.table.room
