-- What a rule of the whole machine does: afterwards the machine stands for what comes next. This project's own.
use Rattle.std.specs.Prelude.{◌≡◌, ◌≢◌, ℕ, Bool, true, false, List, Option, Some, None, option_map, length, take}
use Rattle.faaslet_meaning.specs.declared.instr.Instr.{Instr}
use Rattle.faaslet_meaning.specs.declared.module.Module.{Module}
use Rattle.faaslet_meaning.specs.declared.grant.Grant.{Grant}
use Rattle.faaslet_meaning.specs.declared.outcome.Outcome.{Outcome}
use Rattle.faaslet_meaning.specs.Valid.{Valid}
use Rattle.faaslet_meaning.specs.Runnable.{HostImports}
use Rattle.faaslet_meaning.specs.Memory.{Memory, Backing, touch_of}
use Rattle.faaslet_meaning.specs.Configuration.{Program, Configuration, Begun, Next, stuck}
use Rattle.faaslet_meaning.specs.Program.{program_of}
use Rattle.faaslet_meaning.specs.Step.{plain_step, begin}
use Rattle.wasm_interp.specs.Rooms.{SameRooms}
use Rattle.wasm_interp.specs.Stands.{Stands}
use Rattle.wasm_interp.specs.StandsFor.{Agrees, StageStands, to_write, access_of}
use Rattle.wasm_interp.specs.declared.machine.Stage.{Stage}
use Rattle.wasm_interp.specs.declared.machine.Stage.TheVariants as stage
use Rattle.wasm_interp.specs.declared.machine.Event.{Event}
use Rattle.wasm_interp.specs.declared.machine.Event.TheVariants as event
use Rattle.wasm_interp.specs.declared.machine.Machine.{Machine}

-- the machine has this module, and p is its program with grants that agree with what may be written
pub record Loaded {M : Type 0} (m : Machine M) (p : Program) : Type 0 where
  pub code : Module
  pub grants : List Grant
  pub is_loaded : option_map (λ r. r.now) m.code ≡ Some code
  pub valid : Valid code
  pub imports : HostImports code
  pub agrees : Agrees m.writable grants
  pub program_is : p ≡ program_of code grants

-- what a rule leaves as it was; `behind` is what lies behind a memory
pub record SameRun {M : Type 0} (behind : M → Backing) (m new : Machine M) : Type 0 where
  pub code : new.code ≡ m.code
  pub given : new.given ≡ m.given
  pub writable : new.writable ≡ m.writable
  pub rooms : SameRooms m.thread new.thread
  pub backing : behind new.memory ≡ behind m.memory
  pub aside : new.aside ≡ m.aside

-- the machine runs, and stands for a configuration at which this isn't stuck
pub record Able {M : Type 0} (shape : M → Memory) (m : Machine M) (go : Program → Configuration → Next) : Type 0 where
  pub runs : m.stage ≡ stage.Runs
  pub program : Program
  pub loaded : Loaded m program
  pub config : Configuration
  pub stands : Stands (shape m.memory) m.thread config
  pub not_stuck : go program config ≢ stuck

-- the rule was done
abbrev pub Done : {M : Type 0} → (M → Memory) → Machine M → Machine M → (Program → Configuration → Next) → Type 0
Done shape m new go = (p : Program) (c : Configuration) → Loaded m p → Stands (shape m.memory) m.thread c → go p c ≢ stuck → StageStands (shape new.memory) new.thread new.stage (go p c)

-- an instruction without blocks, once it is paid for and passed
abbrev pub instruction : Instr → Program → Configuration → Next
instruction i p c = plain_step p c i c.frame.values

-- the first instruction of what is next, once it is paid for
abbrev pub beginning : Program → Configuration → Next
beginning p c = begin p c c.frame.rest

-- the stage after a rule of the thread
abbrev pub settled : Option Outcome → Stage → Stage
settled None s = s
settled (Some o) s = stage.Over o

abbrev pub does_run : Stage → Bool
does_run stage.Runs = true
does_run _ = false

-- what is told at a stage
abbrev pub event_of : Stage → Option Event
event_of stage.Runs = None
event_of (stage.Piece q) = Some (event.Piece q.ask)
event_of (stage.Host ask) = Some (event.Host ask)
event_of (stage.Over o) = Some (event.Ended o)

-- where the machine stands at a piece to write, the bytes are in the scratch
abbrev pub Shown : List ℕ → Begun → Type 0
Shown scratch b = let bytes = to_write (touch_of (access_of b)) in take (length bytes) scratch ≡ bytes
