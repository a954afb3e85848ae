-- What a machine stands for: a `Next` of the program of its module. This project's own.
use Rattle.std.specs.Prelude.{◌≡◌, ℕ, ◌/◌, ◌<◌, ◌≤◌, ◌^◌, ◌%◌, List, [], Option, Some, None, Bool, true, false, length, take, option_map, slice_get, nat_eq}
use Rattle.faaslet_meaning.specs.declared.module.Module.{Module}
use Rattle.faaslet_meaning.specs.declared.grant.Grant.{Grant}
use Rattle.faaslet_meaning.specs.declared.grant.Mode.TheVariants.{Write}
use Rattle.faaslet_meaning.specs.declared.outcome.Outcome.{Outcome}
use Rattle.faaslet_meaning.specs.declared.outcome.Outcome.TheVariants as outcome
use Rattle.faaslet_meaning.specs.Valid.{Valid}
use Rattle.faaslet_meaning.specs.Runnable.{HostImports}
use Rattle.faaslet_meaning.specs.Memory.{Memory, Access, reads, writes, Touch, reads_piece, writes_piece, touch_of, grant_limit}
use Rattle.faaslet_meaning.specs.MemoryRules.{granted}
use Rattle.faaslet_meaning.specs.HostCalls.{HostCall, HostRow, host_rows, made, arity}
use Rattle.faaslet_meaning.specs.Configuration.{defined, Program, Configuration, Begun, load, store, Next, goes, ends, touches, calls, stuck}
use Rattle.faaslet_meaning.specs.Fine.{ground_of, NextOk}
use Rattle.faaslet_meaning.specs.Fresh.{steps, then_go}
use Rattle.faaslet_meaning.specs.Program.{functions_of, program_of}
use Rattle.faaslet_meaning.specs.Limits.{value_limit}
use Rattle.faaslet_meaning.specs.Tree.{Tree}
use Rattle.faaslet_meaning.specs.declared.module.FuncType.{FuncType}
use Rattle.wasm_interp.specs.Parts.{ReadStands, WriteStands}
use Rattle.wasm_interp.specs.Stands.{Stands, KeptFor}
use Rattle.wasm_interp.specs.declared.machine.PieceAsk.{PieceAsk}
use Rattle.wasm_interp.specs.declared.machine.HostAsk.{HostAsk}
use Rattle.wasm_interp.specs.declared.machine.Pending.{Pending}
use Rattle.wasm_interp.specs.declared.machine.Event.{Event}
use Rattle.wasm_interp.specs.declared.machine.Event.TheVariants as event
use Rattle.wasm_interp.specs.declared.machine.Stage.{Stage}
use Rattle.wasm_interp.specs.declared.machine.Stage.TheVariants as stage
use Rattle.wasm_interp.specs.declared.machine.Machine.{Machine}
use Rattle.wasm_interp.specs.declared.thread.Thread.{Thread}

-- bit k of `writable`: the replica at place k may be written
abbrev pub bit : ℕ → ℕ → Bool
bit writable k = nat_eq (writable / 2 ^ k % 2) 1

abbrev pub Agrees : ℕ → List Grant → Type 0
Agrees writable grants = (k : ℕ) → k < grant_limit → granted Write (slice_get grants k) ≡ bit writable k

-- an entry of a module: a function with a body, without parameters, with a result at most, and with few enough locals
pub record IsEntry (code : Module) (k : ℕ) (t : FuncType) (locals : ℕ) (body : Tree) : Type 0 where
  pub found : slice_get (functions_of code) k ≡ Some (defined t locals body)
  pub params : t.params ≡ []
  pub results : length t.results ≤ 1
  pub few : locals ≤ value_limit

-- the access of a load or a store that has begun
abbrev pub access_of : Begun → Access
access_of (load l a) = a
access_of (store a) = a

-- what is asked of a shared piece
abbrev pub PieceIs : PieceAsk → Touch → Type 0
PieceIs ask (reads_piece place off size) = (ask.place ≡ place) × (ask.off ≡ off) × (ask.len ≡ size) × (ask.write ≡ false)
PieceIs ask (writes_piece place off bytes) = (ask.place ≡ place) × (ask.off ≡ off) × (ask.len ≡ length bytes) × (ask.write ≡ true)

pub record AsksPiece (ask : PieceAsk) (b : Begun) : Type 0 where
  pub touch : Touch
  pub touched : touch_of (access_of b) ≡ Some touch
  pub is : PieceIs ask touch

-- the bytes that the piece is written with
abbrev pub to_write : Option Touch → List ℕ
to_write None = []
to_write (Some (reads_piece place off size)) = []
to_write (Some (writes_piece place off bytes)) = bytes

-- how many bytes a reply to the piece has
abbrev pub size_of_reply : Option Touch → ℕ
size_of_reply None = 0
size_of_reply (Some (reads_piece place off size)) = size
size_of_reply (Some (writes_piece place off bytes)) = 0

abbrev pub reply_size : Begun → ℕ
reply_size b = size_of_reply (touch_of (access_of b))

-- what a host call is asked with
pub record AsksHost (ask : HostAsk) (h : HostCall) : Type 0 where
  pub row : HostRow
  pub row_is : slice_get host_rows ask.call ≡ Some row
  pub made_is : made row.form (take (arity row.form) ask.args) ≡ Some h

-- a load or a store that stands at a shared piece
abbrev pub PendingIs : Memory → Pending → Begun → Type 0
PendingIs memory q (load l (reads at n left copy)) = ReadStands memory q l at n left copy
PendingIs memory q (store (writes left bytes)) = WriteStands memory q left bytes
PendingIs memory q _ = ⊥

-- how many operands it still has
abbrev pub operands : Begun → ℕ
operands (load l a) = 1
operands (store a) = 2

pub record PendingStands (memory : Memory) (q : Pending) (values : List ℕ) (b : Begun) : Type 0 where
  pub asks : AsksPiece q.ask b
  pub is : PendingIs memory q b
  pub there : operands b ≤ length values

-- where the machine is
abbrev pub StageStands : Memory → Thread → Stage → Next → Type 0
StageStands memory t stage.Runs (goes c) = Stands memory t c
StageStands memory t (stage.Piece q) (touches c b) = Stands memory t c × PendingStands memory q c.frame.values b
StageStands memory t (stage.Host ask) (calls c h) = Stands memory t c × AsksHost ask h
StageStands memory t (stage.Over o) (ends c p) = (o ≡ p) × KeptFor memory t c
StageStands memory t _ _ = ⊥

-- what a run comes to by itself
abbrev pub EndsRun : Outcome → Type 0
EndsRun (outcome.Done v) = Unit {0}
EndsRun (outcome.Trap t) = Unit {0}
EndsRun outcome.FuelOut = Unit {0}
EndsRun _ = ⊥

-- it has at most so much fuel, and where it ends it ends as a run does
abbrev pub OfRun : ℕ → Next → Type 0
OfRun n (goes c) = c.fuel ≤ n
OfRun n (ends c o) = (c.fuel ≤ n) × EndsRun o
OfRun n (touches c b) = c.fuel ≤ n
OfRun n (calls c h) = c.fuel ≤ n
OfRun n stuck = Unit {0}

-- The machine stands for this, as the program of a module with these grants, begun with so much fuel. What it stands for is
-- typed, so no step from it is stuck, and is one of a run: it has at most the fuel that was given, and ends as runs do.
pub record StandsFor {M : Type 0} (shape : M → Memory) (m : Machine M) (code : Module) (grants : List Grant) (given : ℕ) (n : Next) : Type 0 where
  pub loaded : option_map (λ r. r.now) m.code ≡ Some code
  pub valid : Valid code
  pub imports : HostImports code
  pub agrees : Agrees m.writable grants
  pub given_is : m.given ≡ given
  pub typed : NextOk (ground_of code) n
  pub within : OfRun given n
  pub stage : StageStands (shape m.memory) m.thread m.stage n

-- what stands in what comes next, where anything does
abbrev pub config_of : Next → Option Configuration
config_of (goes c) = Some c
config_of (ends c o) = Some c
config_of (touches c b) = Some c
config_of (calls c h) = Some c
config_of stuck = None

-- with this memory in place of its own
abbrev pub with_memory : Memory → Next → Next
with_memory memory (goes c) = goes (record c { memory = memory })
with_memory memory (ends c o) = ends (record c { memory = memory }) o
with_memory memory (touches c b) = touches (record c { memory = memory }) b
with_memory memory (calls c h) = calls (record c { memory = memory }) h
with_memory memory stuck = stuck

-- n comes to this by steps, where it goes on
pub record Comes (p : Program) (n next : Next) : Type 0 where
  pub count : ℕ
  pub by : then_go n (steps p count) ≡ next

-- what the machine tells is what it stands for; the bytes of a piece to write are in the scratch
abbrev pub EventIs : Event → List ℕ → Next → Type 0
EventIs (event.Piece ask) scratch (touches c b) = AsksPiece ask b × (take (length (to_write (touch_of (access_of b)))) scratch ≡ to_write (touch_of (access_of b)))
EventIs (event.Host ask) scratch (calls c h) = AsksHost ask h
EventIs (event.Ended o) scratch (ends c p) = o ≡ p
EventIs _ scratch _ = ⊥

-- what a run from n comes to, with the module, the grants and the fuel of its beginning
pub record Ran {M : Type 0} (shape : M → Memory) (m : Machine M) (code : Module) (grants : List Grant) (given : ℕ) (n : Next) (told : Event) : Type 0 where
  pub next : Next
  pub comes : Comes (program_of code grants) n next
  pub stands : StandsFor shape m code grants given next
  pub event : EventIs told m.scratch next
