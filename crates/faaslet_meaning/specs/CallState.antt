-- The state of a call: its machine, what it keeps beside it, and what it waits for. This project's own.
use Rattle.std.specs.Prelude.{ℕ, Bool, true, false, not, List, [], Option, filter, find, option_map, ◌==◌, ◌&&◌, slice_get}
use Rattle.faaslet_meaning.specs.declared.grant.Grant.{Grant}
use Rattle.faaslet_meaning.specs.declared.outcome.Outcome.{Outcome}
use Rattle.faaslet_meaning.specs.Memory.{Access}
use Rattle.faaslet_meaning.specs.Configuration.{Program, Configuration, Begun}
use Rattle.faaslet_meaning.specs.Channels.{Question}

-- what a call never changes: its program with its grants, the functions that it may call, its input, the room of its output
pub record Invocation : Type 0 where
  pub program : Program
  pub callees : List ℕ
  pub input : List ℕ
  pub room : ℕ

pub data Tier : Type 0 where
  local global : Tier

pub record Lock : Type 0 where
  pub tier : Tier
  pub place : ℕ

-- What is left of a host call: these are done one after another, as `Operations` lists them.
pub data Act : Type 0 where
  presence fill : (k : ℕ) → Act
  buffer_in buffer_out : (ptr len : ℕ) → Act
  passing : (access : Access) → Act
  local_read : (k off len : ℕ) → Act
  local_write : (k off : ℕ) → Act
  push pull : (k off len : ℕ) → Act
  used append map : (k : ℕ) → Act
  lock_read lock_write unlock : (tier : Tier) (k : ℕ) → Act
  take_input : (off len : ℕ) → Act
  give_output : Act
  submit : (f : ℕ) → Act
  await : (c : ℕ) → Act
  look : (c off len : ℕ) → Act
  gives : (n : ℕ) → Act

-- a host call that goes on: the acts that are left, the bytes that it holds between two of them, and its result so far
pub record Work : Type 0 where
  pub acts : List Act
  pub held : List ℕ
  pub result : Option ℕ

-- what a call waits for: a shared piece, a reply inside a host call, or the releases after its end
pub data Stage : Type 0 where
  running : Stage
  touching : (begun : Begun) → Stage
  calling : (work : Work) → Stage
  releasing : (left : List Lock) (outcome : Outcome) → Stage

-- The places whose keys were seen present, the mapped places with their addresses, the locks held; the children in order, with
-- the output length of each that was awaited; the output.
pub record State : Type 0 where
  pub config : Configuration
  pub present : List ℕ
  pub mapped : List (ℕ × ℕ)
  pub locks : List Lock
  pub children : List (Option ℕ)
  pub output : List ℕ
  pub stage : Stage

-- where a call is after a step or a reply
pub data Progress : Type 0 where
  runs : (state : State) → Progress
  asks : (state : State) (question : Question) → Progress
  over : (state : State) (outcome : Outcome) → Progress
  lost : Progress

-- about to run
abbrev pub fresh_state : Configuration → State
fresh_state c = record { config = c; present = []; mapped = []; locks = []; children = []; output = []; stage = running }

abbrev pub grant_at : Invocation → ℕ → Option Grant
grant_at j k = slice_get j.program.grants k

abbrev pub same_tier : Tier → Tier → Bool
same_tier local local = true
same_tier global global = true
same_tier _ _ = false

abbrev pub is_lock : Tier → ℕ → Lock → Bool
is_lock t k l = same_tier t l.tier && (k == l.place)

-- the address of a mapped place
abbrev pub address_of : State → ℕ → Option ℕ
address_of s k = option_map (λ m. m.1) (find (λ m. m.0 == k) s.mapped)

abbrev pub without_lock : State → Lock → State
without_lock s l = record s { locks = filter (λ h. not (is_lock l.tier l.place h)) s.locks }
