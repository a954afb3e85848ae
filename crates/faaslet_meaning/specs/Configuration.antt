-- What a run is between two steps, up to the next shared piece or host call. W3C WebAssembly Core Specification 1.0,
-- sections 4.2.12, Stack, and 4.2.13, Administrative Instructions. Fuel, and the stops at shared pieces and host calls, are
-- this project's own.
use Rattle.std.specs.Prelude.{ℕ, ◌+◌, List, Option, length}
use Rattle.faaslet_meaning.specs.declared.module.FuncType.{FuncType}
use Rattle.faaslet_meaning.specs.declared.grant.Grant.{Grant}
use Rattle.faaslet_meaning.specs.declared.outcome.Outcome.{Outcome}
use Rattle.faaslet_meaning.specs.Lists.{total}
use Rattle.faaslet_meaning.specs.LoadStore.{Load}
use Rattle.faaslet_meaning.specs.Tree.{Tree}
use Rattle.faaslet_meaning.specs.Memory.{Memory, Access}
use Rattle.faaslet_meaning.specs.HostCalls.{HostCall}

-- A function of a program: a host call by its number, or a body, with how many locals are no parameters.
pub data Func : Type 0 where
  hosted : (number : ℕ) (type : FuncType) → Func
  defined : (type : FuncType) (locals : ℕ) (body : Tree) → Func

abbrev pub type_of : Func → FuncType
type_of (hosted n t) = t
type_of (defined t n b) = t

-- what a run never changes
pub record Program : Type 0 where
  pub functions : List Func
  pub types : List FuncType
  pub most_pages : ℕ
  pub grants : List Grant

-- A label that was entered and not left: how many values a branch to it carries, the body that such a branch goes on with
-- (of a loop), the values below, and what follows the block.
pub record Label : Type 0 where
  pub arity : ℕ
  pub again : Option Tree
  pub under : List ℕ
  pub after : Tree

-- A call that was entered and not left. The innermost label is the first, and so is the topmost value. `values` are those
-- over the innermost label; the others are under their labels.
pub record Frame : Type 0 where
  pub arity : ℕ
  pub locals : List ℕ
  pub labels : List Label
  pub values : List ℕ
  pub rest : Tree

pub record Configuration : Type 0 where
  pub frame : Frame
  pub callers : List Frame
  pub globals : List ℕ
  pub table : List (Option ℕ)
  pub memory : Memory
  pub fuel : ℕ

-- a load or a store that has begun and not ended
pub data Begun : Type 0 where
  load : (load : Load) (access : Access) → Begun
  store : (access : Access) → Begun

-- What one step leads to. At a shared piece and at a host call the machine stops.
pub data Next : Type 0 where
  goes : (config : Configuration) → Next
  ends : (config : Configuration) (outcome : Outcome) → Next
  touches : (config : Configuration) (begun : Begun) → Next
  calls : (config : Configuration) (call : HostCall) → Next
  stuck : Next

-- how many values, labels and frames are held; a frame has one label of its own
abbrev pub frame_values : Frame → ℕ
frame_values f = length f.values + total (λ l. length l.under) f.labels + length f.locals

abbrev pub frame_labels : Frame → ℕ
frame_labels f = length f.labels + 1

abbrev pub values_held : Configuration → ℕ
values_held c = frame_values c.frame + total frame_values c.callers

abbrev pub labels_held : Configuration → ℕ
labels_held c = frame_labels c.frame + total frame_labels c.callers

abbrev pub frames_held : Configuration → ℕ
frames_held c = length c.callers + 1
