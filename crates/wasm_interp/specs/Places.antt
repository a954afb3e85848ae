-- What stands at the place of a frame in its code, and where blocks are opened and left. This project's own.
use Rattle.std.specs.Prelude.{◌≡◌, ℕ, List, ◌∷◌, Option, Some, Bool, drop, slice_get}
use Rattle.faaslet_meaning.specs.declared.instr.Instr.{Instr}
use Rattle.faaslet_meaning.specs.declared.instr.Instr.TheVariants.{Block, Loop, If, Else, End, Call, CallIndirect, Load, Store, MemorySize, MemoryGrow}
use Rattle.faaslet_meaning.specs.Tree.{Tree}
use Rattle.faaslet_meaning.specs.Parse.{Part, part, parts}
use Rattle.wasm_validate.specs.Jumps.{JumpFits}
use Rattle.wasm_interp.specs.Stands.{TargetIs, SideIs}
use Rattle.wasm_validate.specs.declared.jumps.Jump.{Jump}
use Rattle.wasm_interp.specs.declared.thread.Frame.{Frame as Place}

-- the instruction at the frame's place, and where it leads
abbrev pub InstrAt : Place → Instr → Type 0
InstrAt f i = slice_get f.code.now f.pc ≡ Some i

abbrev pub JumpAt : Place → Jump → Type 0
JumpAt f j = JumpFits f.code.now f.pc j

-- An instruction that opens a block, and one that isn't the end of a sequence.
abbrev pub IsOpener : Instr → Type 0
IsOpener (Block t) = Unit {0}
IsOpener (Loop t) = Unit {0}
IsOpener (If t) = Unit {0}
IsOpener _ = ⊥

abbrev pub IsBegun : Instr → Type 0
IsBegun End = ⊥
IsBegun Else = ⊥
IsBegun _ = Unit {0}

-- where a block is opened: its body is at this place, and its label leads where its label's branches go
pub record Opens (code : List Instr) (here pc target : ℕ) (again : Bool) (body : Tree) (loop_body : Option Tree) : Type 0 where
  pub other : Option Tree
  pub p : Part
  pub ps : List Part
  pub after : parts (drop here code) ≡ p ∷ ps
  pub body_at : parts (drop pc code) ≡ part body other ∷ (p ∷ ps)
  pub leads : TargetIs code target again loop_body p ps
  pub side : SideIs other loop_body

-- where a block is left: what follows it is at this place
pub record Closes (code : List Instr) (here pc : ℕ) : Type 0 where
  pub p : Part
  pub outer : List Part
  pub inside : parts (drop here code) ≡ p ∷ outer
  pub after : parts (drop pc code) ≡ outer

-- An instruction without blocks that needs neither the module nor the memory.
abbrev pub IsOwn : Instr → Type 0
IsOwn (Block t) = ⊥
IsOwn (Loop t) = ⊥
IsOwn (If t) = ⊥
IsOwn Else = ⊥
IsOwn End = ⊥
IsOwn (Call f) = ⊥
IsOwn (CallIndirect t) = ⊥
IsOwn (Load op align offset) = ⊥
IsOwn (Store op align offset) = ⊥
IsOwn MemorySize = ⊥
IsOwn MemoryGrow = ⊥
IsOwn _ = Unit {0}
