-- Which configuration the stacks of a machine stand for. This project's own. A configuration keeps what is left of each block
-- as a tree; a frame of the machine keeps its place in the flat code. They are tied by `parts`, which reads the code from its
-- end: of what it gives from a place on, the first part is what is next there, and the others follow the blocks that are open.
use Rattle.std.specs.Prelude.{◌≡◌, ◌≢◌, ℕ, ◌≤◌, ◌+◌, List, [], ◌∷◌, ◌++◌, Option, Some, None, Bool, true, false, length, drop, reverse}
use Rattle.faaslet_meaning.specs.declared.instr.Instr.{Instr}
use Rattle.faaslet_meaning.specs.declared.outcome.Outcome.{Outcome}
use Rattle.faaslet_meaning.specs.Tree.{Tree}
use Rattle.faaslet_meaning.specs.Parse.{Part, part, parts}
use Rattle.faaslet_meaning.specs.Memory.{Memory}
use Rattle.faaslet_meaning.specs.Configuration.{Program, Label, Frame, Configuration, Next, goes, ends, stuck}
use Rattle.faaslet_meaning.specs.Step.{plain_step}
use Rattle.wasm_validate.specs.Jumps.{JumpsFit}
use Rattle.wasm_interp.specs.declared.thread.Label.{Label as Mark}
use Rattle.wasm_interp.specs.declared.thread.Frame.{Frame as Place}
use Rattle.wasm_interp.specs.declared.thread.Thread.{Thread}

-- the values under labels, and what lies under those
abbrev pub below : List Label → List ℕ → List ℕ
below [] vs = vs
below (l ∷ ls) vs = l.under ++ below ls vs

-- all values of frames, the topmost first: those of a frame lie on those under its labels, and these on its locals
abbrev pub all_values : List Frame → List ℕ
all_values [] = []
all_values (f ∷ fs) = f.values ++ below f.labels (reverse f.locals ++ all_values fs)

-- how many values lie under labels, on so many others
abbrev pub height_of : List Label → ℕ → ℕ
height_of [] n = n
height_of (l ∷ ls) n = length l.under + height_of ls n

abbrev pub seq_of : Part → Tree
seq_of (part e o) = e

abbrev pub other_of : Part → Option Tree
other_of (part e o) = o

-- Where a branch to a label leads: past the block, or to the body of the loop. p and ps are what follows the block.
abbrev pub TargetIs : List Instr → ℕ → Bool → Option Tree → Part → List Part → Type 0
TargetIs code target again None p ps = (again ≡ false) × (parts (drop target code) ≡ p ∷ ps)
TargetIs code target again (Some body) p ps = (again ≡ true) × (parts (drop target code) ≡ part body None ∷ (p ∷ ps))

-- only an `if`, whose label is no loop's, has another side
abbrev pub SideIs : Option Tree → Option Tree → Type 0
SideIs (Some e) (Some body) = ⊥
SideIs _ _ = Unit {0}

-- A label of the machine and one of the configuration: `other` is the other side of its block, p and ps are what follows the
-- block, and `floor` is how many values lie under the label's own `under`.
pub record LabelStands (code : List Instr) (m : Mark) (l : Label) (other : Option Tree) (p : Part) (ps : List Part) (floor : ℕ) : Type 0 where
  pub arity : m.arity ≡ l.arity
  pub few : m.arity ≤ 1
  pub after : l.after ≡ seq_of p
  pub height : m.height ≡ length l.under + floor
  pub target : TargetIs code m.target m.again l.again p ps
  pub side : SideIs other l.again

abbrev pub LabelsStand : List Instr → List Mark → List Label → Option Tree → List Part → ℕ → Type 0
LabelsStand code [] [] None ps n = Unit {0}
LabelsStand code (m ∷ ms) (l ∷ ls) other (p ∷ ps) n = LabelStands code m l other p ps (height_of ls n) × LabelsStand code ms ls (other_of p) ps n
LabelsStand code _ _ _ _ n = ⊥

-- A frame of the machine and one of the configuration, of which `rest` is next, with these labels and so many locals; `floor`
-- values are those of its callers. It doesn't speak of the frame's own values, so it stays where only these change.
pub record FrameStands (m : Place) (rest : Tree) (results : ℕ) (inner : List Label) (locals floor : ℕ) (labels : List Mark) (Below : List Mark → Type 0) : Type 0 where
  pub arity : m.arity ≡ results
  pub few : m.arity ≤ 1
  pub jumps : JumpsFit m.code.now m.jumps.now
  pub base : m.base ≡ floor
  pub height : m.height ≡ locals + floor
  pub other : Option Tree
  pub outer : List Part
  pub next : parts (drop m.pc m.code.now) ≡ part rest other ∷ outer
  pub own : List Mark
  pub lower : List Mark
  pub labels_are : labels ≡ own ++ lower
  pub depth : m.depth ≡ length own
  pub labels_stand : LabelsStand m.code.now own inner other outer m.height
  pub callers : Below lower

abbrev pub FramesStand : List Place → List Frame → List Mark → Type 0
FramesStand [] [] labels = labels ≡ []
FramesStand (m ∷ ms) (c ∷ cs) labels =
    FrameStands m c.rest c.arity c.labels (length c.locals) (length (all_values cs)) labels (λ ls. FramesStand ms cs ls)
FramesStand _ _ labels = ⊥

-- what outlives the frames: globals, table, memory and fuel of the machine, and of the configuration
pub record Kept (globals : List ℕ) (table : List (Option ℕ)) (memory : Memory) (fuel : ℕ) (c_globals : List ℕ) (c_table : List (Option ℕ)) (c_memory : Memory) (c_fuel : ℕ) : Type 0 where
  pub globals_are : globals ≡ c_globals
  pub table_is : table ≡ c_table
  pub memory_is : memory ≡ c_memory
  pub fuel_is : fuel ≡ c_fuel

abbrev pub KeptFor : Memory → Thread → Configuration → Type 0
KeptFor memory t c = Kept t.globals.items t.table.items memory t.fuel c.globals c.table c.memory c.fuel

-- with this memory the stacks stand for the configuration
pub record Stands (memory : Memory) (t : Thread) (c : Configuration) : Type 0 where
  pub values : t.values ≡ all_values (c.frame ∷ c.callers)
  pub frames : FramesStand (t.here ∷ t.frames) (c.frame ∷ c.callers) t.labels
  pub kept : KeptFor memory t c

-- what comes next was done: the run goes on, or it has ended with this outcome
abbrev pub Follows : Memory → Thread → Next → Option Outcome → Type 0
Follows memory t (goes c) None = Stands memory t c
Follows memory t (ends c o) (Some p) = (p ≡ o) × KeptFor memory t c
Follows memory t _ _ = ⊥

-- they stand for a configuration at which this isn't stuck
abbrev pub Ready : Thread → (Configuration → Next) → Type 0
Ready t go = (memory : Memory) × (d : Configuration) × Stands memory t d × (go d ≢ stuck)

-- they stand for a configuration at which this instruction without blocks isn't stuck
abbrev pub Can : Thread → Instr → Type 0
Can t i = (p : Program) × Ready t (λ d. plain_step p d i d.frame.values)

-- an instruction without blocks was done, after it was paid for
abbrev pub Does : Thread → Instr → Thread → Option Outcome → Type 0
Does t i new result = (p : Program) (memory : Memory) (d : Configuration) → Stands memory t d → plain_step p d i d.frame.values ≢ stuck → Follows memory new (plain_step p d i d.frame.values) result
