-- How the two stacks are read as open blocks.
use Rattle.std.specs.Prelude.{ℕ, ◌-◌, ◌≤◌, List, [], ◌∷◌, Option, length, take, drop}
use Rattle.faaslet_meaning.specs.declared.instr.ValType.{ValType}
use Rattle.wasm_validate.specs.declared.kind.Control.{Control}
use Rattle.wasm_validate.specs.Frames.{Frame}

abbrev pub frame_of : Control → List (Option ValType) → Frame
frame_of k os = record { kind = k.kind; ends = k.ends; unreachable = k.unreachable; operands = os }

-- both topmost first
abbrev pub frames : List Control → List (Option ValType) → List Frame
frames [] os = []
frames (k ∷ ks) os = frame_of k (take (length os - k.height) os) ∷ frames ks (drop (length os - k.height) os)

-- a block was opened over no more operands than there are
abbrev pub Rises : List Control → ℕ → Type 0
Rises [] n = Unit {0}
Rises (k ∷ ks) n = (k.height ≤ n) × Rises ks k.height
