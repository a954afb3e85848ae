-- Where the places of a body lead, by what is left of each open block there (`Parse`). This project's own.
use Rattle.std.specs.Prelude.{◌≡◌, ℕ, ◌+◌, ◌≤◌, List, [], ◌∷◌, Option, Some, None, length, drop, map, slice_get}
use Rattle.faaslet_meaning.specs.declared.instr.Instr.{Instr}
use Rattle.faaslet_meaning.specs.declared.module.Body.{Body}
use Rattle.faaslet_meaning.specs.declared.module.Module.{Module}
use Rattle.faaslet_meaning.specs.IndexSpaces.{local_count}
use Rattle.faaslet_meaning.specs.Valid.{Valid}
use Rattle.faaslet_meaning.specs.Tree.{Tree, stop}
use Rattle.faaslet_meaning.specs.Parse.{Part, part, parts}
use Rattle.wasm_validate.specs.declared.jumps.Jump.{Jump}

-- the other side of a block: nothing where there is no `else`
abbrev pub side_of : Option Tree → Tree
side_of None = stop
side_of (Some e) = e

-- Of the innermost block that is open behind an instruction, the jump at that instruction gives two places. At `after` stands
-- what follows the block: what is left of the next block out, and so on outwards. At `other` stands its other side, where an
-- `else` is still to come, and else its `end`, before which nothing is left; what follows the block is the same there.
pub record JumpFits (code : List Instr) (place : ℕ) (j : Jump) : Type 0 where
  pub after : (p q : Part) (ps : List Part) → parts (drop (place + 1) code) ≡ p ∷ (q ∷ ps) → parts (drop j.after code) ≡ q ∷ ps
  pub other : (e : Tree) (o : Option Tree) (ps : List Part) → parts (drop (place + 1) code) ≡ part e o ∷ ps → parts (drop j.other code) ≡ part (side_of o) None ∷ ps

-- a jump that fits for each instruction
pub record JumpsFit (code : List Instr) (js : List Jump) : Type 0 where
  pub long : length js ≡ length code
  pub each : (place : ℕ) (j : Jump) → slice_get js place ≡ Some j → JumpFits code place j

-- jumps that fit for each body
pub record TablesFit (bodies : List Body) (tables : List (List Jump)) : Type 0 where
  pub as_many : length tables ≡ length bodies
  pub each : (k : ℕ) (b : Body) (js : List Jump) → slice_get bodies k ≡ Some b → slice_get tables k ≡ Some js → JumpsFit b.code js

-- the module is valid, and these are the jumps of its bodies, and how many locals each has beside its parameters
pub record ValidWith (m : Module) (tables : List (List Jump)) (counts : List ℕ) : Type 0 where
  pub valid : Valid m
  pub tables_fit : TablesFit m.bodies tables
  pub counts_are : counts ≡ map local_count m.bodies

-- The pass from the end of the code: the blocks that are open, innermost first, are those of which something is left. Where
-- the code is read as nothing, nothing is said.
pub record OpenStands (code : List Instr) (open_block : Jump) (o : Option Tree) (ps : List Part) : Type 0 where
  pub after : parts (drop open_block.after code) ≡ ps
  pub other : parts (drop open_block.other code) ≡ part (side_of o) None ∷ ps

abbrev pub OpensStand : List Instr → List Jump → List Part → Type 0
OpensStand code opens [] = Unit {0}
OpensStand code [] (p ∷ ps) = ⊥
OpensStand code (j ∷ js) (part e o ∷ ps) = OpenStands code j o ps × OpensStand code js ps

-- the jumps from a place on
abbrev pub JumpsFrom : List Instr → ℕ → List Jump → Type 0
JumpsFrom code first js = (place : ℕ) (j : Jump) → first ≤ place → slice_get js place ≡ Some j → JumpFits code place j
