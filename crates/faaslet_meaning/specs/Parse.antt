-- The tree that a flat list is read as, from its end. This project's own: a module keeps its bodies flat, and the rules
-- speak of trees. That a tree written out is read as itself is proved in `proofs/Written`. Each part of the answer is what
-- is left of one block: the first is what is next, the second follows the end of the innermost block, and so on outwards.
use Rattle.std.specs.Prelude.{List, [], ◌∷◌, Option, Some, None}
use Rattle.faaslet_meaning.specs.declared.instr.ValType.{ValType}
use Rattle.faaslet_meaning.specs.declared.instr.Instr.{Instr}
use Rattle.faaslet_meaning.specs.declared.instr.Instr.TheVariants.{Block, Loop, If, Else, End}
use Rattle.faaslet_meaning.specs.Tree.{Tree, stop, plain, block, loop, if_then, if_else}

-- what is left of a block, and the other side where an `else` ends it
pub data Part : Type 0 where
  part : (seq : Tree) (other : Option Tree) → Part

abbrev pub before_else : List Part → List Part
before_else [] = []
before_else (part e None ∷ ps) = part stop (Some e) ∷ ps
before_else (part e (Some d) ∷ ps) = []

abbrev pub before_block : Option ValType → List Part → List Part
before_block t (part b None ∷ part e o ∷ ps) = part (block t b e) o ∷ ps
before_block t _ = []

abbrev pub before_loop : Option ValType → List Part → List Part
before_loop t (part b None ∷ part e o ∷ ps) = part (loop t b e) o ∷ ps
before_loop t _ = []

abbrev pub before_if : Option ValType → List Part → List Part
before_if t (part b None ∷ part e o ∷ ps) = part (if_then t b e) o ∷ ps
before_if t (part b (Some d) ∷ part e o ∷ ps) = part (if_else t b d e) o ∷ ps
before_if t _ = []

abbrev pub before_plain : Instr → List Part → List Part
before_plain i [] = []
before_plain i (part e o ∷ ps) = part (plain i e) o ∷ ps

abbrev pub before : Instr → List Part → List Part
before End ps = part stop None ∷ ps
before Else ps = before_else ps
before (Block t) ps = before_block t ps
before (Loop t) ps = before_loop t ps
before (If t) ps = before_if t ps
before i ps = before_plain i ps

abbrev pub parts : List Instr → List Part
parts [] = []
parts (i ∷ is) = before i (parts is)

-- what is next, or nothing
abbrev pub first_seq : List Part → Tree
first_seq [] = stop
first_seq (part e o ∷ ps) = e

-- a body's tree
abbrev pub tree_of : List Instr → Tree
tree_of code = first_seq (parts code)
