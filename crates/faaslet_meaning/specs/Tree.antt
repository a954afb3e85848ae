-- Expressions as nested trees, and the flat list of instructions that a tree is written as. W3C WebAssembly Core
-- Specification 1.0, sections 2.4.5, Control Instructions, and 2.4.6, Expressions.
use Rattle.std.specs.Prelude.{◌≡◌, ℕ, List, [], ◌∷◌, ◌++◌, Option, Some, None}
use Rattle.faaslet_meaning.specs.declared.instr.ValType.{ValType}
use Rattle.faaslet_meaning.specs.declared.instr.Instr.{Instr}
use Rattle.faaslet_meaning.specs.declared.instr.Instr.TheVariants.{Block, Loop, If, Else, End}

-- A sequence of instructions: no more, or an instruction and a sequence. A block, a loop and an if hold the
-- sequences inside them, and the type of their result where they have one.
pub data Tree : Type 0 where
  stop : Tree
  plain : (instr : Instr) (rest : Tree) → Tree
  block : (type : Option ValType) (body rest : Tree) → Tree
  loop : (type : Option ValType) (body rest : Tree) → Tree
  if_then : (type : Option ValType) (body rest : Tree) → Tree
  if_else : (type : Option ValType) (body other rest : Tree) → Tree

-- the tree written out
abbrev pub written : Tree → List Instr
written stop = []
written (plain i rest) = i ∷ written rest
written (block t body rest) = Block t ∷ (written body ++ End ∷ written rest)
written (loop t body rest) = Loop t ∷ (written body ++ End ∷ written rest)
written (if_then t body rest) = If t ∷ (written body ++ End ∷ written rest)
written (if_else t body other rest) = If t ∷ (written body ++ Else ∷ (written other ++ End ∷ written rest))

-- the instructions that hold no sequence; the others stand in a flat list alone
abbrev pub IsPlain : Instr → Type 0
IsPlain (Block t) = ⊥
IsPlain (Loop t) = ⊥
IsPlain (If t) = ⊥
IsPlain Else = ⊥
IsPlain End = ⊥
IsPlain _ = Unit {0}

-- nothing else stands as an instruction of the tree
abbrev pub AllPlain : Tree → Type 0
AllPlain stop = Unit {0}
AllPlain (plain i rest) = IsPlain i × AllPlain rest
AllPlain (block t body rest) = AllPlain body × AllPlain rest
AllPlain (loop t body rest) = AllPlain body × AllPlain rest
AllPlain (if_then t body rest) = AllPlain body × AllPlain rest
AllPlain (if_else t body other rest) = AllPlain body × AllPlain other × AllPlain rest

-- a flat expression is this tree written out, and its end
pub record IsWritten (code : List Instr) (tree : Tree) : Type 0 where
  pub plain : AllPlain tree
  pub flat : code ≡ written tree ++ End ∷ []

-- how many results a block has
abbrev pub arity_of : Option ValType → ℕ
arity_of None = 0
arity_of (Some t) = 1

-- the same as a list
abbrev pub types_of : Option ValType → List ValType
types_of None = []
types_of (Some t) = t ∷ []
