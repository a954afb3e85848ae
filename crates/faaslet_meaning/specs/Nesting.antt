-- How a flat list of instructions is followed without a tree: a stack of what is open. This project's own: functions
-- on lists, as those of `Reading`, and no definitions.
use Rattle.std.specs.Prelude.{Bool, true, false, List, [], ◌∷◌, Option, Some, None}
use Rattle.faaslet_meaning.specs.declared.instr.Instr.{Instr}
use Rattle.faaslet_meaning.specs.declared.instr.Instr.TheVariants.{Block, Loop, If, Else, End}
use Rattle.faaslet_meaning.specs.Reading.{◌>>=◌}

-- What is open after an instruction, the innermost first. A true is an if whose else may still come.
abbrev pub step : List Bool → Instr → Option (List Bool)
step [] i = None
step (m ∷ ms) (Block t) = Some (false ∷ m ∷ ms)
step (m ∷ ms) (Loop t) = Some (false ∷ m ∷ ms)
step (m ∷ ms) (If t) = Some (true ∷ m ∷ ms)
step (true ∷ ms) Else = Some (false ∷ ms)
step (false ∷ ms) Else = None
step (m ∷ ms) End = Some ms
step (m ∷ ms) i = Some (m ∷ ms)

-- and after a list of them
abbrev pub run : List Bool → List Instr → Option (List Bool)
run ms [] = Some ms
run ms (i ∷ is) = step ms i >>= λ ns. run ns is
