-- The locals of a body by its groups. This project's own.
use Rattle.std.specs.Prelude.{ℕ, ◌+◌, List, [], ◌∷◌, flat_map, replicate}
use Rattle.faaslet_meaning.specs.declared.instr.ValType.{ValType}
use Rattle.faaslet_meaning.specs.declared.module.LocalGroup.{LocalGroup}

-- the groups written out
abbrev pub in_groups : List LocalGroup → List ValType
in_groups gs = flat_map (λ g. replicate g.count g.kind) gs

-- where each group ends, where so many locals come before them
abbrev pub ends_from : ℕ → List LocalGroup → List ℕ
ends_from n [] = []
ends_from n (g ∷ gs) = (n + g.count) ∷ ends_from (n + g.count) gs
