-- What a Faaslet ends as once a part of it that was lent is given back. This project's own.
use Rattle.std.specs.Prelude.{ℕ, List, []}
use Rattle.std.specs.Borrow.{Lends, MutBor, Fml, Array, u8}
use mir.Syntax.{named}
use Rattle.faaslet_run.specs.contracts.buffer.Buffer as buffer
use Rattle.faaslet_run.specs.contracts.faaslet.Faaslet as faaslet
use Rattle.faaslet_run.specs.declared.faaslet.Faaslet.{Faaslet}
use Rattle.wasm_interp.specs.Lending.{laid}

-- the bytes end as those that are left in them
abbrev pub LendsBytes : MutBor (List ℕ) → MutBor (List ℕ) → Fml
LendsBytes b r = Lends buffer.the_row (Array u8 0) b r (laid b.now)

-- the Faaslet ends with other bytes in its scratch, or as its input
module _ (f : MutBor Faaslet) where
  abbrev pub LendsScratch : MutBor (List ℕ) → Fml
  LendsScratch r = Lends (faaslet.the_row (record { mir = named 1; lft = [] })) (Array u8 0) f r (λ w. record f.now { scratch = laid f.now.scratch w })

  abbrev pub LendsInput : MutBor (List ℕ) → Fml
  LendsInput r = Lends (faaslet.the_row (record { mir = named 1; lft = [] })) (Array u8 0) f r (λ w. record f.now { input = laid f.now.input w })
