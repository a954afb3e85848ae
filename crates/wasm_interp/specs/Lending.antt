-- What a machine ends as once a part of it that was lent is given back. This project's own.
use Rattle.std.specs.Prelude.{ℕ, List, [], ◌++◌, length, take, drop}
use Rattle.std.specs.Borrow.{Lends, MutBor, Fml, RattleType, Array, u8}
use mir.Syntax.{named}
use Rattle.wasm_interp.specs.contracts.buffer.Buffer.{the_row}
use Rattle.wasm_interp.specs.contracts.machine.Machine as machine
use Rattle.wasm_interp.specs.declared.machine.Machine.{Machine}

-- bytes in place of others; as many of them where there are as many
abbrev pub laid : List ℕ → List ℕ → List ℕ
laid old new = take (length old) (new ++ drop (length new) old)

-- the buffer ends as the bytes that are left in it
abbrev pub LendsBytes : MutBor (List ℕ) → MutBor (List ℕ) → Fml
LendsBytes b r = Lends the_row (Array u8 0) b r (laid b.now)

-- the machine ends with other bytes in its scratch or in its second buffer, or with another memory
module _ (M : RattleType) (m : MutBor (Machine M.Denot)) where
  abbrev pub LendsScratch : MutBor (List ℕ) → Fml
  LendsScratch r = Lends (machine.the_row (record { mir = named 1; lft = [] }) M) (Array u8 0) m r (λ w. record m.now { scratch = laid m.now.scratch w })

  abbrev pub LendsAside : MutBor (List ℕ) → Fml
  LendsAside r = Lends (machine.the_row (record { mir = named 1; lft = [] }) M) (Array u8 0) m r (λ w. record m.now { aside = laid m.now.aside w })

  abbrev pub LendsMemory : MutBor M.Denot → Fml
  LendsMemory r = Lends (machine.the_row (record { mir = named 1; lft = [] }) M) M m r (λ w. record m.now { memory = w })
