-- The objects of two hosts and one key of 4 bytes, and which questions they suit. This project's own.
use Rattle.std.specs.Prelude.{◌≡◌, ℕ, ◌+◌, ◌≤◌, Bool, true, false, ◌&&◌, ◌==◌, nat_le, nat_lt, List, [], ◌∷◌, length}
use Rattle.faaslet_meaning.specs.declared.ask.Ask.{Ask}
use Rattle.faaslet_meaning.specs.declared.ask.Ask.TheVariants as an_ask
use Rattle.faaslet_meaning.specs.declared.ask.AskOp.{AskOp}
use Rattle.faaslet_meaning.specs.declared.ask.AskOp.TheVariants as op
use Rattle.faaslet_meaning.specs.declared.ask.Move.{Move}
use Rattle.faaslet_meaning.specs.declared.ask.Move.TheVariants as move
use Rattle.faaslet_meaning.specs.declared.grant.Channel.{Channel}
use Rattle.faaslet_meaning.specs.declared.grant.Channel.TheVariants.{Local, Global, Table as OnTable}
use Rattle.faaslet_meaning.specs.Region.{Region}
use Rattle.world_objects.specs.Kept.{Kept, Objects}

abbrev pub Sized : Region → Type 0
Sized s = (s.size ≡ 4) × (4 ≤ length s.bytes)

-- the one object of a row
abbrev pub Row : List Kept → Type 0
Row (x ∷ []) = Sized x.region
Row _ = ⊥

-- the rows of two hosts
abbrev pub Rows : List (List Kept) → Type 0
Rows (a ∷ b ∷ []) = Row a × Row b
Rows _ = ⊥

abbrev pub Ready : Objects → Type 0
Ready o = Rows o.locals × Row o.globals

-- ---- Which questions suit them, with a scratch of so many bytes.

abbrev pub leads : Channel → Bool
leads (Local key) = key == 0
leads (Global key) = key == 0
leads OnTable = false

abbrev pub in_range : AskOp → ℕ → Bool
in_range (op.Read off len) scratch = nat_le (off + len) 4 && nat_le len scratch
in_range (op.Write off len) scratch = nat_le (off + len) 4 && nat_le len scratch
in_range (op.Append len) scratch = nat_le len scratch
in_range _ scratch = true

abbrev pub move_in_range : Move → Bool
move_in_range move.Fill = true
move_in_range (move.Pull off len) = nat_le (off + len) 4
move_in_range (move.Push off len) = nat_le (off + len) 4

abbrev pub suits : ℕ → Ask → ℕ → Bool
suits host (an_ask.Region ch o) scratch = nat_lt host 2 && (leads ch && in_range o scratch)
suits host (an_ask.Move key kind) scratch = nat_lt host 2 && ((key == 0) && move_in_range kind)
suits host _ scratch = false
