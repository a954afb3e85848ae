-- What an ask has to find: its passes, ranges that lie in the regions, and locks of its maker. All of it is known to
-- whoever knows the start of the regions and its own entries. This project's own.
use Rattle.std.specs.Prelude.{◌≡◌, ℕ, ◌+◌, ◌≤◌, List, length}
use Rattle.std.specs.Prelude as std
use Rattle.faaslet_meaning.specs.declared.ask.Ask.{Ask}
use Rattle.faaslet_meaning.specs.declared.ask.Ask.TheVariants as an_ask
use Rattle.faaslet_meaning.specs.declared.ask.AskOp.{AskOp}
use Rattle.faaslet_meaning.specs.declared.ask.AskOp.TheVariants as op
use Rattle.faaslet_meaning.specs.declared.ask.Move.{Move}
use Rattle.faaslet_meaning.specs.declared.grant.Channel.TheVariants.{Local, Global}
use Rattle.shared_region.specs.Moves.{MoveFits}
use Rattle.shared_region.specs.Shared.{Shared}
use Rattle.turn_cell.specs.declared.cell.Turns.{Turns}
use Rattle.turn_cell.specs.Cell.{pass_list, pass_number, start_of}
use Rattle.region_tier.specs.Holding.{has_lock, LocksInTurn}
use Rattle.region_tier.specs.Tiers.{RegionPass, HasPass}
use Rattle.state_service.specs.Asked.{asked_operation}

abbrev pub Slots : Type 0
Slots = List (std.Option RegionPass)

abbrev pub Cells : Type 0
Cells = List (Turns Shared)

-- the scratch holds the bytes that an operation carries
abbrev pub Carries : AskOp → ℕ → Type 0
Carries (op.Write off len) scratch = len ≤ scratch
Carries (op.Append len) scratch = len ≤ scratch
Carries _ scratch = Unit {0}

-- the range of an operation lies in the bytes with which the region began, and the scratch holds what is read or carried
abbrev pub AskFits : Shared → AskOp → ℕ → Type 0
AskFits s (op.Read off len) scratch = (off + len ≤ length s.region.bytes) × (len ≤ scratch)
AskFits s (op.Write off len) scratch = (off + len ≤ length s.region.bytes) × (len ≤ scratch)
AskFits s (op.Append len) scratch = len ≤ scratch
AskFits s _ scratch = Unit {0}

-- the pass of the key is there; and by its own entries its maker holds no lock where it locks, and one where it unlocks
abbrev pub MayAsk : Cells → Slots → ℕ → AskOp → List ℕ → Type 0
MayAsk cells slots key o scratch = HasPass cells slots key (λ t p.
    AskFits (start_of t) o (length scratch) × LocksInTurn (asked_operation o scratch) (has_lock (pass_number p) (pass_list p)))

-- both passes of the key are there and have one number, and both regions began with one size, in which the range lies
abbrev pub MayMove : Cells → Cells → Slots → Slots → ℕ → Move → Type 0
MayMove locals globals local global key kind = HasPass locals local key (λ t p. HasPass globals global key (λ u q.
    (pass_number p ≡ pass_number q) × ((start_of t).region.size ≡ (start_of u).region.size) × MoveFits kind (start_of t).region.size))

-- an operation on a replica or a global value, or a move
abbrev pub MayServe : Ask → Cells → Cells → Slots → Slots → List ℕ → Type 0
MayServe (an_ask.Region (Local key) o) locals globals local global scratch = MayAsk locals local key o scratch
MayServe (an_ask.Region (Global key) o) locals globals local global scratch = MayAsk globals global key o scratch
MayServe (an_ask.Move key kind) locals globals local global scratch = MayMove locals globals local global key kind
MayServe _ locals globals local global scratch = ⊥
