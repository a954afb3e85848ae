-- Which questions locks keep back: those of which an operation may not stand. This project's own.
use Rattle.std.specs.Prelude.{◌≡◌, ℕ, false, Option, Some, None, IsTrue, slice_get}
use Rattle.std.specs.List.{AllByRecursion}
use Rattle.faaslet_meaning.specs.declared.grant.Channel.{Channel}
use Rattle.faaslet_meaning.specs.declared.grant.Channel.TheVariants.{Local, Global, Table as OnTable}
use Rattle.faaslet_meaning.specs.Channels.{RegionOperation, as_region, on_region, Reply, Question, Entry, entry}
use Rattle.faaslet_meaning.specs.Region.{Region, may, blocked_by}
use Rattle.session_meaning.specs.World.{World}
use Rattle.session_meaning.specs.Events.{held, obstacle, local_at, global_at, entries_now}

-- the region to which a channel leads from a host
abbrev pub region_at : World → ℕ → Channel → Option Region
region_at w host (Local key) = Some (local_at w host key)
region_at w host (Global key) = Some (global_at w key)
region_at w host OnTable = None

-- an entry of a call on a region may stand
abbrev pub MayStand : World → ℕ → ℕ → Entry → Type 0
MayStand w call host e = (s : Region) (op : RegionOperation) → region_at w host e.channel ≡ Some s → as_region e.operation ≡ Some op → IsTrue (may s call op)

-- Of the entries that the question would make now one may not stand on the region of this channel, and this is the least maker that
-- blocks it.
pub record IsBlocked (w : World) (call host : ℕ) (q : Question) (channel : Channel) (holder : ℕ) : Type 0 where
  pub place : ℕ
  pub operation : RegionOperation
  pub reply : Reply
  pub asked : slice_get (entries_now w call host q) place ≡ Some (entry channel (on_region operation) reply)
  pub region : Region
  pub there : region_at w host channel ≡ Some region
  pub may_not : may region call operation ≡ false
  pub least : blocked_by region call operation ≡ Some holder

-- A question that nothing stands in the way of makes entries that may stand, and a lock that stands in its way blocks one of them.
pub record LocksKeepBack (w : World) (call host : ℕ) (q : Question) : Type 0 where
  pub free : obstacle w call host q ≡ None → AllByRecursion (MayStand w call host) (entries_now w call host q)
  pub blocked : (channel : Channel) (holder : ℕ) → obstacle w call host q ≡ Some (held channel holder) → IsBlocked w call host q channel holder
