-- What a question meets in the objects that are kept of a world, what serving it leaves of them, and what it is answered.
-- This project's own.
use Rattle.std.specs.Prelude.{◌≡◌, ℕ, List, [], Option, Some, None, All, IsSome, map, filter_map, replicate, slice_get, option_and_then, option_map}
use Rattle.std.specs.Option.{ForSome}
use Rattle.faaslet_meaning.specs.declared.ask.Ask.{Ask}
use Rattle.faaslet_meaning.specs.declared.ask.Ask.TheVariants as an_ask
use Rattle.faaslet_meaning.specs.declared.ask.Move.{Move}
use Rattle.faaslet_meaning.specs.declared.ask.Move.TheVariants as move
use Rattle.faaslet_meaning.specs.declared.grant.Channel.{Channel}
use Rattle.faaslet_meaning.specs.declared.grant.Channel.TheVariants.{Local, Global, Table as OnTable}
use Rattle.faaslet_meaning.specs.Channels.{RegionOperation, on_region, as_region, Reply, Question, ask, fills, pulls, pushes, Entry}
use Rattle.faaslet_meaning.specs.Lists.{changed, first}
use Rattle.faaslet_meaning.specs.Region as region
use Rattle.faaslet_meaning.specs.Region.{Kind, reads, writes, halves, replica, global_value}
use Rattle.session_meaning.specs.Events.{Obstacle, held, answering}
use Rattle.state_locks.specs.declared.locks.LockKind.{LockKind}
use Rattle.state_locks.specs.Locks.{kind_of}
use Rattle.session_meaning.specs.Plan.{Key}
use Rattle.shared_region.specs.Moves.{MoveFits, question_of_move}
use Rattle.world_objects.specs.Asked.{Fits, operation}
use Rattle.world_objects.specs.Kept.{Kept, Objects, applied, sizes}
use Rattle.world_objects.specs.declared.objects.KeyStart.{KeyStart}

-- the object to which a channel leads from a host
abbrev pub object_at : Objects → ℕ → Channel → Option Kept
object_at o host (Local key) = option_and_then (λ row. slice_get row key) (slice_get o.locals host)
object_at o host (Global key) = slice_get o.globals key
object_at o host OnTable = None

abbrev pub changed_at : Objects → ℕ → Channel → (Kept → Kept) → Objects
changed_at o host (Local key) change = record o { locals = changed o.locals host (λ row. changed row key change) }
changed_at o host (Global key) change = record o { globals = changed o.globals key change }
changed_at o host OnTable change = o

-- both objects of a key
abbrev pub both_changed : Objects → ℕ → ℕ → (Kept → Kept) → (Kept → Kept) → Objects
both_changed o host key local global =
    record { locals = changed o.locals host (λ row. changed row key local); globals = changed o.globals key global }

-- a lock that an operation of a kind can't stand beside
abbrev pub lock_at : Objects → ℕ → ℕ → Channel → Kind → Option Obstacle
lock_at o call host ch k = option_and_then (λ x. option_map (λ holder. held ch holder) (region.blocker x.region call k)) (object_at o host ch)

-- the first lock that keeps a call from its question; of a move the local one is tested first
abbrev pub locks_at : Objects → ℕ → ℕ → Question → Option Obstacle
locks_at o call host q = first (filter_map (λ half. lock_at o call host half.0 half.1) (halves q))

-- the kinds of the two operations of a move
abbrev pub move_kinds : Move → Kind × Kind
move_kinds move.Fill = (reads, reads)
move_kinds (move.Pull off len) = (writes, reads)
move_kinds (move.Push off len) = (reads, writes)

abbrev pub kinds_so : LockKind × LockKind → Kind × Kind
kinds_so pair = (kind_of pair.0, kind_of pair.1)

-- what an entry of a call leaves
abbrev pub entered_at : ℕ → ℕ → Objects → Entry → Objects
entered_at call host o e = elim (as_region e.operation) [ None ↦ o | Some op ↦ changed_at o host e.channel (applied call op) ]

abbrev pub reply_on_region : ℕ → Option RegionOperation → Option Kept → Reply
reply_on_region call (Some op) (Some x) = region.reply x.region call op
reply_on_region call _ _ = Reply.done

-- what a question is answered
abbrev pub reply_at : Objects → ℕ → ℕ → Question → Reply
reply_at o call host q = let a = answering q in reply_on_region call (as_region a.1) (object_at o host a.0)

-- ---- The question that an ask of the code is.

abbrev pub size_at : Objects → ℕ → ℕ
size_at o key = elim (slice_get o.globals key) [ None ↦ 0 | Some g ↦ g.region.size ]

-- the question of an operation on a region or of a move; what is carried is the front of the scratch
abbrev pub question_at : Objects → Ask → List ℕ → Option Question
question_at o (an_ask.Region ch op) scratch = Some (ask ch (on_region (operation op scratch)))
question_at o (an_ask.Move key kind) scratch = Some (question_of_move key (size_at o key) kind)
question_at o _ scratch = None

-- the objects that it is on are there
abbrev pub AreThere : Objects → ℕ → Ask → Type 0
AreThere o host (an_ask.Region ch op) = IsSome (object_at o host ch)
AreThere o host (an_ask.Move key kind) = IsSome (object_at o host (Local key)) × IsSome (object_at o host (Global key))
AreThere o host _ = Unit {0}

-- and its range lies in them; a scratch of so many bytes holds what it carries and what is read
abbrev pub IsWithin : Objects → ℕ → Ask → ℕ → Type 0
IsWithin o host (an_ask.Region ch op) scratch = ForSome (object_at o host ch) (λ x. Fits x.region op scratch)
IsWithin o host (an_ask.Move key kind) scratch = ForSome (object_at o host (Local key)) (λ l. MoveFits kind l.region.size)
IsWithin o host _ scratch = Unit {0}

-- the objects that a question is on are there
abbrev pub HasObjects : Objects → ℕ → Question → Type 0
HasObjects o host (ask ch (on_region op)) = IsSome (object_at o host ch)
HasObjects o host (ask ch op) = ⊥
HasObjects o host (fills key size) = IsSome (object_at o host (Local key)) × IsSome (object_at o host (Global key))
HasObjects o host (pulls key off len) = IsSome (object_at o host (Local key)) × IsSome (object_at o host (Global key))
HasObjects o host (pushes key off len) = IsSome (object_at o host (Local key)) × IsSome (object_at o host (Global key))

-- ---- Before any event.

-- what is told of a key
abbrev pub told_of : KeyStart → ℕ × List ℕ
told_of k = (k.size, k.init.now)

abbrev pub start_of : Key → ℕ × List ℕ
start_of k = (k.size, k.init)

abbrev pub local_start : KeyStart → Kept
local_start k = record { region = replica k.size; trail = [] }

abbrev pub global_start : KeyStart → Kept
global_start k = record { region = global_value k.size k.init.now; trail = [] }

abbrev pub started : ℕ → List KeyStart → Objects
started hosts keys = record { locals = replicate hosts (map local_start keys); globals = map global_start keys }

-- ---- Each replica has the size of its key's global value.

abbrev pub SameSizes : Objects → Type 0
SameSizes o = All (λ row. sizes row ≡ sizes o.globals) o.locals
