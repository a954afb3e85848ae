-- An open call at its question, and what serving it leaves before the call goes on. This project's own.
use Rattle.std.specs.Prelude.{◌≡◌, ℕ, List, [], ◌∷◌, Option, None, Some, IsTrue, false, map, slice_get}
use Rattle.faaslet_meaning.specs.declared.ask.Ask.{Ask}
use Rattle.faaslet_meaning.specs.declared.ask.Ask.TheVariants as an_ask
use Rattle.faaslet_meaning.specs.declared.ask.Reply as coded
use Rattle.faaslet_meaning.specs.declared.ask.Reply.TheVariants as a_reply
use Rattle.faaslet_meaning.specs.declared.call.CallRecord.{CallRecord}
use Rattle.faaslet_meaning.specs.Asks.{RepliesAs, reply_of}
use Rattle.faaslet_meaning.specs.Call.{fits}
use Rattle.faaslet_meaning.specs.CallState.{Invocation, State, asks}
use Rattle.faaslet_meaning.specs.Channels.{Question, Reply, Transcript}
use Rattle.faaslet_meaning.specs.Lists.{changed, passes_at}
use Rattle.faaslet_meaning.specs.Records.{child_of, is_finished}
use Rattle.faaslet_meaning.specs.Table.{submit}
use Rattle.faaslet_run.specs.declared.faaslet.Faaslet.{Faaslet}
use Rattle.faaslet_run.specs.declared.faaslet.Turn.TheVariants as turns
use Rattle.faaslet_run.specs.Places.{IsAsking, StandsAt}
use Rattle.call_table.specs.Made.{Made}
use Rattle.call_table.specs.Session.{SessionTable}
use Rattle.session_meaning.specs.declared.event.Event.TheVariants.{Ask as AskEvent}
use Rattle.session_meaning.specs.Events.{answer, asked, open_at, why}
use Rattle.session_meaning.specs.OpenCall.{Open}
use Rattle.session_meaning.specs.World.{World}
use Rattle.world_core.specs.Living.{Lives, world_of}
use Rattle.world_core.specs.Opened.{AtAsk}
use Rattle.world_core.specs.Seating.{looked}
use Rattle.world_core.specs.declared.floor.Waiting.{Waiting}
use Rattle.world_core.specs.declared.player.Place.{Place}
use Rattle.world_core.specs.declared.player.Place.TheVariants as place
use Rattle.world_core.specs.declared.player.Player.{Player}
use Rattle.world_core.specs.declared.running.Running.{Running}
use Rattle.world_objects.specs.Kept.{objects_of}

-- it told this question last
abbrev pub AsksAt : Player → Ask → Type 0
AsksAt p a = p.place ≡ place.Told (turns.Asks a)

-- with other bytes in its scratch
abbrev pub with_scratch : List ℕ → Player → Player
with_scratch bytes p = record p { faaslet = record p.faaslet { scratch = bytes } }

-- ---- What a question needs, and what it leaves.

-- the child that a call looks at is there, and finished
pub record IsFinishedChild (records : List CallRecord) (call child : ℕ) : Type 0 where
  pub number : ℕ
  pub found : child_of records call child ≡ Some number
  pub finished : IsTrue (passes_at (λ r. is_finished r.state) records number)

-- the Submit of a call was made, and answered so; what it is answered needs no bytes
pub record Submitted (before : SessionTable) (call function : ℕ) (input : List ℕ) (after : SessionTable) (reply : coded.Reply) : Type 0 where
  pub told : Reply
  pub reply_so : (bytes : List ℕ) → reply_of reply bytes ≡ Some told
  pub made : Made before (submit call function input) after told

-- ---- A call that is served.

-- an open call of a world that stands at this question
pub record Asker (w : World) (p : Player) (a : Ask) : Type 0 where
  pub o : Open
  pub open_so : open_at w p.call ≡ Some o
  pub host : p.host ≡ o.host
  pub at : AtAsk o p.faaslet a

-- what it is answered, and the world behind the event
abbrev pub answer_to : (w : World) (p : Player) (a : Ask) → Asker w p a → Reply
answer_to w p a h = answer w p.call h.o.host h.at.asked.question

abbrev pub asked_by : (w : World) (p : Player) (a : Ask) → Asker w p a → World
asked_by w p a h = asked w p.call h.o h.at.asked.state h.at.asked.question

-- The table and the objects are those of the world behind the event; the reply is that of the world, with its bytes at the front
-- of the call's scratch; all else is as it was.
pub record IsServed (c new : Running) (seat : ℕ) (p : Player) (a : Ask) (reply : coded.Reply) : Type 0 where
  pub asker : Asker (world_of c) p a
  pub table : new.table.table ≡ (asked_by (world_of c) p a asker).table
  pub objects : new.objects ≡ objects_of (asked_by (world_of c) p a asker)
  pub bytes : List ℕ
  pub players : new.players.items ≡ changed c.players.items seat (with_scratch bytes)
  pub replies : RepliesAs asker.at.asked.question reply bytes (answer_to (world_of c) p a asker)
  pub fits_so : IsTrue (fits asker.at.asked.state asker.at.asked.question (answer_to (world_of c) p a asker))
  pub floor : new.floor ≡ c.floor
  pub events : new.events ≡ c.events
  pub protos : new.protos ≡ c.protos

-- the call with this number was served, by an Ask that may stand
pub record WasServed (call seat : ℕ) (reply : coded.Reply) (new : Running) : Type 0 where
  pub before : Running
  pub lives : Lives before
  pub player : Player
  pub here : slice_get before.players.items seat ≡ Some player
  pub call_so : player.call ≡ call
  pub free : why (world_of before) (AskEvent call) ≡ None
  pub question : Ask
  pub served : IsServed before new seat player question reply

-- ---- It goes on.

-- a Faaslet stands at a question that has this reply
pub record IsReplied (f : Faaslet) (reply : coded.Reply) : Type 0 where
  pub j : Invocation
  pub start : State
  pub transcript : Transcript
  pub state : State
  pub question : Question
  pub told : Reply
  pub waits : IsAsking f.stage
  pub at : StandsAt f j start transcript (asks state question)
  pub replies : RepliesAs question reply f.scratch told
  pub fits_so : IsTrue (fits state question told)

-- the child that was submitted, as a queued call
abbrev pub child_queued : coded.Reply → ℕ → List Waiting
child_queued (a_reply.Child n) call = record { call = call; awaited = false } ∷ []
child_queued reply call = []

-- the call at which an open call looks next
abbrev pub looked_by : List CallRecord → ℕ → Place → Option ℕ
looked_by records call (place.Told (turns.Asks (an_ask.Look child))) = child_of records call child
looked_by records call other = None

-- marked where it is that call
abbrev pub marked_as : Option ℕ → List Waiting → List Waiting
marked_as None queued = queued
marked_as (Some call) queued = map (looked call) queued
