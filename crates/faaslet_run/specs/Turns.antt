-- What a Faaslet tells, and what each of its calls leaves. This project's own.
use Rattle.std.specs.Prelude.{◌≡◌, ℕ, ◌+◌, List, Option, Some, None}
use Rattle.faaslet_meaning.specs.declared.ask.Ask.{Ask}
use Rattle.faaslet_meaning.specs.declared.outcome.Outcome.{Outcome}
use Rattle.faaslet_meaning.specs.Asks.{question_of_ask}
use Rattle.faaslet_meaning.specs.CallState.{Invocation, State, Progress, runs, asks, over, lost}
use Rattle.faaslet_meaning.specs.Channels.{Question, Transcript}
use Rattle.wasm_interp.specs.declared.machine.Room.{Room}
use Rattle.faaslet_run.specs.Places.{IsAsking, StandsAt}
use Rattle.faaslet_run.specs.declared.faaslet.Faaslet.{Faaslet}
use Rattle.faaslet_run.specs.declared.faaslet.Stage.{Stage}
use Rattle.faaslet_run.specs.declared.faaslet.Stage.TheVariants as stages
use Rattle.faaslet_run.specs.declared.faaslet.Turn.{Turn}
use Rattle.faaslet_run.specs.declared.faaslet.Turn.TheVariants as turns

-- the question is this one, with these bytes; where the machine is to run on first, they come by that
abbrev pub IsAskedAt : Stage → List ℕ → Invocation → Question → Type 0
IsAskedAt stages.Runs scratch j q = Unit {0}
IsAskedAt (stages.Asks work a) scratch j q = question_of_ask j a scratch ≡ Some q
IsAskedAt (stages.Over o) scratch j q = ⊥

-- where the call is at a question that wasn't told yet, its bytes are in the machine's scratch
abbrev pub IsReady : Faaslet → Invocation → Progress → Type 0
IsReady f j (asks s q) = IsAskedAt f.stage f.machine.scratch j q
IsReady f j (runs s) = Unit {0}
IsReady f j (over s o) = Unit {0}
IsReady f j lost = Unit {0}

-- so it is in a call that has come to some point by the same replies
pub record GoesOn (f : Faaslet) (j : Invocation) (start : State) (transcript : Transcript) : Type 0 where
  pub progress : Progress
  pub at : StandsAt f j start transcript progress
  pub ready : IsReady f j progress

-- what is told at a stage
abbrev pub turn_of : Stage → Option Turn
turn_of stages.Runs = None
turn_of (stages.Asks work a) = Some (turns.Asks a)
turn_of (stages.Over o) = Some (turns.Ended o)

-- The call stands at a question, which is this one, with its bytes in the scratch. It can be told again, since the machine keeps
-- them too.
pub record AsksThis (f : Faaslet) (j : Invocation) (start : State) (transcript : Transcript) (a : Ask) : Type 0 where
  pub state : State
  pub question : Question
  pub at : StandsAt f j start transcript (asks state question)
  pub waits : IsAsking f.stage
  pub is : question_of_ask j a f.scratch ≡ Some question
  pub told : turn_of f.stage ≡ Some (turns.Asks a)
  pub kept : f.machine.scratch ≡ f.scratch
  pub ready : IsReady f j (asks state question)

-- the call is over, with this outcome, which can be told again
pub record EndsThus (f : Faaslet) (j : Invocation) (start : State) (transcript : Transcript) (o : Outcome) : Type 0 where
  pub state : State
  pub at : StandsAt f j start transcript (over state o)
  pub told : turn_of f.stage ≡ Some (turns.Ended o)

-- what it tells is where the call has come to
abbrev pub Tells : Turn → Faaslet → Invocation → State → Transcript → Type 0
Tells (turns.Asks a) f j start transcript = AsksThis f j start transcript a
Tells (turns.Ended o) f j start transcript = EndsThus f j start transcript o

-- where it was, but for what was written to the scratch since: the bytes of the machine's are there again
abbrev pub IsToldAgain : Faaslet → Faaslet → Type 0
IsToldAgain f new = new ≡ record f { scratch = f.machine.scratch }

-- how often it may be run on, where it is to run on: each time it spends fuel
abbrev pub left_at : Stage → ℕ → ℕ
left_at stages.Runs fuel = fuel + 1
left_at (stages.Asks work a) fuel = 0
left_at (stages.Over o) fuel = 0

abbrev pub runs_left : Faaslet → ℕ
runs_left f = left_at f.stage f.machine.thread.fuel

-- it has room for so many globals and elements of a table, and for so many pages
pub record HasRooms (f : Faaslet) (room : Room) (pages : ℕ) : Type 0 where
  pub globals : f.machine.thread.globals.room ≡ room.globals
  pub table : f.machine.thread.table.room ≡ room.table
  pub pages_are : f.machine.memory.room ≡ pages

-- it has as much room as before
pub record SameRoom (f new : Faaslet) : Type 0 where
  pub globals : new.machine.thread.globals.room ≡ f.machine.thread.globals.room
  pub table : new.machine.thread.table.room ≡ f.machine.thread.table.room
  pub pages : new.machine.memory.room ≡ f.machine.memory.room
