-- The calls on a floor, and what a change of it leaves. This project's own.
use Rattle.std.specs.Prelude.{◌≡◌, ℕ, ◌<◌, ◌^◌, ◌==◌, ◌||◌, List, length, map, vec_capacity, vec_len}
use Rattle.world_core.specs.declared.floor.Floor.{Floor}
use Rattle.world_core.specs.declared.floor.Seat.{Seat}
use Rattle.world_core.specs.declared.floor.Stand.{Stand}
use Rattle.world_core.specs.declared.floor.Waiting.{Waiting}

abbrev pub queued_on : Floor → List ℕ
queued_on f = map (λ (q : Waiting). q.call) f.queued.items

abbrev pub open_on : Floor → List ℕ
open_on f = map (λ (s : Seat). s.call) f.open.items

-- one more open call finds room
pub record HasSeat (f : Floor) : Type 0 where
  pub room : vec_len f.open < vec_capacity f.open
  pub few : length f.open.items < 2 ^ 26

-- one more queued call finds room
pub record HasPlace (f : Floor) : Type 0 where
  pub room : vec_len f.queued < vec_capacity f.queued
  pub few : length f.queued.items < 2 ^ 26

-- all but the open calls is as it was
pub record KeepsQueued (f new : Floor) : Type 0 where
  pub hosts : new.hosts ≡ f.hosts
  pub workers : new.workers ≡ f.workers
  pub queued : new.queued ≡ f.queued

-- all but the queued calls is as it was
pub record KeepsOpen (f new : Floor) : Type 0 where
  pub hosts : new.hosts ≡ f.hosts
  pub workers : new.workers ≡ f.workers
  pub open_so : new.«open» ≡ f.«open»

abbrev pub with_stand : Stand → Seat → Seat
with_stand stand s = record s { stand = stand }

-- an open call looks at this call
abbrev pub looked : ℕ → Waiting → Waiting
looked call q = record q { awaited = q.awaited || (q.call == call) }
