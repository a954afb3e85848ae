-- What is kept of a world is kept of the world behind an End: the call is open no more.
use Rattle.std.proofs.Common.{◌≡◌, ℕ, All, Bool, true, false, List, [], ◌∷◌, ◌++◌, Some, None, map, refl, sym, ap, ◌∙◌, slice_index_or, subst}
use Rattle.std.specs.Prelude.{◌==◌, is_some, position}
use Rattle.std.specs.List.{remove, position_or_len}
use Rattle.std.proofs.lemmas.Bool.{eqb-true}
use Rattle.faaslet_meaning.specs.Records.{queued_calls}
use Rattle.session_meaning.specs.declared.event.Event.{Event}
use Rattle.session_meaning.specs.declared.event.Event.TheVariants.{End}
use Rattle.session_meaning.specs.Events.{Worlds, finished, open_at, why}
use Rattle.session_meaning.specs.Keeping.{CallsOpen}
use Rattle.session_meaning.specs.OpenCall.{Ended, Open, ended}
use Rattle.session_meaning.specs.Plan.{Plan}
use Rattle.session_meaning.specs.Schedule.{is_awaited, open_calls}
use Rattle.session_meaning.specs.WellFormed.{WellFormed}
use Rattle.session_meaning.specs.World.{World}
use Rattle.session_meaning.proofs.CallsAlike.{OpenOk}
use Rattle.session_meaning.proofs.CallsRan.{world_ok, worlds_more}
use Rattle.session_meaning.proofs.OpenCalls.{calls_open}
use Rattle.session_meaning.proofs.WellFits.{calls_fit}
use Rattle.world_core.specs.Living.{KeepsWorld}
use Rattle.world_core.specs.Played.{Plays}
use Rattle.world_core.specs.Seating.{KeepsQueued}
use Rattle.world_core.specs.declared.floor.Waiting.{Waiting}
use Rattle.world_core.specs.declared.player.Player.{Player}
use Rattle.world_core.specs.declared.running.Running.{Running}
use Rattle.world_core.proofs.Awaited.{closes, end_awaits}
use Rattle.world_core.proofs.Finding.{all_remove, found_first, item_among}
use Rattle.world_core.proofs.Places.{among, map_remove, position_map, without_is}
use Rattle.world_core.proofs.Reasons.{open_so}
use Rattle.world_core.proofs.Standing.{end_step}
use Rattle.world_core.proofs.Steps.{end_leaves_open, end_leaves_others, end_leaves_queued}

-- what an End leaves of all that is kept but the table
pub record Goes (c new : Running) (seat : ℕ) : Type 0 where
  pub objects : new.objects ≡ c.objects
  pub hosts : new.floor.hosts ≡ c.floor.hosts
  pub workers : new.floor.workers ≡ c.floor.workers
  pub queued : new.floor.queued.items ≡ c.floor.queued.items
  pub open_so : new.floor.«open».items ≡ remove c.floor.«open».items seat
  pub players : new.players.items ≡ remove c.players.items seat

-- what the steps of an End leave
pub goes_by : (c mid new : Running) (seat : ℕ) → mid ≡ record c { table = mid.table } → new.objects ≡ mid.objects → new.floor.«open».items ≡ remove mid.floor.«open».items seat → KeepsQueued mid.floor new.floor → new.players.items ≡ remove mid.players.items seat → Goes c new seat
goes_by c mid new seat rest objects removed leaves gone =
    let f : mid.floor ≡ c.floor = ap (λ r. r.floor) rest in
    record {
      objects = objects ∙ ap (λ r. r.objects) rest;
      hosts = leaves.hosts ∙ ap (λ f. f.hosts) f;
      workers = leaves.workers ∙ ap (λ f. f.workers) f;
      queued = ap (λ v. v.items) leaves.queued ∙ ap (λ f. f.queued.items) f;
      open_so = removed ∙ ap (λ f. remove f.«open».items seat) f;
      players = gone ∙ ap (λ r. remove r.players.items seat) rest;
    }

module _ (plan : Plan) (events : List Event) (w : World) (formed : WellFormed plan) (made : Worlds plan events w) (c : Running) (keeps : KeepsWorld plan w c) (call seat : ℕ) (found : position (λ p. p.call == call) c.players.items ≡ Some seat) (free : why w (End call) ≡ None) (o : Open) (e : Ended) (at : open_at w call ≡ Some o) (is : ended o ≡ Some e) where
  opens : CallsOpen plan w
  opens = calls_open plan events w formed made

  ok : OpenOk plan w call o
  ok = ((world_ok plan events w (calls_fit plan formed) made).calls call).opens o at

  next_made : Worlds plan (events ++ End call ∷ []) (finished w call o e)
  next_made = subst (Worlds plan (events ++ End call ∷ [])) (end_step plan w call o e at is) (worlds_more plan events w (End call) made free)

  numbers_so : map (λ p. p.call) c.players.items ≡ open_calls w
  numbers_so = keeps.numbers ∙ keeps.floor.open_so

  -- the numbers with one less
  gone : remove (open_calls w) seat ≡ open_calls (finished w call o e)
  gone =
      ap (remove (open_calls w)) ((found_first (λ p. p.call == call) c.players.items seat found).0 ∙ position_map (λ p. p.call) (λ n. n == call) c.players.items ∙ ap (position_or_len (λ n. n == call)) numbers_so)
      ∙ sym (without_is call (open_calls w))
      ∙ sym (end_leaves_open plan w call ok.r ok.here o at e opens)

  module _ (new : Running) (table_so : new.table.table ≡ (finished w call o e).table) (goes : Goes c new seat) where
    queued_now : map (λ q. q.call) new.floor.queued.items ≡ queued_calls (finished w call o e).table.records
    queued_now = ap (map (λ q. q.call)) goes.queued ∙ keeps.floor.queued ∙ sym (end_leaves_queued plan w call ok.r ok.here o at e opens)

    awaited_now : All (λ (q : Waiting). q.awaited ≡ is_awaited (finished w call o e) q.call) new.floor.queued.items
    awaited_now =
        subst (All (λ (q : Waiting). q.awaited ≡ is_awaited (finished w call o e) q.call)) (sym goes.queued)
        (λ n d l. keeps.floor.awaited n d l ∙ sym (end_awaits plan w call ok.r ok.here o at e opens is (slice_index_or c.floor.queued.items n d).call))

    open_now : map (λ s. s.call) new.floor.«open».items ≡ open_calls (finished w call o e)
    open_now = ap (map (λ s. s.call)) goes.open_so ∙ map_remove (λ s. s.call) c.floor.«open».items seat ∙ ap (λ l. remove l seat) keeps.floor.open_so ∙ gone

    left_now : map (λ p. p.call) (remove c.players.items seat) ≡ open_calls (finished w call o e)
    left_now = map_remove (λ p. p.call) c.players.items seat ∙ ap (λ l. remove l seat) numbers_so ∙ gone

    other : (q : Player) → among q.call (open_calls (finished w call o e)) ≡ true → Plays w q → Plays (finished w call o e) q
    other q left plays = by (call == q.call) refl
      where
        by : (b : Bool) → (call == q.call) ≡ b → Plays (finished w call o e) q
        by true same =
            let none : open_at (finished w call o e) q.call ≡ None = ap (open_at (finished w call o e)) (sym (eqb-true call q.call same)) ∙ closes w call o e in
            let some = sym (ap is_some none) ∙ sym (open_so (finished w call o e) q.call) ∙ left in
            let bad : ⊥ = cc in
            absurd bad
        by false ne = record { o = plays.o; open_so = end_leaves_others plan w call ok.r ok.here o at e opens q.call ne ∙ plays.open_so; host = plays.host; stands = plays.stands }

    players_now : All (Plays (finished w call o e)) (remove c.players.items seat)
    players_now n d l =
        let q = slice_index_or (remove c.players.items seat) n d in
        other q (ap (among q.call) (sym (left_now)) ∙ item_among (λ p. p.call) (remove c.players.items seat) n d l) (all_remove (Plays w) c.players.items seat keeps.players n d l)

    pub keeps_ended : KeepsWorld plan (finished w call o e) new
    keeps_ended =
        record {
          table = table_so;
          objects = goes.objects ∙ keeps.objects;
          floor = record {
            hosts = goes.hosts ∙ keeps.floor.hosts;
            workers = goes.workers ∙ keeps.floor.workers;
            queued = queued_now;
            awaited = awaited_now;
            open_so = open_now;
            calls = (calls_open plan (events ++ End call ∷ []) (finished w call o e) formed next_made).places;
          };
          numbers = ap (map (λ p. p.call)) goes.players ∙ left_now ∙ sym open_now;
          players = subst (All (Plays (finished w call o e))) (sym goes.players) players_now;
        }
