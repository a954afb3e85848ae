-- What is kept of a world is kept of the world behind a Take: the call is queued no more, and open where its Faaslet is.
use Rattle.std.proofs.Common.{◌≡◌, ℕ, ◌<◌, All, Bool, true, false, List, [], ◌∷◌, ◌++◌, Some, None, length, map, refl, sym, ap, ap₂, ◌∙◌, slice_get, slice_index_or, subst, arith}
use Rattle.std.specs.Prelude.{◌==◌, IfSome, nat_lt, position}
use Rattle.std.specs.List.{insert, remove, position_or_len}
use Rattle.std.proofs.lemmas.Bool.{eqb-true}
use Rattle.std.proofs.lemmas.List.{length-map}
use Rattle.faaslet_meaning.specs.declared.call.CallRecord.{CallRecord}
use Rattle.faaslet_meaning.specs.declared.call.CallState.{CallState}
use Rattle.faaslet_meaning.specs.declared.call.CallState.TheVariants.{Queued, Taken, Finished}
use Rattle.call_table.specs.declared.jobs.Job.{Job}
use Rattle.faaslet_meaning.specs.Lists.{passes_at}
use Rattle.faaslet_run.specs.declared.faaslet.Faaslet.{Faaslet}
use Rattle.faaslet_meaning.specs.Records.{child_of, is_queued, queued_calls}
use Rattle.faaslet_meaning.specs.Table.{taken}
use Rattle.session_meaning.specs.declared.event.Event.{Event}
use Rattle.session_meaning.specs.declared.event.Event.TheVariants.{Take}
use Rattle.session_meaning.specs.Events.{Worlds, open_at, took, why}
use Rattle.session_meaning.specs.Keeping.{CallsOpen}
use Rattle.session_meaning.specs.OpenCall.{opened}
use Rattle.session_meaning.specs.Plan.{NamedFunction, Plan, callable_of}
use Rattle.session_meaning.specs.Schedule.{is_awaited, open_calls}
use Rattle.session_meaning.specs.WellFormed.{WellFormed}
use Rattle.session_meaning.specs.World.{World}
use Rattle.session_meaning.proofs.CallsRan.{worlds_more}
use Rattle.session_meaning.proofs.Family.{world_family}
use Rattle.session_meaning.proofs.OpenCalls.{calls_open}
use Rattle.session_meaning.proofs.WellFits.{calls_fit}
use Rattle.world_core.specs.Living.{KeepsWorld}
use Rattle.world_core.specs.Played.{IsAt, IsJobOf, Plays}
use Rattle.world_core.specs.Seating.{KeepsOpen}
use Rattle.world_core.specs.Taking.{HandsOut, SeatsOnly}
use Rattle.world_core.specs.declared.floor.Floor.{Floor}
use Rattle.world_core.specs.declared.floor.Seat.{Seat}
use Rattle.world_core.specs.declared.floor.Stand.TheVariants as stand
use Rattle.world_core.specs.declared.floor.Waiting.{Waiting}
use Rattle.world_core.specs.declared.player.Player.{Player}
use Rattle.world_core.specs.declared.running.Running.{Running}
use Rattle.world_core.proofs.Allotted.{function_of, has_allotted}
use Rattle.world_core.proofs.Awaited.{no_child, take_awaits}
use Rattle.world_core.proofs.Childless.{world_childless}
use Rattle.world_core.proofs.Finding.{all_insert, all_remove, found_first}
use Rattle.world_core.proofs.Places.{among, map_insert, map_remove, position_map, put_is, without, without_is}
use Rattle.world_core.proofs.Reasons.{in_places, queued_so}
use Rattle.world_core.proofs.Standing.{take_step}
use Rattle.world_core.proofs.Starts.{for_each}
use Rattle.world_core.proofs.Steps.{not_open, take_leaves_open, take_leaves_others, take_leaves_queued, take_opens}
use Rattle.world_core.proofs.Whys.{found}

queued_state : (s : CallState) → is_queued s ≡ true → s ≡ Queued
queued_state Queued h = refl
queued_state (Taken a b n) h = let bad : ⊥ = cc in absurd bad
queued_state (Finished a b n o u out ns) h = let bad : ⊥ = cc in absurd bad

-- a call that is found among those that are queued on the floor
pub queued_there : (plan : Plan) (w : World) (c : Running) (call place : ℕ) (r : CallRecord) → KeepsWorld plan w c → position (λ q. q.call == call) c.floor.queued.items ≡ Some place → slice_get w.table.records call ≡ Some r → is_queued r.state ≡ true
queued_there plan w c call place r keeps at here = sym (queued_so w call r here) ∙ ap (among call) (sym keeps.floor.queued) ∙ (found (λ q. q.call) call place c.floor.queued.items at).there

-- ---- What a Take leaves of all that is kept but the table.

-- the place of a call among those that are open
abbrev pub place_of : ℕ → Running → ℕ
place_of call c = position_or_len (λ p. nat_lt call p.call) c.players.items

pub record Comes (c new : Running) (call place : ℕ) (p : Player) : Type 0 where
  pub objects : new.objects ≡ c.objects
  pub hosts : new.floor.hosts ≡ c.floor.hosts
  pub workers : new.floor.workers ≡ c.floor.workers
  pub queued : new.floor.queued.items ≡ remove c.floor.queued.items place
  pub open_so : new.floor.«open».items ≡ insert c.floor.«open».items (place_of call c) (record { call = call; stand = stand.Ended })
  pub players : new.players.items ≡ insert c.players.items (place_of call c) p

-- what the steps of a Take leave
pub comes_by : (c mid seated : Running) (floor : Floor) (events : _) (call place : ℕ) (p : Player) → mid ≡ record c { table = mid.table } → floor.queued.items ≡ remove mid.floor.queued.items place → KeepsOpen mid.floor floor → seated.floor.«open».items ≡ insert floor.«open».items (position_or_len (λ p. nat_lt call p.call) mid.players.items) (record { call = call; stand = stand.Ended }) → seated.players.items ≡ insert mid.players.items (position_or_len (λ p. nat_lt call p.call) mid.players.items) p → SeatsOnly (record mid { floor = floor }) seated → Comes c (record seated { events = events }) call place p
comes_by c mid seated floor events call place p rest removed leaves seats players only =
    let f : mid.floor ≡ c.floor = ap (λ r. r.floor) rest in
    let o : mid.objects ≡ c.objects = ap (λ r. r.objects) rest in
    let ps : mid.players ≡ c.players = ap (λ r. r.players) rest in
    record {
      objects = only.objects ∙ o;
      hosts = only.queued.hosts ∙ leaves.hosts ∙ ap (λ f. f.hosts) f;
      workers = only.queued.workers ∙ leaves.workers ∙ ap (λ f. f.workers) f;
      queued = ap (λ v. v.items) only.queued.queued ∙ removed ∙ ap (λ f. remove f.queued.items place) f;
      open_so = seats ∙ ap (λ v. insert v.items (position_or_len (λ p. nat_lt call p.call) mid.players.items) (record { call = call; stand = stand.Ended })) (leaves.open_so ∙ ap (λ f. f.«open») f) ∙ ap (λ ps. insert c.floor.«open».items (position_or_len (λ p. nat_lt call p.call) ps.items) (record { call = call; stand = stand.Ended })) ps;
      players = players ∙ ap (λ ps. insert ps.items (position_or_len (λ p. nat_lt call p.call) ps.items) p) ps;
    }

-- the call is queued on the table
pub queued_so_far : (plan : Plan) (w : World) (c : Running) (call place : ℕ) → KeepsWorld plan w c → position (λ q. q.call == call) c.floor.queued.items ≡ Some place → passes_at (λ r. is_queued r.state) c.table.table.records call ≡ true
queued_so_far plan w c call place keeps at =
    ap (λ t. passes_at (λ r. is_queued r.state) t.records call) keeps.table
    ∙ sym (in_places (λ r. is_queued r.state) w.table.records call)
    ∙ ap (among call) (sym keeps.floor.queued)
    ∙ (found (λ q. q.call) call place c.floor.queued.items at).there

-- a function that the table knows is the plan's
pub function_known : (plan : Plan) (events : List Event) (w : World) (c : Running) (n : ℕ) → WellFormed plan → Worlds plan events w → KeepsWorld plan w c → n < length c.table.table.functions → n < length plan.functions
function_known plan events w c n formed made keeps l =
    let so = ap length (calls_open plan events w formed made).functions in
    let many = length-map plan.functions callable_of in
    let same = ap (λ t. length t.functions) keeps.table in
    omega (arith, l, so, many, same)

-- what was handed out is a call of its function
pub job_fits : (plan : Plan) (events : List Event) (w : World) (c : Running) (call host : ℕ) (before : Faaslet) (job : Job) (new : Running) (after : Faaslet) → WellFormed plan → Worlds plan events w → KeepsWorld plan w c → HandsOut c call host before job new after → (q : Plan) → q ≡ plan → IfSome (slice_get q.functions job.function) (λ g. IsJobOf job g.function)
job_fits plan events w c call host before job new after formed made keeps h q same = for_each (λ g. IsJobOf job g.function) (slice_get q.functions job.function) one
  where
    here : slice_get w.table.records call ≡ Some h.r
    here = ap (λ t. slice_get t.records call) (sym keeps.table) ∙ h.there

    one : (g : NamedFunction) → slice_get q.functions job.function ≡ Some g → IsJobOf job g.function
    one g at =
        let there : slice_get plan.functions h.r.function ≡ Some g = ap₂ (λ q n. slice_get q.functions n) (sym same) (sym h.function) ∙ at in
        let has = has_allotted plan events w call h.r g formed made here there in
        record { fuel = h.fuel ∙ has.0; room = h.room ∙ has.1; few = h.few }

-- the function of the call
pub function_taken : (plan : Plan) (events : List Event) (w : World) (c : Running) (call host : ℕ) (before : Faaslet) (job : Job) (new : Running) (after : Faaslet) → WellFormed plan → Worlds plan events w → KeepsWorld plan w c → (h : HandsOut c call host before job new after) → (slice_get w.table.records call ≡ Some h.r) × (g : NamedFunction) × (slice_get plan.functions h.r.function ≡ Some g)
function_taken plan events w c call host before job new after formed made keeps h =
    let here : slice_get w.table.records call ≡ Some h.r = ap (λ t. slice_get t.records call) (sym keeps.table) ∙ h.there in
    let many = ap (λ t. length t.functions) keeps.table in
    let known = h.known in
    let g = function_of plan events w call h.r formed made here (omega (arith, known, many)) in
    (here, g.0, g.1)

module _ (plan : Plan) (events : List Event) (w : World) (formed : WellFormed plan) (made : Worlds plan events w) (c : Running) (keeps : KeepsWorld plan w c) (call host place : ℕ) (at : position (λ q. q.call == call) c.floor.queued.items ≡ Some place) (free : why w (Take call host) ≡ None) (r : CallRecord) (here : slice_get w.table.records call ≡ Some r) (g : NamedFunction) (function_so : slice_get plan.functions r.function ≡ Some g) where
  opens : CallsOpen plan w
  opens = calls_open plan events w formed made

  queued : r.state ≡ Queued
  queued = queued_state r.state (queued_there plan w c call place r keeps at here)

  none : (n : ℕ) → child_of w.table.records call n ≡ None
  none n = no_child plan.requests w.table.records call n r (world_family plan events w made) here (world_childless plan events w (calls_fit plan formed) made call r here queued)

  awaits : (x : ℕ) → is_awaited (took plan w call host r) x ≡ is_awaited w x
  awaits x = take_awaits plan w call host r here queued opens g function_so none x

  next_made : Worlds plan (events ++ Take call host ∷ []) (took plan w call host r)
  next_made = subst (Worlds plan (events ++ Take call host ∷ [])) (take_step plan w call host r here) (worlds_more plan events w (Take call host) made free)

  numbers_so : map (λ p. p.call) c.players.items ≡ open_calls w
  numbers_so = keeps.numbers ∙ keeps.floor.open_so

  -- the numbers with one more
  put_there : insert (open_calls w) (place_of call c) call ≡ open_calls (took plan w call host r)
  put_there =
      ap (λ n. insert (open_calls w) n call) (position_map (λ p. p.call) (λ n. nat_lt call n) c.players.items ∙ ap (position_or_len (λ n. nat_lt call n)) numbers_so)
      ∙ sym (put_is call (open_calls w))
      ∙ sym (take_leaves_open plan w call host r here queued opens g function_so)

  module _ (new : Running) (p : Player) (number : p.call ≡ call) (at_host : p.host ≡ host) (is_at : IsAt (opened g.function r.input host) p.faaslet p.place) (table_so : new.table.table ≡ taken c.table.table call host call) (comes : Comes c new call place p) where
    queued_now : map (λ q. q.call) new.floor.queued.items ≡ queued_calls (took plan w call host r).table.records
    queued_now =
        ap (map (λ q. q.call)) comes.queued
        ∙ map_remove (λ q. q.call) c.floor.queued.items place
        ∙ ap (remove (map (λ q. q.call) c.floor.queued.items)) ((found_first (λ q. q.call == call) c.floor.queued.items place at).0 ∙ position_map (λ q. q.call) (λ n. n == call) c.floor.queued.items)
        ∙ sym (without_is call (map (λ q. q.call) c.floor.queued.items))
        ∙ ap (without call) keeps.floor.queued
        ∙ sym (take_leaves_queued plan w call host r here queued opens)

    awaited_now : All (λ (q : Waiting). q.awaited ≡ is_awaited (took plan w call host r) q.call) new.floor.queued.items
    awaited_now =
        subst (All (λ (q : Waiting). q.awaited ≡ is_awaited (took plan w call host r) q.call)) (sym comes.queued)
        (all_remove (λ (q : Waiting). q.awaited ≡ is_awaited (took plan w call host r) q.call) c.floor.queued.items place (λ n d l. keeps.floor.awaited n d l ∙ sym (awaits (slice_index_or c.floor.queued.items n d).call)))

    open_now : map (λ s. s.call) new.floor.«open».items ≡ open_calls (took plan w call host r)
    open_now =
        ap (map (λ s. s.call)) comes.open_so
        ∙ map_insert (λ (s : Seat). s.call) c.floor.«open».items (place_of call c) (record { call = call; stand = stand.Ended })
        ∙ ap (λ l. insert l (place_of call c) call) keeps.floor.open_so
        ∙ put_there

    numbers_now : map (λ p. p.call) new.players.items ≡ open_calls (took plan w call host r)
    numbers_now =
        ap (map (λ p. p.call)) comes.players
        ∙ map_insert (λ (p : Player). p.call) c.players.items (place_of call c) p
        ∙ ap₂ (λ l n. insert l (place_of call c) n) numbers_so number
        ∙ put_there

    mine : Plays (took plan w call host r) p
    mine =
        record {
          o = opened g.function r.input host;
          open_so = ap (open_at (took plan w call host r)) number ∙ take_opens plan w call host r here queued opens g function_so;
          host = at_host;
          stands = is_at;
        }

    other : (q : Player) → Plays w q → Plays (took plan w call host r) q
    other q plays = by (call == q.call) refl
      where
        by : (b : Bool) → (call == q.call) ≡ b → Plays (took plan w call host r) q
        by true e =
            let closed = not_open plan w call host r here queued opens in
            let there = ap (open_at w) (eqb-true call q.call e) ∙ plays.open_so in
            let bad : ⊥ = cc in
            absurd bad
        by false e = record { o = plays.o; open_so = take_leaves_others plan w call host r here queued opens q.call e ∙ plays.open_so; host = plays.host; stands = plays.stands }

    pub keeps_taken : KeepsWorld plan (took plan w call host r) new
    keeps_taken =
        record {
          table = table_so ∙ ap (λ t. taken t call host call) keeps.table;
          objects = comes.objects ∙ keeps.objects;
          floor = record {
            hosts = comes.hosts ∙ keeps.floor.hosts;
            workers = comes.workers ∙ keeps.floor.workers;
            queued = queued_now;
            awaited = awaited_now;
            open_so = open_now;
            calls = (calls_open plan (events ++ Take call host ∷ []) (took plan w call host r) formed next_made).places;
          };
          numbers = numbers_now ∙ sym open_now;
          players = subst (All (Plays (took plan w call host r))) (sym comes.players) (all_insert (Plays (took plan w call host r)) c.players.items (place_of call c) p mine (λ n d l. other (slice_index_or c.players.items n d) (keeps.players n d l)));
        }
