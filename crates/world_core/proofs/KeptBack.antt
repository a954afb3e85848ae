-- What keeps an open call back from its question is told by what is kept of the world.
use Rattle.std.proofs.Common.{◌≡◌, ℕ, ◌-◌, ◌<◌, ◌≤◌, Bool, true, false, List, [], Option, Some, None, refl, sym, ap, ◌∙◌, subst, length, slice_get, arith}
use Rattle.std.specs.Prelude.{IsSome, IfSome, is_none, option_and_then, option_map}
use Rattle.std.proofs.lemmas.Option.{slice_get_within}
use Rattle.faaslet_meaning.specs.declared.ask.Ask.{Ask}
use Rattle.faaslet_meaning.specs.declared.ask.Ask.TheVariants as an_ask
use Rattle.faaslet_meaning.specs.declared.call.CallRecord.{CallRecord}
use Rattle.faaslet_meaning.specs.declared.grant.Channel.TheVariants.{Table as OnTable}
use Rattle.faaslet_meaning.specs.Asks.{front, question_of_ask, submit_of}
use Rattle.faaslet_meaning.specs.CallState.{Invocation, State, asks, over}
use Rattle.faaslet_meaning.specs.Channels.{Operation, Question, ask}
use Rattle.faaslet_meaning.specs.Records.{child_of, is_child}
use Rattle.faaslet_meaning.specs.Table.{Table}
use Rattle.faaslet_run.specs.declared.faaslet.Faaslet.{Faaslet}
use Rattle.faaslet_run.specs.declared.faaslet.Turn.TheVariants as turns
use Rattle.faaslet_meaning.specs.declared.outcome.Outcome.TheVariants as outcome
use Rattle.session_meaning.specs.declared.event.Event.{Event}
use Rattle.session_meaning.specs.declared.event.Event.TheVariants.{Ask as AskEvent, End as EndEvent}
use Rattle.session_meaning.specs.declared.event.Why.{Why}
use Rattle.session_meaning.specs.declared.event.Why.TheVariants.{HasEnded, NotEnded}
use Rattle.session_meaning.specs.Events.{Obstacle, Worlds, child_at, obstacle, open_at, unfinished_child, why, why_of}
use Rattle.session_meaning.specs.OpenCall.{Ended, Machine, Open, asking, ended, ended_by, is_broken, stands}
use Rattle.session_meaning.specs.Plan.{Plan}
use Rattle.session_meaning.specs.SessionReport as report
use Rattle.session_meaning.specs.WellFormed.{WellFormed}
use Rattle.session_meaning.specs.World.{World}
use Rattle.session_meaning.specs.WorldTold.{told_at}
use Rattle.session_meaning.proofs.CallsAlike.{Came, MachineOk, OpenOk}
use Rattle.session_meaning.proofs.CallsRan.{all_get, world_ok}
use Rattle.session_meaning.proofs.ChildrenThere.{child_found, world_has_children}
use Rattle.session_meaning.proofs.OneEntry.{RegionsOk}
use Rattle.session_meaning.proofs.WellFits.{calls_fit}
use Rattle.granted_asks.specs.LiesIn.{LiesIn}
use Rattle.granted_asks.proofs.Within.{asks_within}
use Rattle.world_objects.specs.Kept.{objects_of}
use Rattle.world_objects.specs.Served.{AreThere, locks_at, question_at}
use Rattle.world_objects.proofs.Worlds.{locks}
use Rattle.session_report.specs.Told as told
use Rattle.session_report.specs.declared.reported.Obstacle as coded
use Rattle.world_core.specs.Floor.{StandsSo, same_stand}
use Rattle.world_core.specs.Living.{Settling, world_of}
use Rattle.world_core.specs.Opened.{AtAsk}
use Rattle.world_core.specs.Played.{IsAt, Plays, question_told}
use Rattle.world_core.specs.declared.floor.Stand.{Stand}
use Rattle.world_core.specs.declared.floor.Stand.TheVariants as stand
use Rattle.world_core.specs.declared.player.Place.{Place}
use Rattle.world_core.specs.declared.player.Place.TheVariants as place
use Rattle.world_core.specs.declared.player.Player.{Player}
use Rattle.world_core.specs.declared.running.Running.{Running}
use Rattle.world_core.proofs.Children.{first_place}
use Rattle.world_core.proofs.RegionAsks.{IsOnRegion, Ready, ready}
use Rattle.world_core.proofs.Reasons.{ask_is, end_is}
use Rattle.world_core.proofs.Standing.{ask_reason, locks_alone, submit_free}

submit_question : (j : Invocation) (f len : ℕ) (scratch : List ℕ) (q : Question) → question_of_ask j (an_ask.Submit f len) scratch ≡ Some q → (g : ℕ) × (input : List ℕ) × (q ≡ ask OnTable (Operation.submit g input))
submit_question j f len scratch q e = by (slice_get j.callees f) (front len scratch) e
  where
    by : (g : Option ℕ) (input : Option (List ℕ)) → submit_of g input ≡ Some q → (g : ℕ) × (input : List ℕ) × (q ≡ ask OnTable (Operation.submit g input))
    by None input e = let no : ⊥ = cc in absurd no
    by (Some g) None e = let no : ⊥ = cc in absurd no
    by (Some g) (Some input) e = (g, input, cc)

-- a child is one of the records
pub child_within : (records : List CallRecord) (call child k : ℕ) (found : Option ℕ) → found ≡ child_of records call child → found ≡ Some k → k < length records
child_within records call child k found e is =
    let f = first_place (is_child call child) 0 records k (sym e ∙ is) in
    let so = f.is in
    let within = slice_get_within records f.place f.item f.here in
    omega (arith, so, within)

-- ---- An open call at its question.

pub record Stood (plan : Plan) (w : World) (call : ℕ) (o : Open) (s : State) (q : Question) : Type 0 where
  pub opens : OpenOk plan w call o
  pub regions : RegionsOk plan w
  pub lies : LiesIn plan opens.function.function s q
  pub few : length s.children ≤ opens.r.children

pub stood : (plan : Plan) (events : List Event) (w : World) (call : ℕ) (o : Open) (s : State) (q : Question) → WellFormed plan → Worlds plan events w → open_at w call ≡ Some o → o.machine ≡ stands (asks s q) → Stood plan w call o s q
stood plan events w call o s q fine made open_so is =
    let ok = world_ok plan events w (calls_fit plan fine) made in
    let opens = (ok.calls call).opens o open_so in
    let f = opens.function.function in
    let ran : MachineOk f opens.r.input (told_at plan w o.host call) w.table.records call opens.r.children (stands (asks s q)) = subst (MachineOk f opens.r.input (told_at plan w o.host call) w.table.records call opens.r.children) is opens.machine in
    let came : Came f opens.r.input (told_at plan w o.host call) w.table.records call opens.r.children (asks s q) = ran in
    let kids = came.ok.0.2 in
    let few = came.kids_ok.0 in
    record {
      opens = opens;
      regions = ok.regions;
      lies = asks_within plan opens.r.function opens.function opens.r.input came.config came.transcript s q fine opens.function_so came.made_so came.goes;
      few = subst (λ ks. length ks ≤ opens.r.children) (sym kids) few;
    }

pub obstacle_there : (w : World) (call : ℕ) (o : Open) (s : State) (q : Question) → open_at w call ≡ Some o → o.machine ≡ stands (asks s q) → report.obstacle_of w call ≡ obstacle w call o.host q
obstacle_there w call o s q open_so is =
    ap (option_and_then (λ o. option_and_then (λ a. obstacle w call o.host a.1) (asking o.machine))) open_so
    ∙ ap (λ m. option_and_then (λ a. obstacle w call o.host a.1) (asking m)) is

pub no_question : (w : World) (call : ℕ) (o : Open) (m : Machine) → open_at w call ≡ Some o → o.machine ≡ m → asking m ≡ None → report.obstacle_of w call ≡ None
no_question w call o m open_so is none =
    ap (option_and_then (λ o. option_and_then (λ a. obstacle w call o.host a.1) (asking o.machine))) open_so
    ∙ ap (λ m. option_and_then (λ a. obstacle w call o.host a.1) (asking m)) is
    ∙ ap (option_and_then (λ a. obstacle w call o.host a.1)) none

-- ---- A Look.

some_same : {A : Type 0} {x y : A} → Some x ≡ Some y → x ≡ y
some_same e = cc

-- the child at which a call looks is there
pub looks_there : (plan : Plan) (events : List Event) (w : World) (call child : ℕ) (o : Open) (s : State) → WellFormed plan → Worlds plan events w → open_at w call ≡ Some o → o.machine ≡ stands (asks s (ask OnTable (Operation.look child))) → (k : ℕ) × (child_of w.table.records call child ≡ Some k)
looks_there plan events w call child o s fine made open_so is =
    let st = stood plan events w call o s (ask OnTable (Operation.look child)) fine made open_so is in
    let lies : child < length s.children = st.lies in
    let few = st.few in
    let have = world_has_children plan events w made call st.opens.r st.opens.here child (omega (arith, lies, few)) in
    child_found w.table.records call child have

-- ---- A lock.

pub held_so : (plan : Plan) (events : List Event) (w : World) (call : ℕ) (o : Open) (s : State) (q : Question) (a : Ask) (scratch : List ℕ) → WellFormed plan → Worlds plan events w → open_at w call ≡ Some o → o.machine ≡ stands (asks s q) → IsOnRegion a → question_of_ask o.invocation a scratch ≡ Some q → Ready w o.host a scratch q
held_so plan events w call o s q a scratch fine made open_so is on asked =
    let st = stood plan events w call o s q fine made open_so is in
    ready plan w o.host st.regions st.opens.within st.opens.function.function s o.invocation a scratch q on asked st.lies

pub locks_so : (w : World) (call : ℕ) (o : Open) (s : State) (q : Question) (a : Ask) (scratch : List ℕ) → open_at w call ≡ Some o → o.machine ≡ stands (asks s q) → Ready w o.host a scratch q → report.obstacle_of w call ≡ locks_at (objects_of w) call o.host q
locks_so w call o s q a scratch open_so is h =
    obstacle_there w call o s q open_so is ∙ locks_alone w call o.host q h.off ∙ sym (locks w call o.host q h.has)

-- ---- Where a call stands.

pub asks_at : (p : Place) (a : Ask) → question_told p ≡ Some a → p ≡ place.Told (turns.Asks a)
asks_at (place.Told (turns.Asks b)) a e = ap (λ a. place.Told (turns.Asks a)) (some_same e)
asks_at (place.Told (turns.Ended x)) a e = let no : ⊥ = cc in absurd no
asks_at (place.Broken kind) a e = let no : ⊥ = cc in absurd no

pub asks_none : (o : Open) (f : Faaslet) (p : Place) → question_told p ≡ None → IsAt o f p → (m : Machine) × (o.machine ≡ m) × (asking m ≡ None)
asks_none o f (place.Told (turns.Asks b)) e h = let no : ⊥ = cc in absurd no
asks_none o f (place.Told (turns.Ended x)) e h = (stands (over h.ended.state x), h.machine, refl)
asks_none o f (place.Broken kind) e h = (is_broken kind, h, refl)

-- and it has ended then
pub asks_no_more : (o : Open) (f : Faaslet) (p : Place) → question_told p ≡ None → IsAt o f p → (e : Ended) × (ended o ≡ Some e)
asks_no_more o f (place.Told (turns.Asks b)) e h = let no : ⊥ = cc in absurd no
asks_no_more o f (place.Told (turns.Ended x)) e h = (record { outcome = x; used = o.fuel - h.ended.state.config.fuel; output = h.ended.state.output }, ap (ended_by o.fuel) h.machine)
asks_no_more o f (place.Broken kind) e h = (record { outcome = outcome.Broken kind; used = 0; output = [] }, ap (ended_by o.fuel) h)

none_mapped : {A B : Type 0} (f : A → B) (o : Option A) → is_none (option_map f o) ≡ is_none o
none_mapped f None = refl
none_mapped f (Some x) = refl

abbrev free_or : Bool → Stand
free_or true = stand.Free
free_or false = stand.Blocked

stands_free : (b : Bool) → same_stand (free_or b) stand.Free ≡ b
stands_free true = refl
stands_free false = refl

stands_not_ended : (b : Bool) → same_stand (free_or b) stand.Ended ≡ false
stands_not_ended true = refl
stands_not_ended false = refl

-- ---- The open call at a place of those that are kept.

module _ (r : Running) (s : Settling r) (seat : ℕ) (p : Player) (here : slice_get r.players.items seat ≡ Some p) where
  made : Worlds r.protos.now r.events.items (world_of r)
  made = record { stand = s.stand; world_so = refl }

  pub plays : Plays (world_of r) p
  plays = all_get (Plays (world_of r)) r.players.items seat p s.keeps.players here

  at_ask : (a : Ask) → question_told p.place ≡ Some a → AtAsk plays.o p.faaslet a
  at_ask a told = subst (IsAt plays.o p.faaslet) (asks_at p.place a told) plays.stands

  -- what is so of the call there
  pub of_place : (P : Player → Type 0) → P p → IfSome (slice_get r.players.items seat) P
  of_place P h = subst (λ o. IfSome o P) (sym here) h

  -- a Look
  module _ (a : Ask) (child : ℕ) (told : question_told p.place ≡ Some a) (look_so : a ≡ an_ask.Look child) where
    h : AtAsk plays.o p.faaslet a
    h = at_ask a told

    question_so : h.asked.question ≡ ask OnTable (Operation.look child)
    question_so = sym (some_same (ap (λ a. question_of_ask plays.o.invocation a p.faaslet.scratch) (sym look_so) ∙ h.asked.is))

    machine_so : plays.o.machine ≡ stands (asks h.asked.state (ask OnTable (Operation.look child)))
    machine_so = h.machine ∙ ap (λ q. stands (asks h.asked.state q)) question_so

    pub look_needs : IsSome (child_of r.table.table.records p.call child)
    look_needs =
        let k = looks_there r.protos.now r.events.items (world_of r) p.call child plays.o h.asked.state s.formed made plays.open_so machine_so in
        subst IsSome (sym (ap (λ (t : Table). child_of t.records p.call child) s.keeps.table ∙ k.1)) refl

    pub look_obstacle : report.obstacle_of (world_of r) p.call ≡ unfinished_child r.table.table.records (child_at r.table.table.records p.call child)
    look_obstacle =
        obstacle_there (world_of r) p.call plays.o h.asked.state (ask OnTable (Operation.look child)) plays.open_so machine_so
        ∙ ap (λ (t : Table). unfinished_child t.records (child_at t.records p.call child)) (sym s.keeps.table)

  -- a Submit
  pub submit_obstacle : (a : Ask) (f len : ℕ) → question_told p.place ≡ Some a → a ≡ an_ask.Submit f len → report.obstacle_of (world_of r) p.call ≡ None
  submit_obstacle a f len told is =
      let h = at_ask a told in
      let q = submit_question plays.o.invocation f len p.faaslet.scratch h.asked.question (ap (λ a. question_of_ask plays.o.invocation a p.faaslet.scratch) (sym is) ∙ h.asked.is) in
      obstacle_there (world_of r) p.call plays.o h.asked.state h.asked.question plays.open_so h.machine
      ∙ ap (obstacle (world_of r) p.call plays.o.host) q.2
      ∙ submit_free (world_of r) p.call plays.o.host q.0 q.1

  -- a question on a region, or a move
  module _ (a : Ask) (told : question_told p.place ≡ Some a) (on : IsOnRegion a) where
    g : AtAsk plays.o p.faaslet a
    g = at_ask a told

    is_ready : Ready (world_of r) plays.o.host a p.faaslet.scratch g.asked.question
    is_ready = held_so r.protos.now r.events.items (world_of r) p.call plays.o g.asked.state g.asked.question a p.faaslet.scratch s.formed made plays.open_so g.machine on g.asked.is

    pub lock_needs : AreThere r.objects p.host a
    lock_needs = subst (λ o. AreThere o p.host a) (sym s.keeps.objects) (subst (λ n. AreThere (objects_of (world_of r)) n a) (sym plays.host) is_ready.there)

    pub lock_obstacle : (found : Option Obstacle) → ((scratch : List ℕ) → IfSome (question_at r.objects a scratch) (λ q. found ≡ locks_at r.objects p.call p.host q)) → found ≡ report.obstacle_of (world_of r) p.call
    lock_obstacle found all =
        let asked : question_at r.objects a p.faaslet.scratch ≡ Some g.asked.question = ap (λ o. question_at o a p.faaslet.scratch) s.keeps.objects ∙ is_ready.asked in
        let one : found ≡ locks_at r.objects p.call p.host g.asked.question = subst (λ o. IfSome o (λ q. found ≡ locks_at r.objects p.call p.host q)) asked (all p.faaslet.scratch) in
        one
        ∙ ap (λ o. locks_at o p.call p.host g.asked.question) s.keeps.objects
        ∙ ap (λ n. locks_at (objects_of (world_of r)) p.call n g.asked.question) plays.host
        ∙ sym (locks_so (world_of r) p.call plays.o g.asked.state g.asked.question a p.faaslet.scratch plays.open_so g.machine is_ready)

  -- it asks nothing
  pub end_obstacle : question_told p.place ≡ None → report.obstacle_of (world_of r) p.call ≡ None
  end_obstacle none = let m = asks_none plays.o p.faaslet p.place none plays.stands in no_question (world_of r) p.call plays.o m.0 plays.open_so m.1 m.2

  -- ---- How it stands on the floor.

  number_within : p.call < length (world_of r).table.records
  number_within =
      let ok = world_ok r.protos.now r.events.items (world_of r) (calls_fit r.protos.now s.formed) made in
      let opens = (ok.calls p.call).opens plays.o plays.open_so in
      slice_get_within (world_of r).table.records p.call opens.r opens.here

  not_ended : (a : Ask) → question_told p.place ≡ Some a → is_none (why (world_of r) (EndEvent p.call)) ≡ false
  not_ended a told =
      let h = at_ask a told in
      ap is_none (end_is (world_of r) p.call plays.o number_within plays.open_so ∙ ap (λ m. elim (ended_by plays.o.fuel m) as (λ e. Option Why) [ None ↦ Some NotEnded | Some e ↦ None ]) h.machine)

  asked_free : (a : Ask) → question_told p.place ≡ Some a → is_none (why (world_of r) (AskEvent p.call)) ≡ is_none (report.obstacle_of (world_of r) p.call)
  asked_free a told =
      let h = at_ask a told in
      ap is_none (ask_is (world_of r) p.call plays.o number_within plays.open_so ∙ ask_reason (world_of r) p.call plays.o h.asked.state h.asked.question h.machine ∙ ap (option_map why_of) (sym (obstacle_there (world_of r) p.call plays.o h.asked.state h.asked.question plays.open_so h.machine)))
      ∙ none_mapped why_of (report.obstacle_of (world_of r) p.call)

  pub stands_asking : (a : Ask) (found : Option coded.Obstacle) (b : Bool) → question_told p.place ≡ Some a → option_map told.obstacle_of found ≡ report.obstacle_of (world_of r) p.call → is_none found ≡ b → StandsSo (world_of r) (record { call = p.call; stand = free_or b })
  stands_asking a found b asks_so is e =
      let same : is_none (why (world_of r) (AskEvent p.call)) ≡ b = asked_free a asks_so ∙ ap is_none (sym is) ∙ none_mapped told.obstacle_of found ∙ e in
      record {
        free = stands_free b ∙ sym same;
        has_ended = stands_not_ended b ∙ sym (not_ended a asks_so);
      }

  pub stands_ended : question_told p.place ≡ None → StandsSo (world_of r) (record { call = p.call; stand = stand.Ended })
  stands_ended none =
      let m = asks_none plays.o p.faaslet p.place none plays.stands in
      record {
        free = sym (ap is_none (ask_is (world_of r) p.call plays.o number_within plays.open_so ∙ ap (λ x. elim x as (λ a. Option Why) [ None ↦ Some HasEnded | Some a ↦ option_map why_of (obstacle (world_of r) p.call plays.o.host a.1) ]) (ap asking m.1 ∙ m.2)));
        has_ended = sym (ap is_none (end_is (world_of r) p.call plays.o number_within plays.open_so ∙ ap (λ e. elim e as (λ e. Option Why) [ None ↦ Some NotEnded | Some e ↦ None ]) (asks_no_more plays.o p.faaslet p.place none plays.stands).1));
      }
