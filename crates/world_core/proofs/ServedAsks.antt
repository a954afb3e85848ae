-- What serving the question of an open call needs, and that it leaves what the Ask of the world leaves.
use Rattle.std.proofs.Common.{◌≡◌, ◌⊎◌, inl, inr, ℕ, zero, suc, ◌<◌, ◌≤◌, Bool, true, false, cond, List, [], ◌∷◌, Option, Some, None, refl, sym, ap, ◌∙◌, subst, length, map, take, slice_get, slice_set, option_map, fold, arith}
use Rattle.std.specs.Prelude.{All, Err, IfOk, IsTrue, Ok, OnErr, OnOk, Result, nat_le}
use Rattle.std.specs.Option.{ForSome, option_map_or}
use Rattle.std.proofs.lemmas.Bool.{and_parts, leb-true}
use Rattle.std.proofs.lemmas.List.{length-map, length-take-le}
use Rattle.std.proofs.lemmas.Option.{same_Some, slice_get_within}
use Rattle.faaslet_meaning.specs.declared.ask.Ask.{Ask}
use Rattle.faaslet_meaning.specs.declared.ask.Ask.TheVariants as an_ask
use Rattle.faaslet_meaning.specs.declared.ask.AskOp.{AskOp}
use Rattle.faaslet_meaning.specs.declared.ask.Move.{Move}
use Rattle.faaslet_meaning.specs.declared.grant.Channel.{Channel}
use Rattle.faaslet_meaning.specs.declared.ask.Reply as coded
use Rattle.faaslet_meaning.specs.declared.call.CallRecord.{CallRecord}
use Rattle.faaslet_meaning.specs.declared.grant.Channel.TheVariants.{Table as OnTable}
use Rattle.faaslet_meaning.specs.Asks.{RepliesAs, front, question_of_ask, submit_of}
use Rattle.faaslet_meaning.specs.Channels.{Operation, Question, ask, entries}
use Rattle.faaslet_meaning.specs.Lists.{changed, passes_at}
use Rattle.faaslet_meaning.specs.Records.{child_of, is_finished, is_open}
use Rattle.faaslet_meaning.specs.Table as table
use Rattle.faaslet_meaning.specs.Table.{Table, look, submit}
use Rattle.call_table.specs.Looked.{LookedAt}
use Rattle.session_meaning.specs.declared.event.Event.TheVariants.{Ask as AskEvent}
use Rattle.session_meaning.specs.Draft.{Draft, DraftFunction, draft_of, drafted}
use Rattle.session_meaning.specs.Events.{Stand, Worlds, answer, obstacle, why}
use Rattle.session_meaning.specs.Plan.{callable_of}
use Rattle.session_meaning.specs.Registry.{callees_of}
use Rattle.session_meaning.specs.WellFormed.{WellFormed}
use Rattle.session_meaning.specs.World.{World, first_world}
use Rattle.session_meaning.proofs.Kept.{get_map}
use Rattle.session_meaning.proofs.OneQuestion.{LookStands}
use Rattle.session_meaning.proofs.OpenCalls.{calls_open}
use Rattle.granted_asks.specs.LiesIn.{LiesIn, OfCallee}
use Rattle.world_core.specs.Asking.{Asker, AsksAt, IsFinishedChild, IsServed, Submitted, answer_to, with_scratch}
use Rattle.world_core.specs.Floor.{FloorHas, StandsSo}
use Rattle.world_core.specs.Living.{Lives, SameWorld, world_of}
use Rattle.world_core.specs.Played.{Plays}
use Rattle.world_core.specs.declared.floor.Floor.{Floor}
use Rattle.world_core.specs.declared.floor.Seat.{Seat}
use Rattle.world_core.specs.declared.player.Player.{Player}
use Rattle.world_core.specs.declared.running.Running.{Running}
use Rattle.world_objects.specs.Kept.{Objects, objects_of}
use Rattle.world_objects.specs.Served.{AreThere, HasObjects, IsWithin, entered_at, locks_at, question_at, reply_at}
use Rattle.world_objects.proofs.Worlds.{answers, enters, locks}
use Rattle.world_core.proofs.Askers.{Known, asker_of, known}
use Rattle.world_core.proofs.RegionAsks.{IsOnRegion, ready}
use Rattle.world_core.proofs.Seats.{plays_at, world_same}
use Rattle.world_core.proofs.Serving.{IsOffTable, entries_off, table_stays}
use Rattle.world_core.proofs.Standing.{locks_alone}
use Rattle.world_core.proofs.TableLeft.{look_table, submit_table, table_objects, world_left}

-- what serving a question on a region needs of the objects
pub record RegionNeeds (w : World) (os : Objects) (p : Player) (a : Ask) (q : Question) : Type 0 where
  pub asked : question_at os a p.faaslet.scratch ≡ Some q
  pub there : AreThere os p.host a
  pub within : IsWithin os p.host a 65536
  pub free : ForSome (question_at os a p.faaslet.scratch) (λ q. locks_at os p.call p.host q ≡ None)
  pub has : HasObjects (objects_of w) p.host q
  pub off : IsOffTable q

pub on_region : (a : Ask) → ((ch : Channel) × (o : AskOp) × (a ≡ an_ask.Region ch o)) ⊎ ((key : ℕ) × (kind : Move) × (a ≡ an_ask.Move key kind)) → IsOnRegion a
on_region a (inl h) = subst IsOnRegion (sym h.2) tt
on_region a (inr h) = subst IsOnRegion (sym h.2) tt

-- what a Submit asks
pub record SubmitIs (callees : List ℕ) (place len : ℕ) (scratch : List ℕ) (q : Question) : Type 0 where
  pub f : ℕ
  pub callee : slice_get callees place ≡ Some f
  pub is : ask OnTable (Operation.submit f (take len scratch)) ≡ q
  pub few : len ≤ length scratch

submit_is : (callees : List ℕ) (place len : ℕ) (scratch : List ℕ) (q : Question) → submit_of (slice_get callees place) (front len scratch) ≡ Some q → SubmitIs callees place len scratch q
submit_is callees place len scratch q e = by (slice_get callees place) (nat_le len (length scratch)) refl refl e
  where
    by : (o : Option ℕ) (b : Bool) → slice_get callees place ≡ o → nat_le len (length scratch) ≡ b → submit_of o (cond b (Some (take len scratch)) None) ≡ Some q → SubmitIs callees place len scratch q
    by None b at h e = let no : ⊥ = cc in absurd no
    by (Some f) false at h e = let no : ⊥ = cc in absurd no
    by (Some f) true at h e = record { f = f; callee = at; is = same_Some _ _ e; few = leb-true len (length scratch) h }

finished_child : (records : List CallRecord) (call child : ℕ) (k : Option ℕ) → child_of records call child ≡ k → ◌≡◌ {A = Bool} (elim k [ None ↦ false | Some n ↦ passes_at (λ r. is_finished r.state) records n ]) true → IsFinishedChild records call child
finished_child records call child None at e = let no : ⊥ = cc in absurd no
finished_child records call child (Some n) at e = record { number = n; found = at; finished = e }

pub set_item : {A : Type 0} (xs : List A) (i : ℕ) (x : A) → slice_get xs i ≡ Some x → slice_set xs i x ≡ xs
set_item [] i x e = let no : ⊥ = cc in absurd no
set_item (y ∷ xs) zero x e = ap (λ z. z ∷ xs) (same_Some _ _ (sym e))
set_item (y ∷ xs) (suc i) x e = ap (λ l. y ∷ l) (set_item xs i x e)

-- the same where nothing but the bytes of the scratch may be others
pub same_item : (ps : List Player) (seat : ℕ) (p : Player) → slice_get ps seat ≡ Some p → changed ps seat (with_scratch p.faaslet.scratch) ≡ ps
same_item ps seat p here = ap (λ o. elim o as (λ o. List Player) [ None ↦ ps | Some x ↦ slice_set ps seat (with_scratch p.faaslet.scratch x) ]) here ∙ set_item ps seat p here

pub on_err : {A E : Type 0} (r : Result A E) (P Q : Type 0) → OnErr r P → (P → Q) → OnErr r Q
on_err (Ok x) P Q h go = tt
on_err (Err e) P Q h go = go h

pub on_both : {A E : Type 0} (r : Result A E) (P Q R : Type 0) → OnErr r P → OnErr r Q → (P → Q → R) → OnErr r R
on_both (Ok x) P Q R h k go = tt
on_both (Err e) P Q R h k go = go h k

module _ (c : Running) (lives : Lives c) (seat : ℕ) (p : Player) (here : slice_get c.players.items seat ≡ Some p) (a : Ask) (at : AsksAt p a) (free : why (world_of c) (AskEvent p.call) ≡ None) where
  made : Worlds c.protos.now c.events.items (world_of c)
  made = record { stand = lives.settling.stand; world_so = refl }

  pub asker : Asker (world_of c) p a
  asker = asker_of (world_of c) p a (plays_at c lives seat p here) at

  pub knows : Known c.protos.now (world_of c) p a asker
  knows = known c.protos.now c.events.items (world_of c) p a asker lives.settling.formed made free

  -- ---- A question on a region, or a move.

  pub region_needs : IsOnRegion a → RegionNeeds (world_of c) c.objects p a asker.at.asked.question
  region_needs on =
      let w = world_of c in
      let q = asker.at.asked.question in
      let r = ready c.protos.now w p.host knows.regions (subst (λ h. h < c.protos.now.hosts) (sym asker.host) knows.opens.within) knows.opens.function.function asker.at.asked.state asker.o.invocation a p.faaslet.scratch q on asker.at.asked.is knows.lies in
      let unlocked = locks w p.call p.host q r.has ∙ sym (locks_alone w p.call p.host q r.off) ∙ subst (λ h. obstacle w p.call h q ≡ None) (sym asker.host) knows.free in
      subst (λ os. RegionNeeds w os p a q) (sym lives.settling.keeps.objects) (record {
        asked = r.asked;
        there = r.there;
        within = r.within;
        free = λ x e. subst (λ q. locks_at (objects_of w) p.call p.host q ≡ None) (same_Some _ _ (sym r.asked ∙ e)) unlocked;
        has = r.has;
        off = r.off;
      })

  -- all but the table, the objects and the scratch is as it was
  pub record Rest (new : Running) (bytes : List ℕ) : Type 0 where
    pub players : new.players.items ≡ changed c.players.items seat (with_scratch bytes)
    pub floor : new.floor ≡ c.floor
    pub events : new.events ≡ c.events
    pub protos : new.protos ≡ c.protos

  pub region_served : IsOnRegion a → (new : Running) (reply : coded.Reply) (bytes : List ℕ) → ForSome (question_at c.objects a p.faaslet.scratch) (λ q. new.objects ≡ fold (entered_at p.call p.host) c.objects (entries q (reply_at c.objects p.call p.host q))) → ForSome (question_at c.objects a p.faaslet.scratch) (λ q. RepliesAs q reply bytes (reply_at c.objects p.call p.host q)) → new.table ≡ c.table → Rest new bytes → IsServed c new seat p a reply
  region_served on new reply bytes objects replies same rest =
      let w = world_of c in
      let q = asker.at.asked.question in
      let keeps = lives.settling.keeps in
      let r = region_needs on in
      let answer_is = ap (λ os. reply_at os p.call p.host q) keeps.objects ∙ answers w p.call p.host q r.has ∙ ap (λ h. answer w p.call h q) asker.host in
      record {
        asker = asker;
        table = ap (λ t. t.table) same ∙ keeps.table ∙ sym (table_stays w p.call asker.o.host (entries q (answer_to w p a asker)) (entries_off q (answer_to w p a asker) r.off));
        objects =
            objects q r.asked
            ∙ ap (λ x. fold (entered_at p.call p.host) c.objects (entries q x)) answer_is
            ∙ ap (λ os. fold (entered_at p.call p.host) os (entries q (answer_to w p a asker))) keeps.objects
            ∙ ap (λ h. fold (entered_at p.call h) (objects_of w) (entries q (answer_to w p a asker))) asker.host
            ∙ sym (enters w p.call asker.o.host (entries q (answer_to w p a asker)));
        bytes = bytes;
        players = rest.players;
        replies = subst (RepliesAs q reply bytes) answer_is (replies q r.asked);
        fits_so = knows.fits_so;
        floor = rest.floor;
        events = rest.events;
        protos = rest.protos;
      }

  -- ---- A Look.

  pub is_open_so : IsTrue (passes_at (λ r. is_open r.state) c.table.table.records p.call)
  is_open_so =
      ap (λ (t : Table). passes_at (λ r. is_open r.state) t.records p.call) lives.settling.keeps.table
      ∙ ap (λ o. elim o as (λ o. Bool) [ None ↦ false | Some r ↦ is_open r.state ]) knows.opens.here
      ∙ ap is_open knows.opens.state_so

  look_is : (child : ℕ) → a ≡ an_ask.Look child → ask OnTable (Operation.look child) ≡ asker.at.asked.question
  look_is child e = same_Some _ _ (sym (ap (λ a. question_of_ask asker.o.invocation a p.faaslet.scratch) e) ∙ asker.at.asked.is)

  pub look_needs : (child : ℕ) → a ≡ an_ask.Look child → IsFinishedChild c.table.table.records p.call child
  look_needs child e =
      let w = world_of c in
      let may : LookStands w p.call (ask OnTable (Operation.look child)) = subst (LookStands w p.call) (sym (look_is child e)) knows.stands in
      let parts = and_parts (passes_at (λ r. is_open r.state) w.table.records p.call) _ may in
      subst (λ (t : Table). IsFinishedChild t.records p.call child) (sym lives.settling.keeps.table) (finished_child w.table.records p.call child (child_of w.table.records p.call child) refl parts.1)

  pub look_served : (child : ℕ) → a ≡ an_ask.Look child → (new : Running) (reply : coded.Reply) (bytes : List ℕ) → ((k : ℕ) → child_of c.table.table.records p.call child ≡ Some k → LookedAt c.table k reply p.faaslet.scratch bytes) → new.table ≡ c.table → new.objects ≡ c.objects → Rest new bytes → IsServed c new seat p a reply
  look_served child e new reply bytes told same objects rest =
      let w = world_of c in
      let keeps = lives.settling.keeps in
      let fc = look_needs child e in
      let l = (told fc.number fc.found).looked in
      let d = l.did p.call child is_open_so fc.found in
      let is = look_is child e in
      let asked_now = ask OnTable (Operation.look child) in
      let told_so = d.reply_so p.call ∙ ap (λ (t : Table). table.reply t p.call (look p.call child)) keeps.table in
      record {
        asker = asker;
        table = ap (λ t. t.table) same ∙ keeps.table ∙ sym (subst (λ q. (world_left w p.call asker.o.host q (answer w p.call asker.o.host q)).table ≡ w.table) is (look_table w p.call asker.o.host child (answer w p.call asker.o.host asked_now)));
        objects = objects ∙ keeps.objects ∙ sym (subst (λ q. objects_of (world_left w p.call asker.o.host q (answer w p.call asker.o.host q)) ≡ objects_of w) is (table_objects w p.call asker.o.host (Operation.look child) (answer w p.call asker.o.host asked_now)));
        bytes = bytes;
        players = rest.players;
        replies = subst (λ q. RepliesAs q reply bytes (answer w p.call asker.o.host q)) is (l.told ∙ ap (λ r. Some r) told_so);
        fits_so = knows.fits_so;
        floor = rest.floor;
        events = rest.events;
        protos = rest.protos;
      }

  -- ---- A Submit.

  pub submit_asks : (place len : ℕ) → a ≡ an_ask.Submit place len → SubmitIs asker.o.invocation.callees place len p.faaslet.scratch asker.at.asked.question
  submit_asks place len e = submit_is asker.o.invocation.callees place len p.faaslet.scratch asker.at.asked.question (sym (ap (λ a. question_of_ask asker.o.invocation a p.faaslet.scratch) e) ∙ asker.at.asked.is)

  record_is : (r : CallRecord) → slice_get c.table.table.records p.call ≡ Some r → knows.opens.r ≡ r
  record_is r e = same_Some _ _ (sym knows.opens.here ∙ sym (ap (λ (t : Table). slice_get t.records p.call) lives.settling.keeps.table) ∙ e)

  function_known : (reg : Draft) → reg ≡ draft_of c.protos.now → (r : CallRecord) → slice_get c.table.table.records p.call ≡ Some r → r.function < length reg.functions
  function_known reg e r h =
      let l = slice_get_within c.protos.now.functions knows.opens.r.function knows.opens.function knows.opens.function_so in
      let n = ap (λ (d : Draft). length d.functions) e ∙ length-map c.protos.now.functions drafted in
      let m = ap (λ (r : CallRecord). r.function) (record_is r h) in
      omega (arith, l, n, m)

  callees_are : (reg : Draft) → reg ≡ draft_of c.protos.now → (r : CallRecord) → slice_get c.table.table.records p.call ≡ Some r → callees_of reg r.function ≡ asker.o.invocation.callees
  callees_are reg e r h =
      ap (λ d. callees_of d r.function) e
      ∙ ap (λ (r : CallRecord). callees_of (draft_of c.protos.now) r.function) (sym (record_is r h))
      ∙ ap (λ o. option_map_or (λ (g : DraftFunction). g.callees) o []) (get_map drafted c.protos.now.functions knows.opens.r.function ∙ ap (option_map drafted) knows.opens.function_so)
      ∙ ap (λ j. j.callees) (sym knows.opens.invocation_so)

  callee_known : (place len : ℕ) (e : a ≡ an_ask.Submit place len) → OfCallee c.protos.now knows.opens.function.function (submit_asks place len e).f (take len p.faaslet.scratch)
  callee_known place len e = subst (LiesIn c.protos.now knows.opens.function.function asker.at.asked.state) (sym (submit_asks place len e).is) knows.lies

  pub submit_known : (reg : Draft) → reg ≡ draft_of c.protos.now → (r : CallRecord) → slice_get c.table.table.records p.call ≡ Some r → r.function < length reg.functions
  submit_known reg e r h = function_known reg e r h

  pub submit_function : (place len : ℕ) → a ≡ an_ask.Submit place len → (reg : Draft) → reg ≡ draft_of c.protos.now → (r : CallRecord) → slice_get c.table.table.records p.call ≡ Some r → (g : ℕ) × (slice_get (callees_of reg r.function) place ≡ Some g) × (g < length c.table.table.functions)
  submit_function place len e reg is r h =
      let s = submit_asks place len e in
      let l = (callee_known place len e).is_there in
      let opens = calls_open c.protos.now c.events.items (world_of c) lives.settling.formed made in
      let n = ap (λ (t : Table). length t.functions) lives.settling.keeps.table ∙ ap (λ fs. length fs) opens.functions ∙ length-map c.protos.now.functions callable_of in
      (s.f, ap (λ cs. slice_get cs place) (callees_are reg is r h) ∙ s.callee, omega (arith, l, n))

  pub submit_input : (place len : ℕ) → a ≡ an_ask.Submit place len → len ≤ 65536
  submit_input place len e =
      let s = submit_asks place len e in
      let short = (callee_known place len e).short in
      let long = length-take-le len p.faaslet.scratch s.few in
      omega (arith, short, long)

  pub submit_served : (place len : ℕ) → a ≡ an_ask.Submit place len → (reg : Draft) → reg ≡ draft_of c.protos.now → (new : Running) (reply : coded.Reply) → ((r : CallRecord) (g : ℕ) → slice_get c.table.table.records p.call ≡ Some r → slice_get (callees_of reg r.function) place ≡ Some g → Submitted c.table p.call g (take len p.faaslet.scratch) new.table reply) → new.objects ≡ c.objects → Rest new p.faaslet.scratch → IsServed c new seat p a reply
  submit_served place len e reg reg_is new reply made_so objects rest =
      let w = world_of c in
      let keeps = lives.settling.keeps in
      let s = submit_asks place len e in
      let input = take len p.faaslet.scratch in
      let there : slice_get c.table.table.records p.call ≡ Some knows.opens.r = ap (λ (t : Table). slice_get t.records p.call) keeps.table ∙ knows.opens.here in
      let m = made_so knows.opens.r s.f there (ap (λ cs. slice_get cs place) (callees_are reg reg_is knows.opens.r there) ∙ s.callee) in
      let d = m.made.did in
      let told_so = d.reply_so p.call ∙ ap (λ (t : Table). table.reply t p.call (submit p.call s.f input)) keeps.table in
      let after_so = d.after_so p.call ∙ ap (λ (t : Table). table.after t p.call (submit p.call s.f input)) keeps.table in
      let asked_now = ask OnTable (Operation.submit s.f input) in
      record {
        asker = asker;
        table = after_so ∙ subst (λ q. table.after w.table p.call (submit p.call s.f input) ≡ (world_left w p.call asker.o.host q (answer w p.call asker.o.host q)).table) s.is (sym (submit_table w p.call asker.o.host s.f input knows.opens.r knows.opens.here));
        objects = objects ∙ keeps.objects ∙ sym (subst (λ q. objects_of (world_left w p.call asker.o.host q (answer w p.call asker.o.host q)) ≡ objects_of w) s.is (table_objects w p.call asker.o.host (Operation.submit s.f input) (answer w p.call asker.o.host asked_now)));
        bytes = p.faaslet.scratch;
        players = rest.players;
        replies = subst (λ q. RepliesAs q reply p.faaslet.scratch (answer w p.call asker.o.host q)) s.is (m.reply_so p.faaslet.scratch ∙ ap (λ r. Some r) told_so);
        fits_so = knows.fits_so;
        floor = rest.floor;
        events = rest.events;
        protos = rest.protos;
      }

  -- ---- As the calls of the code tell it.

  pub submit_ok : {E : Type 0} (place len : ℕ) → a ≡ an_ask.Submit place len → (reg : Draft) → reg ≡ draft_of c.protos.now → (new : Running) (result : Result coded.Reply E) → ((r : CallRecord) (g : ℕ) → slice_get c.table.table.records p.call ≡ Some r → slice_get (callees_of reg r.function) place ≡ Some g → IfOk result (Submitted c.table p.call g (take len p.faaslet.scratch) new.table)) → new.objects ≡ c.objects → Rest new p.faaslet.scratch → IfOk result (IsServed c new seat p a)
  submit_ok place len e reg is new (Ok reply) made_so objects rest = submit_served place len e reg is new reply made_so objects rest
  submit_ok place len e reg is new (Err x) made_so objects rest = tt

  pub region_ok : {E : Type 0} → IsOnRegion a → (new : Running) (result : Result coded.Reply E) (bytes : List ℕ) → ForSome (question_at c.objects a p.faaslet.scratch) (λ q. OnOk result (new.objects ≡ fold (entered_at p.call p.host) c.objects (entries q (reply_at c.objects p.call p.host q)))) → ForSome (question_at c.objects a p.faaslet.scratch) (λ q. IfOk result (λ reply. RepliesAs q reply bytes (reply_at c.objects p.call p.host q))) → new.table ≡ c.table → Rest new bytes → IfOk result (IsServed c new seat p a)
  region_ok on new (Ok reply) bytes objects replies same rest = region_served on new reply bytes objects replies same rest
  region_ok on new (Err x) bytes objects replies same rest = tt

-- ---- Where nothing was served.

pub set_changed : (ps : List Player) (seat : ℕ) (p new : Player) (bytes : List ℕ) → slice_get ps seat ≡ Some p → new ≡ with_scratch bytes p → slice_set ps seat new ≡ changed ps seat (with_scratch bytes)
set_changed ps seat p new bytes here e = ap (slice_set ps seat) e ∙ sym (ap (λ o. elim o as (λ o. List Player) [ None ↦ ps | Some x ↦ slice_set ps seat (with_scratch bytes x) ]) here)

pub set_none : (ps : List Player) (seat : ℕ) (p new : Player) → slice_get ps seat ≡ Some p → new ≡ p → slice_set ps seat new ≡ ps
set_none ps seat p new here e = ap (slice_set ps seat) e ∙ set_item ps seat p here

-- where all is as it was, but for the room
pub still_lives : (c new : Running) → Lives c → new.table ≡ c.table → new.objects ≡ c.objects → new.floor ≡ c.floor → new.players.items ≡ c.players.items → SameWorld c new → Lives new
still_lives c new lives table objects floor players same =
    let k = lives.settling.keeps in
    let plan = ap (λ p. p.now) same.protos in
    let e = world_same c new same in
    record {
      settling = record {
        formed = subst WellFormed (sym plan) lives.settling.formed;
        stand = subst (λ p. Stand p (first_world p) new.events.items) (sym plan) (subst (λ es. Stand c.protos.now (first_world c.protos.now) es) (sym same.events) lives.settling.stand);
        keeps = record {
          table = ap (λ t. t.table) table ∙ k.table ∙ ap (λ (w : World). w.table) (sym e);
          objects = objects ∙ k.objects ∙ ap objects_of (sym e);
          floor = subst (λ p. FloorHas p (world_of new) new.floor) (sym plan) (subst (λ w. FloorHas c.protos.now w new.floor) (sym e) (subst (λ f. FloorHas c.protos.now (world_of c) f) (sym floor) k.floor));
          numbers = ap (λ ps. map (λ (p : Player). p.call) ps) players ∙ k.numbers ∙ sym (ap (λ (f : Floor). map (λ (s : Seat). s.call) f.«open».items) floor);
          players = subst (λ w. All (Plays w) new.players.items) (sym e) (subst (λ ps. All (Plays (world_of c)) ps) (sym players) k.players);
        };
      };
      stands = subst (λ w. All (StandsSo w) new.floor.«open».items) (sym e) (subst (λ (f : Floor). All (StandsSo (world_of c)) f.«open».items) (sym floor) lives.stands);
    }
