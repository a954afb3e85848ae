-- A call that was served goes on, and the world behind its Ask is kept.
use Rattle.std.proofs.Common.{◌≡◌, ◌⊎◌, inl, inr, ℕ, ◌-◌, ◌<◌, ◌≤◌, Bool, true, false, cond, List, [], ◌∷◌, ◌++◌, Option, Some, None, refl, sym, ap, ap₂, ◌∙◌, subst, length, map, slice_get, slice_set, option_map, arith}
use Rattle.std.specs.Prelude.{All, IsTrue, ◌==◌, ◌||◌}
use Rattle.std.proofs.lemmas.Bool.{eqb-false, eqb-true, ne_eqb}
use Rattle.std.proofs.lemmas.List.{map-append}
use Rattle.std.proofs.lemmas.Option.{same_Some, slice_get_past, slice_get_within}
use Rattle.faaslet_meaning.specs.declared.ask.Reply as coded
use Rattle.faaslet_meaning.specs.declared.ask.Reply.TheVariants as a_reply
use Rattle.faaslet_meaning.specs.Asks.{RepliesAs, front, reply_of}
use Rattle.faaslet_meaning.specs.Call.{fits}
use Rattle.faaslet_meaning.specs.CallState.{State, asks}
use Rattle.faaslet_meaning.specs.Runs.{invocation}
use Rattle.faaslet_run.specs.Places.{StandsAt}
use Rattle.world_core.specs.Opened.{Tallies}
use Rattle.faaslet_meaning.specs.Channels.{Question, Reply, Transcript, ask, entries, fills, pulls, pushes}
use Rattle.faaslet_meaning.specs.Lists.{passes_at}
use Rattle.faaslet_meaning.specs.Records.{is_finished, queued_calls}
use Rattle.faaslet_meaning.specs.Table.{Table}
use Rattle.faaslet_run.proofs.Standing.{kept_stands}
use Rattle.session_meaning.specs.declared.event.Event.TheVariants.{Ask as AskEvent}
use Rattle.session_meaning.specs.Events.{Stand, Worlds, open_at, step, why, world}
use Rattle.session_meaning.specs.Keeping.{CallsOpen}
use Rattle.session_meaning.specs.OpenCall.{Open, answered}
use Rattle.session_meaning.specs.Schedule.{is_awaited, open_calls}
use Rattle.session_meaning.specs.WellFormed.{WellFormed}
use Rattle.session_meaning.specs.World.{World, first_world}
use Rattle.session_meaning.proofs.CallsRan.{all_get, worlds_more}
use Rattle.session_meaning.proofs.Kept.{get_map}
use Rattle.session_meaning.proofs.Later.{push_before}
use Rattle.session_meaning.proofs.LegalEntries.{get_here, get_apart}
use Rattle.session_meaning.proofs.OpenCalls.{calls_open}
use Rattle.world_core.specs.Asking.{Asker, IsReplied, WasServed, answer_to, asked_by, child_queued, looked_by, marked_as, with_scratch}
use Rattle.world_core.specs.Floor.{FloorHas}
use Rattle.world_core.specs.Living.{Entered, KeepsWorld, world_of}
use Rattle.world_core.specs.Played.{IsAt, Plays}
use Rattle.world_core.specs.Seating.{KeepsOpen, looked}
use Rattle.world_core.specs.declared.floor.Floor.{Floor}
use Rattle.world_core.specs.declared.floor.Seat.{Seat}
use Rattle.world_core.specs.declared.floor.Waiting.{Waiting}
use Rattle.world_core.specs.declared.player.Player.{Player}
use Rattle.world_core.specs.declared.running.Running.{Running}
use Rattle.world_core.proofs.Askers.{Known, known}
use Rattle.world_core.proofs.AskAwaited.{Looks, all_marked, all_of, awaited_after, has_at, looked_next, looks_before, looks_next, new_unawaited, queued_not_done}
use Rattle.world_core.proofs.Children.{opens_stay}
use Rattle.world_core.proofs.OnePlace.{one_place, same_numbers, set_apart, set_here}
use Rattle.world_core.proofs.Serving.{ask_leaves_open, ask_opens}
use Rattle.world_core.proofs.Standing.{ask_step}
use Rattle.world_core.proofs.TableLeft.{Leaves, child_counts, child_queues, child_told, leaves, same_children}

-- ---- The child that was submitted.

abbrev extra : Bool → ℕ → List Waiting
extra b n = cond b (record { call = n; awaited = false } ∷ []) []

abbrev numbers_of : List Waiting → List ℕ
numbers_of ws = map (λ (q : Waiting). q.call) ws

reply_queues : (reply : coded.Reply) (bytes : List ℕ) (r : Reply) (m : ℕ) → reply_of reply bytes ≡ Some r → child_queued reply m ≡ extra (child_told r) m
reply_queues a_reply.Done bytes r m e = ap (λ r. extra (child_told r) m) (same_Some _ _ e)
reply_queues (a_reply.Present b) bytes r m e = ap (λ r. extra (child_told r) m) (same_Some _ _ e)
reply_queues (a_reply.Bytes len) bytes r m e = by (front len bytes) e
  where
    by : (o : Option (List ℕ)) → option_map (λ content. Reply.bytes content) o ≡ Some r → [] ≡ extra (child_told r) m
    by None e = let no : ⊥ = cc in absurd no
    by (Some bs) e = ap (λ r. extra (child_told r) m) (same_Some _ _ e)
reply_queues (a_reply.Number n) bytes r m e = ap (λ r. extra (child_told r) m) (same_Some _ _ e)
reply_queues a_reply.Full bytes r m e = ap (λ r. extra (child_told r) m) (same_Some _ _ e)
reply_queues (a_reply.Child n) bytes r m e = ap (λ r. extra (child_told r) m) (same_Some _ _ e)
reply_queues a_reply.ChainFull bytes r m e = ap (λ r. extra (child_told r) m) (same_Some _ _ e)
reply_queues (a_reply.Finished outcome len) bytes r m e = by (front len bytes) e
  where
    by : (o : Option (List ℕ)) → option_map (λ output. Reply.finished outcome output) o ≡ Some r → [] ≡ extra (child_told r) m
    by None e = let no : ⊥ = cc in absurd no
    by (Some bs) e = ap (λ r. extra (child_told r) m) (same_Some _ _ e)
reply_queues a_reply.Want bytes r m e = ap (λ r. extra (child_told r) m) (same_Some _ _ e)

moved_queues : (reply : coded.Reply) (r : Reply) (bs : List ℕ) (m : ℕ) → reply ≡ a_reply.Done → r ≡ Reply.bytes bs → child_queued reply m ≡ extra (child_told r) m
moved_queues reply r bs m e k = ap (λ y. child_queued y m) e ∙ sym (ap (λ r. extra (child_told r) m) k)

told_queues : (q : Question) (reply : coded.Reply) (bytes : List ℕ) (r : Reply) (m : ℕ) → RepliesAs q reply bytes r → child_queued reply m ≡ extra (child_told r) m
told_queues (ask ch op) reply bytes r m h = reply_queues reply bytes r m h
told_queues (fills key size) reply bytes r m h = moved_queues reply r h.moved m h.is_done h.is_answer
told_queues (pulls key off len) reply bytes r m h = moved_queues reply r h.moved m h.is_done h.is_answer
told_queues (pushes key off len) reply bytes r m h = moved_queues reply r h.moved m h.is_done h.is_answer

-- it has the number behind the others
child_number : (t : Table) (call : ℕ) (new : Table) (r : Reply) → Leaves t call new r → extra (child_told r) (length new.records - 1) ≡ extra (child_told r) (length t.records)
child_number t call new r (inl h) = let n = child_counts t call new r h in let same : length new.records - 1 ≡ length t.records = omega (arith, n) in ap (extra (child_told r)) same
child_number t call new r (inr h) = ap (λ b. extra b (length new.records - 1)) h.told ∙ sym (ap (λ b. extra b (length t.records)) h.told)

queue_left : (t : Table) (call : ℕ) (new : Table) (r : Reply) → Leaves t call new r → queued_calls new.records ≡ queued_calls t.records ++ numbers_of (extra (child_told r) (length t.records))
queue_left t call new r (inl h) = child_queues t call new r h ∙ sym (ap (λ r. queued_calls t.records ++ numbers_of (extra (child_told r) (length t.records))) h.told)
queue_left t call new r (inr h) = ap (λ (t : Table). queued_calls t.records) h.same ∙ sym (ap (λ b. queued_calls t.records ++ numbers_of (extra b (length t.records))) h.told ∙ nothing (queued_calls t.records))
  where
    nothing : (xs : List ℕ) → xs ++ [] ≡ xs
    nothing [] = refl
    nothing (x ∷ xs) = ap (λ l. x ∷ l) (nothing xs)

grows : (t : Table) (call : ℕ) (new : Table) (r : Reply) → Leaves t call new r → length t.records ≤ length new.records
grows t call new r (inl h) = let n = child_counts t call new r h in omega (arith, n)
grows t call new r (inr h) = let n = ap (λ (t : Table). length t.records) h.same in omega (arith, n)

marked_numbers : (next : Option ℕ) (queue : List Waiting) → numbers_of (marked_as next queue) ≡ numbers_of queue
marked_numbers None queue = refl
marked_numbers (Some k) queue = by queue
  where
    by : (queue : List Waiting) → numbers_of (map (looked k) queue) ≡ numbers_of queue
    by [] = refl
    by (x ∷ xs) = ap (λ ns. x.call ∷ ns) (by xs)

-- ---- The call that was served.

module _ (call seat : ℕ) (reply : coded.Reply) (old : Running) (h : WasServed call seat reply old) where
  abbrev p : Player
  p = h.player

  abbrev asker : Asker (world_of h.before) h.player h.question
  asker = h.served.asker

  abbrev before : World
  before = world_of h.before

  abbrev behind : World
  behind = asked_by (world_of h.before) h.player h.question h.served.asker

  abbrev told : Reply
  told = answer_to (world_of h.before) h.player h.question h.served.asker

  made : Worlds h.before.protos.now h.before.events.items before
  made = record { stand = h.lives.settling.stand; world_so = refl }

  may : why before (AskEvent p.call) ≡ None
  may = subst (λ n. why before (AskEvent n) ≡ None) (sym h.call_so) h.free

  knows : Known h.before.protos.now before p h.question asker
  knows = known h.before.protos.now h.before.events.items before p h.question asker h.lives.settling.formed made may

  left : Leaves before.table p.call behind.table told
  left = leaves before p.call asker.o.host asker.at.asked.question (invocation knows.opens.function.function knows.opens.r.input) knows.opens.r knows.asked_so knows.opens.here knows.form

  pub player_now : slice_get old.players.items seat ≡ Some (with_scratch h.served.bytes h.player)
  player_now = ap (λ ps. slice_get ps seat) h.served.players ∙ get_here h.before.players.items seat (with_scratch h.served.bytes) ∙ ap (option_map (with_scratch h.served.bytes)) h.here

  pub replied : (q : Player) → q ≡ with_scratch h.served.bytes h.player → IsReplied q.faaslet reply
  replied q e =
      subst (λ (q : Player). IsReplied q.faaslet reply) (sym e) (record {
        j = asker.o.invocation;
        start = asker.at.start;
        transcript = asker.at.transcript;
        state = asker.at.asked.state;
        question = asker.at.asked.question;
        told = told;
        waits = asker.at.asked.waits;
        at = kept_stands p.faaslet asker.o.invocation asker.at.start asker.at.transcript _ h.served.bytes asker.at.asked.at;
        replies = h.served.replies;
        fits_so = h.served.fits_so;
      })

  -- where it goes on from there
  pub gone : (q : Player) → q ≡ with_scratch h.served.bytes h.player → (x : Player) → ((o : Open) (start : State) (transcript : Transcript) (s : State) (y : Question) (r : Reply) → StandsAt q.faaslet o.invocation start transcript (asks s y) → RepliesAs y reply q.faaslet.scratch r → IsTrue (fits s y r) → Tallies o start transcript → IsAt (answered o s r (entries y r)) x.faaslet x.place) → IsAt (answered asker.o asker.at.asked.state told (entries asker.at.asked.question told)) x.faaslet x.place
  gone q e x goes =
      goes asker.o asker.at.start asker.at.transcript asker.at.asked.state asker.at.asked.question told
      (subst (λ (q : Player). StandsAt q.faaslet asker.o.invocation asker.at.start asker.at.transcript (asks asker.at.asked.state asker.at.asked.question)) (sym e) (kept_stands p.faaslet asker.o.invocation asker.at.start asker.at.transcript _ h.served.bytes asker.at.asked.at))
      (subst (λ (q : Player). RepliesAs asker.at.asked.question reply q.faaslet.scratch told) (sym e) h.served.replies)
      h.served.fits_so
      asker.at.tallies

  pub some_records : 0 < length old.table.table.records
  some_records =
      let l = slice_get_within before.table.records p.call knows.opens.r knows.opens.here in
      let n = ap (λ (t : Table). length t.records) h.served.table in
      let m = grows before.table p.call behind.table told left in
      omega (arith, l, n, m)

  pub seat_set : (x : Player) → seat < length (slice_set old.players.items seat x)
  seat_set x = slice_get_within (slice_set old.players.items seat x) seat x (set_here old.players.items seat (with_scratch h.served.bytes h.player) x player_now)

  -- ---- The world behind the Ask.

  stepped : step h.before.protos.now before (AskEvent p.call) ≡ behind
  stepped = ask_step h.before.protos.now before p.call asker.o asker.at.asked.state asker.at.asked.question asker.open_so asker.at.machine

  made_on : Worlds h.before.protos.now (h.before.events.items ++ AskEvent p.call ∷ []) behind
  made_on = subst (Worlds h.before.protos.now (h.before.events.items ++ AskEvent p.call ∷ [])) stepped (worlds_more h.before.protos.now h.before.events.items before (AskEvent p.call) made may)

  opens_before : CallsOpen h.before.protos.now before
  opens_before = calls_open h.before.protos.now h.before.events.items before h.lives.settling.formed made

  opens_behind : CallsOpen h.before.protos.now behind
  opens_behind = calls_open h.before.protos.now (h.before.events.items ++ AskEvent p.call ∷ []) behind h.lives.settling.formed made_on

  open_same : open_calls behind ≡ open_calls before
  open_same = ask_leaves_open before p.call asker.o asker.open_so asker.at.asked.state asker.at.asked.question

  open_now : open_at behind p.call ≡ Some (answered asker.o asker.at.asked.state told (entries asker.at.asked.question told))
  open_now = ask_opens before p.call asker.o asker.open_so asker.at.asked.state asker.at.asked.question

  others_open : (n : ℕ) → (p.call ≡ n → ⊥) → open_at behind n ≡ open_at before n
  others_open n ne = subst (λ v. open_at v n ≡ open_at before n) stepped (opens_stay h.before.protos.now before (AskEvent p.call) n (ne_eqb p.call n ne))

  calls_at : (i : ℕ) (q : Player) → slice_get h.before.players.items i ≡ Some q → slice_get (open_calls before) i ≡ Some q.call
  calls_at i q e =
      ap (λ ns. slice_get ns i) (sym (h.lives.settling.keeps.numbers ∙ h.lives.settling.keeps.floor.open_so))
      ∙ get_map (λ (p : Player). p.call) h.before.players.items i
      ∙ ap (option_map (λ (p : Player). p.call)) e

  -- ---- What goes on, as it is kept.

  module _ (x : Player) (at : IsAt (answered asker.o asker.at.asked.state told (entries asker.at.asked.question told)) x.faaslet x.place) (call_same : x.call ≡ p.call) (host_same : x.host ≡ p.host) where
    looks : Looks before behind p.call (looked_by behind.table.records p.call x.place)
    looks =
        record {
          same = open_same;
          there = has_at (open_calls before) seat p.call (calls_at seat p h.here);
          opens = others_open;
          kids = λ n child ne. same_children before.table p.call behind.table told left n child ne;
          before = λ n not_done. looks_before before p.call asker.o asker.at.asked.state asker.at.asked.question n asker.open_so asker.at.machine knows.stands not_done;
          next_so = λ n. looks_next behind p.call n _ x.faaslet x.place open_now at;
        }

    was_marked : (i : ℕ) (q : Waiting) → slice_get (h.before.floor.queued.items ++ extra (child_told told) (length before.table.records)) i ≡ Some q → is_awaited behind q.call ≡ (q.awaited || looked_next (looked_by behind.table.records p.call x.place) q.call)
    was_marked i q e = by (child_told told) e
      where
        old_one : slice_get h.before.floor.queued.items i ≡ Some q → is_awaited behind q.call ≡ (q.awaited || looked_next (looked_by behind.table.records p.call x.place) q.call)
        old_one e =
            let was = all_get (λ (q : Waiting). q.awaited ≡ is_awaited before q.call) h.before.floor.queued.items i q h.lives.settling.keeps.floor.awaited e in
            let queued = ap (λ ns. slice_get ns i) (sym h.lives.settling.keeps.floor.queued) ∙ get_map (λ (q : Waiting). q.call) h.before.floor.queued.items i ∙ ap (option_map (λ (q : Waiting). q.call)) e in
            awaited_after before behind p.call (looked_by behind.table.records p.call x.place) looks q.call (queued_not_done before.table.records i q.call queued)
            ∙ ap (λ b. b || looked_next (looked_by behind.table.records p.call x.place) q.call) (sym was)

        past : passes_at (λ r. is_finished r.state) before.table.records (length before.table.records) ≡ false
        past = ap (λ o. elim o as (λ o. Bool) [ None ↦ false | Some r ↦ is_finished r.state ]) (slice_get_past before.table.records (length before.table.records) (omega arith))

        new_one : q ≡ record { call = length before.table.records; awaited = false } → is_awaited behind q.call ≡ (q.awaited || looked_next (looked_by behind.table.records p.call x.place) q.call)
        new_one e =
            subst (λ (q : Waiting). is_awaited behind q.call ≡ (q.awaited || looked_next (looked_by behind.table.records p.call x.place) q.call)) (sym e)
            (awaited_after before behind p.call (looked_by behind.table.records p.call x.place) looks (length before.table.records) past
            ∙ ap (λ b. b || looked_next (looked_by behind.table.records p.call x.place) (length before.table.records)) (new_unawaited before behind p.call (looked_by behind.table.records p.call x.place) looks))

        nothing : (xs : List Waiting) → xs ++ [] ≡ xs
        nothing [] = refl
        nothing (y ∷ ys) = ap (λ l. y ∷ l) (nothing ys)

        by : (b : Bool) → slice_get (h.before.floor.queued.items ++ extra b (length before.table.records)) i ≡ Some q → is_awaited behind q.call ≡ (q.awaited || looked_next (looked_by behind.table.records p.call x.place) q.call)
        by false e = old_one (ap (λ l. slice_get l i) (sym (nothing h.before.floor.queued.items)) ∙ e)
        by true e = each (push_before h.before.floor.queued.items (record { call = length before.table.records; awaited = false }) i q e)
          where
            each : (slice_get h.before.floor.queued.items i ≡ Some q) ⊎ ((i ≡ length h.before.floor.queued.items) × (q ≡ record { call = length before.table.records; awaited = false })) → is_awaited behind q.call ≡ (q.awaited || looked_next (looked_by behind.table.records p.call x.place) q.call)
            each (inl k) = old_one k
            each (inr k) = new_one k.1

    module _ (new : Running) (players : new.players.items ≡ slice_set old.players.items seat x) (table : new.table ≡ old.table) (objects : new.objects ≡ old.objects) (protos : new.protos ≡ old.protos) (events : new.events.items ≡ old.events.items ++ AskEvent call ∷ []) (queued : new.floor.queued.items ≡ marked_as (looked_by old.table.table.records x.call x.place) (old.floor.queued.items ++ child_queued reply (length old.table.table.records - 1))) (open_kept : KeepsOpen old.floor new.floor) where
      queue_is : new.floor.queued.items ≡ marked_as (looked_by behind.table.records p.call x.place) (h.before.floor.queued.items ++ extra (child_told told) (length before.table.records))
      queue_is =
          let t = h.served.table in
          queued
          ∙ ap (λ n. marked_as (looked_by old.table.table.records n x.place) (old.floor.queued.items ++ child_queued reply (length old.table.table.records - 1))) call_same
          ∙ ap (λ (t : Table). marked_as (looked_by t.records p.call x.place) (old.floor.queued.items ++ child_queued reply (length t.records - 1))) t
          ∙ ap (λ (f : Floor). marked_as (looked_by behind.table.records p.call x.place) (f.queued.items ++ child_queued reply (length behind.table.records - 1))) h.served.floor
          ∙ ap (λ l. marked_as (looked_by behind.table.records p.call x.place) (h.before.floor.queued.items ++ l)) (told_queues asker.at.asked.question reply h.served.bytes told (length behind.table.records - 1) h.served.replies ∙ child_number before.table p.call behind.table told left)

      plan_new : new.protos.now ≡ h.before.protos.now
      plan_new = ap (λ p. p.now) (protos ∙ h.served.protos)

      events_new : new.events.items ≡ h.before.events.items ++ AskEvent p.call ∷ []
      events_new = events ∙ ap₂ (λ es n. es ++ AskEvent n ∷ []) (ap (λ v. v.items) h.served.events) (sym h.call_so)

      world_new : behind ≡ world_of new
      world_new = made_on.world_so ∙ ap₂ (λ p es. world p es) (sym plan_new) (sym events_new)

      floor_has : FloorHas h.before.protos.now behind new.floor
      floor_has =
          let k = h.lives.settling.keeps.floor in
          record {
            hosts = open_kept.hosts ∙ ap (λ (f : Floor). f.hosts) h.served.floor ∙ k.hosts ∙ opens_before.hosts ∙ sym opens_behind.hosts;
            workers = open_kept.workers ∙ ap (λ (f : Floor). f.workers) h.served.floor ∙ k.workers;
            queued =
                ap numbers_of queue_is
                ∙ marked_numbers (looked_by behind.table.records p.call x.place) (h.before.floor.queued.items ++ extra (child_told told) (length before.table.records))
                ∙ map-append (λ (q : Waiting). q.call) h.before.floor.queued.items (extra (child_told told) (length before.table.records))
                ∙ ap (λ l. l ++ numbers_of (extra (child_told told) (length before.table.records))) k.queued
                ∙ sym (queue_left before.table p.call behind.table told left);
            awaited = subst (λ l. All (λ (q : Waiting). q.awaited ≡ is_awaited behind q.call) l) (sym queue_is) (all_marked behind (looked_by behind.table.records p.call x.place) (h.before.floor.queued.items ++ extra (child_told told) (length before.table.records)) was_marked);
            open_so = ap (λ v. map (λ (s : Seat). s.call) v.items) open_kept.open_so ∙ ap (λ (f : Floor). map (λ (s : Seat). s.call) f.«open».items) h.served.floor ∙ k.open_so ∙ sym open_same;
            calls = opens_behind.places;
          }

      numbers_new : map (λ (p : Player). p.call) new.players.items ≡ open_calls before
      numbers_new =
          ap (map (λ (p : Player). p.call)) players
          ∙ same_numbers (λ (p : Player). p.call) old.players.items seat (with_scratch h.served.bytes h.player) x player_now call_same
          ∙ ap (map (λ (p : Player). p.call)) h.served.players
          ∙ changed_numbers
          ∙ h.lives.settling.keeps.numbers
          ∙ h.lives.settling.keeps.floor.open_so
        where
          changed_numbers : map (λ (p : Player). p.call) (elim (slice_get h.before.players.items seat) as (λ o. List Player) [ None ↦ h.before.players.items | Some y ↦ slice_set h.before.players.items seat (with_scratch h.served.bytes y) ]) ≡ map (λ (p : Player). p.call) h.before.players.items
          changed_numbers =
              ap (λ o. map (λ (p : Player). p.call) (elim o as (λ o. List Player) [ None ↦ h.before.players.items | Some y ↦ slice_set h.before.players.items seat (with_scratch h.served.bytes y) ])) h.here
              ∙ same_numbers (λ (p : Player). p.call) h.before.players.items seat h.player (with_scratch h.served.bytes h.player) h.here refl

      plays_new : (i : ℕ) (q : Player) → slice_get new.players.items i ≡ Some q → Plays behind q
      plays_new i q e = by (i == seat) refl
        where
          set_so : slice_get (slice_set old.players.items seat x) i ≡ Some q
          set_so = ap (λ ps. slice_get ps i) (sym players) ∙ e

          by : (b : Bool) → (i == seat) ≡ b → Plays behind q
          by true same =
              let i_is = eqb-true i seat same in
              let q_is : x ≡ q = same_Some _ _ (sym (set_here old.players.items seat (with_scratch h.served.bytes h.player) x player_now) ∙ ap (slice_get (slice_set old.players.items seat x)) (sym i_is) ∙ set_so) in
              subst (Plays behind) q_is (record {
                o = answered asker.o asker.at.asked.state told (entries asker.at.asked.question told);
                open_so = ap (open_at behind) call_same ∙ open_now;
                host = host_same ∙ asker.host;
                stands = at;
              })
          by false apart =
              let ne = eqb-false i seat apart in
              let there : slice_get h.before.players.items i ≡ Some q = sym (get_apart h.before.players.items seat i (with_scratch h.served.bytes) ne) ∙ sym (ap (λ ps. slice_get ps i) h.served.players) ∙ sym (set_apart old.players.items seat i x ne) ∙ set_so in
              let was = all_get (Plays before) h.before.players.items i q h.lives.settling.keeps.players there in
              let other = λ (same : p.call ≡ q.call). ne (one_place _ 0 before.calls i seat q.call (calls_at i q there) (calls_at seat p h.here ∙ ap (λ n. Some n) same)) in
              record { o = was.o; open_so = others_open q.call other ∙ was.open_so; host = was.host; stands = was.stands }

      keeps : KeepsWorld h.before.protos.now behind new
      keeps =
          record {
            table = ap (λ t. t.table) table ∙ h.served.table;
            objects = objects ∙ h.served.objects;
            floor = floor_has;
            numbers = numbers_new ∙ sym open_same ∙ sym floor_has.open_so;
            players = all_of (Plays behind) new.players.items plays_new;
          }

      pub entered : Entered (AskEvent call) old new
      entered =
          record {
            protos = protos;
            events = events;
            settling = record {
              formed = subst WellFormed (sym plan_new) h.lives.settling.formed;
              stand = subst (λ p. Stand p (first_world p) new.events.items) (sym plan_new) (subst (λ es. Stand h.before.protos.now (first_world h.before.protos.now) es) (sym events_new) made_on.stand);
              keeps = subst (λ w. KeepsWorld new.protos.now w new) world_new (subst (λ p. KeepsWorld p behind new) (sym plan_new) keeps);
            };
          }
