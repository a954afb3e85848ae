-- What a call asks of shared state may be served by its bench.
use Rattle.std.proofs.Common.{◌≡◌, ℕ, zero, suc, ◌≤◌, Bool, true, false, cond, List, [], ◌∷◌, ◌++◌, Option, Some, None, refl, sym, ap, ◌∙◌, subst, length, take, slice_get, option_map, arith}
use Rattle.std.specs.Prelude.{nat_le}
use Rattle.std.proofs.lemmas.Option.{same_Some}
use Rattle.std.proofs.lemmas.Bool.{leb-true}
use Rattle.std.proofs.lemmas.List.{length-take}
use mathlib.Core.Option.{some, some-injective, some-ne-none}
use lib.ListN.{get_elem?}
use Rattle.faaslet_meaning.specs.declared.ask.Ask.{Ask}
use Rattle.faaslet_meaning.specs.declared.ask.Ask.TheVariants as an_ask
use Rattle.faaslet_meaning.specs.declared.ask.AskOp.{AskOp}
use Rattle.faaslet_meaning.specs.declared.ask.AskOp.TheVariants as op
use Rattle.faaslet_meaning.specs.declared.ask.Move.{Move}
use Rattle.faaslet_meaning.specs.declared.ask.Move.TheVariants as move
use Rattle.faaslet_meaning.specs.declared.grant.Channel.{Channel}
use Rattle.faaslet_meaning.specs.declared.grant.Channel.TheVariants.{Local, Global, Table}
use Rattle.faaslet_meaning.specs.Asks.{front, operation_of, move_of, size_of_key}
use Rattle.faaslet_meaning.specs.CallState.{runs, asks}
use Rattle.faaslet_meaning.specs.Channels.{RegionOperation, on_region, Question, ask, fills, pulls, pushes, Transcript, told_by}
use Rattle.faaslet_meaning.specs.Formed.{KeysDiffer}
use Rattle.faaslet_meaning.specs.Goes.{Goes}
use Rattle.faaslet_meaning.specs.Valid.{Valid}
use Rattle.granted_asks.specs.LiesIn.{LiesIn, OfKey, OnGlobal, OnReplica}
use Rattle.granted_asks.proofs.Granting.{is_valid, keys_differ}
use Rattle.granted_asks.proofs.Within.{asks_within}
use Rattle.region_tier.specs.Holding.{LocksInTurn}
use Rattle.region_tier.specs.Tiers.{cells_of, slots_of}
use Rattle.session_meaning.specs.Plan.{Key}
use Rattle.shared_region.specs.Moves.{MoveFits, question_of_move}
use Rattle.shared_region.specs.Shared.{Shared}
use Rattle.state_service.specs.Asked.{asked_operation}
use Rattle.state_service.specs.May.{AskFits, Carries, MayAsk, MayServe}
use Rattle.told_asks.specs.Leaves.{leaves_lock}
use Rattle.told_asks.proofs.Free.{locks_in_turn}
use Rattle.turn_cell.specs.declared.cell.Turns.{Turns}
use Rattle.turn_cell.specs.Cell.{start_of}
use Rattle.host_worker.specs.Asking.{Asking, OnState}
use Rattle.host_worker.specs.Busy.{Errand, first_of, function_of, invocation_of}
use Rattle.host_worker.specs.Seats.{IsReplicaOf}
use Rattle.host_worker.specs.declared.bench.Bench.{Bench}
use Rattle.host_worker.specs.declared.bench.Tiers.{Tiers}
use Rattle.host_worker.proofs.Told.{lock_behind, lock_told}

-- ---- The question.

front_so : (ch : Channel) (f : List ℕ → RegionOperation) (len : ℕ) (scratch : List ℕ) (q : Question) → option_map (λ o. ask ch o) (option_map (λ bytes. on_region (f bytes)) (front len scratch)) ≡ Some q → (len ≤ length scratch) × (q ≡ ask ch (on_region (f (take len scratch))))
front_so ch f len scratch q e = by (nat_le len (length scratch)) refl e
  where
    by : (b : Bool) → nat_le len (length scratch) ≡ b → option_map (λ o. ask ch o) (option_map (λ bytes. on_region (f bytes)) (cond b (Some (take len scratch)) None)) ≡ Some q → (len ≤ length scratch) × (q ≡ ask ch (on_region (f (take len scratch))))
    by true h e = (leb-true len (length scratch) h, sym (same_Some _ _ e))
    by false h e = let no : ⊥ = cc in absurd no

pub asks_so : (ch : Channel) (o : AskOp) (scratch : List ℕ) (q : Question) → option_map (λ x. ask ch x) (operation_of o scratch) ≡ Some q → Carries o (length scratch) × (q ≡ ask ch (on_region (asked_operation o scratch)))
asks_so ch op.Probe scratch q e = (tt, sym (same_Some _ _ e))
asks_so ch (op.Read off len) scratch q e = (tt, sym (same_Some _ _ e))
asks_so ch (op.Write off len) scratch q e = front_so ch (λ bytes. RegionOperation.write off bytes) len scratch q e
asks_so ch (op.Append len) scratch q e = front_so ch (λ bytes. RegionOperation.append bytes) len scratch q e
asks_so ch op.Size scratch q e = (tt, sym (same_Some _ _ e))
asks_so ch op.LockRead scratch q e = (tt, sym (same_Some _ _ e))
asks_so ch op.LockWrite scratch q e = (tt, sym (same_Some _ _ e))
asks_so ch op.Unlock scratch q e = (tt, sym (same_Some _ _ e))

-- ---- Ranges.

fits_local : (o : AskOp) (scratch : List ℕ) (k : Key) (t : Turns Shared) → length scratch ≡ 65536 → IsReplicaOf k t → Carries o (length scratch) → OnReplica (asked_operation o scratch) k → AskFits (start_of t) o (length scratch)
fits_local op.Probe scratch k t long is c h = tt
fits_local (op.Read off len) scratch k t long is c h = let inside = h.inside in let short = h.short in let bytes = is.bytes in (omega (arith, inside, bytes), omega (arith, short, long))
fits_local (op.Write off len) scratch k t long is c h = let inside = h.inside in let bytes = is.bytes in let taken = length-take len scratch in (omega (arith, inside, bytes, taken, c), c)
fits_local (op.Append len) scratch k t long is c h = absurd h
fits_local op.Size scratch k t long is c h = absurd h
fits_local op.LockRead scratch k t long is c h = tt
fits_local op.LockWrite scratch k t long is c h = tt
fits_local op.Unlock scratch k t long is c h = tt

fits_global : (o : AskOp) (scratch : List ℕ) (k : Key) (t : Turns Shared) → Carries o (length scratch) → OnGlobal (asked_operation o scratch) k → AskFits (start_of t) o (length scratch)
fits_global op.Probe scratch k t c h = absurd h
fits_global (op.Read off len) scratch k t c h = absurd h
fits_global (op.Write off len) scratch k t c h = absurd h
fits_global (op.Append len) scratch k t c h = c
fits_global op.Size scratch k t c h = tt
fits_global op.LockRead scratch k t c h = tt
fits_global op.LockWrite scratch k t c h = tt
fits_global op.Unlock scratch k t c h = tt

-- ---- A call that asks.

module _ (tiers : Tiers) (b : Bench) (e : Errand) (t : Transcript) (a : Ask) (h : Asking tiers b e t a) where
  abbrev scratch : List ℕ
  scratch = b.faaslet.scratch

  abbrev question : Question
  question = h.asks.question

  abbrev way : Goes (invocation_of e) (runs (first_of e)) t (asks h.asks.state h.asks.question)
  way = h.asks.at.way

  pub lies : LiesIn e.plan (function_of e) h.asks.state h.asks.question
  lies = asks_within e.plan e.place e.named e.input e.config t h.asks.state h.asks.question h.busy.errand.formed h.busy.errand.there h.busy.errand.begins way

  pub valid : Valid (function_of e).code
  valid = is_valid e.plan h.busy.errand.formed e.place e.named h.busy.errand.there

  differ : KeysDiffer (invocation_of e)
  differ = keys_differ e.plan h.busy.errand.formed e.place e.named h.busy.errand.there e.input

  lies_as : (q : Question) → question ≡ q → LiesIn e.plan (function_of e) h.asks.state q
  lies_as q same = subst (LiesIn e.plan (function_of e) h.asks.state) same lies

  turns : (ch : Channel) (o : RegionOperation) → question ≡ ask ch (on_region o) → LocksInTurn o (leaves_lock false (told_by t ch))
  turns ch o same = locks_in_turn (function_of e) e.input e.config t h.asks.state ch o valid differ h.busy.errand.begins (subst (λ q. Goes (invocation_of e) (runs (first_of e)) t (asks h.asks.state q)) same way)

  local_may : length scratch ≡ 65536 → (key : ℕ) (o : AskOp) → Carries o (length scratch) → question ≡ ask (Local key) (on_region (asked_operation o scratch)) → MayAsk (cells_of tiers.local.now) (slots_of b.passes.state.local) key o scratch
  local_may long key o c same =
      let of : OfKey e.plan (function_of e) key (OnReplica (asked_operation o scratch)) = lies_as (ask (Local key) (on_region (asked_operation o scratch))) same in
      let s = h.busy.seats.locals key of.k of.is_there in
      let heard = h.busy.heards.local key s.cell s.pass s.at_cell s.at_pass in
      let lock = lock_told s.cell s.pass (e.before.local key ++ told_by t (Local key)) heard ∙ lock_behind (e.before.local key) (told_by t (Local key)) (h.busy.errand.free.local key) in
      record {
        cell = s.cell;
        pass = s.pass;
        at_cell = s.at_cell;
        at_pass = s.at_pass;
        sits = s.sits;
        low = s.low;
        so = (fits_local o scratch of.k s.cell long s.so.0 c of.is_so, subst (LocksInTurn (asked_operation o scratch)) (sym lock) (turns (Local key) (asked_operation o scratch) same));
      }

  global_may : (key : ℕ) (o : AskOp) → Carries o (length scratch) → question ≡ ask (Global key) (on_region (asked_operation o scratch)) → MayAsk (cells_of tiers.global.now) (slots_of b.passes.state.global) key o scratch
  global_may key o c same =
      let of : OfKey e.plan (function_of e) key (OnGlobal (asked_operation o scratch)) = lies_as (ask (Global key) (on_region (asked_operation o scratch))) same in
      let s = h.busy.seats.globals key of.k of.is_there in
      let heard = h.busy.heards.global key s.cell s.pass s.at_cell s.at_pass in
      let lock = lock_told s.cell s.pass (e.before.global key ++ told_by t (Global key)) heard ∙ lock_behind (e.before.global key) (told_by t (Global key)) (h.busy.errand.free.global key) in
      record {
        cell = s.cell;
        pass = s.pass;
        at_cell = s.at_cell;
        at_pass = s.at_pass;
        sits = s.sits;
        low = s.low;
        so = (fits_global o scratch of.k s.cell c of.is_so, subst (LocksInTurn (asked_operation o scratch)) (sym lock) (turns (Global key) (asked_operation o scratch) same));
      }

  -- a transfer is on a key of the plan, with the key's size
  abbrev pub MovesKey : ℕ → Move → Type 0
  MovesKey key kind = (k : Key) × (slice_get e.plan.keys key ≡ Some k) × MoveFits kind k.size × (question ≡ question_of_move key k.size kind)

  pub moves_key : (key : ℕ) (kind : Move) → move_of (function_of e).grants key kind ≡ Some question → MovesKey key kind
  moves_key key move.Fill same = by (size_of_key (function_of e).grants key) same
    where
      by : (o : Option ℕ) → option_map (λ size. fills key size) o ≡ Some question → MovesKey key move.Fill
      by None s = let no : ⊥ = cc in absurd no
      by (Some n) s =
          let is : question ≡ fills key n = sym (same_Some _ _ s) in
          let of = lies_as (fills key n) is in
          (of.k, of.is_there, tt, is ∙ ap (λ m. fills key m) of.is_so)
  moves_key key (move.Pull off len) same =
      let is : question ≡ pulls key off len = sym (same_Some _ _ same) in
      let of = lies_as (pulls key off len) is in
      (of.k, of.is_there, of.is_so, is)
  moves_key key (move.Push off len) same =
      let is : question ≡ pushes key off len = sym (same_Some _ _ same) in
      let of = lies_as (pushes key off len) is in
      (of.k, of.is_there, of.is_so, is)

pub may_serve : (tiers : Tiers) (b : Bench) (e : Errand) (t : Transcript) (a : Ask) (h : Asking tiers b e t a) → OnState a → length b.faaslet.scratch ≡ 65536 → MayServe a (cells_of tiers.local.now) (cells_of tiers.global.now) (slots_of b.passes.state.local) (slots_of b.passes.state.global) b.faaslet.scratch
may_serve tiers b e t (an_ask.Region (Local key) o) h on long = let s = asks_so (Local key) o b.faaslet.scratch h.asks.question h.asks.is in local_may tiers b e t (an_ask.Region (Local key) o) h long key o s.0 s.1
may_serve tiers b e t (an_ask.Region (Global key) o) h on long = let s = asks_so (Global key) o b.faaslet.scratch h.asks.question h.asks.is in global_may tiers b e t (an_ask.Region (Global key) o) h key o s.0 s.1
may_serve tiers b e t (an_ask.Region Table o) h on long =
    let s = asks_so Table o b.faaslet.scratch h.asks.question h.asks.is in
    absurd (subst (LiesIn e.plan (function_of e) h.asks.state) s.1 (lies tiers b e t (an_ask.Region Table o) h))
may_serve tiers b e t (an_ask.Move key kind) h on long =
    let m = moves_key tiers b e t (an_ask.Move key kind) h key kind h.asks.is in
    let l = h.busy.seats.locals key m.0 m.1 in
    let g = h.busy.seats.globals key m.0 m.1 in
    record {
      cell = l.cell;
      pass = l.pass;
      at_cell = l.at_cell;
      at_pass = l.at_pass;
      sits = l.sits;
      low = l.low;
      so = record {
        cell = g.cell;
        pass = g.pass;
        at_cell = g.at_cell;
        at_pass = g.at_pass;
        sits = g.sits;
        low = g.low;
        so = (l.so.1 ∙ sym g.so.1, l.so.0.size ∙ sym g.so.0, subst (MoveFits kind) (sym l.so.0.size) m.2);
      };
    }
may_serve tiers b e t (an_ask.Submit f len) h on long = absurd on
may_serve tiers b e t (an_ask.Look child) h on long = absurd on

-- ---- The question that is served is the one that was asked.

pub got : {A : Type 0} (xs : List A) (k : ℕ) (a : A) → get_elem? xs k ≡ some a → slice_get xs k ≡ Some a
got [] k a e = absurd (some-ne-none a (sym e))
got (x ∷ xs) zero a e = ap Some (some-injective x a e)
got (x ∷ xs) (suc k) a e = got xs k a e
