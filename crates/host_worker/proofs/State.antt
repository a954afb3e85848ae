-- A question on shared state that was served, and the call that goes on.
use Rattle.std.proofs.Common.{◌≡◌, ℕ, Bool, true, false, List, [], ◌∷◌, ◌++◌, Option, Some, None, refl, sym, ap, ◌∙◌, subst}
use Rattle.std.specs.Prelude.{IsTrue, ◌&&◌}
use Rattle.std.proofs.lemmas.List.{append-nil}
use Rattle.std.proofs.lemmas.Option.{same_Some}
use Rattle.faaslet_meaning.specs.declared.ask.Ask.{Ask}
use Rattle.faaslet_meaning.specs.declared.ask.Ask.TheVariants as an_ask
use Rattle.faaslet_meaning.specs.declared.ask.Move.{Move}
use Rattle.faaslet_meaning.specs.declared.ask.Move.TheVariants as move
use Rattle.faaslet_meaning.specs.declared.ask.Reply as coded
use Rattle.faaslet_meaning.specs.declared.grant.Channel.TheVariants.{Local, Global, Table}
use Rattle.faaslet_meaning.specs.Call.{comes, fits}
use Rattle.faaslet_meaning.specs.Channels.{Question, Transcript, entries, has_form, on_channel, told_by}
use Rattle.faaslet_meaning.specs.Asks.{RepliesAs}
use Rattle.faaslet_meaning.specs.CallState.{asks}
use Rattle.faaslet_run.specs.Places.{StandsAt}
use Rattle.faaslet_run.proofs.Standing.{kept_stands}
use Rattle.faaslet_run.specs.Turns.{GoesOn}
use Rattle.faaslet_run.specs.declared.faaslet.Faaslet.{Faaslet}
use Rattle.call_service.specs.Asked.{told_as}
use Rattle.region_tier.specs.Tiers.{cells_of, slots_of}
use Rattle.session_meaning.proofs.Goes.{told_more}
use Rattle.shared_region.specs.Moves.{question_of_move}
use Rattle.state_service.specs.Asked.{moved_size, question_of}
use Rattle.state_service.specs.Served.{Served}
use Rattle.state_service.specs.declared.service.StatePasses.{StatePasses}
use Rattle.told_asks.specs.Knows.{KnowsBy}
use Rattle.told_asks.specs.Seen.{seen_by}
use Rattle.told_asks.proofs.Seen.{seen_both}
use Rattle.turn_cell.specs.declared.cell.Turns.{Turns}
use Rattle.turn_cell.specs.Cell.{pass_list, pass_number, start_of}
use Rattle.shared_region.specs.Shared.{Shared}
use Rattle.host_worker.specs.Asking.{Asking, OnState}
use Rattle.host_worker.specs.Busy.{Busy, Errand, first_of, invocation_of}
use Rattle.host_worker.specs.Seats.{HeardAt, HeardBy, IsReplicaOf, IsValueOf}
use Rattle.host_worker.specs.declared.bench.Bench.{Bench}
use Rattle.host_worker.specs.declared.bench.Tiers.{Tiers}
use Rattle.host_worker.proofs.Forms.{AsksState, plain, plain_comes, plain_seen, state_quiet}
use Rattle.host_worker.proofs.Keys.{asks_so, got, moves_key}
use Rattle.host_worker.proofs.Told.{has_next, heard_next, told_as_both, told_next}

pub both : (x y : Bool) → x ≡ true → y ≡ true → IsTrue (x && y)
both true true p q = refl
both true false p q = let no : ⊥ = cc in absurd no
both false y p q = let no : ⊥ = cc in absurd no

move_asks : (key size : ℕ) (kind : Move) → AsksState (question_of_move key size kind)
move_asks key size move.Fill = tt
move_asks key size (move.Pull off len) = tt
move_asks key size (move.Push off len) = tt

-- the question that was served is the one that was asked, and one on state
pub same_question : (tiers : Tiers) (b : Bench) (e : Errand) (t : Transcript) (a : Ask) (h : Asking tiers b e t a) (p : Question) → OnState a → question_of (moved_size (cells_of tiers.local.now) a) a b.faaslet.scratch ≡ Some p → (p ≡ h.asks.question) × AsksState p
same_question tiers b e t (an_ask.Region ch o) h p on is =
    let same : p ≡ h.asks.question = same_Some _ _ (sym is ∙ h.asks.is) in
    (same, subst AsksState (sym (same ∙ (asks_so ch o b.faaslet.scratch h.asks.question h.asks.is).1)) tt)
same_question tiers b e t (an_ask.Move key kind) h p on is =
    let m = moves_key tiers b e t (an_ask.Move key kind) h key kind h.asks.is in
    let l = h.busy.seats.locals key m.0 m.1 in
    let there = got (cells_of tiers.local.now) key l.cell l.at_cell in
    let size : moved_size (cells_of tiers.local.now) (an_ask.Move key kind) ≡ m.0.size = ap (λ (o : Option (Turns Shared)). elim o as (λ _. ℕ) [ None ↦ 0 | Some t ↦ (start_of t).region.size ]) there ∙ l.so.0.size in
    let served : question_of_move key m.0.size kind ≡ p = ap (λ n. question_of_move key n kind) (sym size) ∙ same_Some _ _ is in
    (sym served ∙ sym m.3, subst AsksState served (move_asks key m.0.size kind))
same_question tiers b e t (an_ask.Submit f len) h p on is = absurd on
same_question tiers b e t (an_ask.Look child) h p on is = absurd on

module _ (tiers : Tiers) (b : Bench) (e : Errand) (t : Transcript) (a : Ask) (h : Asking tiers b e t a) (on : OnState a) (st : StatePasses) (code : coded.Reply) (told : List ℕ)
    (s : Served a (moved_size (cells_of tiers.local.now) a) (cells_of tiers.local.now) (cells_of tiers.global.now) (slots_of b.passes.state.local) (slots_of st.local) (slots_of b.passes.state.global) (slots_of st.global) code b.faaslet.scratch told) where
  pub same : s.question ≡ h.asks.question
  same = (same_question tiers b e t a h s.question on s.question_so).0

  asks_state : AsksState s.question
  asks_state = (same_question tiers b e t a h s.question on s.question_so).1

  pub fits_so : IsTrue (fits h.asks.state s.question s.answer)
  fits_so = both (has_form s.question s.answer) (comes h.asks.state s.question s.answer) s.form (plain_comes h.asks.state s.question s.answer asks_state (plain s.question s.answer asks_state s.form))

  -- with the bytes of the reply in its scratch the call may be answered
  pub stands_asked : (bytes : List ℕ) → StandsAt (record b.faaslet { scratch = bytes }) (invocation_of e) (first_of e) t (asks h.asks.state s.question)
  stands_asked bytes = kept_stands b.faaslet (invocation_of e) (first_of e) t (asks h.asks.state s.question) bytes (subst (λ q. StandsAt b.faaslet (invocation_of e) (first_of e) t (asks h.asks.state q)) (sym same) h.asks.at)

  pub replies_laid : (bytes : List ℕ) → bytes ≡ told → RepliesAs s.question code bytes s.answer
  replies_laid bytes is = subst (λ x. RepliesAs s.question code x s.answer) (sym is) s.replies

  abbrev pub more : Transcript
  more = (s.question, s.answer) ∷ []

  abbrev pub next_bench : Faaslet → Bench
  next_bench f = record { number = b.number; call = b.call; callees = b.callees; faaslet = f; passes = record { state = st; table = b.passes.table } }

  table_same : told_as b.call (told_by (t ++ more) Table) ≡ told_as b.call (told_by t Table)
  table_same =
      ap (told_as b.call) (told_more t s.question s.answer Table)
      ∙ (told_as_both b.call (told_by t Table) (on_channel Table (entries s.question s.answer))
      ∙ (ap (λ l. told_as b.call (told_by t Table) ++ l) (state_quiet b.call s.question s.answer asks_state (plain s.question s.answer asks_state s.form))
      ∙ append-nil (told_as b.call (told_by t Table))))

  kids_same : seen_by [] (t ++ more) ≡ seen_by [] t
  kids_same = seen_both [] t more ∙ plain_seen (seen_by [] t) s.question s.answer asks_state (plain s.question s.answer asks_state s.form)

  pub state_busy : (f : Faaslet) → GoesOn f (invocation_of e) (first_of e) (t ++ more) → Busy tiers (next_bench f) e (t ++ more)
  state_busy f goes = record {
    errand = h.busy.errand;
    seats = record {
      locals = λ key k at. has_next (cells_of tiers.local.now) (slots_of b.passes.state.local) (slots_of st.local) key _ (λ t p. IsReplicaOf k t × (pass_number p ≡ b.number)) (s.local_made key) (h.busy.seats.locals key k at) (λ t p n same so. (so.0, same ∙ so.1));
      globals = λ key k at. has_next (cells_of tiers.global.now) (slots_of b.passes.state.global) (slots_of st.global) key _ (λ t p. IsValueOf k t × (pass_number p ≡ b.number)) (s.global_made key) (h.busy.seats.globals key k at) (λ t p n same so. (so.0, same ∙ so.1));
      table = h.busy.seats.table;
      number = h.busy.seats.number;
    };
    table = h.busy.table;
    callees = h.busy.callees;
    goes = goes;
    heards = record {
      local = λ key. subst (HeardAt (cells_of tiers.local.now) (slots_of st.local) key) (told_next (e.before.local key) t s.question s.answer (Local key)) (heard_next (cells_of tiers.local.now) (slots_of b.passes.state.local) (slots_of st.local) key _ _ (s.local_made key) (h.busy.heards.local key));
      global = λ key. subst (HeardAt (cells_of tiers.global.now) (slots_of st.global) key) (told_next (e.before.global key) t s.question s.answer (Global key)) (heard_next (cells_of tiers.global.now) (slots_of b.passes.state.global) (slots_of st.global) key _ _ (s.global_made key) (h.busy.heards.global key));
      table = subst (HeardBy (start_of tiers.table.now) b.number (pass_list b.passes.table)) (ap (λ l. e.before.table ++ l) (sym table_same)) h.busy.heards.table;
    };
    knows = subst (KnowsBy (start_of tiers.table.now) (pass_list b.passes.table) b.call) (sym kids_same) h.busy.knows;
  }
