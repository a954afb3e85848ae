-- A bench as busy as before, but for its Faaslet or its pass of the table.
use Rattle.std.proofs.Common.{◌≡◌, ℕ, [], List, ◌++◌, refl, sym, ap, ◌∙◌, subst, length, take, drop}
use Rattle.std.proofs.Math.Seq.{take-append_seam}
use Rattle.faaslet_run.proofs.Standing.{rooms_then, same_rooms}
use Rattle.faaslet_run.specs.Turns.{AsksThis}
use Rattle.faaslet_meaning.specs.declared.ask.Ask.{Ask}
use Rattle.faaslet_meaning.specs.CallState.{asks}
use Rattle.std.proofs.Common.{append_assoc}
use Rattle.host_worker.specs.Asking.{Asking}
use Rattle.std.proofs.lemmas.List.{append-nil}
use Rattle.faaslet_meaning.specs.declared.grant.Channel.TheVariants.{Local, Global, Table}
use Rattle.faaslet_meaning.specs.Channels.{Transcript, told_by}
use Rattle.faaslet_run.specs.Turns.{GoesOn}
use Rattle.faaslet_run.specs.declared.faaslet.Faaslet.{Faaslet}
use Rattle.call_service.specs.Asked.{told_as}
use Rattle.region_tier.specs.Tiers.{HasPass, cells_of, slots_of}
use Rattle.state_service.specs.declared.service.StatePasses.{StatePasses}
use Rattle.told_asks.specs.Knows.{KnowsBy}
use Rattle.told_asks.specs.Seen.{seen_by}
use Rattle.turn_cell.specs.Cell.{IsPassOf, pass_list, pass_number, start_of}
use Rattle.host_worker.specs.Busy.{Busy, Errand, SameBench, Went, first_of, function_of, invocation_of}
use Rattle.host_worker.specs.Seats.{HeardAt, HeardBy, IsReplicaOf, IsValueOf}
use Rattle.host_worker.specs.declared.bench.Bench.{Bench}
use Rattle.host_worker.specs.declared.bench.Tiers.{Tiers}

abbrev pub with_faaslet : Bench → Faaslet → Bench
with_faaslet b f = record { number = b.number; call = b.call; callees = b.callees; faaslet = f; passes = b.passes }

pub busy_with : (tiers : Tiers) (b : Bench) (e : Errand) (t : Transcript) (f : Faaslet) → Busy tiers b e t → GoesOn f (invocation_of e) (first_of e) t → Busy tiers (with_faaslet b f) e t
busy_with tiers b e t f h goes = record {
  errand = h.errand;
  seats = record { locals = h.seats.locals; globals = h.seats.globals; table = h.seats.table; number = h.seats.number };
  table = h.table;
  callees = h.callees;
  goes = goes;
  heards = record { local = h.heards.local; global = h.heards.global; table = h.heards.table };
  knows = h.knows;
}

-- where the pass of the table has taken turns
pub busy_at : (tiers : Tiers) (b : Bench) (e : Errand) (t u : Transcript) → Busy tiers b e t → (n : Bench) → n.number ≡ b.number → n.call ≡ b.call → n.callees ≡ b.callees → n.passes.state ≡ b.passes.state
    → IsPassOf n.passes.table tiers.table.now → pass_number n.passes.table ≡ b.number → GoesOn n.faaslet (invocation_of e) (first_of e) u
    → ((key : ℕ) → e.before.local key ++ told_by t (Local key) ≡ e.before.local key ++ told_by u (Local key)) → ((key : ℕ) → e.before.global key ++ told_by t (Global key) ≡ e.before.global key ++ told_by u (Global key))
    → HeardBy (start_of tiers.table.now) b.number (pass_list n.passes.table) (e.before.table ++ told_as b.call (told_by u Table)) → KnowsBy (start_of tiers.table.now) (pass_list n.passes.table) b.call (seen_by [] u) → Busy tiers n e u
busy_at tiers b e t u h n number call callees state cell own goes local global heard knows = record {
  errand = h.errand;
  seats = record {
    locals = λ key k at. subst (λ (x : ℕ). HasPass (cells_of tiers.local.now) (slots_of n.passes.state.local) key (λ t p. IsReplicaOf k t × (pass_number p ≡ x))) (sym number)
        (subst (λ (st : StatePasses). HasPass (cells_of tiers.local.now) (slots_of st.local) key (λ t p. IsReplicaOf k t × (pass_number p ≡ b.number))) (sym state) (h.seats.locals key k at));
    globals = λ key k at. subst (λ (x : ℕ). HasPass (cells_of tiers.global.now) (slots_of n.passes.state.global) key (λ t p. IsValueOf k t × (pass_number p ≡ x))) (sym number)
        (subst (λ (st : StatePasses). HasPass (cells_of tiers.global.now) (slots_of st.global) key (λ t p. IsValueOf k t × (pass_number p ≡ b.number))) (sym state) (h.seats.globals key k at));
    table = cell;
    number = own ∙ sym number;
  };
  table = h.table;
  callees = subst (λ cs. cs.now ≡ (function_of e).callees) (sym callees) h.callees;
  goes = goes;
  heards = record {
    local = λ key. subst (λ (st : StatePasses). HeardAt (cells_of tiers.local.now) (slots_of st.local) key (e.before.local key ++ told_by u (Local key))) (sym state) (subst (HeardAt (cells_of tiers.local.now) (slots_of b.passes.state.local) key) (local key) (h.heards.local key));
    global = λ key. subst (λ (st : StatePasses). HeardAt (cells_of tiers.global.now) (slots_of st.global) key (e.before.global key ++ told_by u (Global key))) (sym state) (subst (HeardAt (cells_of tiers.global.now) (slots_of b.passes.state.global) key) (global key) (h.heards.global key));
    table = subst (λ (x : ℕ). HeardBy (start_of tiers.table.now) x (pass_list n.passes.table) (e.before.table ++ told_as n.call (told_by u Table))) (sym number) (subst (λ (x : ℕ). HeardBy (start_of tiers.table.now) b.number (pass_list n.passes.table) (e.before.table ++ told_as x (told_by u Table))) (sym call) heard);
  };
  knows = subst (λ (x : ℕ). KnowsBy (start_of tiers.table.now) (pass_list n.passes.table) x (seen_by [] u)) (sym call) knows;
}

-- it went on by nothing
pub stays : (tiers : Tiers) (b : Bench) (e : Errand) (t : Transcript) (P : Transcript → Type 0) → Busy tiers b e t → P t → (w : Went tiers b e t) × P (t ++ w.trail)
stays tiers b e t P h p = (record { trail = []; busy = subst (Busy tiers b e) (sym (append-nil t)) h }, subst P (sym (append-nil t)) p)

-- bytes laid over as many
pub laid_over : (old new : List ℕ) → length new ≡ length old → take (length old) (new ++ drop (length new) old) ≡ new
laid_over old new e = ap (λ n. take n (new ++ drop (length new) old)) (sym e) ∙ take-append_seam new (drop (length new) old)

-- and it went on by this, and then by that
abbrev pub went_more : (tiers : Tiers) (one two : Bench) (e : Errand) (t : Transcript) (w : Went tiers one e t) → Went tiers two e (t ++ w.trail) → Went tiers two e t
went_more tiers one two e t w v = record { trail = w.trail ++ v.trail; busy = subst (Busy tiers two e) (append_assoc t w.trail v.trail) v.busy }

pub halts_more : (tiers : Tiers) (one two : Bench) (e : Errand) (t : Transcript) (P : Transcript → Type 0) (w : Went tiers one e t) → (v : Went tiers two e (t ++ w.trail)) × P ((t ++ w.trail) ++ v.trail) → (u : Went tiers two e t) × P (t ++ u.trail)
halts_more tiers one two e t P w v = (went_more tiers one two e t w v.0, subst P (append_assoc t w.trail v.0.trail) v.1)

pub same_bench : (b : Bench) → SameBench b b
same_bench b = record { number = refl; call = refl; callees = refl; rooms = same_rooms b.faaslet }

pub bench_then : (a b c : Bench) → SameBench a b → SameBench b c → SameBench a c
bench_then a b c x y = record { number = y.number ∙ x.number; call = y.call ∙ x.call; callees = y.callees ∙ x.callees; rooms = rooms_then a.faaslet b.faaslet c.faaslet x.rooms y.rooms }

-- the question was told
pub asks_next : (tiers : Tiers) (b : Bench) (e : Errand) (t : Transcript) (a : Ask) (f : Faaslet) → Busy tiers b e t → AsksThis f (invocation_of e) (first_of e) t a → Asking tiers (with_faaslet b f) e t a
asks_next tiers b e t a f h x = record { busy = busy_with tiers b e t f h (record { progress = asks x.state x.question; at = x.at; ready = x.ready }); asks = x }
