-- A call begins on a bench that knows of it.
use Rattle.std.proofs.Common.{◌≡◌, ℕ, List, [], take, refl, sym, ◌∙◌, subst, Some}
use Rattle.std.proofs.lemmas.List.{append-nil}
use Rattle.call_table.specs.declared.jobs.Job.{Job}
use Rattle.faaslet_meaning.specs.declared.grant.Grant.{Grant}
use Rattle.faaslet_meaning.specs.CallState.{fresh_state, runs}
use Rattle.faaslet_meaning.specs.Configuration.{Configuration}
use Rattle.faaslet_meaning.specs.Fresh.{Function, entry, makes}
use Rattle.faaslet_meaning.specs.Runs.{invocation}
use Rattle.faaslet_run.specs.Places.{StandsAt}
use Rattle.proto_faaslet.specs.Entries.{IsFor}
use Rattle.proto_faaslet.specs.Snapshots.{Snapshot, stored}
use Rattle.region_tier.specs.Tiers.{cells_of, slots_of}
use Rattle.turn_cell.specs.Cell.{pass_list, start_of}
use Rattle.host_worker.specs.Busy.{Busy, Errand, first_of, function_of, invocation_of}
use Rattle.host_worker.specs.Seats.{HeardAt, HeardBy}
use Rattle.host_worker.specs.Starting.{IsHanded, IsSeated}
use Rattle.host_worker.specs.declared.bench.Bench.{Bench}
use Rattle.host_worker.specs.declared.bench.Tiers.{Tiers}

same_config : (x y : Configuration) → makes x ≡ makes y → x ≡ y
same_config x y e = cc

module _ (tiers : Tiers) (b : Bench) (call : ℕ) (e : Errand) (s : IsSeated tiers b call e) (proto : Snapshot) (grants : List Grant) (n : Bench) (job : Job) (bytes : List ℕ) (h : IsHanded e proto grants n.callees.now job bytes)
    (started : (g : Function) (c : Configuration) → IsFor g proto.code proto.quota job.fuel → g.grants ≡ grants → g.callees ≡ n.callees.now → g.room ≡ job.room → entry g (stored proto) (Some proto.main) ≡ makes c
    → StandsAt n.faaslet (invocation g (take job.len bytes)) (fresh_state c) [] (runs (fresh_state c))) where
  own : IsFor (function_of e) (function_of e).code (function_of e).quota (function_of e).fuel
  own = record { code = refl; quota_is = refl; fuel_is = refl }

  kept : IsFor (function_of e) proto.code proto.quota job.fuel
  kept = record { code = sym h.snapshot.code; quota_is = sym h.snapshot.quota_is; fuel_is = sym h.fuel }

  stands : StandsAt n.faaslet (invocation_of e) (first_of e) [] (runs (first_of e))
  stands =
      let m = h.snapshot.fresh_is (function_of e) own in
      let same : m.0 ≡ e.config = same_config m.0 e.config (sym m.1 ∙ s.errand.begins) in
      let at = started (function_of e) m.0 kept h.grants_so h.callees_so (sym h.room) m.2 in
      subst (λ c. StandsAt n.faaslet (invocation_of e) (fresh_state c) [] (runs (fresh_state c))) same
      (subst (λ i. StandsAt n.faaslet (invocation (function_of e) i) (fresh_state m.0) [] (runs (fresh_state m.0))) h.input at)

  pub begins : Busy tiers (record { number = b.number; call = call; callees = n.callees; faaslet = n.faaslet; passes = b.passes }) e []
  begins = record {
    errand = s.errand;
    seats = record { locals = s.seats.locals; globals = s.seats.globals; table = s.seats.table; number = s.seats.number };
    table = s.table;
    callees = sym h.callees_so;
    goes = record { progress = runs (first_of e); at = stands; ready = tt };
    heards = record {
      local = λ key. subst (HeardAt (cells_of tiers.local.now) (slots_of b.passes.state.local) key) (sym (append-nil (e.before.local key))) (s.heards.local key);
      global = λ key. subst (HeardAt (cells_of tiers.global.now) (slots_of b.passes.state.global) key) (sym (append-nil (e.before.global key))) (s.heards.global key);
      table = subst (HeardBy (start_of tiers.table.now) b.number (pass_list b.passes.table)) (sym (append-nil e.before.table)) s.heards.table;
    };
    knows = s.knows;
  }
