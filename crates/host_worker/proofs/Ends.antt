-- A call that is over is a run of its function.
use Rattle.std.proofs.Common.{◌≡◌, ℕ, ◌+◌, sym, ◌∙◌, subst, refl, arith}
use Rattle.faaslet_meaning.specs.declared.grant.Channel.{Channel}
use Rattle.faaslet_meaning.specs.declared.grant.Channel.TheVariants.{Local, Global}
use Rattle.faaslet_meaning.specs.declared.outcome.Outcome.{Outcome}
use Rattle.faaslet_meaning.specs.CallState.{over}
use Rattle.faaslet_meaning.specs.Channels.{Transcript, told_by}
use Rattle.faaslet_meaning.specs.Runs.{runs_by}
use Rattle.faaslet_meaning.proofs.CallAsks.{stays_formed}
use Rattle.faaslet_meaning.proofs.Ways.{goes_run}
use Rattle.faaslet_run.specs.Turns.{EndsThus}
use Rattle.granted_asks.proofs.Granting.{is_valid}
use Rattle.granted_asks.proofs.Starts.{can_start}
use Rattle.told_asks.proofs.Ends.{ends_without}
use Rattle.host_worker.specs.Busy.{Busy, Errand, first_of, function_of, invocation_of}
use Rattle.host_worker.specs.Halts.{HasEnded}
use Rattle.host_worker.specs.declared.bench.Bench.{Bench}
use Rattle.host_worker.specs.declared.bench.Tiers.{Tiers}
use Rattle.host_worker.proofs.Few.{counts_so, first_fuel}
use Rattle.host_worker.proofs.Told.{lock_behind}

pub has_ended : (tiers : Tiers) (b : Bench) (e : Errand) (t : Transcript) (o : Outcome) → Busy tiers b e t → (x : EndsThus b.faaslet (invocation_of e) (first_of e) t o) → (used : ℕ) → used + x.state.config.fuel ≡ (first_of e).config.fuel → HasEnded b e t o
has_ended tiers b e t o h x used spent =
    let way = x.at.way in
    let run = goes_run way in
    let starts = can_start e.plan e.place e.named h.errand.formed h.errand.there in
    let fuel : e.config.fuel ≡ (function_of e).fuel = first_fuel (function_of e) e.config h.errand.begins in
    let most = starts.fuel.1 in
    let unlocked = λ (ch : Channel). ends_without (function_of e) e.input e.config t x.state o ch (is_valid e.plan h.errand.formed e.place e.named h.errand.there) h.errand.begins way in
    let all : used + x.state.config.fuel ≡ (function_of e).fuel = spent ∙ fuel in
    record {
      last = x.state;
      at = x.at;
      used = used;
      used_so = all;
      fuel_so = fuel;
      runs = subst (λ m. runs_by (function_of e) m e.input (told_by t) o x.state.output used) (sym h.errand.begins) (record { transcript = t; last = x.state; run = run; told_so = λ ch. refl; output_so = refl; used_so = all });
      in_room = (stays_formed (invocation_of e) (first_of e) (over x.state o) x.at.formed way).in_room;
      counts_so = counts_so (invocation_of e) (first_of e) x.state t o run (omega (arith, fuel, most)) starts.few_grants;
      unlocked = unlocked;
      free = record {
        local = λ key. lock_behind (e.before.local key) (told_by t (Local key)) (h.errand.free.local key) ∙ unlocked (Local key);
        global = λ key. lock_behind (e.before.global key) (told_by t (Global key)) (h.errand.free.global key) ∙ unlocked (Global key);
      };
    }
