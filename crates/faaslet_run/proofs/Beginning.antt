-- A Faaslet that was started is where its call begins.
use Rattle.std.proofs.Common.{◌≡◌, ℕ, ◌+◌, ◌*◌, ◌≤◌, List, [], Option, Some, None, length, take, refl, ap, sym, ◌∙◌, subst, arith, reverse}
use Rattle.std.specs.Prelude.{replicate, slice_get, option_and_then}
use Rattle.std.proofs.lemmas.List.{length-take-le}
use Rattle.faaslet_meaning.specs.CallState.{fresh_state, runs}
use Rattle.faaslet_meaning.specs.Configuration.{Func, hosted, defined, Configuration, goes}
use Rattle.faaslet_meaning.specs.ControlRules.{entered}
use Rattle.faaslet_meaning.specs.Formed.{IsTied, places_mapped}
use Rattle.faaslet_meaning.specs.Fresh.{Function, Store, entry, entry_by, makes, program}
use Rattle.faaslet_meaning.specs.Goes.{here}
use Rattle.faaslet_meaning.specs.Memory.{Memory, IsMemory}
use Rattle.faaslet_meaning.specs.Program.{program_of}
use Rattle.faaslet_meaning.specs.Runs.{invocation}
use Rattle.faaslet_meaning.proofs.CallParts.{parts_formed}
use Rattle.faaslet_meaning.specs.declared.grant.Grant.{Grant}
use Rattle.host_calls.specs.Known.{Keeps}
use Rattle.proto_faaslet.specs.Entries.{IsFor}
use Rattle.proto_faaslet.specs.Snapshots.{Snapshot, stored}
use Rattle.wasm_interp.specs.StandsFor.{StandsFor}
use Rattle.wasm_interp.proofs.Standing.{memory_stands}
use Rattle.faaslet_run.specs.Allowed.{AreGrants}
use Rattle.faaslet_run.specs.Begun.{IsBegun}
use Rattle.faaslet_run.specs.Places.{shape, StageIs, StandsAt}
use Rattle.faaslet_run.specs.declared.faaslet.Called.{Called}
use Rattle.faaslet_run.specs.declared.faaslet.Faaslet.{Faaslet}
use Rattle.faaslet_run.specs.declared.faaslet.Stage.TheVariants as stages
use Rattle.faaslet_run.proofs.Counting.{counted_none}

same_made : (x c : Configuration) → makes x ≡ makes c → x ≡ c
same_made x c e = cc

pub entered_with : (f : Function) (s : Store) (o : Option Func) (c : Configuration) → entry_by f s o ≡ makes c → (c.memory ≡ s.memory) × (c.fuel ≡ f.fuel)
entered_with f s (Some (defined t locals body)) c e =
    let x : Configuration = record { frame = entered t locals body []; callers = []; globals = s.globals; table = s.table; memory = s.memory; fuel = f.fuel } in
    let same = same_made x c e in
    (ap (λ (x : Configuration). x.memory) (sym same), ap (λ (x : Configuration). x.fuel) (sym same))
entered_with f s (Some (hosted k t)) c e = absurd (cc)
entered_with f s None c e = absurd (cc)

-- one private segment has nothing mapped
tied_at : (p : Snapshot) (m : Memory) → m ≡ (stored p).memory → IsMemory m → IsTied m.segments []
tied_at p m e h = record {
  few_pages = h.few;
  same = subst (λ (x : Memory). [] ≡ reverse (places_mapped x.segments 0)) (sym e) refl;
}

pub started : (f : Faaslet) (called : Called) (p : Snapshot) (g : Function) (c : Configuration) (fuel : ℕ) → f.stage ≡ stages.Runs → f.known ≡ [] → Keeps f.keys [] [] [] → f.output ≡ [] → f.counts ≡ replicate (2 * length called.grants.now + 1) 0 → f.called ≡ Some called → length f.input ≡ 65536 → IsBegun f.machine p called.grants.now fuel → AreGrants called.grants.now → length called.callees.now ≤ 256 → called.room ≤ 65536 → called.len ≤ 65536 → IsFor g p.code p.quota fuel → g.grants ≡ called.grants.now → g.callees ≡ called.callees.now → g.room ≡ called.room → entry g (stored p) (Some p.main) ≡ makes c → StandsAt f (invocation g (take called.len f.input)) (fresh_state c) [] (runs (fresh_state c))
started f called p g c fuel stage known keys output counts is_called long begun allowed few_callees small_room few_bytes for grants callees room made =
    let j = invocation g (take called.len f.input) in
    let kept = entered_with g (stored p) (option_and_then (slice_get (program g).functions) (Some p.main)) c made in
    let stands = begun.stands g c for grants made in
    let memory : f.machine.memory.memory ≡ c.memory = memory_stands shape f.machine p.code g.grants fuel (goes c) c stands refl in
    let tied : IsTied c.memory.segments [] = tied_at p c.memory kept.0 (subst IsMemory memory begun.sound) in
    let fuel_is : c.fuel ≡ fuel = kept.1 ∙ for.fuel_is in
    record {
      formed = parts_formed j (fresh_state c) (
        tied,
        (
          record { once = tt; few = omega arith; seen = tt; granted = tt },
          tt,
          record { once = tt; few = omega arith; granted = tt },
          omega arith,
          record { few = omega arith; short = tt },
        ),
      );
      way = here;
      called = record {
        called = called;
        is_called = is_called;
        grants = sym grants;
        allowed = subst (λ (gs : List Grant). AreGrants gs) (sym grants) allowed;
        callees = sym callees;
        few_callees = subst (λ (xs : List ℕ). length xs ≤ 256) (sym callees) few_callees;
        input = refl;
        few_bytes = few_bytes;
        long = length-take-le called.len f.input (omega (arith, few_bytes, long));
        room = sym room;
        small_room = subst (λ (n : ℕ). n ≤ 65536) (sym room) small_room;
      };
      counts = counts ∙ ap (λ (gs : List Grant). replicate (2 * length gs + 1) 0) (sym grants) ∙ counted_none j.program.grants (λ n. replicate n 0) refl (λ n. refl);
      stage = subst (λ x. StageIs x f j c.fuel (runs (fresh_state c))) (sym stage) (record {
        state = fresh_state c;
        next = goes c;
        stands = record { code = p.code; program_is = ap (λ m. program_of m g.grants) for.code; stands = subst (λ n. StandsFor shape f.machine p.code g.grants n (goes c)) (sym fuel_is) stands };
        plain = tt;
        keeps = record { children = sym known; keys_are = keys; output_is = sym output };
        is = refl;
      });
    }
