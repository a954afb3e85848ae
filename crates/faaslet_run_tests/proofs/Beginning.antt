-- A call of the snapshot of a module begins in the fresh state of a function, and knows no children.
use Rattle.std.proofs.Common.{◌≡◌, ℕ, List, [], Some, take, refl, sym}
use Rattle.faaslet_meaning.specs.declared.grant.Grant.{Grant}
use Rattle.faaslet_meaning.specs.declared.module.Module.{Module}
use Rattle.faaslet_meaning.specs.CallState.{fresh_state, runs}
use Rattle.faaslet_meaning.specs.Configuration.{Configuration}
use Rattle.faaslet_meaning.specs.Fresh.{Function, entry, makes}
use Rattle.faaslet_meaning.specs.Runs.{invocation}
use Rattle.proto_faaslet.specs.Entries.{IsFor}
use Rattle.proto_faaslet.specs.Snapshots.{Snapshot, IsSnapshotOf, stored}
use Rattle.faaslet_run.specs.Places.{StandsAt}
use Rattle.faaslet_run.specs.declared.faaslet.Faaslet.{Faaslet}
use Rattle.faaslet_run_tests.specs.Standing.{IsAt}

-- what is so of a started Faaslet
abbrev pub Started : Faaslet → Snapshot → ℕ → ℕ → ℕ → List Grant → List ℕ → List ℕ → Type 0
Started new p fuel len room grants callees bytes =
    (f : Function) (c : Configuration) → IsFor f p.code p.quota fuel → f.grants ≡ grants → f.callees ≡ callees → f.room ≡ room → entry f (stored p) (Some p.main) ≡ makes c → StandsAt new (invocation f (take len bytes)) (fresh_state c) [] (runs (fresh_state c))

pub begins_at : (code : Module) (quota fuel : ℕ) (p : Snapshot) → IsSnapshotOf code quota fuel p → (new : Faaslet) (given len room : ℕ) (grants : List Grant) (callees bytes : List ℕ) → given ≡ fuel → Started new p given len room grants callees bytes → IsAt new []
begins_at code quota fuel p is new given len room grants callees bytes same started =
    let f : Function = record { code = code; quota = quota; fuel = fuel; room = room; grants = grants; callees = callees } in
    let (config, fresh_so, made) = is.fresh_is f (record { code = refl; quota_is = refl; fuel_is = refl }) in
    let for : IsFor f p.code p.quota given = record { code = sym is.code; quota_is = sym is.quota_is; fuel_is = sym same } in
    record {
      function = f;
      input = take len bytes;
      config = config;
      is_fresh = fresh_so;
      transcript = [];
      knows = refl;
      at = record { progress = runs (fresh_state config); at = started f config for refl refl refl made; ready = tt };
    }
