-- A Faaslet that was started with the snapshot of a module, with no grants and no functions that it may call, is about to run
-- the call of the program.
use Rattle.std.proofs.Common.{◌≡◌, ℕ, List, [], Some, Result, Ok, Err, length, take, refl, sym, ap, ◌∙◌, subst}
use Rattle.std.specs.Prelude.{IfOk}
use Rattle.faaslet_meaning.specs.declared.grant.Grant.{Grant}
use Rattle.faaslet_meaning.specs.declared.module.Module.{Module}
use Rattle.faaslet_meaning.specs.declared.outcome.Broken.{Broken}
use Rattle.faaslet_meaning.specs.declared.outcome.Outcome.TheVariants as outcome
use Rattle.faaslet_meaning.specs.CallState.{fresh_state, runs}
use Rattle.faaslet_meaning.specs.Channels.{told_nothing}
use Rattle.faaslet_meaning.specs.Configuration.{Configuration}
use Rattle.faaslet_meaning.specs.Fresh.{Function, makes, breaks, entry, fresh}
use Rattle.faaslet_meaning.specs.Runs.{invocation, Runs}
use Rattle.faaslet_meaning.specs.Words.{call_function}
use Rattle.faaslet_run.specs.Places.{StandsAt}
use Rattle.faaslet_run.specs.declared.faaslet.Faaslet.{Faaslet}
use Rattle.proto_faaslet.specs.Entries.{IsFor}
use Rattle.proto_faaslet.specs.Instances.{IsFault}
use Rattle.proto_faaslet.specs.Snapshots.{Snapshot, IsSnapshotOf, stored}
use Rattle.proto_faaslet.specs.declared.fault.BuildFault.{BuildFault}
use Rattle.proto_faaslet.specs.declared.fault.BuildFault.TheVariants as faults
use Rattle.faasm_top.specs.FreshCall.{IsFreshCall}
use Rattle.faasm_top.specs.declared.finish.Ran.{Ran}
use Rattle.faasm_top.proofs.Calls.{broken_so}

-- what is so of a started Faaslet, with a job of so much fuel and room and an input of so many bytes
abbrev pub Started : Faaslet → Snapshot → ℕ → ℕ → ℕ → List Grant → List ℕ → List ℕ → Type 0
Started new p fuel len room grants callees bytes =
    (f : Function) (c : Configuration) → IsFor f p.code p.quota fuel → f.grants ≡ grants → f.callees ≡ callees → f.room ≡ room → entry f (stored p) (Some p.main) ≡ makes c → StandsAt new (invocation f (take len bytes)) (fresh_state c) [] (runs (fresh_state c))

module _ (code : Module) (fuel : ℕ) (p : Snapshot) (is : IsSnapshotOf code 64 fuel p) where
  pub starts_fresh : (new : Faaslet) (given len room : ℕ) (grants : List Grant) (callees bytes input : List ℕ) → given ≡ fuel → len ≡ length input → room ≡ 65536 → grants ≡ [] → callees ≡ [] → take (length input) bytes ≡ input → Started new p given len room grants callees bytes
      → IsFreshCall new code fuel input
  starts_fresh new given len room grants callees bytes input has_fuel long has_room no_grants no_callees front started =
      let f = call_function code fuel in
      let (config, same, made) = is.fresh_is f (record { code = refl; quota_is = refl; fuel_is = refl }) in
      let for : IsFor f p.code p.quota given = record { code = sym is.code; quota_is = sym is.quota_is; fuel_is = sym has_fuel } in
      let whole : take len bytes ≡ input = ap (λ n. take n bytes) long ∙ front in
      record {
        config = config;
        is_fresh = same;
        stands = subst (λ (i : List ℕ). StandsAt new (invocation f i) (fresh_state config) [] (runs (fresh_state config))) whole (started f config for (sym no_grants) (sym no_callees) (sym has_room) made);
      }

-- what is so of all such calls is so of this one
pub ran_once : {E : Type 0} (f : Faaslet) (r : Result Ran E) (code : Module) (fuel : ℕ) (input : List ℕ) → IsFreshCall f code fuel input
    → IfOk r (λ x. (m : Module) (n : ℕ) (i : List ℕ) → IsFreshCall f m n i → Runs (call_function m n) i told_nothing x.outcome x.output.items x.used)
    → IfOk r (λ x. Runs (call_function code fuel) input told_nothing x.outcome x.output.items x.used)
ran_once f (Ok x) code fuel input begun all = all code fuel input begun
ran_once f (Err e) code fuel input begun all = tt

-- and where none is built, the call comes to how the function is broken
pub broken_runs : (code : Module) (fuel : ℕ) (e : BuildFault) (kind : Broken) → e ≡ faults.Broken kind → ((f : Function) → IsFor f code 64 fuel → IsFault e (fresh f)) → (input output : List ℕ) → output ≡ [] → Runs (call_function code fuel) input told_nothing (outcome.Broken kind) output 0
broken_runs code fuel e kind is broken input output none =
    let f = call_function code fuel in
    let here : fresh f ≡ breaks kind = subst (λ x. IsFault x (fresh f)) is (broken f (record { code = refl; quota_is = refl; fuel_is = refl })) in
    subst (λ (bytes : List ℕ). Runs f input told_nothing (outcome.Broken kind) bytes 0) (sym none) (broken_so code fuel input kind here)
