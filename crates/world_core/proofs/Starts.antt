-- A Faaslet has room for calls of a function of a well-formed plan, and a call that begins in it is the open call of a world.
use Rattle.std.proofs.Common.{◌≡◌, ℕ, zero, suc, ◌<◌, ◌≤◌, All, List, [], ◌∷◌, Option, Some, None, refl, sym, ap, ◌∙◌, take, length, slice_get, slice_index_or, subst, arith}
use Rattle.std.specs.Prelude.{IfSome, option_and_then, option_map}
use Rattle.std.specs.Option.{option_map_or}
use Rattle.std.proofs.lemmas.Option.{get_or_from_slice_get, slice_get-map, slice_get_within}
use Rattle.call_table.specs.declared.jobs.Job.{Job}
use Rattle.faaslet_meaning.specs.declared.grant.Grant.{Grant}
use Rattle.faaslet_meaning.specs.declared.module.Module.{Module}
use Rattle.faaslet_meaning.specs.declared.outcome.Broken.{Broken}
use Rattle.faaslet_meaning.specs.CallState.{fresh_state, runs}
use Rattle.faaslet_meaning.specs.Asked.{IsNumbered}
use Rattle.faaslet_meaning.specs.Configuration.{Configuration}
use Rattle.faaslet_meaning.specs.Formed.{KeysDiffer}
use Rattle.faaslet_meaning.specs.Fresh.{Function, breaks, entry, fresh, makes, program}
use Rattle.faaslet_meaning.specs.IndexSpaces as spaces
use Rattle.faaslet_meaning.specs.Program.{table_size}
use Rattle.faaslet_meaning.specs.Runs.{invocation}
use Rattle.faaslet_run.specs.Allowed.{AreGrants, HasSize}
use Rattle.faaslet_run.specs.Places.{StandsAt}
use Rattle.faaslet_run.specs.Turns.{Tells}
use Rattle.faaslet_run.specs.declared.faaslet.Faaslet.{Faaslet}
use Rattle.faaslet_run.specs.declared.faaslet.Turn.{Turn}
use Rattle.grant_registry.specs.Shows.{ShowsFunction}
use Rattle.grant_registry.specs.declared.shown.FunctionPlan.{FunctionPlan}
use Rattle.proto_faaslet.specs.Entries.{HasRoom, IsFor}
use Rattle.proto_faaslet.specs.Snapshots.{IsSnapshotOf, Snapshot, stored}
use Rattle.session_meaning.specs.Draft.{Draft, DraftFunction, draft_of, drafted}
use Rattle.session_meaning.specs.OpenCall.{is_broken, machine_by, opened}
use Rattle.session_meaning.specs.Plan.{NamedFunction, Plan}
use Rattle.session_meaning.specs.Registry.{callees_of, grants_of, module_of}
use Rattle.session_meaning.specs.WellFormed.{FunctionFits, GrantFits, KeyFits, WellFormed}
use Rattle.session_meaning.proofs.WellFits.{functions_fit, invocations_fit}
use Rattle.world_core.specs.Opened.{AtTurn}
use Rattle.world_core.specs.Played.{FitsFor, IsJobOf}
use Rattle.world_core.proofs.Resting.{entry_fuel}
use Rattle.world_core.proofs.Turning.{begun}

-- ---- What is said of the item at a place.

pub if_there : {A : Type 0} (P : A → Type 0) (o : Option A) (x : A) → o ≡ Some x → IfSome o P → P x
if_there P o x e h = subst (λ o. IfSome o P) e h

pub is_there : {A : Type 0} (P : A → Type 0) (o : Option A) (x : A) → o ≡ Some x → P x → IfSome o P
is_there P o x e h = subst (λ o. IfSome o P) (sym e) h

pub for_each : {A : Type 0} (P : A → Type 0) (o : Option A) → ((x : A) → o ≡ Some x → P x) → IfSome o P
for_each {A} P o h = by o refl
  where
    by : (p : Option A) → o ≡ p → IfSome p P
    by None e = tt
    by (Some x) e = h x e

pub item_at : {A : Type 0} (xs : List A) (n : ℕ) (x : A) → slice_get xs n ≡ Some x → (P : A → Type 0) → All P xs → P x
item_at xs n x e P all = subst P (get_or_from_slice_get xs n x x e) (all n x (slice_get_within xs n x e))

-- ---- A function of a plan, in its draft.

module _ (plan : Plan) (d : Draft) (is : d ≡ draft_of plan) (n : ℕ) (g : NamedFunction) (at : slice_get plan.functions n ≡ Some g) where
  drafted_at : slice_get d.functions n ≡ Some (drafted g)
  drafted_at = ap (λ d. slice_get d.functions n) is ∙ slice_get-map drafted plan.functions n ∙ ap (option_map drafted) at

  pub code_at : module_of d n ≡ Some g.function.code
  code_at = ap (option_and_then (λ f. f.code)) drafted_at

  pub grants_at : grants_of d n ≡ g.function.grants
  grants_at = ap (λ o. option_map_or (λ (f : DraftFunction). f.grants) o []) drafted_at

  pub callees_at : callees_of d n ≡ g.function.callees
  callees_at = ap (λ o. option_map_or (λ (f : DraftFunction). f.callees) o []) drafted_at

  pub shown : (p : FunctionPlan) → IfSome (slice_get d.functions n) (λ f. ShowsFunction f p) → ShowsFunction (drafted g) p
  shown p h = if_there (λ f. ShowsFunction f p) (slice_get d.functions n) (drafted g) drafted_at h

pub function_there : (plan : Plan) (n : ℕ) → n < length plan.functions → (g : NamedFunction) × (slice_get plan.functions n ≡ Some g)
function_there plan n l = there plan.functions n l
  where
    there : {A : Type 0} (xs : List A) (n : ℕ) → n < length xs → (x : A) × (slice_get xs n ≡ Some x)
    there [] n h = let bad : ⊥ = omega (arith, h) in absurd bad
    there (x ∷ xs) zero h = (x, refl)
    there (x ∷ xs) (suc n) h = there xs n (omega (arith, h))

-- it has a module
pub has_module : (plan : Plan) (d : Draft) (n : ℕ) → d ≡ draft_of plan → n < length plan.functions → module_of d n ≡ None → ⊥
has_module plan d n is l none =
    let g = function_there plan n l in
    let code = code_at plan d is n g.0 g.1 in
    let bad : ⊥ = cc in bad

-- ---- It keeps the limits of a session.

pub fits_at : (plan : Plan) (n : ℕ) (g : NamedFunction) → WellFormed plan → slice_get plan.functions n ≡ Some g → FunctionFits plan.keys (length plan.functions) (drafted g)
fits_at plan n g fine at = item_at plan.functions n g at (λ f. FunctionFits plan.keys (length plan.functions) (drafted f)) (functions_fit plan fine)

grant_size : (plan : Plan) → WellFormed plan → (g : Grant) → GrantFits plan.keys g → HasSize g
grant_size plan fine g fit =
    let size = (item_at plan.keys g.key fit.0 fit.1 KeyFits fine.limits.keys).size in
    let low = size.0 in
    let high = size.1 in
    let same = fit.2 in
    (omega (arith, low, same), omega (arith, high, same))

pub are_grants : (plan : Plan) (n : ℕ) (g : NamedFunction) → WellFormed plan → slice_get plan.functions n ≡ Some g → AreGrants g.function.grants
are_grants plan n g fine at =
    let fits = fits_at plan n g fine at in
    record {
      few = fits.few_grants;
      differ = (item_at plan.functions n g at (λ f. (input : List ℕ) → KeysDiffer (invocation f.function input) × IsNumbered (invocation f.function input)) (invocations_fit plan fine) []).0;
      sizes = λ k d l. grant_size plan fine (slice_index_or g.function.grants k d) (fits.grants k d l);
    }

-- ---- Room for its calls.

pub quota_fits : (plan : Plan) (d : Draft) (n : ℕ) (p : FunctionPlan) → WellFormed plan → d ≡ draft_of plan → n < length plan.functions → IfSome (slice_get d.functions n) (λ f. ShowsFunction f p) → p.quota ≤ 65536
quota_fits plan d n p fine is l h =
    let g = function_there plan n l in
    let quota = (shown plan d is n g.0 g.1 p h).quota in
    let few = (fits_at plan n g.0 fine g.1).quota.1 in
    omega (arith, quota, few)

pub room_for : (plan : Plan) (d : Draft) (n : ℕ) (p : FunctionPlan) (m : Module) (f : Faaslet) → d ≡ draft_of plan → module_of d n ≡ Some m → IfSome (slice_get d.functions n) (λ f. ShowsFunction f p) → f.machine.thread.globals.room ≡ length (spaces.globals m) → f.machine.thread.table.room ≡ table_size m → f.machine.memory.room ≡ p.quota → IfSome (slice_get plan.functions n) (λ g. FitsFor f g.function)
room_for plan d n p m f is has h globals table pages = for_each (λ g. FitsFor f g.function) (slice_get plan.functions n) one
  where
    one : (g : NamedFunction) → slice_get plan.functions n ≡ Some g → FitsFor f g.function
    one g at =
        let code = code_at plan d is n g at in
        let same : m ≡ g.function.code = cc in
        let quota = (shown plan d is n g at p h).quota in
        record {
          room = subst (HasRoom f.machine) same (record { globals = omega (arith, globals); table = omega (arith, table) });
          pages = omega (arith, quota, pages);
        }

-- ---- Its calls.

-- what a Faaslet's start tells
abbrev pub Starts : Snapshot → List Grant → List ℕ → Job → List ℕ → Faaslet → Type 0
Starts proto grants callees job bytes f =
    (h : Function) (c : Configuration) → IsFor h proto.code proto.quota job.fuel → h.grants ≡ grants → h.callees ≡ callees → h.room ≡ job.room → entry h (stored proto) (Some proto.main) ≡ makes c → StandsAt f (invocation h (take job.len bytes)) (fresh_state c) [] (runs (fresh_state c))

module _ (plan : Plan) (d : Draft) (is : d ≡ draft_of plan) (job : Job) (proto : Snapshot) (snapshots : IfSome (slice_get plan.functions job.function) (λ g. IsSnapshotOf g.function.code g.function.quota g.function.fuel proto)) (jobs : IfSome (slice_get plan.functions job.function) (λ g. IsJobOf job g.function)) (bytes : List ℕ) (f : Faaslet) where
  module _ (g : NamedFunction) (at : slice_get plan.functions job.function ≡ Some g) where
    snapshot : IsSnapshotOf g.function.code g.function.quota g.function.fuel proto
    snapshot = if_there (λ g. IsSnapshotOf g.function.code g.function.quota g.function.fuel proto) (slice_get plan.functions job.function) g at snapshots

    pub made : (c : Configuration) × (fresh g.function ≡ makes c) × (entry g.function (stored proto) (Some proto.main) ≡ makes c)
    made = snapshot.fresh_is g.function (record { code = refl; quota_is = refl; fuel_is = refl })

    -- it stands at its first step
    pub stands_first : Starts proto (grants_of d job.function) (callees_of d job.function) job bytes f → StandsAt f (invocation g.function (take job.len bytes)) (fresh_state made.0) [] (runs (fresh_state made.0))
    stands_first starts =
        let is_job : IsJobOf job g.function = if_there (λ g. IsJobOf job g.function) (slice_get plan.functions job.function) g at jobs in
        let for_it : IsFor g.function proto.code proto.quota job.fuel = record { code = sym snapshot.code; quota_is = sym snapshot.quota_is; fuel_is = sym is_job.fuel } in
        starts g.function made.0 for_it (sym (grants_at plan d is job.function g at)) (sym (callees_at plan d is job.function g at)) (sym is_job.room) made.2

    -- where it is after it began is where the open call is
    pub begins : (host : ℕ) (new : Faaslet) (t : Turn) → Tells t new (invocation g.function (take job.len bytes)) (fresh_state made.0) [] → AtTurn (opened g.function (take job.len bytes) host) new t
    begins host new t told = begun g.function (take job.len bytes) host made.0 new t made.1 (entry_fuel g.function (stored proto) (option_and_then (slice_get (program g.function).functions) (Some proto.main)) made.0 made.2) told

pub never_runs : (g : Function) (input : List ℕ) (host : ℕ) (kind : Broken) → fresh g ≡ breaks kind → (opened g input host).machine ≡ is_broken kind
never_runs g input host kind e = ap (machine_by (invocation g input)) e
