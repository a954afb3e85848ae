-- What is kept of each function of a registry. This project's own.
use Rattle.std.specs.Prelude.{◌≡◌, ℕ, List, [], All, Some, IsSome, length, option_and_then, slice_get, unwrap_or}
use Rattle.faaslet_meaning.specs.Fresh.{Function, breaks, fresh}
use Rattle.proto_faaslet.specs.Snapshots.{IsSnapshotOf}
use Rattle.session_meaning.specs.Draft.{Draft, function_of, plan_of}
use Rattle.session_meaning.specs.Plan.{NamedFunction, Plan}
use Rattle.session_meaning.specs.WellFormed.{WellFormedDraft}
use Rattle.protos.specs.declared.kept.Kept.{Kept}
use Rattle.protos.specs.declared.kept.Kept.TheVariants as kept

-- each function has its module
abbrev pub HasModules : Draft → Type 0
HasModules d = All (λ f. IsSome f.code) d.functions

-- the plan of a draft of which each function has its module
abbrev pub plan_in : Draft → Plan
plan_in d = unwrap_or (plan_of d) (record { hosts = d.hosts; workers = d.workers; keys = d.keys; functions = []; requests = d.requests })

-- the snapshot stands for the fresh state of the function; it is broken exactly so
abbrev pub Keeps : Function → Kept → Type 0
Keeps f (kept.Ready p) = IsSnapshotOf f.code f.quota f.fuel p
Keeps f (kept.Broken kind) = fresh f ≡ breaks kind

-- of the function at this place of a draft, where it has its module
abbrev pub KeepsAt : Draft → ℕ → Kept → Type 0
KeepsAt d n k = (f : NamedFunction) → option_and_then function_of (slice_get d.functions n) ≡ Some f → Keeps f.function k

pub record KeepsAll (d : Draft) (all : List Kept) : Type 0 where
  pub formed : WellFormedDraft d
  pub modules : HasModules d
  pub long : length all ≡ length d.functions
  pub each : (n : ℕ) (k : Kept) → slice_get all n ≡ Some k → KeepsAt d n k
