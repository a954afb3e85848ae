-- Plans, finished or not, that keep every limit of a session. This project's own.
use Rattle.std.specs.Prelude.{◌≡◌, ◌≢◌, ℕ, ◌+◌, ◌*◌, ◌/◌, ◌<◌, ◌≤◌, List, All, AllPairs, Some, None, IsTrue, length, map, max, fold, sum_by, slice_get}
use Rattle.faaslet_meaning.specs.declared.module.Module.{Module}
use Rattle.faaslet_meaning.specs.declared.grant.Grant.{Grant}
use Rattle.faaslet_meaning.specs.Decoding.{first_passed}
use Rattle.faaslet_meaning.specs.Runnable.{Runnable}
use Rattle.faaslet_meaning.specs.Valid.{Valid}
use Rattle.session_meaning.specs.SessionLimits as limit
use Rattle.session_meaning.specs.SessionLimits.{Within}
use Rattle.session_meaning.specs.Names.{is_name}
use Rattle.session_meaning.specs.Plan.{Key, Request, Plan}
use Rattle.session_meaning.specs.Draft.{DraftFunction, Draft, draft_of}

abbrev pub key_names : Draft → List (List ℕ)
key_names d = map (λ k. k.name) d.keys

abbrev pub function_names : Draft → List (List ℕ)
function_names d = map (λ f. f.name) d.functions

abbrev pub labels : Draft → List (List ℕ)
labels d = map (λ r. r.label) d.requests

-- no two are the same
abbrev pub Distinct : {A : Type 0} → List A → Type 0
Distinct xs = AllPairs (λ a b. a ≢ b) xs

pub record KeyFits (k : Key) : Type 0 where
  pub name : IsTrue (is_name k.name)
  pub size : Within 1 limit.size_limit k.size
  pub init : length k.init ≤ k.size

-- a grant names a key and has its size
abbrev pub GrantFits : List Key → Grant → Type 0
GrantFits keys g = (k : Key) × (slice_get keys g.key ≡ Some k) × (g.size ≡ k.size)

-- a module that a function may have
pub record ModuleFits (m : Module) : Type 0 where
  pub valid : Valid m
  pub runnable : Runnable m
  pub decodes : first_passed m ≡ None

-- of so many functions
pub record FunctionFits (keys : List Key) (functions : ℕ) (f : DraftFunction) : Type 0 where
  pub name : IsTrue (is_name f.name)
  pub quota : Within 1 limit.quota_limit f.quota
  pub fuel : Within 1 limit.fuel_limit f.fuel
  pub room : f.room ≤ limit.room_limit
  pub few_grants : length f.grants ≤ limit.grant_limit
  pub grants : All (GrantFits keys) f.grants
  pub grants_differ : Distinct (map (λ g. g.key) f.grants)
  pub few_callees : length f.callees ≤ limit.callee_limit
  pub callees : All (λ g. g < functions) f.callees
  pub callees_differ : Distinct f.callees
  pub code : (m : Module) → f.code ≡ Some m → ModuleFits m

-- of so many functions and hosts
pub record RequestFits (functions hosts : ℕ) (r : Request) : Type 0 where
  pub label : IsTrue (is_name r.label)
  pub function : r.function < functions
  pub host : r.host < hosts
  pub input : length r.input ≤ limit.input_limit

-- Every limit but the budgets. Of functions, those modules fit that are there.
pub record KeepsLimits (d : Draft) : Type 0 where
  pub hosts : Within 1 limit.host_limit d.hosts
  pub workers : Within 1 limit.worker_limit d.workers
  pub few_keys : length d.keys ≤ limit.key_limit
  pub keys : All KeyFits d.keys
  pub keys_differ : Distinct (key_names d)
  pub few_functions : length d.functions ≤ limit.function_limit
  pub functions : All (FunctionFits d.keys (length d.functions)) d.functions
  pub functions_differ : Distinct (function_names d)
  pub few_requests : length d.requests ≤ limit.request_limit
  pub requests : All (RequestFits (length d.functions) d.hosts) d.requests
  pub labels_differ : Distinct (labels d)

-- ---- Budgets.

-- the pages that a key of this size takes
abbrev pub pages : ℕ → ℕ
pages size = (size + 65535) / 65536

-- the pages of all global values and replicas
abbrev pub state_pages : Draft → ℕ
state_pages d = (d.hosts + 1) * sum_by (λ k. pages k.size) d.keys

-- 0 where there is no function
abbrev pub largest_quota : Draft → ℕ
largest_quota d = fold (λ most f. max most f.quota) 0 d.functions

-- The pages that calls may have of their own: on each worker at eight levels the largest quota, and at each host once that of
-- each function.
abbrev pub own_pages : Draft → ℕ
own_pages d = d.hosts * (8 * d.workers * largest_quota d + sum_by (λ f. f.quota) d.functions)

pub record WithinBudgets (d : Draft) : Type 0 where
  pub state : state_pages d ≤ limit.state_budget
  pub own : own_pages d ≤ limit.page_budget

-- ---- Well formed.

pub record WellFormedDraft (d : Draft) : Type 0 where
  pub limits : KeepsLimits d
  pub budgets : WithinBudgets d

-- so each function's module is valid, one that a function may have, and within the limits of decoding
abbrev pub WellFormed : Plan → Type 0
WellFormed plan = WellFormedDraft (draft_of plan)
