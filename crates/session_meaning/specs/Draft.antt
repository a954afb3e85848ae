-- A plan while it is made: a function may have no module yet. Once all have one it is a plan. This project's own.
use Rattle.std.specs.Prelude.{ℕ, List, [], ◌∷◌, ◌++◌, Option, Some, None, map, option_map}
use Rattle.faaslet_meaning.specs.declared.module.Module.{Module}
use Rattle.faaslet_meaning.specs.declared.grant.Grant.{Grant}
use Rattle.faaslet_meaning.specs.Lists.{changed}
use Rattle.faaslet_meaning.specs.Fresh.{all_of}
use Rattle.session_meaning.specs.Plan.{Key, NamedFunction, Request, Plan}

pub record DraftFunction : Type 0 where
  pub name : List ℕ
  pub code : Option Module
  pub quota : ℕ
  pub fuel : ℕ
  pub room : ℕ
  pub grants : List Grant
  pub callees : List ℕ

-- all but the modules is as in a plan
pub record Draft : Type 0 where
  pub hosts : ℕ
  pub workers : ℕ
  pub keys : List Key
  pub functions : List DraftFunction
  pub requests : List Request

-- ---- A draft of which each function has its module is a plan, and a plan is such a draft.

abbrev pub function_of : DraftFunction → Option NamedFunction
function_of f =
    option_map (λ m. record { name = f.name; function = record { code = m; quota = f.quota; fuel = f.fuel; room = f.room; grants = f.grants; callees = f.callees } }) f.code

abbrev pub plan_of : Draft → Option Plan
plan_of d = option_map (λ fs. record { hosts = d.hosts; workers = d.workers; keys = d.keys; functions = fs; requests = d.requests }) (all_of function_of d.functions)

abbrev pub drafted : NamedFunction → DraftFunction
drafted f =
    record {
      name = f.name;
      code = Some f.function.code;
      quota = f.function.quota;
      fuel = f.function.fuel;
      room = f.function.room;
      grants = f.function.grants;
      callees = f.function.callees;
    }

abbrev pub draft_of : Plan → Draft
draft_of plan = record { hosts = plan.hosts; workers = plan.workers; keys = plan.keys; functions = map drafted plan.functions; requests = plan.requests }

-- it has no module, no grants and no callable functions yet
abbrev pub new_function : List ℕ → ℕ → ℕ → ℕ → DraftFunction
new_function name quota fuel room = record { name = name; code = None; quota = quota; fuel = fuel; room = room; grants = []; callees = [] }

-- ---- A draft of nothing yet, one with one more at the end, and one with another function at a place.

abbrev pub empty : ℕ → ℕ → Draft
empty hosts workers = record { hosts = hosts; workers = workers; keys = []; functions = []; requests = [] }

abbrev pub with_key : Draft → Key → Draft
with_key d k = record d { keys = d.keys ++ k ∷ [] }

abbrev pub with_function : Draft → DraftFunction → Draft
with_function d f = record d { functions = d.functions ++ f ∷ [] }

abbrev pub with_request : Draft → Request → Draft
with_request d r = record d { requests = d.requests ++ r ∷ [] }

abbrev pub on_function : Draft → ℕ → (DraftFunction → DraftFunction) → Draft
on_function d f change = record d { functions = changed d.functions f change }

abbrev pub with_grant : Draft → ℕ → Grant → Draft
with_grant d f grant = on_function d f λ g. record g { grants = g.grants ++ grant ∷ [] }

abbrev pub with_callee : Draft → ℕ → ℕ → Draft
with_callee d f callee = on_function d f λ g. record g { callees = g.callees ++ callee ∷ [] }

abbrev pub with_module : Draft → ℕ → Module → Draft
with_module d f m = on_function d f λ g. record g { code = Some m }
