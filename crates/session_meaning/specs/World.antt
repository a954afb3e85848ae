-- The world of a plan: its call table, its open calls, its replicas and global values, each with its history. What one operation
-- leaves of it, and the world before any event. This project's own.
use Rattle.std.specs.Prelude.{ℕ, ◌-◌, List, [], ◌∷◌, ◌++◌, Option, Some, None, length, map, replicate, fold}
use Rattle.faaslet_meaning.specs.declared.grant.Channel.TheVariants.{Local, Global, Table as OnTable}
use Rattle.faaslet_meaning.specs.Lists.{changed}
use Rattle.faaslet_meaning.specs.Channels.{RegionOperation, Operation, as_region, Entry}
use Rattle.faaslet_meaning.specs.Region as region
use Rattle.faaslet_meaning.specs.Region.{Region, replica, global_value}
use Rattle.faaslet_meaning.specs.History.{History}
use Rattle.faaslet_meaning.specs.Table as table
use Rattle.faaslet_meaning.specs.Table.{Table, TableOperation, empty_table, submit_request, submit, take_this, finish, look}
use Rattle.session_meaning.specs.Plan.{Request, Plan, callables}
use Rattle.session_meaning.specs.OpenCall.{Open}

pub record Object : Type 0 where
  pub region : Region
  pub history : History RegionOperation

-- `calls` has a place for each record, with the call where it is open; `locals` has the replicas of each host. All replicas and
-- global values are in the order of the keys.
pub record World : Type 0 where
  pub table : Table
  pub table_history : History TableOperation
  pub calls : List (Option Open)
  pub locals : List (List Object)
  pub globals : List Object

abbrev pub unused : Region → Object
unused r = record { region = r; history = [] }

-- ---- Operations, each by a maker that is a call.

abbrev pub applied : ℕ → RegionOperation → Object → Object
applied call op o = record { region = region.after o.region call op; history = o.history ++ (call, op) ∷ [] }

abbrev pub on_local : World → ℕ → ℕ → ℕ → RegionOperation → World
on_local w host key call op = record w { locals = changed w.locals host (λ objects. changed objects key (applied call op)) }

abbrev pub on_global : World → ℕ → ℕ → RegionOperation → World
on_global w key call op = record w { globals = changed w.globals key (applied call op) }

-- no call of a new record is open
abbrev pub filled : ℕ → List (Option Open) → List (Option Open)
filled n calls = calls ++ replicate (n - length calls) None

abbrev pub on_table : World → ℕ → TableOperation → World
on_table w call op =
    let t = table.after w.table call op in
    record w { table = t; table_history = w.table_history ++ (call, op) ∷ []; calls = filled (length t.records) w.calls }

-- on the table a call is the parent of what it submits and looks at
abbrev pub as_parent : ℕ → Operation → Option TableOperation
as_parent call (Operation.submit function input) = Some (submit call function input)
as_parent call (Operation.look child) = Some (look call child)
as_parent call _ = None

-- An entry of a call that was taken at this host. On a region stands an operation on one, on the table a Submit or a Look.
abbrev pub entered : ℕ → ℕ → World → Entry → World
entered call host w e = elim e.channel [ Local key ↦ elim (as_region e.operation) [ None ↦ w | Some op ↦ on_local w host key call op ] | Global key ↦ elim (as_region e.operation) [ None ↦ w | Some op ↦ on_global w key call op ] | OnTable ↦ elim (as_parent call e.operation) [ None ↦ w | Some op ↦ on_table w call op ] ]

-- ---- Before any event: the requests are submitted in order.

abbrev pub requested : World → Request → World
requested w r = on_table w (length w.table.records) (submit_request r.function r.host r.input)

abbrev pub start : Plan → World
start plan =
    record {
      table = empty_table plan.hosts (callables plan);
      table_history = [];
      calls = [];
      locals = replicate plan.hosts (map (λ k. unused (replica k.size)) plan.keys);
      globals = map (λ k. unused (global_value k.size k.init)) plan.keys;
    }

abbrev pub first_world : Plan → World
first_world plan = fold requested (start plan) plan.requests
