-- What a world keeps: each object is what its history leaves of its start, and each history is legal. Each host has replicas of all
-- keys. Which calls are open. This project's own.
use Rattle.std.specs.Prelude.{◌≡◌, ℕ, List, [], ◌∷◌, length, is_some}
use Rattle.std.specs.List.{AllByRecursion}
use Rattle.faaslet_meaning.specs.Region.{Region, replica, global_value}
use Rattle.faaslet_meaning.specs.Lists.{passes_at}
use Rattle.faaslet_meaning.specs.Records.{is_open}
use Rattle.faaslet_meaning.specs.Table.{empty_table}
use Rattle.faaslet_meaning.specs.History.{Leads, region_rules, table_rules}
use Rattle.session_meaning.specs.Plan.{Key, Plan, callables}
use Rattle.session_meaning.specs.World.{Object, World}
use Rattle.session_meaning.specs.Events.{open_at}

-- the history of the object of each key is legal and leads to its region
abbrev pub ObjectsLead : (Key → Region) → List Key → List Object → Type 0
ObjectsLead start [] [] = Unit {0}
ObjectsLead start (k ∷ ks) (o ∷ os) = Leads region_rules (start k) o.history o.region × ObjectsLead start ks os
ObjectsLead start _ _ = ⊥

pub record HistoriesLead (plan : Plan) (w : World) : Type 0 where
  pub table : Leads table_rules (empty_table plan.hosts (callables plan)) w.table_history w.table
  pub hosts : length w.locals ≡ plan.hosts
  pub locals : AllByRecursion (ObjectsLead (λ k. replica k.size) plan.keys) w.locals
  pub globals : ObjectsLead (λ k. global_value k.size k.init) plan.keys w.globals

-- The table has the hosts and the functions of the plan. There is a place for each call, and a call is open there exactly where its
-- record says that it is taken and not finished.
pub record CallsOpen (plan : Plan) (w : World) : Type 0 where
  pub hosts : w.table.hosts ≡ plan.hosts
  pub functions : w.table.functions ≡ callables plan
  pub places : length w.calls ≡ length w.table.records
  pub opens : (call : ℕ) → is_some (open_at w call) ≡ passes_at (λ r. is_open r.state) w.table.records call
