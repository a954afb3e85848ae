-- What is lent of an entry is what it was added with. This project's own.
use Rattle.std.specs.Prelude.{◌≡◌}
use Rattle.session_meaning.specs.Plan.{Key, Request}
use Rattle.session_meaning.specs.Draft.{DraftFunction}
use Rattle.grant_registry.specs.declared.shown.FunctionPlan.{FunctionPlan}
use Rattle.grant_registry.specs.declared.shown.KeyPlan.{KeyPlan}
use Rattle.grant_registry.specs.declared.shown.RequestPlan.{RequestPlan}

pub record ShowsFunction (f : DraftFunction) (p : FunctionPlan) : Type 0 where
  pub name : p.name.now ≡ f.name
  pub quota : p.quota ≡ f.quota
  pub fuel : p.fuel ≡ f.fuel
  pub room : p.room ≡ f.room

pub record ShowsKey (k : Key) (p : KeyPlan) : Type 0 where
  pub name : p.name.now ≡ k.name
  pub size : p.size ≡ k.size
  pub init : p.init.now ≡ k.init

pub record ShowsRequest (r : Request) (p : RequestPlan) : Type 0 where
  pub label : p.label.now ≡ r.label
  pub function : p.function ≡ r.function
  pub host : p.host ≡ r.host
  pub input : p.input.now ≡ r.input
