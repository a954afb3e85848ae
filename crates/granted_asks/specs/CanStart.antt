-- Which functions a call of may be begun in a Faaslet: its limits, one by one. This project's own.
use Rattle.std.specs.Prelude.{◌≤◌, All, length, ◌==◌}
use Rattle.faaslet_meaning.specs.Formed.{AllDiffer}
use Rattle.faaslet_meaning.specs.Fresh.{Function}
use Rattle.session_meaning.specs.SessionLimits.{Within, grant_limit, size_limit, callee_limit, room_limit, quota_limit, fuel_limit}

-- few enough grants, of different keys that are neither empty nor too large; few enough callable functions; an output, pages,
-- and fuel within their limits
pub record CanStart (f : Function) : Type 0 where
  pub few_grants : length f.grants ≤ grant_limit
  pub grants_differ : AllDiffer (λ a b. a.key == b.key) f.grants
  pub sizes : All (λ g. Within 1 size_limit g.size) f.grants
  pub few_callees : length f.callees ≤ callee_limit
  pub room : f.room ≤ room_limit
  pub quota : Within 1 quota_limit f.quota
  pub fuel : Within 1 fuel_limit f.fuel
