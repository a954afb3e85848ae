-- Where a channel leads to an object of a plan: a replica at a host, or a global value. This project's own.
use Rattle.std.specs.Prelude.{ℕ, ◌<◌, length}
use Rattle.faaslet_meaning.specs.declared.grant.Channel.{Channel}
use Rattle.faaslet_meaning.specs.declared.grant.Channel.TheVariants.{Local, Global, Table as OnTable}
use Rattle.session_meaning.specs.Plan.{Plan}

abbrev pub LeadsAt : Plan → ℕ → Channel → Type 0
LeadsAt plan host (Local key) = (host < plan.hosts) × (key < length plan.keys)
LeadsAt plan host (Global key) = key < length plan.keys
LeadsAt plan host OnTable = ⊥
