-- What a call of the table did, as an operation and as an entry. This project's own.
use Rattle.std.specs.Prelude.{ℕ, ◌≡◌}
use Rattle.faaslet_meaning.specs.Channels.{Reply}
use Rattle.faaslet_meaning.specs.Spelling.{spelled_on_table}
use Rattle.faaslet_meaning.specs.Table.{TableOperation}
use Rattle.call_table.specs.Did.{Did}
use Rattle.call_table.specs.Makers.{MayMake, MakesTable}
use Rattle.call_table.specs.Session.{SessionTable}

-- It is the operation, what is known of the session stays, and where a maker makes such an operation, it is that maker's entry.
pub record Made (before : SessionTable) (operation : TableOperation) (after : SessionTable) (reply : Reply) : Type 0 where
  pub did : Did before.table operation after.table reply
  pub workers_so : after.workers ≡ before.workers
  pub requests_so : after.requests ≡ before.requests
  pub entry : (maker : ℕ) → MayMake before maker operation → MakesTable maker (spelled_on_table operation) before after
