-- What a call of the table did. This project's own.
use Rattle.std.specs.Prelude.{ℕ, ◌≡◌, IsTrue}
use Rattle.faaslet_meaning.specs.Channels.{Reply}
use Rattle.faaslet_meaning.specs.Table as table
use Rattle.faaslet_meaning.specs.Table.{Table, TableOperation}

-- Whoever makes it, the operation may stand on the table before, leaves the one after, and is answered this.
pub record Did (before : Table) (operation : TableOperation) (after : Table) (reply : Reply) : Type 0 where
  pub may_stand : (maker : ℕ) → IsTrue (table.may before maker operation)
  pub after_so : (maker : ℕ) → after ≡ table.after before maker operation
  pub reply_so : (maker : ℕ) → reply ≡ table.reply before maker operation
