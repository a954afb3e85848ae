-- An operation that was done is the entry of each maker that makes such an operation.
use Rattle.std.proofs.Common.{◌≡◌, refl}
use Rattle.faaslet_meaning.specs.Channels.{Reply}
use Rattle.faaslet_meaning.specs.Spelling.{OperationFits}
use Rattle.faaslet_meaning.specs.Table.{TableOperation}
use Rattle.call_table.specs.Did.{Did}
use Rattle.call_table.specs.Made.{Made}
use Rattle.call_table.specs.Session.{SessionTable}

pub made : (s s' : SessionTable) (o : TableOperation) (r : Reply) → Did s.table o s'.table r → s'.workers ≡ s.workers → s'.requests ≡ s.requests → OperationFits o → Made s o s' r
made s s' o r d w q f =
    record {
      did = record { may_stand = d.may_stand; after_so = d.after_so; reply_so = d.reply_so };
      workers_so = w;
      requests_so = q;
      entry = λ m b. record {
        table = record { operation = o; spelled_so = refl; may_stand = d.may_stand m; after_so = d.after_so m };
        fits = f;
        maker_so = b;
        workers_so = w;
        requests_so = q;
      };
    }
