-- A take is that of the table, and its job is the call's.
use Rattle.std.proofs.Common.{◌≡◌, ℕ, true, Some, None, slice_get, slice_set, unwrap_or, sym, ap, ◌∙◌}
use Rattle.faaslet_meaning.specs.declared.call.CallRecord.{CallRecord}
use Rattle.faaslet_meaning.specs.declared.call.CallState.TheVariants.{Taken}
use Rattle.faaslet_meaning.specs.Channels.{Reply}
use Rattle.faaslet_meaning.specs.Lists.{passes_at}
use Rattle.faaslet_meaning.specs.Records.{is_queued, takes}
use Rattle.faaslet_meaning.specs.Table.{Table, taken, next, take_next}
use Rattle.call_table.specs.Did.{Did}
use Rattle.call_table.proofs.Held.{changed_set}
use Rattle.call_table.proofs.Places.{some_place}

pub taken_so : (t : Table) (call host bench order : ℕ) (r : CallRecord) → slice_get t.records call ≡ Some r → order ≡ takes t.records
    → record t { records = slice_set t.records call (record r { state = Taken host bench order }) } ≡ taken t call host bench
taken_so t call host bench order r e o =
    ap (λ n. record t { records = slice_set t.records call (record r { state = Taken host bench n }) }) o
    ∙ ap (λ rs. record t { records = rs }) (sym (changed_set t.records call r (λ x. record x { state = Taken host bench (takes t.records) }) e))

pub next_did : (t : Table) (host bench call : ℕ) (new : Table) → next t host ≡ Some call → passes_at (λ r. is_queued r.state) t.records call ≡ true → new ≡ taken t call host bench → Did t (take_next host bench) new (Reply.number call)
next_did t host bench call new e q is =
    record {
      may_stand = λ m. some_place (λ r. is_queued r.state) 0 t.records call q;
      after_so = λ m. is ∙ sym (ap (λ o. elim o [ None ↦ t | Some c ↦ taken t c host bench ]) e);
      reply_so = λ m. sym (ap (λ o. Reply.number (unwrap_or o 0)) e);
    }
