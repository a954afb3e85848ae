-- What an entry on the table leaves: every call hears its own, and no record is lost.
use Rattle.std.proofs.Common.{◌≡◌, ℕ, ◌-◌, List, [], ◌∷◌, ◌++◌, length, refl, sym, ap, ◌∙◌, Bool, true, false, cond, Option, Some, None, slice_get}
use Rattle.std.proofs.lemmas.List.{append-nil}
use Rattle.std.specs.Prelude.{◌==◌}
use Rattle.faaslet_meaning.specs.declared.call.CallRecord.{CallRecord}
use Rattle.faaslet_meaning.specs.declared.grant.Channel.{Channel}
use Rattle.faaslet_meaning.specs.declared.grant.Channel.TheVariants.{Local, Global, Table as OnTable}
use Rattle.faaslet_meaning.specs.Lists.{changed}
use Rattle.faaslet_meaning.specs.Channels.{Operation, entry, on_channel}
use Rattle.faaslet_meaning.specs.Table as table
use Rattle.faaslet_meaning.specs.Table.{Table, TableOperation, submit, look, one_more_child, child_record, has_room, submitted, empty_table}
use Rattle.faaslet_meaning.specs.History.{table_rules}
use Rattle.faaslet_meaning.proofs.Histories.{left_both}
use Rattle.session_meaning.specs.Plan.{Plan, callables}
use Rattle.session_meaning.specs.World.{World, on_table}
use Rattle.session_meaning.specs.WorldTold.{told_at}
use Rattle.session_meaning.specs.Events.{open_at}
use Rattle.session_meaning.proofs.LegalEntries.{filled_same}
use Rattle.session_meaning.proofs.OwnHistory.{AsksAs, told_on_table_own, told_on_table_other}
use Rattle.session_meaning.proofs.RecordsKept.{RecordsOk, Forward, Backward, ChildrenStay, forward_same, backward_same, forward_on, backward_on, forward_more, backward_more, forward_child, backward_child, children_changed, children_more, child_more}
use Rattle.session_meaning.proofs.OneEntry.{Left, RegionsOk}

-- ---- An entry on the table.

-- whatever the operation
pub table_regions : (plan : Plan) (w : World) (call : ℕ) (op : TableOperation) → RegionsOk plan w → RegionsOk plan (on_table w call op)
table_regions plan w call op ok =
    record {
      hosts = ok.hosts;
      locals = ok.locals;
      globals = ok.globals;
      table = ap (λ t. table.after t call op) ok.table ∙ sym (left_both table_rules (empty_table plan.hosts (callables plan)) w.table_history ((call, op) ∷ []));
    }

pub table_opens : (w : World) (call : ℕ) (op : TableOperation) (c : ℕ) → open_at (on_table w call op) c ≡ open_at w c
table_opens w call op c = filled_same w.calls (length (table.after w.table call op).records - length w.calls) c

-- what an operation on the table keeps of it
pub record TableKeeps (t u : Table) : Type 0 where
  pub hosts : u.hosts ≡ t.hosts
  pub records : RecordsOk t.records → RecordsOk u.records
  pub forward : Forward t.records u.records
  pub backward : Backward t.records u.records
  pub children : ChildrenStay t.records u.records

keeps_same : (t : Table) → TableKeeps t t
keeps_same t =
    record {
      hosts = refl;
      records = λ ok. ok;
      forward = forward_same t.records;
      backward = backward_same t.records;
      children = λ parent child o bs e. e;
    }

submit_keeps : (t : Table) (maker parent f : ℕ) (input : List ℕ) → TableKeeps t (table.after t maker (submit parent f input))
submit_keeps t maker parent f input = by (slice_get t.records parent) refl
  where
    more : (p : CallRecord) → slice_get t.records parent ≡ Some p → TableKeeps t (record t { records = changed t.records parent one_more_child ++ child_record t parent p f input ∷ [] })
    more p here =
        let rs = changed t.records parent one_more_child in
        let x = child_record t parent p f input in
        record {
          hosts = refl;
          records = child_more t.records parent p x here refl refl refl;
          forward = forward_on t.records rs (rs ++ x ∷ []) (forward_child t.records parent) (forward_more rs x);
          backward = backward_on t.records rs (rs ++ x ∷ []) (forward_child t.records parent) (backward_child t.records parent) (backward_more rs x refl);
          children = λ a c o bs e. children_more rs (x ∷ []) a c o bs (children_changed t.records parent one_more_child (λ r. (refl, refl, refl)) (λ r o bs h k. k) a c o bs e);
        }

    room : (p : CallRecord) → slice_get t.records parent ≡ Some p → (b : Bool) → TableKeeps t (cond b (record t { records = changed t.records parent one_more_child ++ child_record t parent p f input ∷ [] }) t)
    room p here true = more p here
    room p here false = keeps_same t

    by : (o : Option CallRecord) → slice_get t.records parent ≡ o → TableKeeps t (elim o as (λ o. Table) [ None ↦ t | Some p ↦ submitted t parent p f input ])
    by None here = keeps_same t
    by (Some p) here = room p here (has_room t p f input)

left_table : (plan : Plan) (w : World) (call host : ℕ) (op : TableOperation) (q : Operation) → RegionsOk plan w → RecordsOk w.table.records → AsksAs op q → TableKeeps w.table (table.after w.table call op)
    → Left plan w call host (entry OnTable q (table.reply w.table call op) ∷ []) (on_table w call op)
left_table plan w call host op q ok records is keeps =
    record {
      regions = table_regions plan w call op ok;
      hosts = keeps.hosts;
      records = keeps.records records;
      own = own;
      others = others;
      forward = keeps.forward;
      backward = keeps.backward;
      children = keeps.children;
      opens = table_opens w call op;
    }
  where
    own : (ch : Channel) → told_at plan (on_table w call op) host call ch ≡ told_at plan w host call ch ++ on_channel ch (entry OnTable q (table.reply w.table call op) ∷ [])
    own (Local i) = sym (append-nil (told_at plan w host call (Local i)))
    own (Global i) = sym (append-nil (told_at plan w host call (Global i)))
    own OnTable = told_on_table_own (empty_table plan.hosts (callables plan)) w.table w.table_history call op q ok.table is

    others : (maker h : ℕ) (ch : Channel) → (call == maker) ≡ false → told_at plan (on_table w call op) h maker ch ≡ told_at plan w h maker ch
    others maker h (Local i) e = refl
    others maker h (Global i) e = refl
    others maker h OnTable e = told_on_table_other (empty_table plan.hosts (callables plan)) w.table_history maker call op e

pub left_submit : (plan : Plan) (w : World) (call host f : ℕ) (input : List ℕ) → RegionsOk plan w → RecordsOk w.table.records
    → Left plan w call host (entry OnTable (Operation.submit f input) (table.reply w.table call (submit call f input)) ∷ []) (on_table w call (submit call f input))
left_submit plan w call host f input ok records = left_table plan w call host (submit call f input) (Operation.submit f input) ok records (call, λ r. refl) (submit_keeps w.table call call f input)

pub left_look : (plan : Plan) (w : World) (call host child : ℕ) → RegionsOk plan w → RecordsOk w.table.records
    → Left plan w call host (entry OnTable (Operation.look child) (table.reply w.table call (look call child)) ∷ []) (on_table w call (look call child))
left_look plan w call host child ok records = left_table plan w call host (look call child) (Operation.look child) ok records (call, λ r. refl) (keeps_same w.table)
