-- What an Ask leaves of the table, of the calls that are queued and of those that are open.
use Rattle.std.proofs.Common.{◌≡◌, ℕ, Bool, true, false, cond, List, [], ◌∷◌, ◌++◌, Option, Some, None, refl, sym, ap, ap₂, ◌∙◌, length, slice_get, option_map, unwrap_or, fold}
use Rattle.std.specs.Prelude.{is_some}
use Rattle.std.proofs.lemmas.List.{append-nil}
use Rattle.faaslet_meaning.specs.declared.call.CallRecord.{CallRecord}
use Rattle.faaslet_meaning.specs.declared.grant.Channel.{Channel}
use Rattle.faaslet_meaning.specs.declared.grant.Channel.TheVariants.{Local, Global, Table as OnTable}
use Rattle.faaslet_meaning.specs.CallState.{State}
use Rattle.faaslet_meaning.specs.Channels.{Entry, Operation, Question, RegionOperation, Reply, as_region, ask, entries, fills, pulls, pushes}
use Rattle.faaslet_meaning.specs.Lists.{changed, places}
use Rattle.faaslet_meaning.specs.Records.{is_queued, queued_calls}
use Rattle.faaslet_meaning.specs.Table as table
use Rattle.faaslet_meaning.specs.Table.{Table, TableOperation, child_record, has_room, one_more_child, submit}
use Rattle.session_meaning.specs.Events.{answer, asked, entries_now, open_at}
use Rattle.session_meaning.specs.OpenCall.{Open, answered}
use Rattle.session_meaning.specs.Schedule.{open_calls}
use Rattle.session_meaning.specs.World.{World, as_parent, entered, on_global, on_local, on_table}
use Rattle.session_meaning.proofs.Kept.{length_changed}
use Rattle.session_meaning.proofs.LegalEntries.{get_here}
use Rattle.world_core.proofs.Children.{entries_open}
use Rattle.world_core.proofs.Moves.{one_more_queued, open_as_before, passes_as_before}
use Rattle.world_core.proofs.Steps.{passes_still}

-- ---- Questions on regions leave the table.

abbrev pub OffTable : List Entry → Type 0
OffTable [] = Unit {0}
OffTable (e ∷ es) = (e.channel ≡ OnTable → ⊥) × OffTable es

ask_off : (ch : Channel) (op : Operation) (r : Reply) → (ch ≡ OnTable → ⊥) → OffTable (entries (ask ch op) r)
ask_off ch op Reply.want off = tt
ask_off ch op Reply.done off = (off, tt)
ask_off ch op Reply.full off = (off, tt)
ask_off ch op Reply.chain_full off = (off, tt)
ask_off ch op (Reply.present b) off = (off, tt)
ask_off ch op (Reply.bytes bs) off = (off, tt)
ask_off ch op (Reply.number n) off = (off, tt)
ask_off ch op (Reply.child n) off = (off, tt)
ask_off ch op (Reply.finished p bs) off = (off, tt)

fills_off : (key size : ℕ) (r : Reply) → OffTable (entries (fills key size) r)
fills_off key size Reply.want = tt
fills_off key size Reply.done = tt
fills_off key size Reply.full = tt
fills_off key size Reply.chain_full = tt
fills_off key size (Reply.present b) = tt
fills_off key size (Reply.bytes bs) = (λ e. cc, (λ e. cc, tt))
fills_off key size (Reply.number n) = tt
fills_off key size (Reply.child n) = tt
fills_off key size (Reply.finished p bs) = tt

pulls_off : (key off len : ℕ) (r : Reply) → OffTable (entries (pulls key off len) r)
pulls_off key off len Reply.want = tt
pulls_off key off len Reply.done = tt
pulls_off key off len Reply.full = tt
pulls_off key off len Reply.chain_full = tt
pulls_off key off len (Reply.present b) = tt
pulls_off key off len (Reply.bytes bs) = (λ e. cc, (λ e. cc, tt))
pulls_off key off len (Reply.number n) = tt
pulls_off key off len (Reply.child n) = tt
pulls_off key off len (Reply.finished p bs) = tt

pushes_off : (key off len : ℕ) (r : Reply) → OffTable (entries (pushes key off len) r)
pushes_off key off len Reply.want = tt
pushes_off key off len Reply.done = tt
pushes_off key off len Reply.full = tt
pushes_off key off len Reply.chain_full = tt
pushes_off key off len (Reply.present b) = tt
pushes_off key off len (Reply.bytes bs) = (λ e. cc, (λ e. cc, tt))
pushes_off key off len (Reply.number n) = tt
pushes_off key off len (Reply.child n) = tt
pushes_off key off len (Reply.finished p bs) = tt

abbrev pub IsOffTable : Question → Type 0
IsOffTable (ask (Local key) op) = Unit {0}
IsOffTable (ask (Global key) op) = Unit {0}
IsOffTable (ask OnTable op) = ⊥
IsOffTable q = Unit {0}

pub entries_off : (q : Question) (r : Reply) → IsOffTable q → OffTable (entries q r)
entries_off (ask (Local key) op) r off = ask_off (Local key) op r (λ e. cc)
entries_off (ask (Global key) op) r off = ask_off (Global key) op r (λ e. cc)
entries_off (ask OnTable op) r off = absurd off
entries_off (fills key size) r off = fills_off key size r
entries_off (pulls key from len) r off = pulls_off key from len r
entries_off (pushes key from len) r off = pushes_off key from len r

one_off : (w : World) (call host : ℕ) (c : Channel) (p : Option RegionOperation) (t : Option TableOperation) → (c ≡ OnTable → ⊥) → (elim c as (λ c. World) [ Local key ↦ elim p [ None ↦ w | Some op ↦ on_local w host key call op ] | Global key ↦ elim p [ None ↦ w | Some op ↦ on_global w key call op ] | OnTable ↦ elim t [ None ↦ w | Some op ↦ on_table w call op ] ]).table ≡ w.table
one_off w call host (Local key) None t off = refl
one_off w call host (Local key) (Some op) t off = refl
one_off w call host (Global key) None t off = refl
one_off w call host (Global key) (Some op) t off = refl
one_off w call host OnTable p t off = absurd (off refl)

pub table_stays : (w : World) (call host : ℕ) (es : List Entry) → OffTable es → (fold (entered call host) w es).table ≡ w.table
table_stays w call host [] off = refl
table_stays w call host (e ∷ es) off = table_stays (entered call host w e) call host es off.1 ∙ one_off w call host e.channel (as_region e.operation) (as_parent call e.operation) off.0

-- ---- No entry opens a call, or ends one.

one_entry : (w : World) (call host : ℕ) (c : Channel) (p : Option RegionOperation) (t : Option TableOperation) → places is_some (elim c as (λ c. World) [ Local key ↦ elim p [ None ↦ w | Some op ↦ on_local w host key call op ] | Global key ↦ elim p [ None ↦ w | Some op ↦ on_global w key call op ] | OnTable ↦ elim t [ None ↦ w | Some op ↦ on_table w call op ] ]).calls ≡ places is_some w.calls
one_entry w call host (Local key) None t = refl
one_entry w call host (Local key) (Some op) t = refl
one_entry w call host (Global key) None t = refl
one_entry w call host (Global key) (Some op) t = refl
one_entry w call host OnTable p None = refl
one_entry w call host OnTable p (Some op) = open_as_before (length (table.after w.table call op).records) w.calls

entries_leave_open : (w : World) (call host : ℕ) (es : List Entry) → places is_some (fold (entered call host) w es).calls ≡ places is_some w.calls
entries_leave_open w call host [] = refl
entries_leave_open w call host (e ∷ es) = entries_leave_open (entered call host w e) call host es ∙ one_entry w call host e.channel (as_region e.operation) (as_parent call e.operation)

open_place : (calls : List (Option Open)) (call : ℕ) (o : Open) → unwrap_or (slice_get calls call) None ≡ Some o → slice_get calls call ≡ Some (Some o)
open_place calls call o e = by (slice_get calls call) e
  where
    by : (x : Option (Option Open)) → unwrap_or x None ≡ Some o → x ≡ Some (Some o)
    by None e = let bad : ⊥ = cc in absurd bad
    by (Some y) e = ap (λ z. Some z) e

module _ (w : World) (call : ℕ) (o : Open) (at : open_at w call ≡ Some o) (s : State) (q : Question) where
  v : World
  v = fold (entered call o.host) w (entries_now w call o.host q)

  there : slice_get (fold (entered call o.host) w (entries_now w call o.host q)).calls call ≡ Some (Some o)
  there = open_place (fold (entered call o.host) w (entries_now w call o.host q)).calls call o (entries_open w call o.host (entries_now w call o.host q) call ∙ at)

  pub ask_leaves_open : open_calls (asked w call o s q) ≡ open_calls w
  ask_leaves_open =
      passes_still is_some (fold (entered call o.host) w (entries_now w call o.host q)).calls call (λ old. Some (answered o s (answer w call o.host q) (entries_now w call o.host q))) (Some o) there refl
      ∙ entries_leave_open w call o.host (entries_now w call o.host q)

  pub ask_opens : open_at (asked w call o s q) call ≡ Some (answered o s (answer w call o.host q) (entries_now w call o.host q))
  ask_opens =
      let o' = answered o s (answer w call o.host q) (entries_now w call o.host q) in
      ap (λ g. unwrap_or g None) (get_here (fold (entered call o.host) w (entries_now w call o.host q)).calls call (λ old. Some o') ∙ ap (option_map {T = Option Open} (λ old. Some o')) there)

-- ---- A Submit.

pub submit_leaves_queued : (t : Table) (m call f : ℕ) (input : List ℕ) (p : CallRecord) → slice_get t.records call ≡ Some p → queued_calls (table.after t m (submit call f input)).records ≡ queued_calls t.records ++ cond (has_room t p f input) (length t.records ∷ []) []
submit_leaves_queued t m call f input p here =
    ap (λ o. queued_calls (elim o as (λ o. Table) [ None ↦ t | Some p ↦ cond (has_room t p f input) (record t { records = changed t.records call one_more_child ++ child_record t call p f input ∷ [] }) t ]).records) here
    ∙ by (has_room t p f input)
  where
    same : queued_calls (changed t.records call one_more_child) ≡ queued_calls t.records
    same = passes_as_before (λ r. is_queued r.state) t.records call one_more_child (λ r. refl)

    by : (b : Bool) → queued_calls (cond b (record t { records = changed t.records call one_more_child ++ child_record t call p f input ∷ [] }) t).records ≡ queued_calls t.records ++ cond b (length t.records ∷ []) []
    by true = one_more_queued (changed t.records call one_more_child) (child_record t call p f input) refl ∙ ap₂ (λ l n. l ++ n ∷ []) same (length_changed t.records call one_more_child)
    by false = sym (append-nil (queued_calls t.records))
