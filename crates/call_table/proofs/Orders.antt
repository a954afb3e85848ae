-- The orders of all calls that were taken stay below their number.
use Rattle.std.proofs.Common.{◌≡◌, ℕ, suc, ◌<◌, ◌≤◌, List, [], ◌∷◌, ◌++◌, Bool, true, false, cond, Option, Some, None, All, slice_get, slice_set, refl, sym, ap, subst, arith}
use Rattle.std.specs.Prelude.{not}
use Rattle.std.proofs.lemmas.List.Elements.{All-get_or, All-set, All-push, All-weaker}
use Rattle.std.proofs.lemmas.Option.{slice_get_within, get_or_from_slice_get}
use Rattle.faaslet_meaning.specs.declared.call.CallRecord.{CallRecord}
use Rattle.faaslet_meaning.specs.declared.call.CallState.{CallState}
use Rattle.faaslet_meaning.specs.declared.call.CallState.TheVariants.{Queued, Taken, Finished}
use Rattle.faaslet_meaning.specs.declared.outcome.Outcome.{Outcome}
use Rattle.faaslet_meaning.specs.Lists.{passes_at, changed}
use Rattle.faaslet_meaning.specs.Records.{is_queued, is_open, takes}
use Rattle.faaslet_meaning.specs.Table as table
use Rattle.faaslet_meaning.specs.Table.{Table, TableOperation, taken, next, finished_state, submitted, has_room, child_record, one_more_child, queued_record}
use Rattle.faaslet_meaning.specs.Table.TableOperation.{submit_request, submit, take_next, take_this, finish, look}
use Rattle.call_table.specs.Makers.{MakesTable}
use Rattle.call_table.specs.Mine.{IsBelow, Ordered}
use Rattle.call_table.specs.Session.{SessionTable}
use Rattle.call_table.proofs.Counting.{count_same, count_more, count_push}
use Rattle.call_table.proofs.Held.{changed_set}
use Rattle.call_table.proofs.Mine.{next_is_queued, submit_leaves, next_leaves}
use Rattle.call_table.proofs.Places.{passes_there}

below_more : (n m : ℕ) (s : CallState) → n ≤ m → IsBelow n s → IsBelow m s
below_more n m Queued le h = tt
below_more n m (Taken host bench order) le h = omega arith
below_more n m (Finished host bench order outcome used output counts) le h = omega arith

below_finished : (n : ℕ) (s : CallState) (o : Outcome) (used : ℕ) (output counts : List ℕ) → IsBelow n s → IsBelow n (finished_state s o used output counts)
below_finished n Queued o used output counts h = tt
below_finished n (Taken host bench order) o used output counts h = h
below_finished n (Finished host bench order outcome u out c) o used output counts h = h

below_at : (rs : List CallRecord) (n : ℕ) (r : CallRecord) → Ordered rs → slice_get rs n ≡ Some r → IsBelow (takes rs) r.state
below_at rs n r h e =
    subst (λ (x : CallRecord). IsBelow (takes rs) x.state) (get_or_from_slice_get rs n r r e)
    (All-get_or (λ x. IsBelow (takes rs) x.state) rs n r (slice_get_within rs n r e) h)

set_ordered : (rs : List CallRecord) (n : ℕ) (x : CallRecord) → Ordered rs → takes rs ≤ takes (slice_set rs n x) → IsBelow (takes (slice_set rs n x)) x.state → Ordered (slice_set rs n x)
set_ordered rs n x h le b =
    let P : CallRecord → Type 0 = λ r. IsBelow (takes rs) r.state in
    let Q : CallRecord → Type 0 = λ r. IsBelow (takes (slice_set rs n x)) r.state in
    All-set Q rs n x b (All-weaker P Q (λ r k. below_more (takes rs) (takes (slice_set rs n x)) r.state le k) rs h)

-- a change that leaves how far the call is
state_ordered : (rs : List CallRecord) (n : ℕ) (r x : CallRecord) → Ordered rs → slice_get rs n ≡ Some r → is_queued x.state ≡ is_queued r.state → ((k : ℕ) → IsBelow k r.state → IsBelow k x.state) → Ordered (slice_set rs n x)
state_ordered rs n r x h e q k =
    let same : takes (slice_set rs n x) ≡ takes rs = count_same (λ y. not (is_queued y.state)) rs n r x e (ap not q) in
    set_ordered rs n x h (omega arith) (subst (λ m. IsBelow m x.state) (sym same) (k (takes rs) (below_at rs n r h e)))

push_ordered : (rs : List CallRecord) (r : CallRecord) → Ordered rs → is_queued r.state ≡ true → IsBelow (takes rs) r.state → Ordered (rs ++ r ∷ [])
push_ordered rs r h q b =
    let same : takes (rs ++ r ∷ []) ≡ takes rs = count_push (λ y. not (is_queued y.state)) rs r false (ap not q) in
    let P : CallRecord → Type 0 = λ x. IsBelow (takes rs) x.state in
    subst (λ m. All (λ (x : CallRecord). IsBelow m x.state) (rs ++ r ∷ [])) (sym same) (All-push P rs r h b)

take_ordered : (t : Table) (call host bench : ℕ) → Ordered t.records → passes_at (λ r. is_queued r.state) t.records call ≡ true → Ordered (taken t call host bench).records
take_ordered t call host bench h q =
    let rs = t.records in
    let p = passes_there (λ r. is_queued r.state) rs call q in
    let new : CallRecord = record p.item { state = Taken host bench (takes rs) } in
    let more : takes (slice_set rs call new) ≡ suc (takes rs) = count_more (λ y. not (is_queued y.state)) rs call p.item new p.there (ap not p.passes) refl in
    let le : takes rs ≤ takes (slice_set rs call new) = omega arith in
    let low : takes rs < takes (slice_set rs call new) = omega arith in
    subst Ordered (sym (changed_set rs call p.item (λ r. record r { state = Taken host bench (takes rs) }) p.there)) (set_ordered rs call new h le low)

open_queued : (s : CallState) (o : Outcome) (used : ℕ) (output counts : List ℕ) → is_queued (finished_state s o used output counts) ≡ is_queued s
open_queued Queued o used output counts = refl
open_queued (Taken host bench order) o used output counts = refl
open_queued (Finished host bench order outcome u out c) o used output counts = refl

submit_ordered : (t : Table) (parent function : ℕ) (input : List ℕ) → Ordered t.records → Ordered (submit_leaves t parent function input (slice_get t.records parent)).records
submit_ordered t parent function input h = by (slice_get t.records parent) refl
  where
    room : (p : CallRecord) (k : Bool) → slice_get t.records parent ≡ Some p → Ordered (cond k (record t { records = changed t.records parent one_more_child ++ child_record t parent p function input ∷ [] }) t).records
    room p true e =
        let parents = state_ordered t.records parent p (one_more_child p) h e refl (λ k b. b) in
        push_ordered (changed t.records parent one_more_child) (child_record t parent p function input) (subst Ordered (sym (changed_set t.records parent p one_more_child e)) parents) refl tt
    room p false e = h

    by : (x : Option CallRecord) → slice_get t.records parent ≡ x → Ordered (submit_leaves t parent function input x).records
    by None e = h
    by (Some p) e = room p (has_room t p function input) e

next_ordered : (t : Table) (host bench : ℕ) → Ordered t.records → Ordered (next_leaves t host bench (next t host)).records
next_ordered t host bench h = by (next t host) refl
  where
    by : (x : Option ℕ) → next t host ≡ x → Ordered (next_leaves t host bench x).records
    by None e = h
    by (Some call) e = take_ordered t call host bench h (next_is_queued t host call e)

finish_ordered : (t : Table) (call : ℕ) (o : Outcome) (used : ℕ) (output counts : List ℕ) → Ordered t.records → passes_at (λ r. is_open r.state) t.records call ≡ true
    → Ordered (changed t.records call (λ r. record r { state = finished_state r.state o used output counts }))
finish_ordered t call o used output counts h e =
    let p = passes_there (λ r. is_open r.state) t.records call e in
    let new : CallRecord = record p.item { state = finished_state p.item.state o used output counts } in
    subst Ordered (sym (changed_set t.records call p.item (λ r. record r { state = finished_state r.state o used output counts }) p.there))
    (state_ordered t.records call p.item new h p.there (open_queued p.item.state o used output counts) (λ k b. below_finished k p.item.state o used output counts b))

after_ordered : (t : Table) (maker : ℕ) (o : TableOperation) → table.may t maker o ≡ true → Ordered t.records → Ordered (table.after t maker o).records
after_ordered t maker (submit_request function host input) may h = push_ordered t.records (queued_record t function host input) h refl tt
after_ordered t maker (submit parent function input) may h = submit_ordered t parent function input h
after_ordered t maker (take_next host bench) may h = next_ordered t host bench h
after_ordered t maker (take_this call host bench) may h = take_ordered t call host bench h may
after_ordered t maker (finish call o used output counts) may h = finish_ordered t call o used output counts h may
after_ordered t maker (look parent child) may h = h

pub entry_ordered : (maker : ℕ) (entry : List ℕ) (before after : SessionTable) → MakesTable maker entry before after → Ordered before.table.records → Ordered after.table.records
entry_ordered maker entry before after m h = subst (λ (t : Table). Ordered t.records) (sym m.table.after_so) (after_ordered before.table maker m.table.operation m.table.may_stand h)
