-- What one operation leaves of the calls of a bench.
use Rattle.std.proofs.Common.{◌≡◌, ℕ, List, [], ◌∷◌, ◌++◌, Bool, true, false, cond, Option, Some, None, slice_get, slice_set, refl, sym, ap, ◌∙◌, subst}
use Rattle.std.specs.Prelude.{◌==◌}
use Rattle.std.proofs.lemmas.Bool.{eqb-true}
use Rattle.faaslet_meaning.specs.declared.call.CallRecord.{CallRecord}
use Rattle.faaslet_meaning.specs.declared.call.CallState.{CallState}
use Rattle.faaslet_meaning.specs.declared.call.CallState.TheVariants.{Queued, Taken, Finished}
use Rattle.faaslet_meaning.specs.declared.outcome.Outcome.{Outcome}
use Rattle.faaslet_meaning.specs.Lists.{passes_at, changed}
use Rattle.faaslet_meaning.specs.Records.{is_queued, takes}
use Rattle.faaslet_meaning.specs.Table as table
use Rattle.faaslet_meaning.specs.Table.{Table, TableOperation, taken, next, finished_state, has_room, child_record, one_more_child, queued_record}
use Rattle.faaslet_meaning.specs.Table.TableOperation.{submit_request, submit, take_next, take_this, finish, look}
use Rattle.call_table.specs.Makers.{keeper, is_on, MayMake, MakesTable}
use Rattle.call_table.specs.Mine.{is_of}
use Rattle.call_table.specs.Session.{SessionTable}
use Rattle.call_table.proofs.Held.{changed_set}
use Rattle.call_table.proofs.Mine.{next_is_queued, submit_leaves, next_leaves}
use Rattle.call_table.proofs.Places.{passes_there}
use Rattle.held_calls.specs.Places.{SameOn}
use Rattle.held_calls.proofs.Alike.{OneAlike, alike_push, alike_set, same_on, same_none, same_both}

-- ---- States.

queued_none : (b : ℕ) (s : CallState) → is_queued s ≡ true → is_of b s ≡ false
queued_none b Queued e = refl
queued_none b (Taken host bench order) e = let no : ⊥ = cc in absurd no
queued_none b (Finished host bench order outcome used output counts) e = let no : ⊥ = cc in absurd no

unlike : (a b : ℕ) → (b ≡ a → ⊥) → (a == b) ≡ false
unlike a b ne = by (a == b) refl
  where
    by : (t : Bool) → (a == b) ≡ t → t ≡ false
    by true e = absurd (ne (sym (eqb-true a b e)))
    by false e = refl

not_on : (b bench : ℕ) (s : CallState) → (b ≡ bench → ⊥) → is_on bench s ≡ true → is_of b s ≡ false
not_on b bench Queued ne e = refl
not_on b bench (Taken host c order) ne e = unlike c b (λ same. ne (same ∙ eqb-true c bench e))
not_on b bench (Finished host c order outcome used output counts) ne e = let no : ⊥ = cc in absurd no

finished_of : (b : ℕ) (s : CallState) (o : Outcome) (used : ℕ) (output counts : List ℕ) → is_of b (finished_state s o used output counts) ≡ is_of b s
finished_of b Queued o used output counts = refl
finished_of b (Taken host bench order) o used output counts = refl
finished_of b (Finished host bench order outcome u out c) o used output counts = refl

-- none of the bench's, before and after
none_alike : (b : ℕ) (r x : CallRecord) → is_of b r.state ≡ false → is_of b x.state ≡ false → OneAlike b r x
none_alike b r x f g = record { whose = g ∙ sym f; same = λ t. let no : ⊥ = cc in absurd no }

-- ---- Operations.

pub request_same : (t : Table) (function host b : ℕ) (input : List ℕ) → SameOn b t.records (t.records ++ queued_record t function host input ∷ [])
request_same t function host b input =
    let new = queued_record t function host input in
    same_on b t.records (t.records ++ new ∷ []) (alike_push b t.records (new ∷ []) (refl, tt))

pub submit_same : (t : Table) (parent function b : ℕ) (input : List ℕ) → SameOn b t.records (submit_leaves t parent function input (slice_get t.records parent)).records
submit_same t parent function b input = by (slice_get t.records parent) refl
  where
    room : (p : CallRecord) (k : Bool) → slice_get t.records parent ≡ Some p
        → SameOn b t.records (cond k (record t { records = changed t.records parent one_more_child ++ child_record t parent p function input ∷ [] }) t).records
    room p true e =
        let parents = changed t.records parent one_more_child in
        let child = child_record t parent p function input in
        let first = same_on b t.records (slice_set t.records parent (one_more_child p)) (alike_set b t.records parent p (one_more_child p) e (record { whose = refl; same = λ t. refl })) in
        same_both b t.records parents (parents ++ child ∷ []) (subst (SameOn b t.records) (sym (changed_set t.records parent p one_more_child e)) first)
        (same_on b parents (parents ++ child ∷ []) (alike_push b parents (child ∷ []) (refl, tt)))
    room p false e = same_none b t.records

    by : (x : Option CallRecord) → slice_get t.records parent ≡ x → SameOn b t.records (submit_leaves t parent function input x).records
    by None e = same_none b t.records
    by (Some p) e = room p (has_room t p function input) e

pub take_same : (t : Table) (call host bench b : ℕ) → passes_at (λ r. is_queued r.state) t.records call ≡ true → (b ≡ bench → ⊥) → SameOn b t.records (taken t call host bench).records
take_same t call host bench b q ne =
    let p = passes_there (λ r. is_queued r.state) t.records call q in
    let new : CallRecord = record p.item { state = Taken host bench (takes t.records) } in
    subst (SameOn b t.records) (sym (changed_set t.records call p.item (λ r. record r { state = Taken host bench (takes t.records) }) p.there))
    (same_on b t.records (slice_set t.records call new) (alike_set b t.records call p.item new p.there (none_alike b p.item new (queued_none b p.item.state p.passes) (unlike bench b ne))))

pub next_same : (t : Table) (host bench b : ℕ) → (b ≡ bench → ⊥) → SameOn b t.records (next_leaves t host bench (next t host)).records
next_same t host bench b ne = by (next t host) refl
  where
    by : (x : Option ℕ) → next t host ≡ x → SameOn b t.records (next_leaves t host bench x).records
    by None e = same_none b t.records
    by (Some call) e = take_same t call host bench b (next_is_queued t host call e) ne

pub finish_same : (t : Table) (call bench b : ℕ) (o : Outcome) (used : ℕ) (output counts : List ℕ) → passes_at (λ r. is_on bench r.state) t.records call ≡ true → (b ≡ bench → ⊥)
    → SameOn b t.records (changed t.records call (λ r. record r { state = finished_state r.state o used output counts }))
finish_same t call bench b o used output counts on ne =
    let p = passes_there (λ r. is_on bench r.state) t.records call on in
    let new : CallRecord = record p.item { state = finished_state p.item.state o used output counts } in
    let no = not_on b bench p.item.state ne p.passes in
    subst (SameOn b t.records) (sym (changed_set t.records call p.item (λ r. record r { state = finished_state r.state o used output counts }) p.there))
    (same_on b t.records (slice_set t.records call new) (alike_set b t.records call p.item new p.there (none_alike b p.item new no (finished_of b p.item.state o used output counts ∙ no))))

-- ---- An entry of another maker than the bench's worker.

after_same : (s : SessionTable) (maker b : ℕ) (o : TableOperation) → table.may s.table maker o ≡ true → MayMake s maker o → (maker ≡ keeper s b → ⊥) → SameOn b s.table.records (table.after s.table maker o).records
after_same s maker b (submit_request function host input) may by ne = request_same s.table function host b input
after_same s maker b (submit parent function input) may by ne = submit_same s.table parent function b input
after_same s maker b (take_next host bench) may by ne = next_same s.table host bench b (λ e. ne (by.maker_so ∙ ap (keeper s) (sym e)))
after_same s maker b (take_this call host bench) may by ne = take_same s.table call host bench b may (λ e. ne (by.maker_so ∙ ap (keeper s) (sym e)))
after_same s maker b (finish call o used output counts) may by ne = finish_same s.table call by.0 b o used output counts by.1 (λ e. ne (by.2 ∙ ap (keeper s) (sym e)))
after_same s maker b (look parent child) may by ne = same_none b s.table.records

pub others_same : (maker : ℕ) (entry : List ℕ) (before after : SessionTable) → MakesTable maker entry before after → (bench : ℕ) → (maker ≡ keeper before bench → ⊥) → SameOn bench before.table.records after.table.records
others_same maker entry before after m bench ne =
    subst (λ (t : Table). SameOn bench before.table.records t.records) (sym m.table.after_so) (after_same before maker bench m.table.operation m.table.may_stand m.maker_so ne)
