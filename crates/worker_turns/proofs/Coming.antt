-- Requests come by the session alone.
use Rattle.std.proofs.Common.{◌≡◌, ◌≢◌, ℕ, suc, ◌+◌, ◌<◌, List, [], ◌∷◌, ◌++◌, Bool, true, false, cond, Option, Some, None, All, slice_get, slice_set, refl, sym, ap, ◌∙◌, subst, arith, ne_eqb}
use Rattle.std.specs.Prelude.{◌==◌}
use Rattle.std.proofs.lemmas.List.Elements.{All-get_or, All-set, All-push, All-head, All-tail}
use Rattle.std.proofs.lemmas.Option.{slice_get_within, get_or_from_slice_get}
use Rattle.faaslet_meaning.specs.declared.call.CallRecord.{CallRecord}
use Rattle.faaslet_meaning.specs.declared.call.CallState.TheVariants.{Taken}
use Rattle.faaslet_meaning.specs.Channels.{Reply}
use Rattle.faaslet_meaning.specs.Lists.{changed}
use Rattle.faaslet_meaning.specs.Records.{takes}
use Rattle.faaslet_meaning.specs.Table as table
use Rattle.faaslet_meaning.specs.Table.{Table, TableOperation, taken, next, finished_state, submitted, has_room, child_record, one_more_child, queued_record}
use Rattle.faaslet_meaning.specs.Table.TableOperation.{submit_request, submit, take_next, take_this, finish, look}
use Rattle.turn_cell.specs.declared.view.Entry.{Entry}
use Rattle.turn_cell.specs.History.{Stands}
use Rattle.call_table.specs.Makers.{MakesTable, MayMake, session}
use Rattle.call_table.specs.Session.{SessionTable, came}
use Rattle.call_table.proofs.Counting.{count_same, count_push}
use Rattle.call_table.proofs.Mine.{submit_leaves, next_leaves}
use Rattle.call_service.proofs.Further.{goes_on, part}
use Rattle.call_service.proofs.Led.{one_table}
use Rattle.worker_turns.specs.Coming.{AreDeep, CameBy, SomeToCome}
use Rattle.worker_turns.specs.Turned.{AtItsTurn, Entered}
use Rattle.worker_turns.proofs.Turning.{session_so}

abbrev is_request : CallRecord → Bool
is_request r = r.depth == 1

abbrev Deep : CallRecord → Type 0
Deep r = 0 < r.depth

deep_at : (rs : List CallRecord) (n : ℕ) (r : CallRecord) → AreDeep rs → slice_get rs n ≡ Some r → 0 < r.depth
deep_at rs n r h e = subst (λ (x : CallRecord). 0 < x.depth) (get_or_from_slice_get rs n r r e) (All-get_or Deep rs n r (slice_get_within rs n r e) h)

-- ---- A record that is changed keeps its depth.

came_changed : (rs : List CallRecord) (n : ℕ) (f : CallRecord → CallRecord) → ((r : CallRecord) → (f r).depth ≡ r.depth) → came (changed rs n f) ≡ came rs
came_changed rs n f d = by (slice_get rs n) refl
  where
    by : (o : Option CallRecord) → slice_get rs n ≡ o → came (elim o [ None ↦ rs | Some x ↦ slice_set rs n (f x) ]) ≡ came rs
    by None e = refl
    by (Some x) e = count_same is_request rs n x (f x) e (ap (λ k. k == 1) (d x))

deep_changed : (rs : List CallRecord) (n : ℕ) (f : CallRecord → CallRecord) → ((r : CallRecord) → (f r).depth ≡ r.depth) → AreDeep rs → AreDeep (changed rs n f)
deep_changed rs n f d h = by (slice_get rs n) refl
  where
    by : (o : Option CallRecord) → slice_get rs n ≡ o → AreDeep (elim o [ None ↦ rs | Some x ↦ slice_set rs n (f x) ])
    by None e = h
    by (Some x) e = All-set Deep rs n (f x) (subst (λ k. 0 < k) (sym (d x)) (deep_at rs n x h e)) h

-- ---- A child has a depth above its parent's.

child_deep : (t : Table) (parent function : ℕ) (input : List ℕ) → AreDeep t.records → AreDeep (submit_leaves t parent function input (slice_get t.records parent)).records
child_deep t parent function input h = by (slice_get t.records parent)
  where
    room : (p : CallRecord) (k : Bool) → AreDeep (cond k (record t { records = changed t.records parent one_more_child ++ child_record t parent p function input ∷ [] }) t).records
    room p true = All-push Deep (changed t.records parent one_more_child) (child_record t parent p function input) (deep_changed t.records parent one_more_child (λ r. refl) h) (omega arith)
    room p false = h

    by : (x : Option CallRecord) → AreDeep (submit_leaves t parent function input x).records
    by None = h
    by (Some p) = room p (has_room t p function input)

child_came : (t : Table) (parent function : ℕ) (input : List ℕ) → AreDeep t.records → came (submit_leaves t parent function input (slice_get t.records parent)).records ≡ came t.records
child_came t parent function input h = by (slice_get t.records parent) refl
  where
    below : (d : ℕ) → 0 < d → d + 1 ≢ 1
    below d low e = absurd (omega (arith, low, e))

    room : (p : CallRecord) (k : Bool) → slice_get t.records parent ≡ Some p → came (cond k (record t { records = changed t.records parent one_more_child ++ child_record t parent p function input ∷ [] }) t).records ≡ came t.records
    room p true e =
        count_push is_request (changed t.records parent one_more_child) (child_record t parent p function input) false (ne_eqb (p.depth + 1) 1 (below p.depth (deep_at t.records parent p h e)))
        ∙ came_changed t.records parent one_more_child (λ r. refl)
    room p false e = refl

    by : (x : Option CallRecord) → slice_get t.records parent ≡ x → came (submit_leaves t parent function input x).records ≡ came t.records
    by None e = refl
    by (Some p) e = room p (has_room t p function input) e

next_deep : (t : Table) (host bench : ℕ) → AreDeep t.records → AreDeep (next_leaves t host bench (next t host)).records
next_deep t host bench h = by (next t host)
  where
    by : (x : Option ℕ) → AreDeep (next_leaves t host bench x).records
    by None = h
    by (Some call) = deep_changed t.records call (λ r. record r { state = Taken host bench (takes t.records) }) (λ r. refl) h

next_came : (t : Table) (host bench : ℕ) → came (next_leaves t host bench (next t host)).records ≡ came t.records
next_came t host bench = by (next t host)
  where
    by : (x : Option ℕ) → came (next_leaves t host bench x).records ≡ came t.records
    by None = refl
    by (Some call) = came_changed t.records call (λ r. record r { state = Taken host bench (takes t.records) }) (λ r. refl)

-- ---- One operation.

after_deep : (t : Table) (maker : ℕ) (o : TableOperation) → AreDeep t.records → AreDeep (table.after t maker o).records
after_deep t maker (submit_request function host input) h = All-push Deep t.records (queued_record t function host input) h (omega arith)
after_deep t maker (submit parent function input) h = child_deep t parent function input h
after_deep t maker (take_next host bench) h = next_deep t host bench h
after_deep t maker (take_this call host bench) h = deep_changed t.records call (λ r. record r { state = Taken host bench (takes t.records) }) (λ r. refl) h
after_deep t maker (finish call o used output counts) h = deep_changed t.records call (λ r. record r { state = finished_state r.state o used output counts }) (λ r. refl) h
after_deep t maker (look parent child) h = h

after_came : (s : SessionTable) (maker : ℕ) (o : TableOperation) → MayMake s maker o → (maker ≡ session s → ⊥) → AreDeep s.table.records → came (table.after s.table maker o).records ≡ came s.table.records
after_came s maker (submit_request function host input) may ne h = absurd (ne may.0)
after_came s maker (submit parent function input) may ne h = child_came s.table parent function input h
after_came s maker (take_next host bench) may ne h = next_came s.table host bench
after_came s maker (take_this call host bench) may ne h = came_changed s.table.records call (λ r. record r { state = Taken host bench (takes s.table.records) }) (λ r. refl)
after_came s maker (finish call o used output counts) may ne h = came_changed s.table.records call (λ r. record r { state = finished_state r.state o used output counts }) (λ r. refl)
after_came s maker (look parent child) may ne h = refl

-- ---- Lists.

deep_one : (maker : ℕ) (entry : List ℕ) (s t : SessionTable) → MakesTable maker entry s t → AreDeep s.table.records → AreDeep t.table.records
deep_one maker entry s t m h = subst (λ (x : Table). AreDeep x.records) (sym m.table.after_so) (after_deep s.table maker m.table.operation h)

pub deep_list : (s t : SessionTable) (list : List Entry) → Stands MakesTable s list t → AreDeep s.table.records → AreDeep t.table.records
deep_list s t [] st h = subst (λ (x : SessionTable). AreDeep x.table.records) st h
deep_list s t (e ∷ es) st h = deep_list st.0 t es st.2 (deep_one e.maker e.numbers s st.0 st.1 h)

came_list : (n : ℕ) (s t : SessionTable) (list : List Entry) → Stands MakesTable s list t → n ≡ session s → All (λ e. e.maker ≢ n) list → AreDeep s.table.records → came t.table.records ≡ came s.table.records
came_list n s t [] st is others h = ap (λ (x : SessionTable). came x.table.records) (sym st)
came_list n s t (e ∷ es) st is others h =
    let mid = st.0 in
    let ne = All-head (λ (d : Entry). d.maker ≢ n) e es others in
    let one : came mid.table.records ≡ came s.table.records = ap (λ (x : Table). came x.records) st.1.table.after_so ∙ after_came s e.maker st.1.table.operation st.1.maker_so (λ same. ne (same ∙ sym is)) h in
    came_list n mid t es st.2 (is ∙ sym (session_so s mid (e ∷ []) (mid, st.1, refl))) (All-tail (λ (d : Entry). d.maker ≢ n) e es others) (deep_one e.maker e.numbers s mid st.1 h) ∙ one

-- the table of the session's list, and that of its turn
pub record Came (start : SessionTable) (old : List Entry) (t : SessionTable) : Type 0 where
  pub was : SessionTable
  pub led : Stands MakesTable start old was
  pub same : came t.table.records ≡ came was.table.records

pub came_at_turn : (start t : SessionTable) (old list : List Entry) → AreDeep start.table.records → AtItsTurn start (session start) old list t → Came start old t
came_at_turn start t old list h turn =
    let p = part start t old turn.others.0 (subst (λ (l : List Entry). Stands MakesTable start l t) (sym turn.others.1) turn.leads) in
    record {
      was = p.mid;
      led = p.to_mid;
      same = came_list (session start) p.mid t turn.others.0 p.to_end (sym (session_so start p.mid old p.to_mid)) turn.others.2 (deep_list start p.mid old p.to_mid h);
    }

pub some_to_come : (start t : SessionTable) (maker : ℕ) (old list : List Entry) → AreDeep start.table.records → maker ≡ session start → AtItsTurn start maker old list t → SomeToCome start old → (maker ≡ session t) × (came t.table.records < t.requests)
some_to_come start t maker old list h is turn some =
    let c = came_at_turn start t old list h (subst (λ n. AtItsTurn start n old list t) is turn) in
    let low = some c.was c.led in (
      is ∙ sym (session_so start t list turn.leads),
      subst (λ n. came t.table.records < n) (sym (goes_on start t list turn.leads).requests) (subst (λ n. n < start.requests) (sym c.same) low),
    )

pub others_bring_none : (start t : SessionTable) (old new : List Entry) (n : ℕ) → AreDeep start.table.records → AtItsTurn start (session start) old new t → CameBy start old n → CameBy start new n
others_bring_none start t old new n h turn by u st =
    let c = came_at_turn start t old new h turn in
    ap (λ (x : SessionTable). came x.table.records) (one_table start u t new st turn.leads) ∙ (c.same ∙ by c.was c.led)

pub one_comes : (start : SessionTable) (old new : List Entry) (n function host : ℕ) (input : List ℕ) (reply : Reply) → AreDeep start.table.records → Entered start (session start) old new (submit_request function host input, reply) → CameBy start old n → CameBy start new (n + 1)
one_comes start old new n function host input reply h e by u st =
    let b = others_bring_none start e.before old e.list n h e.turn by e.before e.turn.leads in
    let a : came e.after.table.records ≡ suc (came e.before.table.records) =
    ap (λ (x : Table). came x.records) (e.did.did.after_so (session start))
    ∙ count_push is_request e.before.table.records (queued_record e.before.table function host input) true refl in
    ap (λ (x : SessionTable). came x.table.records) (one_table start u e.after new st e.leads) ∙ (a ∙ (ap suc b ∙ (let s : suc n ≡ n + 1 = omega arith in s)))
