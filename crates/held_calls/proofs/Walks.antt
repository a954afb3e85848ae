-- Lists of entries: what stays by all of them, and what stands behind a list.
use Rattle.std.proofs.Common.{◌≡◌, ℕ, List, [], ◌∷◌, ◌++◌, Bool, true, false, cond, Option, Some, None, slice_get, refl, sym, ap, ◌∙◌, subst}
use Rattle.std.proofs.lemmas.List.{append-nil}
use Rattle.std.proofs.lemmas.List.Elements.{All-nil, All-head, All-tail}
use Rattle.std.specs.Prelude.{All, ◌≢◌}
use Rattle.faaslet_meaning.specs.declared.call.Callable.{Callable}
use Rattle.faaslet_meaning.specs.declared.call.CallRecord.{CallRecord}
use Rattle.faaslet_meaning.specs.Lists.{changed}
use Rattle.faaslet_meaning.specs.Table as table
use Rattle.faaslet_meaning.specs.Table.{Table, TableOperation, next, has_room, child_record, one_more_child}
use Rattle.faaslet_meaning.specs.Table.TableOperation.{submit_request, submit, take_next, take_this, finish, look}
use Rattle.faaslet_meaning.proofs.Spellings.{one_spelling_on_table}
use Rattle.turn_cell.specs.declared.view.Entry.{Entry}
use Rattle.turn_cell.specs.History.{Stands, Extends}
use Rattle.call_table.specs.Makers.{benches, keeper, session, MakesTable}
use Rattle.call_table.specs.Mine.{IsBelow, Ordered}
use Rattle.call_table.specs.Session.{SessionTable, empty_session, unfinished}
use Rattle.call_table.proofs.Mine.{submit_leaves, next_leaves}
use Rattle.call_table.proofs.Orders.{entry_ordered}
use Rattle.call_table.proofs.Stable.{none_left}
use Rattle.held_calls.specs.Places.{SameOn}
use Rattle.held_calls.proofs.Alike.{same_none, same_both}
use Rattle.held_calls.proofs.Steps.{others_same}

-- ---- What is known of a session stays.

pub record Known (s t : SessionTable) : Type 0 where
  pub hosts : t.table.hosts ≡ s.table.hosts
  pub functions : t.table.functions ≡ s.table.functions
  pub workers : t.workers ≡ s.workers
  pub requests : t.requests ≡ s.requests

record Shape (t u : Table) : Type 0 where
  hosts : u.hosts ≡ t.hosts
  functions : u.functions ≡ t.functions

same_shape : (t : Table) → Shape t t
same_shape t = record { hosts = refl; functions = refl }

after_shape : (t : Table) (maker : ℕ) (o : TableOperation) → Shape t (table.after t maker o)
after_shape t maker (submit_request function host input) = record { hosts = refl; functions = refl }
after_shape t maker (submit parent function input) = by (slice_get t.records parent)
  where
    room : (p : CallRecord) (k : Bool) → Shape t (cond k (record t { records = changed t.records parent one_more_child ++ child_record t parent p function input ∷ [] }) t)
    room p true = record { hosts = refl; functions = refl }
    room p false = same_shape t

    by : (x : Option CallRecord) → Shape t (submit_leaves t parent function input x)
    by None = same_shape t
    by (Some p) = room p (has_room t p function input)
after_shape t maker (take_next host bench) = by (next t host)
  where
    by : (x : Option ℕ) → Shape t (next_leaves t host bench x)
    by None = same_shape t
    by (Some call) = record { hosts = refl; functions = refl }
after_shape t maker (take_this call host bench) = record { hosts = refl; functions = refl }
after_shape t maker (finish call o used output counts) = record { hosts = refl; functions = refl }
after_shape t maker (look parent child) = same_shape t

one_known : (maker : ℕ) (entry : List ℕ) (s t : SessionTable) → MakesTable maker entry s t → Known s t
one_known maker entry s t m =
    let shape = subst (λ (u : Table). Shape s.table u) (sym m.table.after_so) (after_shape s.table maker m.table.operation) in
    record { hosts = shape.hosts; functions = shape.functions; workers = m.workers_so; requests = m.requests_so }

pub known : (s t : SessionTable) (list : List Entry) → Stands MakesTable s list t → Known s t
known s t [] st = let e = sym st in record { hosts = ap (λ (u : SessionTable). u.table.hosts) e; functions = ap (λ (u : SessionTable). u.table.functions) e; workers = ap (λ (u : SessionTable). u.workers) e; requests = ap (λ (u : SessionTable). u.requests) e }
known s t (e ∷ es) st =
    let first = one_known e.maker e.numbers s st.0 st.1 in
    let rest = known st.0 t es st.2 in
    record { hosts = rest.hosts ∙ first.hosts; functions = rest.functions ∙ first.functions; workers = rest.workers ∙ first.workers; requests = rest.requests ∙ first.requests }

pub known_benches : (s t : SessionTable) → Known s t → benches t ≡ benches s
known_benches s t k = rw (k.hosts, k.workers) refl

pub known_keeper : (s t : SessionTable) → Known s t → (b : ℕ) → keeper t b ≡ keeper s b
known_keeper s t k b = rw (k.hosts, k.workers) refl

pub known_session : (s t : SessionTable) → Known s t → session t ≡ session s
known_session s t k = rw (k.hosts, k.workers) refl

-- ---- What stands behind a list.

entry_once : (maker : ℕ) (entry : List ℕ) (s t u : SessionTable) → MakesTable maker entry s t → MakesTable maker entry s u → t ≡ u
entry_once maker entry s t u x y =
    let same : x.table.operation ≡ y.table.operation = one_spelling_on_table x.table.operation y.table.operation x.fits y.fits (sym x.table.spelled_so ∙ y.table.spelled_so) in
    let tables : t.table ≡ u.table = x.table.after_so ∙ (ap (table.after s.table maker) same ∙ sym y.table.after_so) in
    let workers : t.workers ≡ u.workers = x.workers_so ∙ sym y.workers_so in
    let requests : t.requests ≡ u.requests = x.requests_so ∙ sym y.requests_so in
    λ i. record { table = tables i; workers = workers i; requests = requests i }

-- from where a list leads, the rest of a longer one leads on
pub behind : (start one other : SessionTable) (list rest : List Entry) → Stands MakesTable start list one → Stands MakesTable start (list ++ rest) other → Stands MakesTable one rest other
behind start one other [] rest x y = subst (λ (s : SessionTable). Stands MakesTable s rest other) x y
behind start one other (e ∷ es) rest x y =
    let same : y.0 ≡ x.0 = entry_once e.maker e.numbers start y.0 x.0 y.1 x.1 in
    behind x.0 one other es rest x.2 (subst (λ (s : SessionTable). Stands MakesTable s (es ++ rest) other) same y.2)

-- a longer list leads to somewhere by its front, and on from there
pub cut : (start end : SessionTable) (list more : List Entry) → Stands MakesTable start (list ++ more) end → (mid : SessionTable) × Stands MakesTable start list mid × Stands MakesTable mid more end
cut start end [] more y = (start, refl, y)
cut start end (e ∷ es) more y = let c = cut y.0 end es more y.2 in (c.0, (y.0, y.1, c.1), c.2)

pub joined : (start mid end : SessionTable) (list more : List Entry) → Stands MakesTable start list mid → Stands MakesTable mid more end → Stands MakesTable start (list ++ more) end
joined start mid end [] more x y = subst (λ (s : SessionTable). Stands MakesTable s more end) (sym x) y
joined start mid end (e ∷ es) more x y = (x.0, x.1, joined x.0 mid end es more x.2 y)

-- ---- Entries of others than the worker of a bench.

rest_same : (one other : SessionTable) (b n : ℕ) (rest : List Entry) → keeper one b ≡ n → Stands MakesTable one rest other → All (λ e. e.maker ≢ n) rest → SameOn b one.table.records other.table.records
rest_same one other b n [] k st all = subst (λ (s : SessionTable). SameOn b one.table.records s.table.records) st (same_none b one.table.records)
rest_same one other b n (e ∷ es) k st all =
    let first = others_same e.maker e.numbers one st.0 st.1 b (λ same. All-head (λ (x : Entry). x.maker ≢ n) e es all (same ∙ k)) in
    let stays = known_keeper one st.0 (one_known e.maker e.numbers one st.0 st.1) b in
    same_both b one.table.records st.0.table.records other.table.records first (rest_same st.0 other b n es (stays ∙ k) st.2 (All-tail (λ (x : Entry). x.maker ≢ n) e es all))

pub list_same : (start one other : SessionTable) (old new : List Entry) (b : ℕ) → Stands MakesTable start old one → Stands MakesTable start new other → Extends (keeper start b) old new → SameOn b one.table.records other.table.records
list_same start one other old new b x y ext =
    let tail = behind start one other old ext.0 x (subst (λ (l : List Entry). Stands MakesTable start l other) (sym ext.1) y) in
    rest_same one other b (keeper start b) ext.0 (known_keeper start one (known start one old x) b) tail ext.2

-- ---- Orders, and the end.

pub list_ordered : (s t : SessionTable) (list : List Entry) → Stands MakesTable s list t → Ordered s.table.records → Ordered t.table.records
list_ordered s t [] st h = subst (λ (u : SessionTable). Ordered u.table.records) st h
list_ordered s t (e ∷ es) st h = list_ordered st.0 t es st.2 (entry_ordered e.maker e.numbers s st.0 st.1 h)

pub empty_ordered : (hosts : ℕ) (functions : List Callable) (workers requests : ℕ) (t : SessionTable) (list : List Entry) → Stands MakesTable (empty_session hosts functions workers requests) list t → Ordered t.table.records
empty_ordered hosts functions workers requests t list st = list_ordered (empty_session hosts functions workers requests) t list st (All-nil (λ (r : CallRecord). IsBelow 0 r.state))

no_rest : (t end : SessionTable) (more : List Entry) → unfinished t ≡ 0 → Stands MakesTable t more end → more ≡ []
no_rest t end [] z st = refl
no_rest t end (e ∷ es) z st = absurd (none_left e.maker e.numbers t st.0 z st.1)

pub no_more : (start t end : SessionTable) (list more : List Entry) → Stands MakesTable start list t → unfinished t ≡ 0 → Stands MakesTable start (list ++ more) end → more ≡ []
no_more start t end list more x z y = no_rest t end more z (behind start t end list more x y)

pub none_extends : (start t end : SessionTable) (maker : ℕ) (old new : List Entry) → Stands MakesTable start old t → unfinished t ≡ 0 → Stands MakesTable start new end → Extends maker old new → new ≡ old
none_extends start t end maker old new x z y ext =
    let none = no_more start t end old ext.0 x z (subst (λ (l : List Entry). Stands MakesTable start l end) (sym ext.1) y) in
    sym ext.1 ∙ ap (λ (l : List Entry). old ++ l) none ∙ append-nil old
