-- Records go on: by one operation, by one entry, and by a list of entries.
use Rattle.std.proofs.Common.{◌≡◌, ℕ, zero, suc, ◌+◌, List, [], ◌∷◌, ◌++◌, Bool, true, false, cond, Option, Some, None, slice_get, slice_set, refl, sym, ap, ◌∙◌, subst, arith}
use Rattle.std.specs.Prelude.{◌==◌, ◌&&◌}
use Rattle.std.proofs.lemmas.Option.{same_Some}
use Rattle.faaslet_meaning.specs.declared.call.CallRecord.{CallRecord}
use Rattle.faaslet_meaning.specs.declared.call.CallState.{CallState}
use Rattle.faaslet_meaning.specs.declared.call.CallState.TheVariants.{Queued, Taken, Finished}
use Rattle.faaslet_meaning.specs.declared.outcome.Outcome.{Outcome}
use Rattle.faaslet_meaning.specs.Lists.{first, places_from, passes_at, changed}
use Rattle.faaslet_meaning.specs.Records.{is_queued, is_finished, is_child, child_of, takes}
use Rattle.faaslet_meaning.specs.Table as table
use Rattle.faaslet_meaning.specs.Table.{Table, TableOperation, taken, next, finished_state, submitted, has_room, child_record, one_more_child, queued_record}
use Rattle.faaslet_meaning.specs.Table.TableOperation.{submit_request, submit, take_next, take_this, finish, look}
use Rattle.turn_cell.specs.declared.view.Entry.{Entry}
use Rattle.turn_cell.specs.History.{Stands}
use Rattle.call_table.specs.Makers.{MakesTable}
use Rattle.call_table.specs.Session.{SessionTable}
use Rattle.call_table.proofs.Mine.{next_is_queued, submit_leaves, next_leaves}
use Rattle.call_table.proofs.Places.{passes_there}
use Rattle.call_service.specs.Grown.{Later, Grown, Went}
use Rattle.call_service.specs.May.{IsChild}

-- ---- One record, and lists of them.

pub later_same : (r : CallRecord) → Later r r
later_same r = record { request = refl; parent = refl; child = refl; function = refl; input = refl; children = omega arith; finished = λ e. refl }

later_more : (a b c : CallRecord) → Later a b → Later b c → Later a c
later_more a b c x y = record {
  request = y.request ∙ x.request;
  parent = y.parent ∙ x.parent;
  child = y.child ∙ x.child;
  function = y.function ∙ x.function;
  input = y.input ∙ x.input;
  children = let h = x.children in let k = y.children in omega arith;
  finished = λ e. y.finished (ap is_finished (x.finished e) ∙ e) ∙ x.finished e;
}

pub grown_same : (rs : List CallRecord) → Grown rs rs
grown_same [] = tt
grown_same (r ∷ rs) = (later_same r, grown_same rs)

pub grown_more : (a b c : List CallRecord) → Grown a b → Grown b c → Grown a c
grown_more [] b c x y = tt
grown_more (r ∷ rs) [] c x y = absurd x
grown_more (r ∷ rs) (s ∷ ss) [] x y = absurd y
grown_more (r ∷ rs) (s ∷ ss) (t ∷ ts) x y = (later_more r s t x.0 y.0, grown_more rs ss ts x.1 y.1)

pub grown_push : (rs more : List CallRecord) → Grown rs (rs ++ more)
grown_push [] more = tt
grown_push (r ∷ rs) more = (later_same r, grown_push rs more)

pub set_grown : (rs : List CallRecord) (n : ℕ) (r x : CallRecord) → slice_get rs n ≡ Some r → Later r x → Grown rs (slice_set rs n x)
set_grown [] n r x e l = tt
set_grown (y ∷ rs) zero r x e l = (subst (λ (z : CallRecord). Later z x) (sym (same_Some y r e)) l, grown_same rs)
set_grown (y ∷ rs) (suc n) r x e l = (later_same y, set_grown rs n r x e l)

pub changed_grown : (rs : List CallRecord) (n : ℕ) (f : CallRecord → CallRecord) → ((r : CallRecord) → slice_get rs n ≡ Some r → Later r (f r)) → Grown rs (changed rs n f)
changed_grown rs n f later = by (slice_get rs n) refl
  where
    by : (o : Option CallRecord) → slice_get rs n ≡ o → Grown rs (elim o [ None ↦ rs | Some x ↦ slice_set rs n (f x) ])
    by None e = grown_same rs
    by (Some x) e = set_grown rs n x (f x) e (later x e)

-- ---- What operations do to records.

pub parent_later : (r : CallRecord) → Later r (one_more_child r)
parent_later r = record { request = refl; parent = refl; child = refl; function = refl; input = refl; children = omega arith; finished = λ e. refl }

pub state_later : (r : CallRecord) (s : CallState) → (is_finished r.state ≡ true → s ≡ r.state) → Later r (record r { state = s })
state_later r s f = record { request = refl; parent = refl; child = refl; function = refl; input = refl; children = omega arith; finished = f }

pub queued_goes_on : (s t : CallState) → is_queued s ≡ true → is_finished s ≡ true → t ≡ s
queued_goes_on Queued t q f = cc
queued_goes_on (Taken host bench order) t q f = cc
queued_goes_on (Finished host bench order outcome used output counts) t q f = cc

pub finish_goes_on : (s : CallState) (o : Outcome) (used : ℕ) (output counts : List ℕ) → is_finished s ≡ true → finished_state s o used output counts ≡ s
finish_goes_on Queued o used output counts f = refl
finish_goes_on (Taken host bench order) o used output counts f = cc
finish_goes_on (Finished host bench order outcome u out c) o used output counts f = refl

submit_grown : (t : Table) (parent function : ℕ) (input : List ℕ) → Grown t.records (submit_leaves t parent function input (slice_get t.records parent)).records
submit_grown t parent function input = by (slice_get t.records parent)
  where
    room : (p : CallRecord) (k : Bool) → Grown t.records (cond k (record t { records = changed t.records parent one_more_child ++ child_record t parent p function input ∷ [] }) t).records
    room p true =
        let parents = changed t.records parent one_more_child in
        grown_more t.records parents (parents ++ child_record t parent p function input ∷ []) (changed_grown t.records parent one_more_child (λ r e. parent_later r)) (grown_push parents (child_record t parent p function input ∷ []))
    room p false = grown_same t.records

    by : (x : Option CallRecord) → Grown t.records (submit_leaves t parent function input x).records
    by None = grown_same t.records
    by (Some p) = room p (has_room t p function input)

pub take_grown : (t : Table) (call host bench : ℕ) → passes_at (λ r. is_queued r.state) t.records call ≡ true → Grown t.records (taken t call host bench).records
take_grown t call host bench q =
    let p = passes_there (λ r. is_queued r.state) t.records call q in
    changed_grown t.records call (λ r. record r { state = Taken host bench (takes t.records) })
    (λ r e. state_later r (Taken host bench (takes t.records)) (queued_goes_on r.state (Taken host bench (takes t.records)) (ap (λ (x : CallRecord). is_queued x.state) (same_Some r p.item (sym e ∙ p.there)) ∙ p.passes)))

pub next_grown : (t : Table) (host bench : ℕ) → Grown t.records (next_leaves t host bench (next t host)).records
next_grown t host bench = by (next t host) refl
  where
    by : (x : Option ℕ) → next t host ≡ x → Grown t.records (next_leaves t host bench x).records
    by None e = grown_same t.records
    by (Some call) e = take_grown t call host bench (next_is_queued t host call e)

after_grown : (t : Table) (maker : ℕ) (o : TableOperation) → table.may t maker o ≡ true → Grown t.records (table.after t maker o).records
after_grown t maker (submit_request function host input) may = grown_push t.records (queued_record t function host input ∷ [])
after_grown t maker (submit parent function input) may = submit_grown t parent function input
after_grown t maker (take_next host bench) may = next_grown t host bench
after_grown t maker (take_this call host bench) may = take_grown t call host bench may
after_grown t maker (finish call o used output counts) may =
    changed_grown t.records call (λ r. record r { state = finished_state r.state o used output counts }) (λ r e. state_later r (finished_state r.state o used output counts) (finish_goes_on r.state o used output counts))
after_grown t maker (look parent child) may = grown_same t.records

-- the hosts and the functions
record SameShape (t u : Table) : Type 0 where
  hosts : u.hosts ≡ t.hosts
  functions : u.functions ≡ t.functions

same_shape : (t : Table) → SameShape t t
same_shape t = record { hosts = refl; functions = refl }

after_shape : (t : Table) (maker : ℕ) (o : TableOperation) → SameShape t (table.after t maker o)
after_shape t maker (submit_request function host input) = record { hosts = refl; functions = refl }
after_shape t maker (submit parent function input) = by (slice_get t.records parent)
  where
    room : (p : CallRecord) (k : Bool) → SameShape t (cond k (record t { records = changed t.records parent one_more_child ++ child_record t parent p function input ∷ [] }) t)
    room p true = record { hosts = refl; functions = refl }
    room p false = same_shape t

    by : (x : Option CallRecord) → SameShape t (submit_leaves t parent function input x)
    by None = same_shape t
    by (Some p) = room p (has_room t p function input)
after_shape t maker (take_next host bench) = by (next t host)
  where
    by : (x : Option ℕ) → SameShape t (next_leaves t host bench x)
    by None = same_shape t
    by (Some call) = record { hosts = refl; functions = refl }
after_shape t maker (take_this call host bench) = record { hosts = refl; functions = refl }
after_shape t maker (finish call o used output counts) = record { hosts = refl; functions = refl }
after_shape t maker (look parent child) = same_shape t

-- ---- Entries.

went_one : (maker : ℕ) (entry : List ℕ) (s t : SessionTable) → MakesTable maker entry s t → Went s t
went_one maker entry s t m =
    let shape = subst (λ (u : Table). SameShape s.table u) (sym m.table.after_so) (after_shape s.table maker m.table.operation) in
    record {
      hosts = shape.hosts;
      functions = shape.functions;
      workers = m.workers_so;
      requests = m.requests_so;
      records = subst (λ (u : Table). Grown s.table.records u.records) (sym m.table.after_so) (after_grown s.table maker m.table.operation m.table.may_stand);
    }

went_more : (s t u : SessionTable) → Went s t → Went t u → Went s u
went_more s t u x y = record {
  hosts = y.hosts ∙ x.hosts;
  functions = y.functions ∙ x.functions;
  workers = y.workers ∙ x.workers;
  requests = y.requests ∙ x.requests;
  records = grown_more s.table.records t.table.records u.table.records x.records y.records;
}

went_none : (s : SessionTable) → Went s s
went_none s = record { hosts = refl; functions = refl; workers = refl; requests = refl; records = grown_same s.table.records }

pub goes_on : (s t : SessionTable) (list : List Entry) → Stands MakesTable s list t → Went s t
goes_on s t [] st = subst (λ (u : SessionTable). Went s u) st (went_none s)
goes_on s t (e ∷ es) st = went_more s st.0 t (went_one e.maker e.numbers s st.0 st.1) (goes_on st.0 t es st.2)

-- ---- Lists that are cut in two.

-- a list that leads somewhere leads there by its front
pub record Parted (s t : SessionTable) (front back : List Entry) : Type 0 where
  pub mid : SessionTable
  pub to_mid : Stands MakesTable s front mid
  pub to_end : Stands MakesTable mid back t

pub part : (s t : SessionTable) (front back : List Entry) → Stands MakesTable s (front ++ back) t → Parted s t front back
part s t [] back st = record { mid = s; to_mid = refl; to_end = st }
part s t (e ∷ front) back st = let p = part st.0 t front back st.2 in record { mid = p.mid; to_mid = (st.0, st.1, p.to_mid); to_end = p.to_end }

pub join : (s t u : SessionTable) (front back : List Entry) → Stands MakesTable s front t → Stands MakesTable t back u → Stands MakesTable s (front ++ back) u
join s t u [] back x y = subst (λ (v : SessionTable). Stands MakesTable v back u) (sym x) y
join s t u (e ∷ front) back x y = (x.0, x.1, join x.0 t u front back x.2 y)

-- ---- Children.

child_kept : (call child : ℕ) (r x : CallRecord) → Later r x → is_child call child x ≡ is_child call child r
child_kept call child r x l =
    ap (λ (o : Option ℕ). elim o [ None ↦ false | Some p ↦ (p == call) && (x.child == child) ]) l.parent
    ∙ ap (λ (n : ℕ). elim r.parent [ None ↦ false | Some p ↦ (p == call) && (n == child) ]) l.child

places_stay : (call child n k : ℕ) (rs xs : List CallRecord) → Grown rs xs → first (places_from n (is_child call child) rs) ≡ Some k → first (places_from n (is_child call child) xs) ≡ Some k
places_stay call child n k [] xs g e = let no : ⊥ = cc in absurd no
places_stay call child n k (r ∷ rs) [] g e = absurd g
places_stay call child n k (r ∷ rs) (x ∷ xs) g e =
    let test : CallRecord → Bool = is_child call child in
    ap (λ b. first (cond b (n ∷ places_from (n + 1) test xs) (places_from (n + 1) test xs))) (child_kept call child r x g.0)
    ∙ by (is_child call child r) (places_stay call child (n + 1) k rs xs g.1) e
  where
    by : (b : Bool) → (first (places_from (n + 1) (is_child call child) rs) ≡ Some k → first (places_from (n + 1) (is_child call child) xs) ≡ Some k)
        → first (cond b (n ∷ places_from (n + 1) (is_child call child) rs) (places_from (n + 1) (is_child call child) rs)) ≡ Some k
        → first (cond b (n ∷ places_from (n + 1) (is_child call child) xs) (places_from (n + 1) (is_child call child) xs)) ≡ Some k
    by true ih e = e
    by false ih e = ih e

pub child_stays : (call child k : ℕ) (rs xs : List CallRecord) → Grown rs xs → child_of rs call child ≡ Some k → child_of xs call child ≡ Some k
child_stays call child k rs xs g e = places_stay call child 0 k rs xs g e

pub children_stay : (start : SessionTable) (call child : ℕ) (list more : List Entry) → IsChild start list call child → IsChild start (list ++ more) call child
children_stay start call child list more is t st =
    let p = part start t list more st in
    let c = is p.mid p.to_mid in
    (c.0, child_stays call child c.0 p.mid.table.records t.table.records (goes_on p.mid t more p.to_end).records c.1)
