-- The children of a call are found by their numbers, and stay so; and an event leaves the records and the open calls of other calls.
use Rattle.std.proofs.Common.{◌≡◌, ℕ, suc, ◌+◌, Bool, true, false, cond, List, [], ◌∷◌, ◌++◌, Option, Some, None, refl, sym, ap, ◌∙◌, slice_get, fold, arith}
use Rattle.std.specs.Prelude.{◌==◌, ◌&&◌}
use Rattle.std.proofs.lemmas.Bool.{and_parts, eqb-false, eqb-true}
use Rattle.faaslet_meaning.specs.declared.call.CallRecord.{CallRecord}
use Rattle.faaslet_meaning.specs.declared.call.CallState.TheVariants.{Taken}
use Rattle.faaslet_meaning.specs.declared.grant.Channel.{Channel}
use Rattle.faaslet_meaning.specs.declared.grant.Channel.TheVariants.{Local, Global, Table as OnTable}
use Rattle.session_meaning.specs.declared.event.Event.{Event}
use Rattle.session_meaning.specs.declared.event.Event.TheVariants.{Take, Ask, End}
use Rattle.faaslet_meaning.specs.CallState.{State}
use Rattle.faaslet_meaning.specs.Channels.{Entry, Operation, Question, Reply, entry, on_region}
use Rattle.faaslet_meaning.specs.Lists.{changed, first, places_from}
use Rattle.faaslet_meaning.specs.Records.{child_of, is_child, takes}
use Rattle.faaslet_meaning.specs.Table as table
use Rattle.faaslet_meaning.specs.Table.{Table, child_record, finish, finished_state, has_room, one_more_child, submit, take_this}
use Rattle.session_meaning.specs.Cut.{call_of}
use Rattle.session_meaning.specs.Events.{entries_now, open_at, open_of, step}
use Rattle.session_meaning.specs.OpenCall.{Ended, Open, asking, ended}
use Rattle.session_meaning.specs.Plan.{Plan, Request}
use Rattle.session_meaning.specs.World.{World, entered, on_table}
use Rattle.session_meaning.proofs.CallsAlike.{put_apart}
use Rattle.session_meaning.proofs.ChildrenThere.{child_found}
use Rattle.session_meaning.proofs.Family.{Family}
use Rattle.session_meaning.proofs.Later.{Later, later_as, later_keeps}
use Rattle.session_meaning.proofs.LegalEntries.{get_apart}
use Rattle.session_meaning.proofs.OneStep.{asked_at, asked_of, finished_at, finished_of, taken_by}
use Rattle.session_meaning.proofs.RecordsKept.{get_front}
use Rattle.session_meaning.proofs.TableEntries.{table_opens}
use Rattle.session_meaning.proofs.TableKeeps.{step_keeps}

-- ---- The first that passes.

pub record First {A : Type 0} (test : A → Bool) (m : ℕ) (xs : List A) (n : ℕ) : Type 0 where
  pub place : ℕ
  pub is : n ≡ m + place
  pub item : A
  pub here : slice_get xs place ≡ Some item
  pub passes : test item ≡ true

some_same : {A : Type 0} {x y : A} → Some x ≡ Some y → x ≡ y
some_same e = cc

pub first_place : {A : Type 0} (test : A → Bool) (m : ℕ) (xs : List A) (n : ℕ) → first (places_from m test xs) ≡ Some n → First test m xs n
first_place test m [] n e = let bad : ⊥ = cc in absurd bad
first_place {A} test m (x ∷ xs) n e = by (test x) refl e (first_place test (m + 1) xs n)
  where
    by : (b : Bool) → test x ≡ b → first (cond b (m ∷ places_from (m + 1) test xs) (places_from (m + 1) test xs)) ≡ Some n → (first (places_from (m + 1) test xs) ≡ Some n → First test (m + 1) xs n) → First test m (x ∷ xs) n
    by true h e go = let same : m ≡ n = some_same e in record { place = 0; is = omega (arith, same); item = x; here = refl; passes = h }
    by false h e go = let f = go e in let is = f.is in record { place = suc f.place; is = omega (arith, is); item = f.item; here = f.here; passes = f.passes }

pub child_parts : (p n : ℕ) (r : CallRecord) → is_child p n r ≡ true → (r.parent ≡ Some p) × (r.child ≡ n)
child_parts p n r h = by r.parent refl h
  where
    by : (o : Option ℕ) → r.parent ≡ o → ◌≡◌ {A = Bool} (elim o [ None ↦ false | Some q ↦ (q == p) && (r.child == n) ]) true → (r.parent ≡ Some p) × (r.child ≡ n)
    by None e h = let bad : ⊥ = cc in absurd bad
    by (Some q) e h = let a = and_parts (q == p) (r.child == n) h in (e ∙ ap (λ m. Some m) (eqb-true q p a.0), eqb-true r.child n a.1)

-- a child is found by its number
pub child_known : (rs : List Request) (records : List CallRecord) (p n k : ℕ) (r : CallRecord) → Family rs records → slice_get records k ≡ Some r → r.parent ≡ Some p → r.child ≡ n → child_of records p n ≡ Some k
child_known rs records p n k r family here parent number =
    let found = child_found records p n (record { call = k; is = r; here = here; of_parent = parent; number = number }) in
    let f = first_place (is_child p n) 0 records found.0 found.1 in
    let a = child_parts p n f.item f.passes in
    let same : f.place ≡ k = family.brothers f.place k p f.item r f.here here a.0 parent (a.1 ∙ sym number) in
    let is = f.is in
    found.1 ∙ ap (λ m. Some m) (let e : found.0 ≡ k = omega (arith, is, same) in e)

-- and stays where it is
pub child_stays : (rs : List Request) (records more : List CallRecord) (p n k : ℕ) → Family rs more → Later records more → child_of records p n ≡ Some k → child_of more p n ≡ Some k
child_stays rs records more p n k family later e =
    let f = first_place (is_child p n) 0 records k e in
    let a = child_parts p n f.item f.passes in
    let l = later f.place f.item f.here in
    let is = f.is in
    let same : k ≡ f.place = omega (arith, is) in
    child_known rs more p n k l.0 family (ap (slice_get more) same ∙ l.1) (l.2.parent ∙ a.0) (l.2.child ∙ a.1)

pub step_later : (plan : Plan) (w : World) (e : Event) → Later w.table.records (step plan w e).table.records
step_later plan w e = step_keeps (Later w.table.records) (later_keeps w.table.records) plan w e (later_as w.table.records)

-- ---- Of other calls nothing changes.

abbrev pub OthersStay : ℕ → List CallRecord → List CallRecord → Type 0
OthersStay call rs more = (c : ℕ) (r : CallRecord) → (call == c) ≡ false → slice_get rs c ≡ Some r → slice_get more c ≡ Some r

changed_stay : (rs : List CallRecord) (call : ℕ) (f : CallRecord → CallRecord) → OthersStay call rs (changed rs call f)
changed_stay rs call f c r ne e = get_apart rs call c f (λ same. eqb-false call c ne (sym same)) ∙ e

submit_stay : (t : Table) (m call f : ℕ) (input : List ℕ) → OthersStay call t.records (table.after t m (submit call f input)).records
submit_stay t m call f input c r ne e = by (slice_get t.records call)
  where
    room : (p : CallRecord) (b : Bool) → slice_get (cond b (record t { records = changed t.records call one_more_child ++ child_record t call p f input ∷ [] }) t).records c ≡ Some r
    room p true = get_front (changed t.records call one_more_child) (child_record t call p f input) c r (changed_stay t.records call one_more_child c r ne e)
    room p false = e

    by : (o : Option CallRecord) → slice_get (elim o as (λ o. Table) [ None ↦ t | Some p ↦ cond (has_room t p f input) (record t { records = changed t.records call one_more_child ++ child_record t call p f input ∷ [] }) t ]).records c ≡ Some r
    by None = e
    by (Some p) = room p (has_room t p f input)

entered_stay : (w : World) (call host : ℕ) (ch : Channel) (op : Operation) (r : Reply) → OthersStay call w.table.records (entered call host w (entry ch op r)).table.records
entered_stay w call host (Local key) (on_region op) r c x ne e = e
entered_stay w call host (Local key) (Operation.submit f input) r c x ne e = e
entered_stay w call host (Local key) (Operation.look k) r c x ne e = e
entered_stay w call host (Global key) (on_region op) r c x ne e = e
entered_stay w call host (Global key) (Operation.submit f input) r c x ne e = e
entered_stay w call host (Global key) (Operation.look k) r c x ne e = e
entered_stay w call host OnTable (Operation.submit f input) r c x ne e = submit_stay w.table call call f input c x ne e
entered_stay w call host OnTable (Operation.look k) r c x ne e = e
entered_stay w call host OnTable (on_region op) r c x ne e = e

entries_stay : (w : World) (call host : ℕ) (es : List Entry) → OthersStay call w.table.records (fold (entered call host) w es).table.records
entries_stay w call host [] c x ne e = e
entries_stay w call host (y ∷ es) c x ne e = entries_stay (entered call host w y) call host es c x ne (entered_stay w call host y.channel y.operation y.reply c x ne e)

pub records_stay : (plan : Plan) (w : World) (e : Event) → OthersStay (call_of e) w.table.records (step plan w e).table.records
records_stay plan w (Take call host) c r ne e = by (slice_get w.table.records call)
  where
    by : (o : Option CallRecord) → slice_get (taken_by plan w call host o).table.records c ≡ Some r
    by None = e
    by (Some x) = changed_stay w.table.records call (λ y. record y { state = Taken host call (takes w.table.records) }) c r ne e
records_stay plan w (End call) c r ne e = by (open_at w call)
  where
    at : (o : Open) (x : Option Ended) → slice_get (finished_of w call o x).table.records c ≡ Some r
    at o None = e
    at o (Some x) = changed_stay w.table.records call (λ y. record y { state = finished_state y.state x.outcome x.used x.output o.counts }) c r ne e

    by : (o : Option Open) → slice_get (finished_at w call o).table.records c ≡ Some r
    by None = e
    by (Some o) = at o (ended o)
records_stay plan w (Ask call) c r ne e = by (open_at w call)
  where
    at : (o : Open) (a : Option (State × Question)) → slice_get (asked_of w call o a).table.records c ≡ Some r
    at o None = e
    at o (Some a) = entries_stay w call o.host (entries_now w call o.host a.1) c r ne e

    by : (o : Option Open) → slice_get (asked_at w call o).table.records c ≡ Some r
    by None = e
    by (Some o) = at o (asking o.machine)

entered_opens : (w : World) (call host : ℕ) (ch : Channel) (op : Operation) (r : Reply) (c : ℕ) → open_at (entered call host w (entry ch op r)) c ≡ open_at w c
entered_opens w call host (Local key) (on_region op) r c = refl
entered_opens w call host (Local key) (Operation.submit f input) r c = refl
entered_opens w call host (Local key) (Operation.look k) r c = refl
entered_opens w call host (Global key) (on_region op) r c = refl
entered_opens w call host (Global key) (Operation.submit f input) r c = refl
entered_opens w call host (Global key) (Operation.look k) r c = refl
entered_opens w call host OnTable (Operation.submit f input) r c = table_opens w call (submit call f input) c
entered_opens w call host OnTable (Operation.look k) r c = table_opens w call (table.look call k) c
entered_opens w call host OnTable (on_region op) r c = refl

pub entries_open : (w : World) (call host : ℕ) (es : List Entry) (c : ℕ) → open_at (fold (entered call host) w es) c ≡ open_at w c
entries_open w call host [] c = refl
entries_open w call host (y ∷ es) c = entries_open (entered call host w y) call host es c ∙ entered_opens w call host y.channel y.operation y.reply c

pub opens_stay : (plan : Plan) (w : World) (e : Event) (c : ℕ) → (call_of e == c) ≡ false → open_at (step plan w e) c ≡ open_at w c
opens_stay plan w (Take call host) c ne = by (slice_get w.table.records call)
  where
    by : (o : Option CallRecord) → open_at (taken_by plan w call host o) c ≡ open_at w c
    by None = refl
    by (Some r) = put_apart (on_table w call (take_this call host call)) call c (open_of plan r host) ne ∙ table_opens w call (take_this call host call) c
opens_stay plan w (End call) c ne = by (open_at w call)
  where
    at : (o : Open) (x : Option Ended) → open_at (finished_of w call o x) c ≡ open_at w c
    at o None = refl
    at o (Some x) = put_apart (on_table w call (finish call x.outcome x.used x.output o.counts)) call c None ne ∙ table_opens w call (finish call x.outcome x.used x.output o.counts) c

    by : (o : Option Open) → open_at (finished_at w call o) c ≡ open_at w c
    by None = refl
    by (Some o) = at o (ended o)
opens_stay plan w (Ask call) c ne = by (open_at w call)
  where
    at : (o : Open) (a : Option (State × Question)) → open_at (asked_of w call o a) c ≡ open_at w c
    at o None = refl
    at o (Some a) = put_apart (fold (entered call o.host) w (entries_now w call o.host a.1)) call c _ ne ∙ entries_open w call o.host (entries_now w call o.host a.1) c

    by : (o : Option Open) → open_at (asked_at w call o) c ≡ open_at w c
    by None = refl
    by (Some o) = at o (asking o.machine)
