-- Histories that lead to what is there, and what one more entry leaves of them.
use Rattle.std.proofs.Common.{◌≡◌, ℕ, zero, suc, ◌-◌, List, [], ◌∷◌, ◌++◌, length, replicate, refl, sym, subst, ap, ◌∙◌, Bool, true, false, cond, Option, Some, None}
use Rattle.std.proofs.lemmas.Bool.{eqb-true, eqb-false}
use Rattle.std.specs.Prelude.{IsTrue, min, slice_get, slice_set, option_map, option_and_then, unwrap_or, ◌==◌, ◌&&◌}
use Rattle.std.specs.List.{AllByRecursion}
use Rattle.faaslet_meaning.specs.declared.call.CallRecord.{CallRecord}
use Rattle.faaslet_meaning.specs.declared.grant.Channel.{Channel}
use Rattle.faaslet_meaning.specs.declared.grant.Channel.TheVariants.{Local, Global, Table as OnTable}
use Rattle.faaslet_meaning.specs.Lists.{is_empty, least, passes_at, changed}
use Rattle.faaslet_meaning.specs.Channels.{RegionOperation, Operation, on_region, Reply, Entry, entry}
use Rattle.faaslet_meaning.specs.Region as region
use Rattle.faaslet_meaning.specs.Region.{Region, kind, others, may, replica, global_value}
use Rattle.faaslet_meaning.specs.Table as table
use Rattle.faaslet_meaning.specs.Table.{Table, TableOperation, submit, look}
use Rattle.faaslet_meaning.specs.Records.{is_open, is_finished, child_of}
use Rattle.faaslet_meaning.specs.History.{Rules, History, Leads, region_rules, table_rules}
use Rattle.session_meaning.specs.Plan.{Key, Plan}
use Rattle.session_meaning.specs.OpenCall.{Machine, stands, is_broken, Open}
use Rattle.session_meaning.specs.World.{Object, World, applied, on_table, as_parent, entered, start}
use Rattle.session_meaning.specs.Events.{Obstacle, child_at, held, unfinished, local_at, global_at, lock_on, unfinished_child, open_at, Obstacle}
use Rattle.session_meaning.specs.Keeping.{ObjectsLead, HistoriesLead}
use Rattle.session_meaning.proofs.Kept.{length_changed}
use Rattle.session_meaning.proofs.Asked.{Belongs, AsksProper}
use Rattle.faaslet_meaning.proofs.Histories.{legal_both, left_both}

-- ---- Lists.

pub changed_next : {A : Type 0} (x : A) (xs : List A) (n : ℕ) (f : A → A) → changed (x ∷ xs) (suc n) f ≡ x ∷ changed xs n f
changed_next {A} x xs n f = by (slice_get xs n)
  where
    by : (o : Option A) → elim o [ None ↦ x ∷ xs | Some y ↦ slice_set (x ∷ xs) (suc n) (f y) ] ≡ x ∷ elim o [ None ↦ xs | Some y ↦ slice_set xs n (f y) ]
    by None = refl
    by (Some y) = refl

pub get_here : {A : Type 0} (xs : List A) (n : ℕ) (f : A → A) → slice_get (changed xs n f) n ≡ option_map f (slice_get xs n)
get_here [] n f = refl
get_here (x ∷ xs) zero f = refl
get_here (x ∷ xs) (suc n) f = ap (λ l. slice_get l (suc n)) (changed_next x xs n f) ∙ get_here xs n f

pub get_apart : {A : Type 0} (xs : List A) (n i : ℕ) (f : A → A) → (i ≡ n → ⊥) → slice_get (changed xs n f) i ≡ slice_get xs i
get_apart [] n i f h = refl
get_apart (x ∷ xs) zero zero f h = absurd (h refl)
get_apart (x ∷ xs) zero (suc i) f h = refl
get_apart (x ∷ xs) (suc n) zero f h = ap (λ l. slice_get l zero) (changed_next x xs n f)
get_apart (x ∷ xs) (suc n) (suc i) f h = ap (λ l. slice_get l (suc i)) (changed_next x xs n f) ∙ get_apart xs n i f (λ e. h (ap suc e))

pub all_changed : {A : Type 0} (P : A → Type 0) (xs : List A) (n : ℕ) (f : A → A) → AllByRecursion P xs → ((x : A) → slice_get xs n ≡ Some x → P x → P (f x)) → AllByRecursion P (changed xs n f)
all_changed P [] n f all h = all
all_changed P (x ∷ xs) zero f all h = (h x refl all.0, all.1)
all_changed P (x ∷ xs) (suc n) f all h = subst (AllByRecursion P) (sym (changed_next x xs n f)) (all.0, all_changed P xs n f all.1 h)

true_false : true ≡ false → ⊥
true_false h = cc

none_least : (xs : List ℕ) → least xs ≡ None → is_empty xs ≡ true
none_least [] h = refl
none_least (x ∷ xs) h = by (least xs) h
  where
    by : (o : Option ℕ) → ◌≡◌ {A = Option ℕ} (elim o [ None ↦ Some x | Some y ↦ Some (min x y) ]) None → false ≡ true
    by None h = let no : ⊥ = cc in absurd no
    by (Some y) h = let no : ⊥ = cc in absurd no

-- ---- One more entry.

pub leads_more : {S O : Type 0} (rules : Rules S O) (start end : S) (history : History O) (maker : ℕ) (op : O) → Leads rules start history end → IsTrue (rules.may end maker op) → Leads rules start (history ++ (maker, op) ∷ []) (rules.after end maker op)
leads_more rules start end history maker op h may =
    record {
      legal = legal_both rules start history ((maker, op) ∷ []) h.legal (subst (λ s. IsTrue (rules.may s maker op)) h.end_so may, tt);
      end_so = ap (λ s. rules.after s maker op) h.end_so ∙ sym (left_both rules start history ((maker, op) ∷ []));
    }

objects_more : (start : Key → Region) (ks : List Key) (os : List Object) (n call : ℕ) (op : RegionOperation) → ObjectsLead start ks os → ((o : Object) → slice_get os n ≡ Some o → IsTrue (may o.region call op)) → ObjectsLead start ks (changed os n (applied call op))
objects_more start [] [] n call op h m = h
objects_more start [] (o ∷ os) n call op h m = absurd h
objects_more start (k ∷ ks) [] n call op h m = absurd h
objects_more start (k ∷ ks) (o ∷ os) zero call op h m = (leads_more region_rules (start k) o.region o.history call op h.0 (m o refl), h.1)
objects_more start (k ∷ ks) (o ∷ os) (suc n) call op h m =
    subst (ObjectsLead start (k ∷ ks)) (sym (changed_next o os n (applied call op))) (h.0, objects_more start ks os n call op h.1 m)

-- ---- Open calls.

abbrev pub MachineFits : Machine → Type 0
MachineFits (stands p) = AsksProper p
MachineFits (is_broken k) = Unit {0}

abbrev pub is_open_at : World → ℕ → Bool
is_open_at w call = passes_at (λ r. is_open r.state) w.table.records call

-- a call that has a machine is taken and not finished
abbrev CallsFit : World → Type 0
CallsFit w = (call : ℕ) (o : Open) → open_at w call ≡ Some o → (is_open_at w call ≡ true) × MachineFits o.machine

abbrev pub Fits : Plan → World → Type 0
Fits plan w = HistoriesLead plan w × CallsFit w

open_in : List (Option Open) → ℕ → Option Open
open_in calls call = unwrap_or (slice_get calls call) None

none_in : (n call : ℕ) → ◌≡◌ {A = Option Open} (unwrap_or (slice_get (replicate n None) call) None) None
none_in zero call = refl
none_in (suc n) zero = refl
none_in (suc n) (suc call) = none_in n call

pub filled_same : (calls : List (Option Open)) (n call : ℕ) → unwrap_or (slice_get (calls ++ replicate n None) call) None ≡ unwrap_or (slice_get calls call) None
filled_same [] n call = none_in n call
filled_same (o ∷ calls) n zero = refl
filled_same (o ∷ calls) n (suc call) = filled_same calls n call

pub passes_more : (test : CallRecord → Bool) (rs more : List CallRecord) (call : ℕ) → passes_at test rs call ≡ true → passes_at test (rs ++ more) call ≡ true
passes_more test [] more call h = let no : ⊥ = cc in absurd no
passes_more test (r ∷ rs) more zero h = h
passes_more test (r ∷ rs) more (suc call) h = passes_more test rs more call h

pub passes_apart : (test : CallRecord → Bool) (rs : List CallRecord) (n call : ℕ) (f : CallRecord → CallRecord) → (call ≡ n → ⊥) → passes_at test (changed rs n f) call ≡ passes_at test rs call
passes_apart test rs n call f h = ap (λ o. elim o [ None ↦ false | Some r ↦ test r ]) (get_apart rs n call f h)

passes_here : (test : CallRecord → Bool) (rs : List CallRecord) (n : ℕ) (f : CallRecord → CallRecord) → ((r : CallRecord) → test (f r) ≡ test r) → passes_at test (changed rs n f) n ≡ passes_at test rs n
passes_here test rs n f same = ap (λ o. elim o [ None ↦ false | Some r ↦ test r ]) (get_here rs n f) ∙ by (slice_get rs n)
  where
    by : (o : Option CallRecord) → ◌≡◌ {A = Bool} (elim (option_map f o) [ None ↦ false | Some r ↦ test r ]) (elim o [ None ↦ false | Some r ↦ test r ])
    by None = refl
    by (Some r) = same r

-- what a change that leaves the state alone leaves
passes_kept : (test : CallRecord → Bool) (rs : List CallRecord) (n call : ℕ) (f : CallRecord → CallRecord) → ((r : CallRecord) → test (f r) ≡ test r) → passes_at test (changed rs n f) call ≡ passes_at test rs call
passes_kept test rs n call f same = by (call == n) refl
  where
    by : (b : Bool) → (call == n) ≡ b → passes_at test (changed rs n f) call ≡ passes_at test rs call
    by true e = subst (λ m. passes_at test (changed rs n f) m ≡ passes_at test rs m) (sym (eqb-true call n e)) (passes_here test rs n f same)
    by false e = passes_apart test rs n call f (eqb-false call n e)

-- ---- Operations on the table.

abbrev submitted_by : Table → ℕ → ℕ → List ℕ → Option CallRecord → Table
submitted_by t parent f input None = t
submitted_by t parent f input (Some p) = table.submitted t parent p f input

-- a submission leaves what is open open
submitted_open : (t : Table) (maker : ℕ) (op : Operation) (parent : ℕ) (o : TableOperation) → as_parent parent op ≡ Some o → (call : ℕ) → passes_at (λ r. is_open r.state) t.records call ≡ true → passes_at (λ r. is_open r.state) (table.after t maker o).records call ≡ true
submitted_open t maker (Operation.submit f input) parent o e call h = subst (λ p. passes_at (λ r. is_open r.state) (table.after t maker p).records call ≡ true) same (by (slice_get t.records parent))
  where
    same : submit parent f input ≡ o
    same = cc

    inner : (p : CallRecord) (b : Bool) → passes_at (λ r. is_open r.state) (cond b (record t { records = changed t.records parent table.one_more_child ++ table.child_record t parent p f input ∷ [] }) t).records call ≡ true
    inner p true = passes_more (λ r. is_open r.state) (changed t.records parent table.one_more_child) (table.child_record t parent p f input ∷ []) call (passes_kept (λ r. is_open r.state) t.records parent call table.one_more_child (λ r. refl) ∙ h)
    inner p false = h

    by : (r : Option CallRecord) → passes_at (λ r. is_open r.state) (submitted_by t parent f input r).records call ≡ true
    by None = h
    by (Some p) = inner p (table.has_room t p f input)
submitted_open t maker (Operation.look child) parent o e call h =
    let same : look parent child ≡ o = cc in
    subst (λ p. passes_at (λ r. is_open r.state) (table.after t maker p).records call ≡ true) same h
submitted_open t maker op parent o e call h = let no : ⊥ = cc in absurd no

-- a table operation that may stand and leaves open calls open
pub table_more : (plan : Plan) (w : World) (maker : ℕ) (o : TableOperation) → Fits plan w → IsTrue (table.may w.table maker o)
    → ((call : ℕ) → is_open_at w call ≡ true → passes_at (λ r. is_open r.state) (table.after w.table maker o).records call ≡ true) → Fits plan (on_table w maker o)
table_more plan w maker o fits may opens = (
  record {
    table = leads_more table_rules _ w.table w.table_history maker o fits.0.table may;
    hosts = fits.0.hosts;
    locals = fits.0.locals;
    globals = fits.0.globals;
  },
  λ call c e. let f = fits.1 call c (sym (filled_same w.calls (length (table.after w.table maker o).records - length w.calls) call) ∙ e) in (opens call f.0, f.1),
)

-- ---- What stands in the way of no entry.

blocked_none : (s : Region) (call : ℕ) (op : RegionOperation) (ch : Channel) → option_map (λ holder. held ch holder) (region.blocked_by s call op) ≡ None → IsTrue (may s call op)
blocked_none s call op ch h = by (region.blocked_by s call op) refl h
  where
    by : (o : Option ℕ) → region.blocked_by s call op ≡ o → option_map (λ holder. held ch holder) o ≡ None → is_empty (others s call (kind op)) ≡ true
    by None e h = none_least (others s call (kind op)) e
    by (Some holder) e h = let no : ⊥ = cc in absurd no

finished_there : (records : List CallRecord) (call child : ℕ) → unfinished_child records (unwrap_or (child_of records call child) (length records)) ≡ None
    → ◌≡◌ {A = Bool} (elim (child_of records call child) [ None ↦ false | Some c ↦ passes_at (λ r. is_finished r.state) records c ]) true
finished_there records call child h = by (child_of records call child) h
  where
    none_past : (rs : List CallRecord) → passes_at (λ r. is_finished r.state) rs (length rs) ≡ false
    none_past [] = refl
    none_past (r ∷ rs) = none_past rs

    told : (b : Bool) (c : ℕ) → cond b None (Some (unfinished c)) ≡ None → b ≡ true
    told true c h = refl
    told false c h = let no : ⊥ = cc in absurd no

    by : (o : Option ℕ) → unfinished_child records (unwrap_or o (length records)) ≡ None → ◌≡◌ {A = Bool} (elim o [ None ↦ false | Some c ↦ passes_at (λ r. is_finished r.state) records c ]) true
    by None h = let so = told (passes_at (λ r. is_finished r.state) records (length records)) (length records) h in let no : ⊥ = true_false (sym so ∙ none_past records) in absurd no
    by (Some c) h = told (passes_at (λ r. is_finished r.state) records c) c h

-- what stands in the way of one operation
abbrev obstacle_on : World → ℕ → ℕ → Channel → Operation → Option Obstacle
obstacle_on w call host (Local key) (on_region op) = lock_on w call host (Local key) (kind op)
obstacle_on w call host (Global key) (on_region op) = lock_on w call host (Global key) (kind op)
obstacle_on w call host OnTable (Operation.look child) = unfinished_child w.table.records (child_at w.table.records call child)
obstacle_on w call host ch op = None

on_table_fits : (plan : Plan) (w : World) (call host : ℕ) (op : Operation) → Fits plan w → is_open_at w call ≡ true → Belongs OnTable op → obstacle_on w call host OnTable op ≡ None
    → Fits plan (entered call host w (entry OnTable op Reply.done)) × (is_open_at (entered call host w (entry OnTable op Reply.done)) call ≡ true)
on_table_fits plan w call host (Operation.submit f input) fits is_so belongs free =
    (table_more plan w call (submit call f input) fits is_so (submitted_open w.table call (Operation.submit f input) call (submit call f input) refl), submitted_open w.table call (Operation.submit f input) call (submit call f input) refl call is_so)
on_table_fits plan w call host (Operation.look child) fits is_so belongs free =
    (table_more plan w call (look call child) fits (subst (λ b. (b && elim (child_of w.table.records call child) [ None ↦ false | Some c ↦ passes_at (λ r. is_finished r.state) w.table.records c ]) ≡ true) (sym is_so) (finished_there w.table.records call child free)) (λ c h. h), is_so)
on_table_fits plan w call host op fits is_so belongs free = absurd belongs

-- one entry of an open call
pub entered_fits : (plan : Plan) (w : World) (call host : ℕ) (e : Entry) → Fits plan w → is_open_at w call ≡ true → Belongs e.channel e.operation → obstacle_on w call host e.channel e.operation ≡ None → Fits plan (entered call host w e) × (is_open_at (entered call host w e) call ≡ true)
entered_fits plan w call host e fits is_so belongs free = by e.channel e.operation belongs free
  where
    at_local : (os : List Object) (key : ℕ) → slice_get w.locals host ≡ Some os → (o : Object) → slice_get os key ≡ Some o → local_at w host key ≡ o.region
    at_local os key h o k = ap (λ x. elim x [ None ↦ replica 0 | Some o ↦ o.region ]) (ap (option_and_then (λ objects. slice_get objects key)) h ∙ k)

    at_global : (key : ℕ) (o : Object) → slice_get w.globals key ≡ Some o → global_at w key ≡ o.region
    at_global key o k = ap (λ x. elim x [ None ↦ global_value 0 [] | Some o ↦ o.region ]) k

    by : (ch : Channel) (op : Operation) → Belongs ch op → obstacle_on w call host ch op ≡ None → Fits plan (entered call host w (record e { channel = ch; operation = op })) × (is_open_at (entered call host w (record e { channel = ch; operation = op })) call ≡ true)
    by (Local key) (on_region op) belongs free = (
      (
        record {
          table = fits.0.table;
          hosts = length_changed w.locals host (λ os. changed os key (applied call op)) ∙ fits.0.hosts;
          locals = all_changed _ w.locals host _ fits.0.locals (λ os h all. objects_more _ plan.keys os key call op all (λ o k. subst (λ s. IsTrue (may s call op)) (at_local os key h o k) (blocked_none (local_at w host key) call op (Local key) free)));
          globals = fits.0.globals;
        },
        fits.1,
      ),
      is_so,
    )
    by (Global key) (on_region op) belongs free = (
      (
        record {
          table = fits.0.table;
          hosts = fits.0.hosts;
          locals = fits.0.locals;
          globals = objects_more _ plan.keys w.globals key call op fits.0.globals (λ o k. subst (λ s. IsTrue (may s call op)) (at_global key o k) (blocked_none (global_at w key) call op (Global key) free));
        },
        fits.1,
      ),
      is_so,
    )
    by (Local key) (Operation.submit f input) belongs free = let no : ⊥ = cc in absurd no
    by (Local key) (Operation.look c) belongs free = let no : ⊥ = cc in absurd no
    by (Global key) (Operation.submit f input) belongs free = let no : ⊥ = cc in absurd no
    by (Global key) (Operation.look c) belongs free = let no : ⊥ = cc in absurd no
    by OnTable op belongs free = on_table_fits plan w call host op fits is_so belongs free
