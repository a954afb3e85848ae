-- What an entry on a region leaves: its maker hears it, and nobody else.
use Rattle.std.proofs.Common.{◌≡◌, ℕ, zero, suc, ◌<◌, List, [], ◌∷◌, ◌++◌, length, refl, sym, subst, ap, ◌∙◌, Bool, true, false, cond, Option, Some, None, slice_get, arith}
use Rattle.std.proofs.lemmas.Bool.{eq-eqb, eqb-true, eqb-false}
use Rattle.std.proofs.lemmas.List.{append-nil, append_assoc}
use Rattle.std.specs.Prelude.{option_and_then, option_map, ◌==◌}
use Rattle.std.specs.List.{AllByRecursion}
use Rattle.faaslet_meaning.specs.declared.grant.Channel.{Channel}
use Rattle.faaslet_meaning.specs.declared.grant.Channel.TheVariants.{Local, Global, Table as OnTable}
use Rattle.faaslet_meaning.specs.Lists.{changed}
use Rattle.faaslet_meaning.specs.Channels.{RegionOperation, Operation, on_region, Reply, Entry, entry, on_channel}
use Rattle.faaslet_meaning.specs.Region as region
use Rattle.faaslet_meaning.specs.Region.{Region, replica, global_value}
use Rattle.faaslet_meaning.specs.Table.{empty_table}
use Rattle.faaslet_meaning.specs.History.{History, left, table_rules, region_rules}
use Rattle.session_meaning.specs.Plan.{Key, Plan, callables}
use Rattle.session_meaning.specs.Answered.{Answered, asked_on, told_of}
use Rattle.session_meaning.specs.World.{Object, World, applied, on_local, on_global}
use Rattle.session_meaning.specs.WorldTold.{local_history, global_history, told_at}
use Rattle.session_meaning.specs.Events.{local_at, global_at, open_at}
use Rattle.session_meaning.proofs.Goes.{on_both}
use Rattle.session_meaning.proofs.Kept.{length_changed}
use Rattle.session_meaning.proofs.LegalEntries.{get_here, get_apart, all_changed}
use Rattle.session_meaning.proofs.OwnHistory.{told_on, told_on_own, told_on_other}
use Rattle.session_meaning.proofs.Objects.{ObjectsAre, are_changed, are_at, InBytes, LedTo, led_further, local_start, global_start, local_long, global_long, pages_hold}
use Rattle.session_meaning.proofs.RecordsKept.{RecordsOk, Forward, Backward, ChildrenStay, forward_same, backward_same, forward_on, backward_on}

pub record RegionsOk (plan : Plan) (w : World) : Type 0 where
  pub hosts : length w.locals ≡ plan.hosts
  pub locals : AllByRecursion (ObjectsAre (LedTo local_start local_long) plan.keys) w.locals
  pub globals : ObjectsAre (LedTo global_start global_long) plan.keys w.globals
  pub table : w.table ≡ left table_rules (empty_table plan.hosts (callables plan)) w.table_history

-- ---- The object of a key.

all_at : {A : Type 0} (P : A → Type 0) (xs : List A) (n : ℕ) → AllByRecursion P xs → n < length xs → (x : A) × (slice_get xs n ≡ Some x) × P x
all_at P [] n all h = let no : ⊥ = omega (arith, h) in absurd no
all_at P (x ∷ xs) zero all h = (x, refl, all.0)
all_at P (x ∷ xs) (suc n) all h = all_at P xs n all.1 (omega (arith, h))

pub record LocalFound (plan : Plan) (w : World) (host key : ℕ) (k : Key) : Type 0 where
  pub objects : List Object
  pub objects_so : slice_get w.locals host ≡ Some objects
  pub object : Object
  pub object_so : slice_get objects key ≡ Some object
  pub led : LedTo local_start local_long k object

pub local_found : (plan : Plan) (w : World) (host key : ℕ) (k : Key) → RegionsOk plan w → host < plan.hosts → slice_get plan.keys key ≡ Some k → LocalFound plan w host key k
local_found plan w host key k ok within here =
    let hosts = ok.hosts in
    let os = all_at (ObjectsAre (LedTo local_start local_long) plan.keys) w.locals host ok.locals (omega (arith, within, hosts)) in
    let o = are_at (LedTo local_start local_long) plan.keys os.0 key k os.2 here in
    record { objects = os.0; objects_so = os.1; object = o.0; object_so = o.1; led = o.2 }

pub record GlobalFound (plan : Plan) (w : World) (key : ℕ) (k : Key) : Type 0 where
  pub object : Object
  pub object_so : slice_get w.globals key ≡ Some object
  pub led : LedTo global_start global_long k object

pub global_found : (plan : Plan) (w : World) (key : ℕ) (k : Key) → RegionsOk plan w → slice_get plan.keys key ≡ Some k → GlobalFound plan w key k
global_found plan w key k ok here = let o = are_at (LedTo global_start global_long) plan.keys w.globals key k ok.globals here in record { object = o.0; object_so = o.1; led = o.2 }

pub local_region : (plan : Plan) (w : World) (host key : ℕ) (k : Key) (found : LocalFound plan w host key k) → local_at w host key ≡ found.object.region
local_region plan w host key k found =
    ap (λ x. elim (option_and_then {U = Object} (λ objects. slice_get objects key) x) as (λ o. Region) [ None ↦ replica 0 | Some o ↦ o.region ]) found.objects_so ∙ ap (λ x. elim x as (λ o. Region) [ None ↦ replica 0 | Some o ↦ o.region ]) found.object_so

pub global_region : (plan : Plan) (w : World) (key : ℕ) (k : Key) (found : GlobalFound plan w key k) → global_at w key ≡ found.object.region
global_region plan w key k found = ap (λ x. elim x as (λ o. Region) [ None ↦ global_value 0 [] | Some o ↦ o.region ]) found.object_so

-- the history of an object, where there is one
abbrev pub past : Option Object → History RegionOperation
past None = []
past (Some o) = o.history

abbrev found_in : Option (List Object) → ℕ → History RegionOperation
found_in os key = past (option_and_then (λ objects. slice_get objects key) os)

past_here : (os : List Object) (key call : ℕ) (op : RegionOperation) (o : Object) → slice_get os key ≡ Some o → past (slice_get (changed os key (applied call op)) key) ≡ past (slice_get os key) ++ (call, op) ∷ []
past_here os key call op o e = ap past (get_here os key (applied call op)) ∙ ap (λ x. past (option_map (applied call op) x)) e ∙ sym (ap (λ x. past x ++ (call, op) ∷ []) e)

past_apart : (os : List Object) (key other call : ℕ) (op : RegionOperation) → (other == key) ≡ false → past (slice_get (changed os key (applied call op)) other) ≡ past (slice_get os other)
past_apart os key other call op e = ap past (get_apart os key other (applied call op) (eqb-false other key e))

-- of one maker's entry another maker is told nothing, wherever it stands
past_other : (s : Region) (os : List Object) (key i call maker : ℕ) (op : RegionOperation) → (call == maker) ≡ false → told_on maker s (past (slice_get (changed os key (applied call op)) i)) ≡ told_on maker s (past (slice_get os i))
past_other s os key i call maker op apart = by (i == key) refl
  where
    same : (o : Option Object) → slice_get os key ≡ o → told_on maker s (past (slice_get (changed os key (applied call op)) key)) ≡ told_on maker s (past (slice_get os key))
    same None e = ap (λ x. told_on maker s (past x)) (get_here os key (applied call op)) ∙ ap (λ x. told_on maker s (past (option_map (applied call op) x))) e ∙ sym (ap (λ x. told_on maker s (past x)) e)
    same (Some o) e = ap (told_on maker s) (past_here os key call op o e) ∙ told_on_other s (past (slice_get os key)) maker call op apart

    by : (b : Bool) → (i == key) ≡ b → told_on maker s (past (slice_get (changed os key (applied call op)) i)) ≡ told_on maker s (past (slice_get os i))
    by true e = subst (λ n. told_on maker s (past (slice_get (changed os key (applied call op)) n)) ≡ told_on maker s (past (slice_get os n))) (sym (eqb-true i key e)) (same (slice_get os key) refl)
    by false e = ap (told_on maker s) (past_apart os key i call op e)

local_other : (s : Region) (w : World) (host key h i call maker : ℕ) (op : RegionOperation) → (call == maker) ≡ false → told_on maker s (local_history (on_local w host key call op) h i) ≡ told_on maker s (local_history w h i)
local_other s w host key h i call maker op apart = by (h == host) refl
  where
    inner : (o : Option (List Object)) → told_on maker s (found_in (option_map (λ os. changed os key (applied call op)) o) i) ≡ told_on maker s (found_in o i)
    inner None = refl
    inner (Some os) = past_other s os key i call maker op apart

    by : (b : Bool) → (h == host) ≡ b → told_on maker s (local_history (on_local w host key call op) h i) ≡ told_on maker s (local_history w h i)
    by true e =
        subst (λ n. told_on maker s (local_history (on_local w host key call op) n i) ≡ told_on maker s (local_history w n i)) (sym (eqb-true h host e))
        (ap (λ o. told_on maker s (found_in o i)) (get_here w.locals host (λ os. changed os key (applied call op))) ∙ inner (slice_get w.locals host))
    by false e = ap (λ o. told_on maker s (found_in o i)) (get_apart w.locals host h (λ os. changed os key (applied call op)) (eqb-false h host e))

-- what a maker was told of the object of a key, where there is such a key
abbrev pub local_told : World → ℕ → ℕ → ℕ → Option Key → List (Operation × Reply)
local_told w maker host key o = told_of (elim o as (λ o. List Answered) [ None ↦ [] | Some k ↦ asked_on maker (replica k.size) (local_history w host key) ])

abbrev pub global_told : World → ℕ → ℕ → Option Key → List (Operation × Reply)
global_told w maker key o = told_of (elim o as (λ o. List Answered) [ None ↦ [] | Some k ↦ asked_on maker (global_value k.size k.init) (global_history w key) ])

-- ---- What entries leave.

pub record Left (plan : Plan) (w : World) (call host : ℕ) (es : List Entry) (w' : World) : Type 0 where
  pub regions : RegionsOk plan w'
  pub hosts : w'.table.hosts ≡ w.table.hosts
  pub records : RecordsOk w'.table.records
  pub own : (ch : Channel) → told_at plan w' host call ch ≡ told_at plan w host call ch ++ on_channel ch es
  pub others : (maker h : ℕ) (ch : Channel) → (call == maker) ≡ false → told_at plan w' h maker ch ≡ told_at plan w h maker ch
  pub forward : Forward w.table.records w'.table.records
  pub backward : Backward w.table.records w'.table.records
  pub children : ChildrenStay w.table.records w'.table.records
  pub opens : (c : ℕ) → open_at w' c ≡ open_at w c

pub left_none : (plan : Plan) (w : World) (call host : ℕ) → RegionsOk plan w → RecordsOk w.table.records → Left plan w call host [] w
left_none plan w call host ok records =
    record {
      regions = ok;
      hosts = refl;
      records = records;
      own = λ ch. sym (append-nil (told_at plan w host call ch));
      others = λ maker h ch e. refl;
      forward = forward_same w.table.records;
      backward = backward_same w.table.records;
      children = λ parent child o bs e. e;
      opens = λ c. refl;
    }

pub left_seq : (plan : Plan) (u v w : World) (call host : ℕ) (es fs : List Entry) → Left plan u call host es v → Left plan v call host fs w → Left plan u call host (es ++ fs) w
left_seq plan u v w call host es fs a b =
    record {
      regions = b.regions;
      hosts = b.hosts ∙ a.hosts;
      records = b.records;
      own = λ ch. b.own ch ∙ ap (λ l. l ++ on_channel ch fs) (a.own ch) ∙ append_assoc (told_at plan u host call ch) (on_channel ch es) (on_channel ch fs) ∙ ap (λ l. told_at plan u host call ch ++ l) (sym (on_both ch es fs));
      others = λ maker h ch e. b.others maker h ch e ∙ a.others maker h ch e;
      forward = forward_on u.table.records v.table.records w.table.records a.forward b.forward;
      backward = backward_on u.table.records v.table.records w.table.records a.forward a.backward b.backward;
      children = λ parent child o bs e. b.children parent child o bs (a.children parent child o bs e);
      opens = λ c. b.opens c ∙ a.opens c;
    }

-- ---- An entry on a region.

pub left_local : (plan : Plan) (w : World) (call host key : ℕ) (k : Key) (op : RegionOperation) → RegionsOk plan w → RecordsOk w.table.records → host < plan.hosts → slice_get plan.keys key ≡ Some k → InBytes (local_long k) op
    → Left plan w call host (entry (Local key) (on_region op) (region.reply (local_at w host key) call op) ∷ []) (on_local w host key call op)
left_local plan w call host key k op ok records within here fits =
    let found = local_found plan w host key k ok within here in
    record {
      regions = record {
        hosts = length_changed w.locals host (λ os. changed os key (applied call op)) ∙ ok.hosts;
        locals = all_changed (ObjectsAre (LedTo local_start local_long) plan.keys) w.locals host (λ os. changed os key (applied call op)) ok.locals
            (λ os e are. are_changed (LedTo local_start local_long) plan.keys os key (applied call op) are
            (λ x o at led. led_further local_start local_long x o call op (pages_hold x.size) (subst (λ y. InBytes (local_long y) op) (some_same k x (sym here ∙ at)) fits) led));
        globals = ok.globals;
        table = ok.table;
      };
      hosts = refl;
      records = records;
      own = own found;
      others = others;
      forward = forward_same w.table.records;
      backward = backward_same w.table.records;
      children = λ parent child o bs e. e;
      opens = λ c. refl;
    }
  where
    some_same : (a b : Key) → Some a ≡ Some b → a ≡ b
    some_same a b e = cc

    others : (maker h : ℕ) (ch : Channel) → (call == maker) ≡ false → told_at plan (on_local w host key call op) h maker ch ≡ told_at plan w h maker ch
    others maker h (Local i) e = by (slice_get plan.keys i)
      where
        by : (o : Option Key) → local_told (on_local w host key call op) maker h i o ≡ local_told w maker h i o
        by None = refl
        by (Some x) = local_other (replica x.size) w host key h i call maker op e
    others maker h (Global i) e = refl
    others maker h OnTable e = refl

    own : LocalFound plan w host key k → (ch : Channel) → told_at plan (on_local w host key call op) host call ch ≡ told_at plan w host call ch ++ on_channel ch (entry (Local key) (on_region op) (region.reply (local_at w host key) call op) ∷ [])
    own found (Local i) = by (i == key) refl
      where
        at : slice_get (on_local w host key call op).locals host ≡ Some (changed found.objects key (applied call op))
        at = get_here w.locals host (λ os. changed os key (applied call op)) ∙ ap (option_map (λ os. changed os key (applied call op))) found.objects_so

        region_so : local_at w host key ≡ found.object.region
        region_so = local_region plan w host key k found

        history_so : local_history w host key ≡ found.object.history
        history_so = ap (λ x. found_in x key) found.objects_so ∙ ap past found.object_so

        led : local_at w host key ≡ left region_rules (replica k.size) (local_history w host key)
        led = region_so ∙ found.led.0 ∙ sym (ap (λ h. left region_rules (replica k.size) h) history_so)

        of_key : told_on call (replica k.size) (local_history (on_local w host key call op) host key) ≡ told_on call (replica k.size) (local_history w host key) ++ (on_region op, region.reply (local_at w host key) call op) ∷ []
        of_key =
            ap (λ x. told_on call (replica k.size) (found_in x key)) at
            ∙ ap (told_on call (replica k.size)) (past_here found.objects key call op found.object found.object_so)
            ∙ ap (λ x. told_on call (replica k.size) (found_in x key ++ (call, op) ∷ [])) (sym found.objects_so)
            ∙ told_on_own (replica k.size) (local_at w host key) (local_history w host key) call op led

        here_so : told_at plan (on_local w host key call op) host call (Local key) ≡ told_at plan w host call (Local key) ++ (on_region op, region.reply (local_at w host key) call op) ∷ []
        here_so =
            ap (local_told (on_local w host key call op) call host key) here
            ∙ of_key
            ∙ ap (λ o. local_told w call host key o ++ (on_region op, region.reply (local_at w host key) call op) ∷ []) (sym here)

        apart_so : (o : Option Key) → (i == key) ≡ false → local_told (on_local w host key call op) call host i o ≡ local_told w call host i o
        apart_so None e = refl
        apart_so (Some x) e =
            ap (λ y. told_on call (replica x.size) (found_in y i)) at
            ∙ ap (told_on call (replica x.size)) (past_apart found.objects key i call op e)
            ∙ ap (λ y. told_on call (replica x.size) (found_in y i)) (sym found.objects_so)

        by : (b : Bool) → (i == key) ≡ b → told_at plan (on_local w host key call op) host call (Local i) ≡ told_at plan w host call (Local i) ++ on_channel (Local i) (entry (Local key) (on_region op) (region.reply (local_at w host key) call op) ∷ [])
        by true e =
            subst (λ n. told_at plan (on_local w host key call op) host call (Local n) ≡ told_at plan w host call (Local n) ++ on_channel (Local n) (entry (Local key) (on_region op) (region.reply (local_at w host key) call op) ∷ [])) (sym (eqb-true i key e))
            (here_so ∙ ap (λ b. told_at plan w host call (Local key) ++ cond b ((on_region op, region.reply (local_at w host key) call op) ∷ []) []) (sym (eq-eqb key key refl)))
        by false e =
            apart_so (slice_get plan.keys i) e
            ∙ sym (append-nil (told_at plan w host call (Local i)))
            ∙ ap (λ b. told_at plan w host call (Local i) ++ cond b ((on_region op, region.reply (local_at w host key) call op) ∷ []) []) (sym e)
    own found (Global i) = sym (append-nil (told_at plan w host call (Global i)))
    own found OnTable = sym (append-nil (told_at plan w host call OnTable))

pub left_global : (plan : Plan) (w : World) (call host key : ℕ) (k : Key) (op : RegionOperation) → RegionsOk plan w → RecordsOk w.table.records → slice_get plan.keys key ≡ Some k → InBytes k.size op
    → Left plan w call host (entry (Global key) (on_region op) (region.reply (global_at w key) call op) ∷ []) (on_global w key call op)
left_global plan w call host key k op ok records here fits =
    let found = global_found plan w key k ok here in
    record {
      regions = record {
        hosts = ok.hosts;
        locals = ok.locals;
        globals = are_changed (LedTo global_start global_long) plan.keys w.globals key (applied call op) ok.globals
            (λ x o at led. led_further global_start global_long x o call op (omega arith) (subst (λ y. InBytes y.size op) (some_same k x (sym here ∙ at)) fits) led);
        table = ok.table;
      };
      hosts = refl;
      records = records;
      own = own found;
      others = others;
      forward = forward_same w.table.records;
      backward = backward_same w.table.records;
      children = λ parent child o bs e. e;
      opens = λ c. refl;
    }
  where
    some_same : (a b : Key) → Some a ≡ Some b → a ≡ b
    some_same a b e = cc

    others : (maker h : ℕ) (ch : Channel) → (call == maker) ≡ false → told_at plan (on_global w key call op) h maker ch ≡ told_at plan w h maker ch
    others maker h (Local i) e = refl
    others maker h (Global i) e = by (slice_get plan.keys i)
      where
        by : (o : Option Key) → global_told (on_global w key call op) maker i o ≡ global_told w maker i o
        by None = refl
        by (Some x) = past_other (global_value x.size x.init) w.globals key i call maker op e
    others maker h OnTable e = refl

    own : GlobalFound plan w key k → (ch : Channel) → told_at plan (on_global w key call op) host call ch ≡ told_at plan w host call ch ++ on_channel ch (entry (Global key) (on_region op) (region.reply (global_at w key) call op) ∷ [])
    own found (Global i) = by (i == key) refl
      where
        region_so : global_at w key ≡ found.object.region
        region_so = global_region plan w key k found

        history_so : global_history w key ≡ found.object.history
        history_so = ap past found.object_so

        led : global_at w key ≡ left region_rules (global_value k.size k.init) (global_history w key)
        led = region_so ∙ found.led.0 ∙ sym (ap (λ h. left region_rules (global_value k.size k.init) h) history_so)

        of_key : told_on call (global_value k.size k.init) (global_history (on_global w key call op) key) ≡ told_on call (global_value k.size k.init) (global_history w key) ++ (on_region op, region.reply (global_at w key) call op) ∷ []
        of_key =
            ap (told_on call (global_value k.size k.init)) (past_here w.globals key call op found.object found.object_so)
            ∙ told_on_own (global_value k.size k.init) (global_at w key) (global_history w key) call op led

        here_so : told_at plan (on_global w key call op) host call (Global key) ≡ told_at plan w host call (Global key) ++ (on_region op, region.reply (global_at w key) call op) ∷ []
        here_so =
            ap (global_told (on_global w key call op) call key) here
            ∙ of_key
            ∙ ap (λ o. global_told w call key o ++ (on_region op, region.reply (global_at w key) call op) ∷ []) (sym here)

        apart_so : (o : Option Key) → (i == key) ≡ false → global_told (on_global w key call op) call i o ≡ global_told w call i o
        apart_so None e = refl
        apart_so (Some x) e = ap (told_on call (global_value x.size x.init)) (past_apart w.globals key i call op e)

        by : (b : Bool) → (i == key) ≡ b → told_at plan (on_global w key call op) host call (Global i) ≡ told_at plan w host call (Global i) ++ on_channel (Global i) (entry (Global key) (on_region op) (region.reply (global_at w key) call op) ∷ [])
        by true e =
            subst (λ n. told_at plan (on_global w key call op) host call (Global n) ≡ told_at plan w host call (Global n) ++ on_channel (Global n) (entry (Global key) (on_region op) (region.reply (global_at w key) call op) ∷ [])) (sym (eqb-true i key e))
            (here_so ∙ ap (λ b. told_at plan w host call (Global key) ++ cond b ((on_region op, region.reply (global_at w key) call op) ∷ []) []) (sym (eq-eqb key key refl)))
        by false e =
            apart_so (slice_get plan.keys i) e
            ∙ sym (append-nil (told_at plan w host call (Global i)))
            ∙ ap (λ b. told_at plan w host call (Global i) ++ cond b ((on_region op, region.reply (global_at w key) call op) ∷ []) []) (sym e)
    own found (Local i) = sym (append-nil (told_at plan w host call (Local i)))
    own found OnTable = sym (append-nil (told_at plan w host call OnTable))
