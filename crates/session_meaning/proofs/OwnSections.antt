-- No call of a world of a well-formed plan unlocks what it does not hold, so between a call's LockWrite and its Unlock no other
-- call's entry stands.
use Rattle.std.proofs.Common.{◌≡◌, ◌⊎◌, inl, inr, ℕ, List, [], ◌∷◌, ◌++◌, refl, sym, ap, ◌∙◌, subst, Option, Some, None, Bool, true, false, slice_get, eqb-true, map, fold}
use Rattle.std.specs.Prelude.{option_and_then, option_map, ◌==◌}
use Rattle.std.proofs.lemmas.Bool.{cases_eq, eqb-false}
use Rattle.faaslet_meaning.specs.declared.grant.Channel.{Channel}
use Rattle.faaslet_meaning.specs.declared.grant.Channel.TheVariants.{Local, Global, Table as OnTable}
use Rattle.faaslet_meaning.specs.declared.call.CallRecord.{CallRecord}
use Rattle.session_meaning.specs.declared.event.Event.{Event}
use Rattle.session_meaning.specs.declared.event.Event.TheVariants.{Take, Ask, End}
use Rattle.faaslet_meaning.specs.Channels.{RegionOperation, Operation, on_region, as_region, Reply, Question, ask, fills, pulls, pushes, Entry, entry, entries}
use Rattle.faaslet_meaning.specs.CallState.{State, runs, asks, over, lost, fresh_state}
use Rattle.faaslet_meaning.specs.Formed.{KeysDiffer}
use Rattle.faaslet_meaning.specs.Fresh.{Function}
use Rattle.faaslet_meaning.specs.Region as region
use Rattle.faaslet_meaning.specs.Region.{Region, replica, global_value, holds}
use Rattle.faaslet_meaning.specs.History.{History, Legal, left, region_rules}
use Rattle.faaslet_meaning.specs.Lists.{changed}
use Rattle.faaslet_meaning.specs.Runs.{invocation}
use Rattle.faaslet_meaning.specs.Sections.{is_unlock}
use Rattle.faaslet_meaning.specs.Asked.{IsNumbered}
use Rattle.faaslet_meaning.specs.Runnable.{Runnable}
use Rattle.faaslet_meaning.specs.Table.{TableOperation}
use Rattle.faaslet_meaning.specs.Valid.{Valid}
use Rattle.faaslet_meaning.proofs.CallFresh.{fresh_formed}
use Rattle.faaslet_meaning.proofs.CallParts.{formed_parts}
use Rattle.faaslet_meaning.proofs.Histories.{has_sections}
use Rattle.session_meaning.specs.Answered.{Answered, asked_on, told_of}
use Rattle.session_meaning.specs.Plan.{Key, Plan, Request}
use Rattle.session_meaning.specs.OpenCall.{Machine, stands, is_broken, Open, asking, Ended, ended}
use Rattle.session_meaning.specs.OwnSections.{HasOwnSections, UnlocksHeld}
use Rattle.session_meaning.specs.Keeping.{HistoriesLead}
use Rattle.session_meaning.specs.WellFormed.{WellFormed}
use Rattle.session_meaning.specs.World.{Object, unused, World, applied, on_local, on_global, on_table, entered, as_parent, start, requested, first_world}
use Rattle.session_meaning.specs.WorldTold.{local_history, global_history, told_at}
use Rattle.session_meaning.specs.Events.{answer, open_at, took, asked, asked_by, finished, finished_by, step, Stand, Worlds}
use Rattle.session_meaning.proofs.LockSteps.{is_freeing}
use Rattle.session_meaning.proofs.CallLocks.{keeps, unlocks_own, none_told}
use Rattle.session_meaning.proofs.CallsAlike.{Came, MachineOk, OpenOk, WorldOk}
use Rattle.session_meaning.proofs.CallsRan.{all_get, world_ok, worlds_more, none_at, none_past}
use Rattle.faaslet_meaning.specs.Goes.{Goes}
use Rattle.session_meaning.proofs.HeldLocks.{kept_held}
use Rattle.session_meaning.proofs.OneEntry.{past}
use Rattle.session_meaning.proofs.OwnHistory.{told_on}
use Rattle.session_meaning.proofs.WellFits.{calls_fit, modules_fit, invocations_fit}
use Rattle.session_meaning.proofs.WorldSections.{legal_at, legal_in}
use Rattle.session_meaning.proofs.Worlds.{histories_lead}
use Rattle.session_meaning.proofs.LegalEntries.{get_here, get_apart}

-- ---- Histories in which each Unlock finds a lock of its maker.

abbrev Held : Region → History RegionOperation → Type 0
Held s [] = Unit {0}
Held s (e ∷ es) = (is_unlock e.1 ≡ true → holds s e.0 ≡ true) × Held (region.after s e.0 e.1) es

held_push : (s : Region) (h : History RegionOperation) (m : ℕ) (op : RegionOperation) → Held s h → (is_unlock op ≡ true → holds (left region_rules s h) m ≡ true) → Held s (h ++ (m, op) ∷ [])
held_push s [] m op held now = (now, tt)
held_push s (e ∷ es) m op held now = (held.0, held_push (region.after s e.0 e.1) es m op held.1 now)

held_there : (s : Region) (before behind : History RegionOperation) (m : ℕ) (op : RegionOperation) → Held s (before ++ (m, op) ∷ behind) → is_unlock op ≡ true → holds (left region_rules s before) m ≡ true
held_there s [] behind m op held is = held.0 is
held_there s (e ∷ es) behind m op held is = held_there (region.after s e.0 e.1) es behind m op held.1 is

append_in : (before between behind : History RegionOperation) (x y : ℕ × RegionOperation) → before ++ x ∷ (between ++ y ∷ behind) ≡ (before ++ x ∷ between) ++ y ∷ behind
append_in [] between behind x y = refl
append_in (e ∷ before) between behind x y = ap (λ l. e ∷ l) (append_in before between behind x y)

pub sections_of : (s : Region) (h : History RegionOperation) → Legal region_rules s h → UnlocksHeld s h → HasOwnSections h
sections_of s h legal held maker other op before between behind same free = by (cases_eq other maker)
  where
    by : (other ≡ maker) ⊎ (other ≡ maker → ⊥) → other ≡ maker
    by (inl e) = e
    by (inr apart) =
        let idle = has_sections s h legal maker other op before between behind same free apart in
        let whole = same ∙ append_in before between behind (maker, RegionOperation.lock_write) (other, op) in
        let here = held other (before ++ (maker, RegionOperation.lock_write) ∷ between) behind (whole ∙ ap (λ o. (before ++ (maker, RegionOperation.lock_write) ∷ between) ++ (other, o) ∷ behind) idle.0) in
        let none = idle.1 in
        let no : ⊥ = cc in absurd no

-- ---- Of a world: so of each history.

abbrev HeldIn : Plan → World → Type 0
HeldIn plan w =
    (key : ℕ) (k : Key) → slice_get plan.keys key ≡ Some k
    → ((host : ℕ) → Held (replica k.size) (local_history w host key)) × Held (global_value k.size k.init) (global_history w key)

-- An entry is one more of the history of its object, and of no other.
past_more : (os : List Object) (key i call : ℕ) (op : RegionOperation) → (past (slice_get (changed os key (applied call op)) i) ≡ past (slice_get os i)) ⊎ ((i ≡ key) × (past (slice_get (changed os key (applied call op)) i) ≡ past (slice_get os i) ++ (call, op) ∷ []))
past_more os key i call op = by (i == key) refl
  where
    at : (o : Option Object) → slice_get os key ≡ o → (past (slice_get (changed os key (applied call op)) key) ≡ past (slice_get os key)) ⊎ ((key ≡ key) × (past (slice_get (changed os key (applied call op)) key) ≡ past (slice_get os key) ++ (call, op) ∷ []))
    at None e = inl (ap past (get_here os key (applied call op)) ∙ ap (λ x. past (option_map (applied call op) x)) e ∙ sym (ap past e))
    at (Some o) e = inr (refl, ap past (get_here os key (applied call op)) ∙ ap (λ x. past (option_map (applied call op) x)) e ∙ sym (ap (λ x. past x ++ (call, op) ∷ []) e))

    by : (b : Bool) → (i == key) ≡ b → (past (slice_get (changed os key (applied call op)) i) ≡ past (slice_get os i)) ⊎ ((i ≡ key) × (past (slice_get (changed os key (applied call op)) i) ≡ past (slice_get os i) ++ (call, op) ∷ []))
    by true e = subst (λ n. (past (slice_get (changed os key (applied call op)) n) ≡ past (slice_get os n)) ⊎ ((n ≡ key) × (past (slice_get (changed os key (applied call op)) n) ≡ past (slice_get os n) ++ (call, op) ∷ []))) (sym (eqb-true i key e)) (at (slice_get os key) refl)
    by false e = inl (ap past (get_apart os key i (applied call op) (eqb-false i key e)))

local_more : (w : World) (host key h i call : ℕ) (op : RegionOperation) → (local_history (on_local w host key call op) h i ≡ local_history w h i) ⊎ ((h ≡ host) × (i ≡ key) × (local_history (on_local w host key call op) h i ≡ local_history w h i ++ (call, op) ∷ []))
local_more w host key h i call op = by (h == host) refl
  where
    change : List Object → List Object
    change os = changed os key (applied call op)

    past_in : Option (List Object) → History RegionOperation
    past_in os = past (option_and_then (λ objects. slice_get objects i) os)

    at : (o : Option (List Object)) → slice_get w.locals host ≡ o → (past_in (slice_get (changed w.locals host change) host) ≡ past_in (slice_get w.locals host)) ⊎ ((host ≡ host) × (i ≡ key) × (past_in (slice_get (changed w.locals host change) host) ≡ past_in (slice_get w.locals host) ++ (call, op) ∷ []))
    at None e = inl (ap past_in (get_here w.locals host change) ∙ ap (λ x. past_in (option_map change x)) e ∙ sym (ap past_in e))
    at (Some os) e = with (past_more os key i call op)
      where
        with : (past (slice_get (changed os key (applied call op)) i) ≡ past (slice_get os i)) ⊎ ((i ≡ key) × (past (slice_get (changed os key (applied call op)) i) ≡ past (slice_get os i) ++ (call, op) ∷ [])) → (past_in (slice_get (changed w.locals host change) host) ≡ past_in (slice_get w.locals host)) ⊎ ((host ≡ host) × (i ≡ key) × (past_in (slice_get (changed w.locals host change) host) ≡ past_in (slice_get w.locals host) ++ (call, op) ∷ []))
        with (inl x) = inl (ap past_in (get_here w.locals host change) ∙ ap (λ x. past_in (option_map change x)) e ∙ x ∙ sym (ap past_in e))
        with (inr x) = inr (refl, x.0, ap past_in (get_here w.locals host change) ∙ ap (λ x. past_in (option_map change x)) e ∙ x.1 ∙ sym (ap (λ x. past_in x ++ (call, op) ∷ []) e))

    by : (b : Bool) → (h == host) ≡ b → (past_in (slice_get (changed w.locals host change) h) ≡ past_in (slice_get w.locals h)) ⊎ ((h ≡ host) × (i ≡ key) × (past_in (slice_get (changed w.locals host change) h) ≡ past_in (slice_get w.locals h) ++ (call, op) ∷ []))
    by true e = subst (λ n. (past_in (slice_get (changed w.locals host change) n) ≡ past_in (slice_get w.locals n)) ⊎ ((n ≡ host) × (i ≡ key) × (past_in (slice_get (changed w.locals host change) n) ≡ past_in (slice_get w.locals n) ++ (call, op) ∷ []))) (sym (eqb-true h host e)) (at (slice_get w.locals host) refl)
    by false e = inl (ap past_in (get_apart w.locals host h change (eqb-false h host e)))

-- what is asked of an entry: where it unlocks, its call holds a lock there
abbrev May : Plan → World → ℕ → ℕ → Channel → RegionOperation → Type 0
May plan w call host (Local key) op = (k : Key) → slice_get plan.keys key ≡ Some k → is_unlock op ≡ true → holds (left region_rules (replica k.size) (local_history w host key)) call ≡ true
May plan w call host (Global key) op = (k : Key) → slice_get plan.keys key ≡ Some k → is_unlock op ≡ true → holds (left region_rules (global_value k.size k.init) (global_history w key)) call ≡ true
May plan w call host OnTable op = Unit {0}

local_held : (plan : Plan) (w : World) (call host key : ℕ) (op : RegionOperation) → HeldIn plan w → May plan w call host (Local key) op → HeldIn plan (on_local w host key call op)
local_held plan w call host key op held now i k at = (λ h. by h (local_more w host key h i call op), (held i k at).1)
  where
    by : (h : ℕ) → (local_history (on_local w host key call op) h i ≡ local_history w h i) ⊎ ((h ≡ host) × (i ≡ key) × (local_history (on_local w host key call op) h i ≡ local_history w h i ++ (call, op) ∷ [])) → Held (replica k.size) (local_history (on_local w host key call op) h i)
    by h (inl e) = subst (Held (replica k.size)) (sym e) ((held i k at).0 h)
    by h (inr e) =
        subst (Held (replica k.size)) (sym e.2)
        (held_push (replica k.size) (local_history w h i) call op ((held i k at).0 h)
        (λ is. subst (λ n. holds (left region_rules (replica k.size) (local_history w n i)) call ≡ true) (sym e.0) (subst (λ n. holds (left region_rules (replica k.size) (local_history w host n)) call ≡ true) (sym e.1) (now k (subst (λ n. slice_get plan.keys n ≡ Some k) e.1 at) is))))

global_held : (plan : Plan) (w : World) (call host key : ℕ) (op : RegionOperation) → HeldIn plan w → May plan w call host (Global key) op → HeldIn plan (on_global w key call op)
global_held plan w call host key op held now i k at = ((held i k at).0, by (past_more w.globals key i call op))
  where
    by : (past (slice_get (changed w.globals key (applied call op)) i) ≡ past (slice_get w.globals i)) ⊎ ((i ≡ key) × (past (slice_get (changed w.globals key (applied call op)) i) ≡ past (slice_get w.globals i) ++ (call, op) ∷ [])) → Held (global_value k.size k.init) (past (slice_get (changed w.globals key (applied call op)) i))
    by (inl e) = subst (Held (global_value k.size k.init)) (sym e) (held i k at).1
    by (inr e) =
        subst (Held (global_value k.size k.init)) (sym e.1)
        (held_push (global_value k.size k.init) (global_history w i) call op (held i k at).1
        (λ is. subst (λ n. holds (left region_rules (global_value k.size k.init) (global_history w n)) call ≡ true) (sym e.0) (now k (subst (λ n. slice_get plan.keys n ≡ Some k) e.0 at) is)))

-- an entry that is on a region as `May` says, or on the table
abbrev MayEnter : Plan → World → ℕ → ℕ → Entry → Type 0
MayEnter plan w call host e = (op : RegionOperation) → as_region e.operation ≡ Some op → May plan w call host e.channel op

entered_held : (plan : Plan) (w : World) (call host : ℕ) (ch : Channel) (op : Operation) (r : Reply) → HeldIn plan w → MayEnter plan w call host (entry ch op r) → HeldIn plan (entered call host w (entry ch op r))
entered_held plan w call host (Local key) op r held may = by (as_region op) refl
  where
    by : (o : Option RegionOperation) → as_region op ≡ o → HeldIn plan (elim o as (λ o. World) [ None ↦ w | Some x ↦ on_local w host key call x ])
    by None e = held
    by (Some x) e = local_held plan w call host key x held (may x e)
entered_held plan w call host (Global key) op r held may = by (as_region op) refl
  where
    by : (o : Option RegionOperation) → as_region op ≡ o → HeldIn plan (elim o as (λ o. World) [ None ↦ w | Some x ↦ on_global w key call x ])
    by None e = held
    by (Some x) e = global_held plan w call host key x held (may x e)
entered_held plan w call host OnTable op r held may = by (as_parent call op)
  where
    by : (o : Option TableOperation) → HeldIn plan (elim o as (λ o. World) [ None ↦ w | Some x ↦ on_table w call x ])
    by None = held
    by (Some x) = held

-- ---- The entries of a question.

abbrev Quiet : List Entry → Type 0
Quiet [] = Unit {0}
Quiet (e ∷ es) = ((op : RegionOperation) → as_region e.operation ≡ Some op → is_unlock op ≡ false) × Quiet es

quiet_may : (plan : Plan) (w : World) (call host : ℕ) (ch : Channel) (op : RegionOperation) → is_unlock op ≡ false → May plan w call host ch op
quiet_may plan w call host (Local key) op e = λ k at is. let no : ⊥ = cc in absurd no
quiet_may plan w call host (Global key) op e = λ k at is. let no : ⊥ = cc in absurd no
quiet_may plan w call host OnTable op e = tt

all_entered : (plan : Plan) (w : World) (call host : ℕ) (es : List Entry) → HeldIn plan w → Quiet es → HeldIn plan (fold (entered call host) w es)
all_entered plan w call host [] held quiet = held
all_entered plan w call host (e ∷ es) held quiet =
    all_entered plan (entered call host w e) call host es (entered_held plan w call host e.channel e.operation e.reply held (λ op is. quiet_may plan w call host e.channel op (quiet.0 op is))) quiet.1

region_is : (op x : RegionOperation) → Some op ≡ Some x → x ≡ op
region_is op x e = cc

one_quiet : (op x : RegionOperation) → is_unlock op ≡ false → Some op ≡ Some x → is_unlock x ≡ false
one_quiet op x f e = ap is_unlock (region_is op x e) ∙ f

quiet_ask : (ch : Channel) (op : Operation) → is_freeing (ask ch op) ≡ false → (x : RegionOperation) → as_region op ≡ Some x → is_unlock x ≡ false
quiet_ask ch (on_region RegionOperation.unlock) f x e = let no : ⊥ = cc in absurd no
quiet_ask ch (on_region op) f x e = one_quiet op x refl e
quiet_ask ch op f x e = let no : ⊥ = cc in absurd no

quiet_entries : (q : Question) (r : Reply) → is_freeing q ≡ false → Quiet (entries q r)
quiet_entries q Reply.want f = tt
quiet_entries (ask ch op) r f = (quiet_ask ch op f, tt)
quiet_entries (fills key n) (Reply.bytes bs) f = (λ x e. one_quiet (RegionOperation.send 0 n) x refl e, ((λ x e. one_quiet (RegionOperation.fill bs) x refl e), tt))
quiet_entries (pulls key off len) (Reply.bytes bs) f = (λ x e. one_quiet (RegionOperation.send off len) x refl e, ((λ x e. one_quiet (RegionOperation.take off bs) x refl e), tt))
quiet_entries (pushes key off len) (Reply.bytes bs) f = (λ x e. one_quiet (RegionOperation.send off len) x refl e, ((λ x e. one_quiet (RegionOperation.put off bs) x refl e), tt))
quiet_entries q r f = tt

unlock_entered : (plan : Plan) (w : World) (call host : ℕ) (ch : Channel) (r : Reply) → HeldIn plan w → May plan w call host ch RegionOperation.unlock → HeldIn plan (fold (entered call host) w (entries (ask ch (on_region RegionOperation.unlock)) r))
unlock_entered plan w call host ch Reply.want held may = held
unlock_entered plan w call host ch r held may = entered_held plan w call host ch (on_region RegionOperation.unlock) r held (λ op e. subst (May plan w call host ch) (sym (region_is RegionOperation.unlock op e)) may)

question_held : (plan : Plan) (w : World) (call host : ℕ) (q : Question) (r : Reply) → HeldIn plan w → ((ch : Channel) → q ≡ ask ch (on_region RegionOperation.unlock) → May plan w call host ch RegionOperation.unlock) → HeldIn plan (fold (entered call host) w (entries q r))
question_held plan w call host (ask ch (on_region RegionOperation.unlock)) r held may = unlock_entered plan w call host ch r held (may ch refl)
question_held plan w call host q r held may = all_entered plan w call host (entries q r) held (quiet_entries q r refl)

-- ---- A call that unlocks holds the lock.

holds_there : (plan : Plan) (w : World) (call host : ℕ) (ch : Channel) → HistoriesLead plan w → keeps false (told_at plan w host call ch) ≡ true → May plan w call host ch RegionOperation.unlock
holds_there plan w call host (Local key) lead kept = λ k at is.
    let told : told_at plan w host call (Local key) ≡ told_on call (replica k.size) (local_history w host key) = ap (λ o. told_of (elim o as (λ o. List Answered) [ None ↦ [] | Some k ↦ asked_on call (replica k.size) (local_history w host key) ])) at in
    kept_held call (replica k.size) (local_history w host key) false (legal_in (λ k. replica k.size) plan.keys w.locals host key k lead.locals at) (λ e. let no : ⊥ = cc in absurd no) (ap (keeps false) (sym told) ∙ kept)
holds_there plan w call host (Global key) lead kept = λ k at is.
    let told : told_at plan w host call (Global key) ≡ told_on call (global_value k.size k.init) (global_history w key) = ap (λ o. told_of (elim o as (λ o. List Answered) [ None ↦ [] | Some k ↦ asked_on call (global_value k.size k.init) (global_history w key) ])) at in
    kept_held call (global_value k.size k.init) (global_history w key) false (legal_at (λ k. global_value k.size k.init) plan.keys w.globals key k lead.globals at) (λ e. let no : ⊥ = cc in absurd no) (ap (keeps false) (sym told) ∙ kept)
holds_there plan w call host OnTable lead kept = tt

may_unlock : (plan : Plan) (w : World) (call host : ℕ) (f : Function) (input : List ℕ) (records : List CallRecord) (children : ℕ) (s : State) (q : Question) → Valid f.code → KeysDiffer (invocation f input) → HistoriesLead plan w → Came f input (told_at plan w host call) records call children (asks s q) → (ch : Channel) → q ≡ ask ch (on_region RegionOperation.unlock) → May plan w call host ch RegionOperation.unlock
may_unlock plan w call host f input records children s q valid differ lead came ch is =
    let j = invocation f input in
    let fits = formed_parts j (fresh_state came.config) (fresh_formed f input came.config valid came.made_so) in
    let way = subst (λ x. Goes j (runs (fresh_state came.config)) came.transcript (asks s x)) is came.goes in
    holds_there plan w call host ch lead (ap (keeps false) (came.told_so ch) ∙ unlocks_own j (runs (fresh_state came.config)) s ch came.transcript differ fits (none_told j) way)

-- ---- Each event.

ask_held : (plan : Plan) (w : World) (call : ℕ) (o : Open) → WellFormed plan → HistoriesLead plan w → OpenOk plan w call o → HeldIn plan w → HeldIn plan (asked_by w call o)
ask_held plan w call o fine lead h held = by o.machine h.machine
  where
    by : (m : Machine) → MachineOk h.function.function h.r.input (told_at plan w o.host call) w.table.records call h.r.children m → HeldIn plan (elim (asking m) as (λ a. World) [ None ↦ w | Some a ↦ asked w call o a.0 a.1 ])
    by (stands (asks s q)) came =
        let valid = (all_get (λ f. Valid f.function.code × Runnable f.function.code) plan.functions h.r.function h.function (modules_fit plan fine) h.function_so).0 in
        let differ = (all_get (λ f. (input : List ℕ) → KeysDiffer (invocation f.function input) × IsNumbered (invocation f.function input)) plan.functions h.r.function h.function (invocations_fit plan fine) h.function_so h.r.input).0 in
        question_held plan w call o.host q (answer w call o.host q) held (may_unlock plan w call o.host h.function.function h.r.input w.table.records h.r.children s q valid differ lead came)
    by (stands (runs s)) came = held
    by (stands (over s x)) came = held
    by (stands lost) came = held
    by (is_broken k) came = held

step_held : (plan : Plan) (w : World) (e : Event) → WellFormed plan → HistoriesLead plan w → WorldOk plan w → HeldIn plan w → HeldIn plan (step plan w e)
step_held plan w (Take call host) fine lead ok held = by (slice_get w.table.records call)
  where
    by : (r : Option CallRecord) → HeldIn plan (elim r as (λ r. World) [ None ↦ w | Some r ↦ took plan w call host r ])
    by None = held
    by (Some r) = held
step_held plan w (Ask call) fine lead ok held = by (open_at w call) refl
  where
    by : (o : Option Open) → open_at w call ≡ o → HeldIn plan (elim o as (λ o. World) [ None ↦ w | Some o ↦ asked_by w call o ])
    by None at = held
    by (Some o) at = ask_held plan w call o fine lead ((ok.calls call).opens o at) held
step_held plan w (End call) fine lead ok held = by (open_at w call)
  where
    at : (o : Open) (e : Option Ended) → HeldIn plan (elim e as (λ e. World) [ None ↦ w | Some e ↦ finished w call o e ])
    at o None = held
    at o (Some e) = held

    by : (o : Option Open) → HeldIn plan (elim o as (λ o. World) [ None ↦ w | Some o ↦ finished_by w call o ])
    by None = held
    by (Some o) = at o (ended o)

all_held : (plan : Plan) (before : List Event) (w : World) (es : List Event) → WellFormed plan → Worlds plan before w → HeldIn plan w → Stand plan w es → HeldIn plan (fold (step plan) w es)
all_held plan before w [] fine made held stand = held
all_held plan before w (e ∷ es) fine made held stand =
    all_held plan (before ++ e ∷ []) (step plan w e) es fine (worlds_more plan before w e made stand.0)
    (step_held plan w e fine (histories_lead plan before w made) (world_ok plan before w (calls_fit plan fine) made) held) stand.1

requests_held : (plan : Plan) (w : World) (rs : List Request) → HeldIn plan w → HeldIn plan (fold requested w rs)
requests_held plan w [] held = held
requests_held plan w (r ∷ rs) held = requests_held plan (requested w r) rs held

start_held : (plan : Plan) → HeldIn plan (start plan)
start_held plan key k at = (
  λ h. subst (Held (replica k.size)) (sym (none_at (map (λ k. unused (replica k.size)) plan.keys) key plan.hosts h (none_past (λ k. replica k.size) plan.keys key))) tt,
  subst (Held (global_value k.size k.init)) (sym (none_past (λ k. global_value k.size k.init) plan.keys key)) tt,
)

-- ---- The laws.

all_in : (plan : Plan) (events : List Event) (w : World) → WellFormed plan → Worlds plan events w → HeldIn plan w
all_in plan events w fine made = subst (HeldIn plan) (sym made.world_so) (all_held plan [] (first_world plan) events fine (record { stand = tt; world_so = refl }) (requests_held plan (start plan) plan.requests (start_held plan)) made.stand)

finds_lock : (s : Region) (h : History RegionOperation) → Held s h → UnlocksHeld s h
finds_lock s h held maker before behind same = held_there s before behind maker RegionOperation.unlock (subst (Held s) same held) refl

pub unlocks_held : (plan : Plan) (events : List Event) (w : World) → WellFormed plan → Worlds plan events w → (host key : ℕ) (k : Key) → slice_get plan.keys key ≡ Some k → UnlocksHeld (replica k.size) (local_history w host key) × UnlocksHeld (global_value k.size k.init) (global_history w key)
unlocks_held plan events w fine made host key k at =
    let here = all_in plan events w fine made key k at in
    (finds_lock (replica k.size) (local_history w host key) (here.0 host), finds_lock (global_value k.size k.init) (global_history w key) here.1)

pub have_own_sections : (plan : Plan) (events : List Event) (w : World) → WellFormed plan → Worlds plan events w → (host key : ℕ) (k : Key) → slice_get plan.keys key ≡ Some k → HasOwnSections (local_history w host key) × HasOwnSections (global_history w key)
have_own_sections plan events w fine made host key k at =
    let lead = histories_lead plan events w made in
    let here = all_in plan events w fine made key k at in (
      sections_of (replica k.size) (local_history w host key) (legal_in (λ k. replica k.size) plan.keys w.locals host key k lead.locals at) (finds_lock (replica k.size) (local_history w host key) (here.0 host)),
      sections_of (global_value k.size k.init) (global_history w key) (legal_at (λ k. global_value k.size k.init) plan.keys w.globals key k lead.globals at) (finds_lock (global_value k.size k.init) (global_history w key) here.1),
    )
