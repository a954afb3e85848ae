-- The world of a plan while its requests are submitted, one after another.
use Rattle.std.proofs.Common.{◌≡◌, ℕ, zero, suc, ◌+◌, ◌-◌, ◌*◌, ◌<◌, ◌≤◌, false, List, [], ◌∷◌, ◌++◌, Option, Some, None, refl, sym, ap, ap₂, ◌∙◌, subst, length, map, take, slice_get, get_or, option_map, replicate, fold, arith}
use Rattle.std.specs.Prelude.{All, IfSome}
use Rattle.std.specs.Option.{option_map_or}
use Rattle.std.specs.List.{list_any}
use Rattle.std.proofs.lemmas.List.{length-append, length-map}
use Rattle.std.proofs.lemmas.List.Elements.{All-append}
use Rattle.std.proofs.lemmas.Option.{slice_get-get_or}
use Rattle.faaslet_meaning.specs.declared.call.Callable.{Callable}
use Rattle.faaslet_meaning.specs.declared.grant.Grant.{Grant}
use Rattle.faaslet_meaning.specs.Channels.{Reply, channels}
use Rattle.faaslet_meaning.specs.Records.{queued_calls}
use Rattle.faaslet_meaning.specs.Table as table
use Rattle.faaslet_meaning.specs.Table.{Table, empty_table, queued_record}
use Rattle.call_table.specs.Made.{Made}
use Rattle.call_table.specs.Session.{SessionTable, empty_session}
use Rattle.grant_registry.specs.Shows.{ShowsFunction, ShowsRequest}
use Rattle.grant_registry.specs.declared.shown.FunctionPlan.{FunctionPlan}
use Rattle.grant_registry.specs.declared.shown.RequestPlan.{RequestPlan}
use Rattle.session_meaning.specs.Draft.{Draft, draft_of, drafted}
use Rattle.session_meaning.specs.OpenCall.{Open}
use Rattle.session_meaning.specs.Plan.{NamedFunction, Plan, Request, callable_of, callables}
use Rattle.session_meaning.specs.Registry as registry
use Rattle.session_meaning.specs.Schedule.{is_awaited, looks_at, open_calls}
use Rattle.session_meaning.specs.Events.{Stand, world}
use Rattle.session_meaning.specs.WellFormed.{FunctionFits, KeepsLimits, KeyFits, RequestFits, WellFormed}
use Rattle.session_meaning.proofs.Kept.{get_map}
use Rattle.session_meaning.proofs.CallsRan.{all_get}
use Rattle.session_meaning.specs.World.{World, filled, first_world, requested, start}
use Rattle.world_objects.specs.Kept.{Objects, objects_of}
use Rattle.world_objects.specs.Served.{start_of, started, told_of}
use Rattle.world_objects.specs.declared.objects.KeyStart.{KeyStart}
use Rattle.world_objects.proofs.Worlds.{starts}
use Rattle.world_core.specs.Floor.{StandsSo}
use Rattle.world_core.specs.Living.{KeepsWorld, Lives, world_of}
use Rattle.world_core.specs.Played.{Plays}
use Rattle.world_core.specs.Seating.{KeepsOpen}
use Rattle.world_core.specs.Starting.{Requested, callable_in, requested_world}
use Rattle.world_core.specs.declared.floor.Floor.{Floor}
use Rattle.world_core.specs.declared.floor.Waiting.{Waiting}
use Rattle.world_core.specs.declared.running.Running.{Running}
use Rattle.world_core.proofs.Moves.{one_more_queued, open_as_before}

-- ---- Lists that grow with what is gone over.

take_more : {A : Type 0} (xs : List A) (n : ℕ) (x : A) → slice_get xs n ≡ Some x → take (n + 1) xs ≡ take n xs ++ x ∷ []
take_more [] n x e = let no : ⊥ = cc in absurd no
take_more (y ∷ xs) zero x e = let same : y ≡ x = cc in ap (λ z. z ∷ []) same
take_more {A} (y ∷ xs) (suc n) x e = let same : suc n + 1 ≡ suc (n + 1) = omega arith in ap (λ m. take m (y ∷ xs)) same ∙ ap (λ l. y ∷ l) (take_more xs n x e)

map_both : {A B : Type 0} (f : A → B) (xs ys : List A) → map f (xs ++ ys) ≡ map f xs ++ map f ys
map_both f [] ys = refl
map_both f (x ∷ xs) ys = ap (λ l. f x ∷ l) (map_both f xs ys)

-- both lists are seen through a function
pub one_more : {A B C : Type 0} (f : A → C) (g : B → C) (xs : List A) (n : ℕ) (x : A) (ys : List B) (y : B) → slice_get xs n ≡ Some x → g y ≡ f x → map g ys ≡ map f (take n xs) → map g (ys ++ y ∷ []) ≡ map f (take (n + 1) xs)
one_more f g xs n x ys y at same h =
    map_both g ys (y ∷ [])
    ∙ ap₂ (λ a b. a ++ b ∷ []) h same
    ∙ sym (map_both f (take n xs) (x ∷ []))
    ∙ ap (map f) (sym (take_more xs n x at))

pub there : {A : Type 0} (xs : List A) (n : ℕ) → n < length xs → (x : A) × (slice_get xs n ≡ Some x)
there [] n h = let bad : ⊥ = omega (arith, h) in absurd bad
there (x ∷ xs) zero h = (x, refl)
there (x ∷ xs) (suc n) h = there xs n (omega (arith, h))

pub one_seen : {A B C : Type 0} (f : A → C) (g : B → C) (xs : List A) (n : ℕ) (ys : List B) (y : B) → n < length xs → IfSome (slice_get xs n) (λ x. g y ≡ f x) → map g ys ≡ map f (take n xs) → map g (ys ++ y ∷ []) ≡ map f (take (n + 1) xs)
one_seen f g xs n ys y l so h =
    let x = there xs n l in
    one_more f g xs n x.0 ys y x.1 (subst (λ o. IfSome o (λ x. g y ≡ f x)) x.1 so) h

map_self : {A : Type 0} (xs : List A) → map (λ x. x) xs ≡ xs
map_self [] = refl
map_self (x ∷ xs) = ap (λ l. x ∷ l) (map_self xs)

pub one_here : {A B : Type 0} (f : A → B) (xs : List A) (n : ℕ) (ys : List B) (y : B) → n < length xs → IfSome (slice_get xs n) (λ x. y ≡ f x) → ys ≡ map f (take n xs) → ys ++ y ∷ [] ≡ map f (take (n + 1) xs)
one_here f xs n ys y l so h = sym (map_self (ys ++ y ∷ [])) ∙ one_seen f (λ y. y) xs n ys y l so (map_self ys ∙ h)

pub channels_long : (gs : List Grant) → length (channels gs) ≡ 2 * length gs + 1
channels_long [] = refl
channels_long (g ∷ gs) = let h = channels_long gs in let e : suc (suc (length (channels gs))) ≡ 2 * suc (length gs) + 1 = omega (arith, h) in e

pub callables_so : (fs : List NamedFunction) → map callable_in (map drafted fs) ≡ map callable_of fs
callables_so [] = refl
callables_so (f ∷ fs) = ap (λ l. callable_of f ∷ l) (callables_so fs)

-- what is told of a function, with the number of its channels
pub callable_so : (d : Draft) (f : ℕ) (p : FunctionPlan) (grants : List Grant) (n : ℕ) → f < length d.functions → IfSome (slice_get d.functions f) (λ g. ShowsFunction g p) → grants ≡ registry.grants_of d f → n ≡ 2 * length grants + 1 → IfSome (slice_get d.functions f) (λ g. ◌≡◌ {A = Callable} (record { fuel = p.fuel; room = p.room; channels = n }) (callable_in g))
callable_so d f p grants n l shown is e =
    let x = there d.functions f l in
    let g = x.0 in
    let shows : ShowsFunction g p = subst (λ o. IfSome o (λ g. ShowsFunction g p)) x.1 shown in
    let same : grants ≡ g.grants = is ∙ ap (λ o. option_map_or (λ g. g.grants) o []) x.1 in
    let long : n ≡ length (channels g.grants) = e ∙ ap (λ gs. 2 * length gs + 1) same ∙ sym (channels_long g.grants) in
    subst (λ o. IfSome o (λ g. ◌≡◌ {A = Callable} (record { fuel = p.fuel; room = p.room; channels = n }) (callable_in g))) (sym x.1)
    (ap (λ k. record { fuel = p.fuel; room = p.room; channels = k }) long ∙ ap₂ (λ a b. record { fuel = a; room = b; channels = length (channels g.grants) }) shows.fuel shows.room)

-- ---- Requests leave the objects, and open nothing.

objects_stay : (w : World) (rs : List Request) → objects_of (fold requested w rs) ≡ objects_of w
objects_stay w [] = refl
objects_stay w (r ∷ rs) = objects_stay (requested w r) rs

pub first_objects : (plan : Plan) (o : Objects) → o ≡ objects_of (first_world plan) → o ≡ objects_of (start plan)
first_objects plan o e = e ∙ objects_stay (start plan) plan.requests

fold_more : (w : World) (rs : List Request) (r : Request) → fold requested w (rs ++ r ∷ []) ≡ requested (fold requested w rs) r
fold_more w [] r = refl
fold_more w (x ∷ rs) r = fold_more (requested w x) rs r

pub world_more : (plan : Plan) (n : ℕ) (r : Request) → slice_get plan.requests n ≡ Some r → requested_world plan (n + 1) ≡ requested (requested_world plan n) r
world_more plan n r at = ap (fold requested (start plan)) (take_more plan.requests n r at) ∙ fold_more (start plan) (take n plan.requests) r

length_nothing : (n : ℕ) → length (replicate n (let none : Option Open = None in none)) ≡ n
length_nothing zero = refl
length_nothing (suc n) = ap suc (length_nothing n)

filled_long : (n : ℕ) (cs : List (Option Open)) → length cs ≤ n → length (filled n cs) ≡ n
filled_long n cs l = let a = length-append cs (replicate (n - length cs) None) in let b = length_nothing (n - length cs) in omega (arith, a, b, l)

none_looks : (w : World) (call : ℕ) → open_calls w ≡ [] → is_awaited w call ≡ false
none_looks w call e = ap (list_any (λ other. looks_at w other call)) e

table_stays : (w : World) (rs : List Request) → ((fold requested w rs).table.hosts ≡ w.table.hosts) × ((fold requested w rs).table.functions ≡ w.table.functions)
table_stays w [] = (refl, refl)
table_stays w (r ∷ rs) = table_stays (requested w r) rs

requested_opens : (plan : Plan) (n : ℕ) → ((requested_world plan n).table.hosts ≡ plan.hosts) × (length (requested_world plan n).table.functions ≡ length (callables plan))
requested_opens plan n = let t = table_stays (start plan) (take n plan.requests) in (t.0, ap length t.1)

-- ---- One more request.

module _ (plan : Plan) (n : ℕ) (c : Running) (so : Requested plan n c) (r : Request) (at : slice_get plan.requests n ≡ Some r) (t : SessionTable) (f : Floor) (call : ℕ)
    (made : Made c.table (table.submit_request r.function r.host r.input) t (Reply.number call))
    (hosts : f.hosts ≡ c.floor.hosts) (workers : f.workers ≡ c.floor.workers) (open_so : f.open.items ≡ c.floor.open.items) (queued : f.queued.items ≡ c.floor.queued.items ++ record { call = call; awaited = false } ∷ []) where
  abbrev w : World
  w = requested_world plan n

  is_table : t.table ≡ (requested w r).table
  is_table = made.did.after_so (length w.table.records) ∙ ap (λ (t : Table). table.after t (length w.table.records) (table.submit_request r.function r.host r.input)) so.keeps.table

  is_call : call ≡ length w.table.records
  is_call = let e : Reply.number call ≡ Reply.number (length c.table.table.records) = made.did.reply_so 0 in let same : call ≡ length c.table.table.records = cc in same ∙ ap (λ (t : Table). length t.records) so.keeps.table

  nothing_open : open_calls w ≡ []
  nothing_open = sym so.keeps.floor.open_so ∙ ap (map (λ x. x.call)) so.none_open

  still_nothing : open_calls (requested w r) ≡ []
  still_nothing = open_as_before (length (requested w r).table.records) w.calls ∙ nothing_open

  none_awaited : All (λ (q : Waiting). q.awaited ≡ false) f.queued.items
  none_awaited = subst (All (λ (q : Waiting). q.awaited ≡ false)) (sym queued) (All-append (λ (q : Waiting). q.awaited ≡ false) c.floor.queued.items (record { call = call; awaited = false } ∷ []) so.none_awaited one)
    where
      one : All (λ (q : Waiting). q.awaited ≡ false) (record { call = call; awaited = false } ∷ [])
      one zero d h = refl
      one (suc k) d h = let no : ⊥ = omega (arith, h) in absurd no

  queued_so : map (λ (q : Waiting). q.call) f.queued.items ≡ queued_calls (requested w r).table.records
  queued_so =
      ap (map (λ (q : Waiting). q.call)) queued
      ∙ map_both (λ (q : Waiting). q.call) c.floor.queued.items (record { call = call; awaited = false } ∷ [])
      ∙ ap₂ (λ a b. a ++ b ∷ []) so.keeps.floor.queued is_call
      ∙ sym (one_more_queued w.table.records (queued_record w.table r.function r.host r.input) refl)

  pub requested_more : Requested plan (n + 1) (record c { table = t; floor = f })
  requested_more =
      let next = world_more plan n r at in
      let few = so.keeps.floor.calls in
      let long = length-append w.table.records (queued_record w.table r.function r.host r.input ∷ []) in
      record {
        protos = so.protos;
        formed = so.formed;
        events = so.events;
        keeps = subst (λ v. KeepsWorld plan v (record c { table = t; floor = f })) (sym next) (record {
          table = is_table;
          objects = so.keeps.objects;
          floor = record {
            hosts = hosts ∙ so.keeps.floor.hosts;
            workers = workers ∙ so.keeps.floor.workers;
            queued = queued_so;
            awaited = λ k d h. none_awaited k d h ∙ sym (none_looks (requested w r) _ still_nothing);
            open_so = ap (map (λ x. x.call)) (open_so ∙ so.none_open) ∙ sym still_nothing;
            calls = filled_long (length (requested w r).table.records) w.calls (omega (arith, few, long));
          };
          numbers = so.keeps.numbers ∙ ap (map (λ x. x.call)) (sym open_so);
          players = subst (All (Plays (requested (requested_world plan n) r))) (sym so.no_players) (λ k d h. let no : ⊥ = omega (arith, h) in absurd no);
        });
        none_open = open_so ∙ so.none_open;
        no_players = so.no_players;
        none_awaited = none_awaited;
      }

-- ---- What is told of a request of the plan.

pub record Shown (c : Running) (p : RequestPlan) : Type 0 where
  pub function : p.function < length c.table.table.functions
  pub host : p.host < c.table.table.hosts
  pub input : length p.input.now ≤ 65536

pub request_shown : (plan : Plan) (n : ℕ) (c : Running) → Requested plan n c → n < length plan.requests → (d : Draft) (p : RequestPlan) → d ≡ draft_of plan → IfSome (slice_get d.requests n) (λ r. ShowsRequest r p) → Shown c p
request_shown plan n c so l d p is shown =
    let x = there plan.requests n l in
    let r = x.0 in
    let shows : ShowsRequest r p = subst (λ o. IfSome o (λ r. ShowsRequest r p)) (ap (λ (d : Draft). slice_get d.requests n) is ∙ x.1) shown in
    let fits = all_get (RequestFits (length (map drafted plan.functions)) plan.hosts) plan.requests n r so.formed.limits.requests x.1 in
    let opens = requested_opens plan n in
    record {
      function = subst (λ k. k < length c.table.table.functions) (sym shows.function) (subst (λ (t : Table). r.function < length t.functions) (sym so.keeps.table) (let a = fits.function in let b = length-map plan.functions drafted in let e = opens.1 in let k = length-map plan.functions callable_of in omega (arith, a, b, e, k)));
      host = subst (λ k. k < c.table.table.hosts) (sym shows.host) (subst (λ (t : Table). r.host < t.hosts) (sym so.keeps.table) (subst (λ k. r.host < k) (sym opens.0) fits.host));
      input = subst (λ bytes. length bytes ≤ 65536) (sym shows.input) fits.input;
    }

pub one_request : (plan : Plan) (n : ℕ) (c : Running) → Requested plan n c → n < length plan.requests → (d : Draft) (p : RequestPlan) → d ≡ draft_of plan → IfSome (slice_get d.requests n) (λ r. ShowsRequest r p) → (t : SessionTable) (f g : Floor) (call : ℕ)
    → Made c.table (table.submit_request p.function p.host p.input.now) t (Reply.number call) → f.queued.items ≡ c.floor.queued.items → KeepsOpen c.floor f → g.queued.items ≡ f.queued.items ++ record { call = call; awaited = false } ∷ [] → KeepsOpen f g → Requested plan (n + 1) (record c { table = t; floor = g })
one_request plan n c so l d p is shown t f g call made same keeps more then_keeps =
    let x = there plan.requests n l in
    let r = x.0 in
    let shows : ShowsRequest r p = subst (λ o. IfSome o (λ r. ShowsRequest r p)) (ap (λ (d : Draft). slice_get d.requests n) is ∙ x.1) shown in
    let as_request = subst (λ a. Made c.table (table.submit_request a p.host p.input.now) t (Reply.number call)) shows.function made in
    let at_host = subst (λ a. Made c.table (table.submit_request r.function a p.input.now) t (Reply.number call)) shows.host as_request in
    let made_so = subst (λ a. Made c.table (table.submit_request r.function r.host a) t (Reply.number call)) shows.input at_host in
    requested_more plan n c so r x.1 t g call made_so (then_keeps.hosts ∙ keeps.hosts) (then_keeps.workers ∙ keeps.workers) (ap (λ v. v.items) (then_keeps.open_so ∙ keeps.open_so)) (more ∙ ap (λ l. l ++ record { call = call; awaited = false } ∷ []) same)

some_same : {A : Type 0} {x y : A} → Some x ≡ Some y → x ≡ y
some_same e = cc

-- ---- Before the first request.

all_through : {A B : Type 0} (P : B → Type 0) (f : A → B) (xs : List A) (ys : List B) → ys ≡ map f xs → ((n : ℕ) (x : A) → slice_get xs n ≡ Some x → P (f x)) → All P ys
all_through {A} {B} P f xs ys e all k d h = by (slice_get xs k) refl (sym (get_map f xs k) ∙ ap (λ l. slice_get l k) (sym e) ∙ slice_get-get_or ys k d h)
  where
    by : (o : Option A) → slice_get xs k ≡ o → option_map f o ≡ Some (get_or ys k d) → P (get_or ys k d)
    by None h e = let no : ⊥ = cc in absurd no
    by (Some x) h e = subst P (some_same e) (all k x h)

pub small_rooms : (d : Draft) (fs : List Callable) → KeepsLimits d → fs ≡ map callable_in d.functions → All (λ f. f.room ≤ 65536) fs
small_rooms d fs limits e = all_through (λ f. f.room ≤ 65536) callable_in d.functions fs e (λ n x at. (all_get (FunctionFits d.keys (length d.functions)) d.functions n x limits.functions at).room)

-- the bytes at the front of a key are no more than it has
abbrev StartFits : ℕ × List ℕ → Type 0
StartFits k = length k.1 ≤ k.0

pub starts_fit : (d : Draft) (ks : List KeyStart) → KeepsLimits d → map told_of ks ≡ map start_of d.keys → All (λ k. length k.init.now ≤ k.size) ks
starts_fit d ks limits e k v h =
    let fit = all_through StartFits start_of d.keys (map told_of ks) e (λ n x at. (all_get KeyFits d.keys n x limits.keys at).init) in
    let here = get_map told_of ks k ∙ ap (option_map told_of) (slice_get-get_or ks k v h) in
    all_get StartFits (map told_of ks) k (told_of (get_or ks k v)) fit here

module _ (plan : Plan) (d : Draft) (is : d ≡ draft_of plan) (fine : WellFormed plan) (c : Running) (protos : c.protos.now ≡ plan) (events : c.events.items ≡ []) (players : c.players.items ≡ []) (hosts workers known requests : ℕ) (hosts_so : hosts ≡ d.hosts) (workers_so : workers ≡ d.workers)
    (functions : List Callable) (functions_so : functions ≡ map callable_in d.functions) (table_so : c.table ≡ empty_session hosts functions known requests)
    (keys : List KeyStart) (keys_so : map told_of keys ≡ map start_of d.keys) (objects_so : c.objects ≡ started hosts keys)
    (floor_hosts : c.floor.hosts ≡ hosts) (floor_workers : c.floor.workers ≡ hosts * workers) (queued : c.floor.queued.items ≡ []) (opened : c.floor.open.items ≡ []) where
  same_hosts : hosts ≡ plan.hosts
  same_hosts = hosts_so ∙ ap (λ (d : Draft). d.hosts) is

  same_functions : functions ≡ callables plan
  same_functions = functions_so ∙ ap (λ (d : Draft). map callable_in d.functions) is ∙ callables_so plan.functions

  is_empty : c.table.table ≡ (start plan).table
  is_empty = ap (λ (t : SessionTable). t.table) table_so ∙ ap₂ (λ a b. empty_table a b) same_hosts same_functions

  are_started : c.objects ≡ objects_of (start plan)
  are_started =
      first_objects plan c.objects (objects_so ∙ ap (λ n. started n keys) same_hosts ∙ starts plan keys (keys_so ∙ ap (λ (d : Draft). map start_of d.keys) is))

  nobody : {A : Type 0} (P : A → Type 0) (xs : List A) → xs ≡ [] → All P xs
  nobody P xs e k v h = let no : ⊥ = omega (arith, (let l = ap length e in l), h) in absurd no

  pub none_requested : Requested plan 0 c
  none_requested =
      record {
        protos = protos;
        formed = fine;
        events = events;
        keeps = record {
          table = is_empty;
          objects = are_started;
          floor = record {
            hosts = floor_hosts ∙ same_hosts;
            workers = floor_workers ∙ ap₂ (λ a b. a * b) same_hosts (workers_so ∙ ap (λ (d : Draft). d.workers) is);
            queued = ap (map (λ (q : Waiting). q.call)) queued;
            awaited = nobody (λ (q : Waiting). q.awaited ≡ is_awaited (start plan) q.call) c.floor.queued.items queued;
            open_so = ap (map (λ x. x.call)) opened;
            calls = refl;
          };
          numbers = ap (map (λ p. p.call)) players ∙ sym (ap (map (λ x. x.call)) opened);
          players = nobody (Plays (start plan)) c.players.items players;
        };
        none_open = opened;
        no_players = players;
        none_awaited = nobody (λ (q : Waiting). q.awaited ≡ false) c.floor.queued.items queued;
      }

-- ---- Behind the last.

take_all : {A : Type 0} (xs : List A) (n : ℕ) → length xs ≤ n → take n xs ≡ xs
take_all [] zero l = refl
take_all [] (suc n) l = refl
take_all (x ∷ xs) zero l = let no : ⊥ = omega (arith, l) in absurd no
take_all (x ∷ xs) (suc n) l = ap (λ l. x ∷ l) (take_all xs n (omega (arith, l)))

pub all_requested : (plan : Plan) (n : ℕ) (c : Running) → Requested plan n c → length plan.requests ≤ n → Lives c
all_requested plan n c so l =
    let whole : requested_world plan n ≡ first_world plan = ap (fold requested (start plan)) (take_all plan.requests n l) in
    let keeps = subst (λ v. KeepsWorld plan v c) whole so.keeps in
    let here : KeepsWorld c.protos.now (first_world c.protos.now) c = subst (λ p. KeepsWorld p (first_world p) c) (sym so.protos) keeps in
    record {
      settling = record {
        formed = subst WellFormed (sym so.protos) so.formed;
        stand = subst (Stand c.protos.now (first_world c.protos.now)) (sym so.events) tt;
        keeps = subst (λ es. KeepsWorld c.protos.now (world c.protos.now es) c) (sym so.events) here;
      };
      stands = subst (All (StandsSo (world_of c))) (sym so.none_open) (λ k v h. let no : ⊥ = omega (arith, h) in absurd no);
    }
