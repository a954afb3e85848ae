-- Each call of the registry keeps the limits, and what passes the budgets is well formed.
use Rattle.std.proofs.Common.{◌≡◌, ℕ, ◌+◌, ◌<◌, ◌≤◌, Bool, true, false, not, List, [], ◌∷◌, ◌++◌, length, map, slice_get, All, Option, Some, None, Ok, ◌==◌, nat_le, nat_lt, IsTrue, bytes_eq, refl, sym, ap, subst, ◌∙◌, arith, ltb-false, leb-true, leb-false, ltb-true, inl, inr}
use Rattle.std.specs.List.{list_any}
use Rattle.std.specs.Option.{option_map_or}
use Rattle.std.proofs.lemmas.Bool.{and_parts, not-false}
use Rattle.std.proofs.lemmas.List.{length_push, map-append, length-map}
use Rattle.std.proofs.lemmas.List.Elements.{All-push, All-weaker}
use Rattle.std.proofs.lemmas.List.Quantifiers.{position-Some}
use Rattle.std.proofs.lemmas.Option.{slice_get_cases}
use Rattle.faaslet_meaning.specs.declared.module.Module.{Module}
use Rattle.faaslet_meaning.specs.declared.grant.Grant.{Grant}
use Rattle.faaslet_meaning.specs.declared.grant.Mode.{Mode}
use Rattle.faaslet_meaning.specs.Lists.{changed}
use Rattle.session_meaning.specs.SessionLimits.{Within}
use Rattle.session_meaning.specs.Names.{is_within, is_name, number_of, is_taken}
use Rattle.session_meaning.specs.Plan.{Key, Request}
use Rattle.session_meaning.specs.Draft.{DraftFunction, Draft, empty, new_function, with_key, with_function, with_request, with_grant, with_callee, with_module, on_function}
use Rattle.session_meaning.specs.WellFormed.{key_names, function_names, labels, Distinct, KeyFits, GrantFits, ModuleFits, FunctionFits, RequestFits, KeepsLimits, WellFormedDraft, state_pages, own_pages}
use Rattle.session_meaning.specs.Registry.{Refusal, too_many, bad_name, taken, out_of_range, too_long, over_state_budget, over_page_budget, Answer, refuse_if, of_name, is_full, new, add_key, add_function, grant, allow, add_request, check_budget, grants_of, callees_of, size_of}
use Rattle.session_meaning.proofs.Entries.{names_differ, numbers_differ, any_of, none_differ, stays, length-changed, All-changed, map-changed}

-- ---- What an answer tells of the rules that were tested.

abbrev pub Rules : Type 0
Rules = List (Bool × Refusal)

abbrev pub tested : Rules → Answer → Answer
tested [] a = a
tested (r ∷ rs) a = refuse_if r.0 r.1 (tested rs a)

abbrev pub NoneHolds : Rules → Type 0
NoneHolds [] = Unit {0}
NoneHolds (r ∷ rs) = (r.0 ≡ false) × NoneHolds rs

passes : (rs : Rules) (a : Answer) (d : Draft) → tested rs a ≡ Ok d → NoneHolds rs × (a ≡ Ok d)
passes [] a d e = (tt, e)
passes (r ∷ rs) a d e = by r.0 e (passes rs a d)
  where
    by : (b : Bool) → refuse_if b r.1 (tested rs a) ≡ Ok d → (tested rs a ≡ Ok d → NoneHolds rs × (a ≡ Ok d)) → ((b ≡ false) × NoneHolds rs) × (a ≡ Ok d)
    by true h rest = let no : ⊥ = cc in absurd no
    by false h rest = let t = rest h in ((refl, t.0), t.1)

numbered : (o : Option ℕ) (go : ℕ → Answer) (d : Draft) → of_name o go ≡ Ok d → (k : ℕ) × (o ≡ Some k) × (go k ≡ Ok d)
numbered None go d e = let no : ⊥ = cc in absurd no
numbered (Some k) go d e = (k, refl, e)

same_draft : (d e : Draft) → ◌≡◌ {A = Answer} (Ok d) (Ok e) → d ≡ e
same_draft d e h = cc

within : (low high n : ℕ) → not (is_within low high n) ≡ false → Within low high n
within low high n e = let parts = and_parts (nat_le low n) (nat_le n high) (not-false _ e) in (leb-true low n parts.0, leb-true n high parts.1)

room_left : {A : Type 0} (most : ℕ) (xs : List A) (x : A) → is_full most xs ≡ false → length (xs ++ x ∷ []) ≤ most
room_left most xs x e = let below : length xs < most = leb-false most (length xs) e in let more : length (xs ++ x ∷ []) ≡ length xs + 1 = length_push xs x in omega arith

is_named : (name : List ℕ) → not (is_name name) ≡ false → IsTrue (is_name name)
is_named name e = not-false _ e

-- the number of a name is that of an entry
inside : {A : Type 0} (name_of : A → List ℕ) (xs : List A) (name : List ℕ) (k : ℕ) → number_of name (map name_of xs) ≡ Some k → k < length xs
inside name_of xs name k e =
    let found = position-Some (bytes_eq name) (map name_of xs) k [] e in
    let len : length (map name_of xs) ≡ length xs = length-map xs name_of in
    omega (arith, found.0)

entry_at : {A : Type 0} (xs : List A) (k : ℕ) → k < length xs → (x : A) × (slice_get xs k ≡ Some x)
entry_at xs k l =
    elim (slice_get_cases xs k).1 [
      | inl h ↦ (h.0, h.2)
      | inr h ↦ absurd (omega (arith, h.0))
    ]

-- ---- Facts that more entries leave.

grant_stays : (keys : List Key) (k : Key) (g : Grant) → GrantFits keys g → GrantFits (keys ++ k ∷ []) g
grant_stays keys k g h = (h.0, stays keys (k ∷ []) g.key h.0 h.1, h.2)

-- a function fits beside more keys and functions
function_stays : (keys more : List Key) (m n : ℕ) (f : DraftFunction) → ((g : Grant) → GrantFits keys g → GrantFits more g) → m ≤ n → FunctionFits keys m f → FunctionFits more n f
function_stays keys more m n f keep le h =
    record {
      name = h.name;
      quota = h.quota;
      fuel = h.fuel;
      room = h.room;
      few_grants = h.few_grants;
      grants = All-weaker (GrantFits keys) (GrantFits more) keep f.grants h.grants;
      grants_differ = h.grants_differ;
      few_callees = h.few_callees;
      callees = All-weaker (λ g. g < m) (λ g. g < n) (λ g l. omega arith) f.callees h.callees;
      callees_differ = h.callees_differ;
      code = h.code;
    }

request_stays : (m n hosts : ℕ) → m ≤ n → (r : Request) → RequestFits m hosts r → RequestFits n hosts r
request_stays m n hosts le r h = record { label = h.label; function = let l = h.function in omega arith; host = h.host; input = h.input }

names_pushed : {A : Type 0} (name : A → List ℕ) (xs : List A) (x : A) → Distinct (map name xs ++ name x ∷ []) → Distinct (map name (xs ++ x ∷ []))
names_pushed name xs x h = subst Distinct (sym (map-append name xs (x ∷ []))) h

-- ---- The calls. Each that answers keeps the limits, adds so many functions, and sets no module.

abbrev pub IsBare : DraftFunction → Type 0
IsBare f = f.code ≡ None

pub record Leaves (more : ℕ) (d e : Draft) : Type 0 where
  pub limits : KeepsLimits e
  pub bare : All IsBare d.functions → All IsBare e.functions
  pub count : length e.functions ≡ length d.functions + more

leaves : (d e : Draft) → e.functions ≡ d.functions → KeepsLimits e → Leaves 0 d e
leaves d e same kept = record { limits = kept; bare = λ h. subst (λ fs. All IsBare fs) (sym same) h; count = ap (λ fs. length fs) same ∙ omega arith }

pub keeps_new : (hosts workers : ℕ) (d : Draft) → new hosts workers ≡ Ok d → KeepsLimits d × (d.functions ≡ [])
keeps_new hosts workers d e =
    let t = passes ((not (is_within 1 16 hosts), out_of_range) ∷ (not (is_within 1 8 workers), out_of_range) ∷ []) (Ok (empty hosts workers)) d e in
    let same = same_draft (empty hosts workers) d t.1 in (
      subst KeepsLimits same
          (record {
            hosts = within 1 16 hosts t.0.0;
            workers = within 1 8 workers t.0.1.0;
            few_keys = omega arith;
            keys = λ k x l. absurd (omega arith);
            keys_differ = none_differ;
            few_functions = omega arith;
            functions = λ k x l. absurd (omega arith);
            functions_differ = none_differ;
            few_requests = omega arith;
            requests = λ k x l. absurd (omega arith);
            labels_differ = none_differ;
          }),
      ap (λ x. x.functions) (sym same),
    )

pub keeps_key : (d e : Draft) (key : List ℕ) (size : ℕ) (init : List ℕ) → KeepsLimits d → add_key d key size init ≡ Ok e → Leaves 0 d e
keeps_key d e key size init kept h =
    let k : Key = record { name = key; size = size; init = init } in
    let n = length d.functions in
    let t = passes
    ((is_full 64 d.keys, too_many) ∷ (not (is_name key), bad_name) ∷ (is_taken key (key_names d), taken) ∷ (not (is_within 1 16777216 size), out_of_range) ∷ (nat_lt size (length init), too_long) ∷ [])
    (Ok (with_key d k)) e h in
    let r = t.0 in
    subst (Leaves 0 d) (same_draft (with_key d k) e t.1)
    (leaves d (with_key d k) refl (record {
      hosts = kept.hosts;
      workers = kept.workers;
      few_keys = room_left 64 d.keys k r.0;
      keys = All-push KeyFits d.keys k kept.keys (record { name = is_named key r.1.0; size = within 1 16777216 size r.1.1.1.0; init = ltb-false size (length init) r.1.1.1.1.0 });
      keys_differ = names_pushed (λ x. x.name) d.keys k (names_differ (key_names d) key r.1.1.0 kept.keys_differ);
      few_functions = kept.few_functions;
      functions = All-weaker (FunctionFits d.keys n) (FunctionFits (d.keys ++ k ∷ []) n) (λ f. function_stays d.keys (d.keys ++ k ∷ []) n n f (grant_stays d.keys k) (omega arith)) d.functions kept.functions;
      functions_differ = kept.functions_differ;
      few_requests = kept.few_requests;
      requests = kept.requests;
      labels_differ = kept.labels_differ;
    }))

pub keeps_function : (d e : Draft) (function : List ℕ) (quota fuel room : ℕ) → KeepsLimits d → add_function d function quota fuel room ≡ Ok e → Leaves 1 d e
keeps_function d e function quota fuel room kept h =
    let f : DraftFunction = record { name = function; code = None; quota = quota; fuel = fuel; room = room; grants = []; callees = [] } in
    let n = length d.functions in
    let fs = d.functions ++ f ∷ [] in
    let more : length fs ≡ n + 1 = length_push d.functions f in
    let le : n ≤ length fs = omega arith in
    let t = passes
    ((is_full 256 d.functions, too_many) ∷ (not (is_name function), bad_name) ∷ (is_taken function (function_names d), taken) ∷ (not (is_within 1 1024 quota), out_of_range) ∷ (not (is_within 1 1099511627776 fuel), out_of_range) ∷ (not (is_within 0 65536 room), out_of_range) ∷ [])
    (Ok (with_function d f)) e h in
    let r = t.0 in
    let fits : FunctionFits d.keys (length fs) f =
    record {
      name = is_named function r.1.0;
      quota = within 1 1024 quota r.1.1.1.0;
      fuel = within 1 1099511627776 fuel r.1.1.1.1.0;
      room = (within 0 65536 room r.1.1.1.1.1.0).1;
      few_grants = omega arith;
      grants = λ k x l. absurd (omega arith);
      grants_differ = none_differ;
      few_callees = omega arith;
      callees = λ k x l. absurd (omega arith);
      callees_differ = none_differ;
      code = λ m is. let no : ⊥ = cc in absurd no;
    } in
    let limits : KeepsLimits (with_function d f) = record {
      hosts = kept.hosts;
      workers = kept.workers;
      few_keys = kept.few_keys;
      keys = kept.keys;
      keys_differ = kept.keys_differ;
      few_functions = room_left 256 d.functions f r.0;
      functions = All-push (FunctionFits d.keys (length fs)) d.functions f (All-weaker (FunctionFits d.keys n) (FunctionFits d.keys (length fs)) (λ g. function_stays d.keys d.keys n (length fs) g (λ x y. y) le) d.functions kept.functions) fits;
      functions_differ = names_pushed (λ x. x.name) d.functions f (names_differ (function_names d) function r.1.1.0 kept.functions_differ);
      few_requests = kept.few_requests;
      requests = All-weaker (RequestFits n d.hosts) (RequestFits (length fs) d.hosts) (request_stays n (length fs) d.hosts le) d.requests kept.requests;
      labels_differ = kept.labels_differ;
    } in
    subst (Leaves 1 d) (same_draft (with_function d f) e t.1) (record { limits = limits; bare = λ b. All-push IsBare d.functions f b refl; count = more })

-- a function is changed, and fits as before
module _ (d : Draft) (f : ℕ) (change : DraftFunction → DraftFunction) (same_name : (g : DraftFunction) → (change g).name ≡ g.name) where
  pub keeps_change : KeepsLimits d → ((g : DraftFunction) → slice_get d.functions f ≡ Some g → FunctionFits d.keys (length d.functions) g → FunctionFits d.keys (length d.functions) (change g)) → KeepsLimits (on_function d f change)
  keeps_change kept fits =
      let n = length d.functions in
      let len : length (changed d.functions f change) ≡ n = length-changed change d.functions f in
      record {
        hosts = kept.hosts;
        workers = kept.workers;
        few_keys = kept.few_keys;
        keys = kept.keys;
        keys_differ = kept.keys_differ;
        few_functions = subst (λ m. m ≤ 256) (sym len) kept.few_functions;
        functions = subst (λ m. All (FunctionFits d.keys m) (changed d.functions f change)) (sym len) (All-changed change (FunctionFits d.keys n) d.functions f fits kept.functions);
        functions_differ = subst Distinct (sym (map-changed change (λ g. g.name) same_name d.functions f)) kept.functions_differ;
        few_requests = kept.few_requests;
        requests = subst (λ m. All (RequestFits m d.hosts) d.requests) (sym len) kept.requests;
        labels_differ = kept.labels_differ;
      }

leaves_change : (d : Draft) (f : ℕ) (change : DraftFunction → DraftFunction) → ((g : DraftFunction) → (change g).code ≡ g.code) → KeepsLimits (on_function d f change) → Leaves 0 d (on_function d f change)
leaves_change d f change same_code kept =
    record {
      limits = kept;
      bare = All-changed change IsBare d.functions f (λ g at h. same_code g ∙ h);
      count = length-changed change d.functions f ∙ omega arith;
    }

pub keeps_module : (d : Draft) (f : ℕ) (m : Module) → KeepsLimits d → ModuleFits m → KeepsLimits (with_module d f m)
keeps_module d f m kept fits =
    keeps_change d f (λ g. record g { code = Some m }) (λ g. refl) kept (λ g at h.
    record {
      name = h.name;
      quota = h.quota;
      fuel = h.fuel;
      room = h.room;
      few_grants = h.few_grants;
      grants = h.grants;
      grants_differ = h.grants_differ;
      few_callees = h.few_callees;
      callees = h.callees;
      callees_differ = h.callees_differ;
      code = λ n is. let same : m ≡ n = cc in subst ModuleFits same fits;
    })

pub keeps_grant : (d e : Draft) (f : ℕ) (key : List ℕ) (mode : Mode) → KeepsLimits d → grant d f key mode ≡ Ok e → Leaves 0 d e
keeps_grant d e f key mode kept h =
    let made : ℕ → Grant = λ k. record { key = k; size = size_of d k; mode = mode } in
    let twice : ℕ → Bool = λ k. list_any (λ g. g.key == k) (grants_of d f) in
    let a = passes ((is_full 32 (grants_of d f), too_many) ∷ []) (of_name (number_of key (key_names d)) λ k. refuse_if (twice k) taken (Ok (with_grant d f (made k)))) e h in
    let at = numbered (number_of key (key_names d)) (λ k. refuse_if (twice k) taken (Ok (with_grant d f (made k)))) e a.1 in
    let k = at.0 in
    let b = passes ((twice k, taken) ∷ []) (Ok (with_grant d f (made k))) e at.2 in
    let there = entry_at d.keys k (inside (λ x. x.name) d.keys key k at.1) in
    let is : GrantFits d.keys (made k) = (there.0, there.1, ap (λ o. option_map_or (λ x. x.size) o 0) there.1) in
    let change : DraftFunction → DraftFunction = λ x. record x { grants = x.grants ++ made k ∷ [] } in
    subst (Leaves 0 d) (same_draft (with_grant d f (made k)) e b.1)
    (leaves_change d f change (λ x. refl) (keeps_change d f change (λ x. refl) kept (λ x found fits.
    let mine : grants_of d f ≡ x.grants = ap (λ o. option_map_or (λ y. y.grants) o []) found in
    record {
      name = fits.name;
      quota = fits.quota;
      fuel = fits.fuel;
      room = fits.room;
      few_grants = subst (λ gs. length (gs ++ made k ∷ []) ≤ 32) mine (room_left 32 (grants_of d f) (made k) a.0.0);
      grants = All-push (GrantFits d.keys) x.grants (made k) fits.grants is;
      grants_differ = subst Distinct (sym (map-append (λ y. y.key) x.grants (made k ∷ []))) (numbers_differ (map (λ y. y.key) x.grants) k (any_of (λ y. y.key) k x.grants ∙ ap (λ gs. list_any (λ y. y.key == k) gs) (sym mine) ∙ b.0.0) fits.grants_differ);
      few_callees = fits.few_callees;
      callees = fits.callees;
      callees_differ = fits.callees_differ;
      code = fits.code;
    })))

pub keeps_callee : (d e : Draft) (f : ℕ) (callee : List ℕ) → KeepsLimits d → allow d f callee ≡ Ok e → Leaves 0 d e
keeps_callee d e f callee kept h =
    let twice : ℕ → Bool = λ c. list_any (λ g. g == c) (callees_of d f) in
    let a = passes ((is_full 256 (callees_of d f), too_many) ∷ []) (of_name (number_of callee (function_names d)) λ c. refuse_if (twice c) taken (Ok (with_callee d f c))) e h in
    let at = numbered (number_of callee (function_names d)) (λ c. refuse_if (twice c) taken (Ok (with_callee d f c))) e a.1 in
    let c = at.0 in
    let b = passes ((twice c, taken) ∷ []) (Ok (with_callee d f c)) e at.2 in
    let change : DraftFunction → DraftFunction = λ x. record x { callees = x.callees ++ c ∷ [] } in
    subst (Leaves 0 d) (same_draft (with_callee d f c) e b.1)
    (leaves_change d f change (λ x. refl) (keeps_change d f change (λ x. refl) kept (λ x found fits.
    let mine : callees_of d f ≡ x.callees = ap (λ o. option_map_or (λ y. y.callees) o []) found in
    record {
      name = fits.name;
      quota = fits.quota;
      fuel = fits.fuel;
      room = fits.room;
      few_grants = fits.few_grants;
      grants = fits.grants;
      grants_differ = fits.grants_differ;
      few_callees = subst (λ gs. length (gs ++ c ∷ []) ≤ 256) mine (room_left 256 (callees_of d f) c a.0.0);
      callees = All-push (λ y. y < length d.functions) x.callees c fits.callees (inside (λ y. y.name) d.functions callee c at.1);
      callees_differ = numbers_differ x.callees c (ap (λ gs. list_any (λ y. y == c) gs) (sym mine) ∙ b.0.0) fits.callees_differ;
      code = fits.code;
    })))

pub keeps_request : (d e : Draft) (label function : List ℕ) (host : ℕ) (input : List ℕ) → KeepsLimits d → add_request d label function host input ≡ Ok e → Leaves 0 d e
keeps_request d e label function host input kept h =
    let made : ℕ → Request = λ f. record { label = label; function = f; host = host; input = input } in
    let rest : ℕ → Answer = λ f. refuse_if (not (nat_lt host d.hosts)) out_of_range (refuse_if (nat_lt 65536 (length input)) too_long (Ok (with_request d (made f)))) in
    let a = passes ((is_full 1024 d.requests, too_many) ∷ (not (is_name label), bad_name) ∷ (is_taken label (labels d), taken) ∷ []) (of_name (number_of function (function_names d)) rest) e h in
    let at = numbered (number_of function (function_names d)) rest e a.1 in
    let f = at.0 in
    let b = passes ((not (nat_lt host d.hosts), out_of_range) ∷ (nat_lt 65536 (length input), too_long) ∷ []) (Ok (with_request d (made f))) e at.2 in
    let fits : RequestFits (length d.functions) d.hosts (made f) =
    record {
      label = is_named label a.0.1.0;
      function = inside (λ y. y.name) d.functions function f at.1;
      host = ltb-true host d.hosts (not-false _ b.0.0);
      input = ltb-false 65536 (length input) b.0.1.0;
    } in
    subst (Leaves 0 d) (same_draft (with_request d (made f)) e b.1)
    (leaves d (with_request d (made f)) refl (record {
      hosts = kept.hosts;
      workers = kept.workers;
      few_keys = kept.few_keys;
      keys = kept.keys;
      keys_differ = kept.keys_differ;
      few_functions = kept.few_functions;
      functions = kept.functions;
      functions_differ = kept.functions_differ;
      few_requests = room_left 1024 d.requests (made f) a.0.0;
      requests = All-push (RequestFits (length d.functions) d.hosts) d.requests (made f) kept.requests fits;
      labels_differ = names_pushed (λ x. x.label) d.requests (made f) (names_differ (labels d) label a.0.1.1.0 kept.labels_differ);
    }))

-- ---- What an answer tells of a name that was added: it was not there.

pub new_key : (d e : Draft) (key : List ℕ) (size : ℕ) (init : List ℕ) → add_key d key size init ≡ Ok e → is_taken key (key_names d) ≡ false
new_key d e key size init h =
    let t = passes
    ((is_full 64 d.keys, too_many) ∷ (not (is_name key), bad_name) ∷ (is_taken key (key_names d), taken) ∷ (not (is_within 1 16777216 size), out_of_range) ∷ (nat_lt size (length init), too_long) ∷ [])
    (Ok (with_key d (record { name = key; size = size; init = init }))) e h in
    t.0.1.1.0

pub named_anew : (d e : Draft) (function : List ℕ) (quota fuel room : ℕ) → add_function d function quota fuel room ≡ Ok e → is_taken function (function_names d) ≡ false
named_anew d e function quota fuel room h =
    let t = passes
    ((is_full 256 d.functions, too_many) ∷ (not (is_name function), bad_name) ∷ (is_taken function (function_names d), taken) ∷ (not (is_within 1 1024 quota), out_of_range) ∷ (not (is_within 1 1099511627776 fuel), out_of_range) ∷ (not (is_within 0 65536 room), out_of_range) ∷ [])
    (Ok (with_function d (new_function function quota fuel room))) e h in
    t.0.1.1.0

-- ---- Budgets.

pub passes_budget : (d e : Draft) → KeepsLimits d → check_budget d ≡ Ok e → (d ≡ e) × WellFormedDraft e
passes_budget d e kept h =
    let t = passes ((nat_lt 8192 (state_pages d), over_state_budget) ∷ (nat_lt 16384 (own_pages d), over_page_budget) ∷ []) (Ok d) e h in
    let same = same_draft d e t.1 in
    (same, subst WellFormedDraft same (record { limits = kept; budgets = record { state = ltb-false 8192 (state_pages d) t.0.0; own = ltb-false 16384 (own_pages d) t.0.1.0 } }))
