-- What keeps the limits with an entry more is taken: a call of the registry refuses nothing else.
use Rattle.std.proofs.Common.{◌≡◌, ℕ, ◌+◌, ◌<◌, ◌≤◌, ◌==◌, false, not, List, [], ◌∷◌, ◌++◌, length, map, get_or, set, slice_get, slice_set, length-set, All, Option, Some, None, Ok, position, is_some, nat_lt, bytes_eq, refl, sym, ap, subst, ◌∙◌, arith, le-leb, le-ltb, lt-ltb, inl, inr}
use Rattle.std.specs.List.{list_any}
use Rattle.std.specs.Option.{option_map_or}
use Rattle.std.proofs.lemmas.Bool.{and_from, not_from_true, lt-leb, ne_eqb}
use Rattle.std.proofs.lemmas.List.{length_push, get_or_push, get_or_append_left, get_or-set_same, map-append}
use Rattle.std.proofs.lemmas.List.Folds.{list_any_none}
use Rattle.std.proofs.lemmas.List.Quantifiers.{position-Some}
use Rattle.std.proofs.lemmas.Option.{slice_get_cases, slice_get_within}
use Rattle.std.proofs.lemmas.Slice.Eq.{bytes_eq-Decides}
use Rattle.faaslet_meaning.specs.declared.grant.Grant.{Grant}
use Rattle.faaslet_meaning.specs.Lists.{changed}
use Rattle.session_meaning.specs.SessionLimits.{Within}
use Rattle.session_meaning.specs.Names.{is_within, is_name, is_taken, number_of}
use Rattle.session_meaning.specs.Plan.{Key, Request}
use Rattle.session_meaning.specs.Draft.{Draft, DraftFunction, empty, new_function, with_key, with_function, with_request, with_grant, with_callee}
use Rattle.session_meaning.specs.Registry.{Answer, too_many, bad_name, taken, out_of_range, too_long, over_state_budget, over_page_budget, refuse_if, of_name, is_full, new, check_budget, add_key, add_function, add_request, grant, allow, grants_of, callees_of, size_of}
use Rattle.session_meaning.specs.WellFormed.{Distinct, KeyFits, GrantFits, FunctionFits, RequestFits, KeepsLimits, WithinBudgets, state_pages, own_pages, key_names, function_names, labels}
use Rattle.session_meaning.proofs.Entries.{any_of}
use Rattle.session_meaning.proofs.KeptLimits.{Rules, tested, NoneHolds}

answered : (rs : Rules) (a : Answer) → NoneHolds rs → tested rs a ≡ a
answered [] a h = refl
answered (r ∷ rs) a h = rw (h.0) (answered rs a h.1)

room : {A : Type 0} (most : ℕ) (xs : List A) (x : A) → length (xs ++ x ∷ []) ≤ most → is_full most xs ≡ false
room most xs x h = let more : length (xs ++ x ∷ []) ≡ length xs + 1 = length_push xs x in lt-leb most (length xs) (omega arith)

last : {A : Type 0} (P : A → Type 0) (xs : List A) (x : A) → All P (xs ++ x ∷ []) → P x
last P xs x h = let more : length (xs ++ x ∷ []) ≡ length xs + 1 = length_push xs x in subst P (get_or_push xs x x (length xs) refl) (h (length xs) x (omega arith))

inside : (low high n : ℕ) → Within low high n → not (is_within low high n) ≡ false
inside low high n h = not_from_true _ (and_from _ _ (le-leb low n h.0) (le-leb n high h.1))

-- a name that differs from those before it is not taken
anew : (names : List (List ℕ)) (name : List ℕ) → Distinct (names ++ name ∷ []) → is_taken name names ≡ false
anew names name h = by (position (bytes_eq name) names) refl
  where
    by : (o : Option ℕ) → position (bytes_eq name) names ≡ o → is_some o ≡ false
    by None e = refl
    by (Some k) e =
        let found = position-Some (bytes_eq name) names k [] e in
        let same : name ≡ get_or names k [] = (bytes_eq-Decides name (get_or names k [])).0 found.1 in
        let more : length (names ++ name ∷ []) ≡ length names + 1 = length_push names name in
        absurd (h k (length names) [] found.0 (omega arith) (get_or_append_left names (name ∷ []) [] k found.0 ∙ sym same ∙ sym (get_or_push names name [] (length names) refl)))

anew_among : {A : Type 0} (name_of : A → List ℕ) (xs : List A) (x : A) → Distinct (map name_of (xs ++ x ∷ [])) → is_taken (name_of x) (map name_of xs) ≡ false
anew_among name_of xs x h = anew (map name_of xs) (name_of x) (subst Distinct (map-append name_of xs (x ∷ [])) h)

pub new_taken : (hosts workers : ℕ) → KeepsLimits (empty hosts workers) → new hosts workers ≡ Ok (empty hosts workers)
new_taken hosts workers h = answered ((not (is_within 1 16 hosts), out_of_range) ∷ (not (is_within 1 8 workers), out_of_range) ∷ []) (Ok (empty hosts workers)) (inside 1 16 hosts h.hosts, (inside 1 8 workers h.workers, tt))

pub budget_taken : (d : Draft) → WithinBudgets d → check_budget d ≡ Ok d
budget_taken d h = answered ((nat_lt 8192 (state_pages d), over_state_budget) ∷ (nat_lt 16384 (own_pages d), over_page_budget) ∷ []) (Ok d) (le-ltb 8192 (state_pages d) h.state, (le-ltb 16384 (own_pages d) h.own, tt))

pub key_taken : (d : Draft) (k : Key) → KeepsLimits (with_key d k) → add_key d k.name k.size k.init ≡ Ok (with_key d k)
key_taken d k h =
    let fits = last KeyFits d.keys k h.keys in
    answered
    ((is_full 64 d.keys, too_many) ∷ (not (is_name k.name), bad_name) ∷ (is_taken k.name (key_names d), taken) ∷ (not (is_within 1 16777216 k.size), out_of_range) ∷ (nat_lt k.size (length k.init), too_long) ∷ [])
    (Ok (with_key d k))
    (room 64 d.keys k h.few_keys, (not_from_true _ fits.name, (anew_among (λ x. x.name) d.keys k h.keys_differ, (inside 1 16777216 k.size fits.size, (le-ltb k.size (length k.init) fits.init, tt)))))

pub function_taken : (d : Draft) (name : List ℕ) (quota fuel room : ℕ) → KeepsLimits (with_function d (new_function name quota fuel room)) → add_function d name quota fuel room ≡ Ok (with_function d (new_function name quota fuel room))
function_taken d name quota fuel output h =
    let f = new_function name quota fuel output in
    let fits = last (FunctionFits d.keys (length (d.functions ++ f ∷ []))) d.functions f h.functions in
    answered
    ((is_full 256 d.functions, too_many) ∷ (not (is_name name), bad_name) ∷ (is_taken name (function_names d), taken) ∷ (not (is_within 1 1024 quota), out_of_range) ∷ (not (is_within 1 1099511627776 fuel), out_of_range) ∷ (not (is_within 0 65536 output), out_of_range) ∷ [])
    (Ok (with_function d f))
    (room 256 d.functions f h.few_functions, (not_from_true _ fits.name, (anew_among (λ x. x.name) d.functions f h.functions_differ, (inside 1 1024 quota fits.quota, (inside 1 1099511627776 fuel fits.fuel, (inside 0 65536 output (omega arith, fits.room), tt))))))

pub request_taken : (d : Draft) (function : List ℕ) (r : Request) → number_of function (function_names d) ≡ Some r.function → KeepsLimits (with_request d r) → add_request d r.label function r.host r.input ≡ Ok (with_request d r)
request_taken d function r named h =
    let fits = last (RequestFits (length d.functions) d.hosts) d.requests r h.requests in
    let rest : ℕ → Answer = λ f. refuse_if (not (nat_lt r.host d.hosts)) out_of_range (refuse_if (nat_lt 65536 (length r.input)) too_long (Ok (with_request d (record r { function = f })))) in
    answered
    ((is_full 1024 d.requests, too_many) ∷ (not (is_name r.label), bad_name) ∷ (is_taken r.label (labels d), taken) ∷ [])
    (of_name (number_of function (function_names d)) rest)
    (room 1024 d.requests r h.few_requests, (not_from_true _ fits.label, (anew_among (λ x. x.label) d.requests r h.labels_differ, tt)))
    ∙ ap (λ o. of_name o rest) named
    ∙ answered ((not (nat_lt r.host d.hosts), out_of_range) ∷ (nat_lt 65536 (length r.input), too_long) ∷ []) (Ok (with_request d r)) (not_from_true _ (lt-ltb r.host d.hosts fits.host), (le-ltb 65536 (length r.input) fits.input, tt))

-- ---- Grants, and what may be called.

-- a number that differs from those before it is not among them
number_anew : (ns : List ℕ) (n : ℕ) → Distinct (ns ++ n ∷ []) → list_any (λ m. m == n) ns ≡ false
number_anew ns n h =
    list_any_none (λ m. m == n) ns (λ k d l.
    let more : length (ns ++ n ∷ []) ≡ length ns + 1 = length_push ns n in
    ne_eqb (get_or ns k d) n (λ same. h k (length ns) d l (omega arith) (get_or_append_left ns (n ∷ []) d k l ∙ same ∙ sym (get_or_push ns n d (length ns) refl))))

-- the function that was changed fits
changed_fits : {A : Type 0} (P : A → Type 0) (change : A → A) (xs : List A) (n : ℕ) (x : A) → slice_get xs n ≡ Some x → All P (changed xs n change) → P (change x)
changed_fits P change xs n x at h =
    let l = slice_get_within xs n x at in
    let set_all : All P (set xs n (change x)) = subst (All P) (ap (λ o. elim o [ None ↦ xs | Some y ↦ slice_set xs n (change y) ]) at) h in
    subst P (get_or-set_same xs n (change x) x l) (set_all n x (omega (arith, length-set xs n (change x))))

entry : {A : Type 0} (xs : List A) (n : ℕ) → n < length xs → (x : A) × (slice_get xs n ≡ Some x)
entry xs n l =
    elim (slice_get_cases xs n).1 [
      | inl h ↦ (h.0, h.2)
      | inr h ↦ absurd (omega (arith, h.0))
    ]

pub grant_taken : (d : Draft) (f : ℕ) (key : List ℕ) (g : Grant) → f < length d.functions → number_of key (key_names d) ≡ Some g.key → KeepsLimits (with_grant d f g) → grant d f key g.mode ≡ Ok (with_grant d f g)
grant_taken d f key g l named h =
    let x = entry d.functions f l in
    let change : DraftFunction → DraftFunction = λ y. record y { grants = y.grants ++ g ∷ [] } in
    let fits = changed_fits (FunctionFits d.keys (length (changed d.functions f change))) change d.functions f x.0 x.1 h.functions in
    let its = last (GrantFits d.keys) x.0.grants g fits.grants in
    let mine : grants_of d f ≡ x.0.grants = ap (λ o. option_map_or (λ y. y.grants) o []) x.1 in
    let size : size_of d g.key ≡ g.size = ap (λ o. option_map_or (λ y. y.size) o 0) its.1 ∙ sym its.2 in
    let made : ℕ → Grant = λ k. record { key = k; size = size_of d k; mode = g.mode } in
    let rest : ℕ → Answer = λ k. refuse_if (list_any (λ y. y.key == k) (grants_of d f)) taken (Ok (with_grant d f (made k))) in
    let once : list_any (λ y. y.key == g.key) (grants_of d f) ≡ false = ap (λ gs. list_any (λ y. y.key == g.key) gs) mine ∙ sym (any_of (λ y. y.key) g.key x.0.grants) ∙ number_anew (map (λ y. y.key) x.0.grants) g.key (subst Distinct (map-append (λ y. y.key) x.0.grants (g ∷ [])) fits.grants_differ) in
    answered ((is_full 32 (grants_of d f), too_many) ∷ []) (of_name (number_of key (key_names d)) rest) (ap (is_full 32) mine ∙ room 32 x.0.grants g fits.few_grants, tt)
    ∙ ap (λ o. of_name o rest) named
    ∙ answered ((list_any (λ y. y.key == g.key) (grants_of d f), taken) ∷ []) (Ok (with_grant d f (made g.key))) (once, tt)
    ∙ ap (λ n. Ok (with_grant d f (record g { size = n }))) size

pub callee_taken : (d : Draft) (f : ℕ) (callee : List ℕ) (c : ℕ) → f < length d.functions → number_of callee (function_names d) ≡ Some c → KeepsLimits (with_callee d f c) → allow d f callee ≡ Ok (with_callee d f c)
callee_taken d f callee c l named h =
    let x = entry d.functions f l in
    let change : DraftFunction → DraftFunction = λ y. record y { callees = y.callees ++ c ∷ [] } in
    let fits = changed_fits (FunctionFits d.keys (length (changed d.functions f change))) change d.functions f x.0 x.1 h.functions in
    let mine : callees_of d f ≡ x.0.callees = ap (λ o. option_map_or (λ y. y.callees) o []) x.1 in
    let rest : ℕ → Answer = λ k. refuse_if (list_any (λ y. y == k) (callees_of d f)) taken (Ok (with_callee d f k)) in
    let once : list_any (λ y. y == c) (callees_of d f) ≡ false = ap (λ gs. list_any (λ y. y == c) gs) mine ∙ number_anew x.0.callees c fits.callees_differ in
    answered ((is_full 256 (callees_of d f), too_many) ∷ []) (of_name (number_of callee (function_names d)) rest) (ap (is_full 256) mine ∙ room 256 x.0.callees c fits.few_callees, tt)
    ∙ ap (λ o. of_name o rest) named
    ∙ answered ((list_any (λ y. y == c) (callees_of d f), taken) ∷ []) (Ok (with_callee d f c)) (once, tt)
