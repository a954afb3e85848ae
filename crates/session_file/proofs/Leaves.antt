-- How many entries each call of the registry leaves.
use Rattle.std.proofs.Common.{◌≡◌, ℕ, Bool, true, false, List, [], ◌∷◌, ◌++◌, length, Option, Some, None, Ok, ◌==◌, not, nat_lt, subst, arith}
use Rattle.std.specs.List.{list_any}
use Rattle.std.proofs.lemmas.List.{length_push}
use Rattle.faaslet_meaning.specs.declared.grant.Grant.{Grant}
use Rattle.faaslet_meaning.specs.declared.grant.Mode.{Mode}
use Rattle.session_meaning.specs.Plan.{Key, Request}
use Rattle.session_meaning.specs.Draft.{DraftFunction, Draft, new_function, with_key, with_function, with_grant, with_callee, with_request, on_function}
use Rattle.session_meaning.specs.Registry as registry
use Rattle.session_meaning.specs.Registry.{Refusal, too_many, bad_name, taken, out_of_range, too_long, refuse_if, of_name, is_full}
use Rattle.session_meaning.specs.Names.{is_within, is_name, number_of, is_taken}
use Rattle.session_meaning.specs.WellFormed.{key_names, function_names, labels}
use Rattle.session_meaning.proofs.Entries.{length-changed}
use Rattle.session_file.specs.Grown.{Grown}

abbrev Rules : Type 0
Rules = List (Bool × Refusal)

abbrev tested : Rules → registry.Answer → registry.Answer
tested [] a = a
tested (r ∷ rs) a = refuse_if r.0 r.1 (tested rs a)

-- where no rule is met the last answer counts
last : (rs : Rules) (a : registry.Answer) (d : Draft) → tested rs a ≡ Ok d → a ≡ Ok d
last [] a d e = e
last (r ∷ rs) a d e = by r.0 e (last rs a d)
  where
    by : (b : Bool) → refuse_if b r.1 (tested rs a) ≡ Ok d → (tested rs a ≡ Ok d → a ≡ Ok d) → a ≡ Ok d
    by true h rest = let no : ⊥ = cc in absurd no
    by false h rest = rest h

numbered : (o : Option ℕ) (go : ℕ → registry.Answer) (d : Draft) → of_name o go ≡ Ok d → (k : ℕ) × (go k ≡ Ok d)
numbered None go d e = let no : ⊥ = cc in absurd no
numbered (Some k) go d e = (k, e)

same : (d e : Draft) → ◌≡◌ {A = registry.Answer} (Ok d) (Ok e) → d ≡ e
same d e h = cc

grown : (k f r : ℕ) (d c e : Draft) → Grown k f r d c → ◌≡◌ {A = registry.Answer} (Ok c) (Ok e) → Grown k f r d e
grown k f r d c e g h = subst (Grown k f r d) (same c e h) g

changed_grows : (d : Draft) (f : ℕ) (change : DraftFunction → DraftFunction) → Grown 0 0 0 d (on_function d f change)
changed_grows d f change = let len = length-changed change d.functions f in record { more_keys = omega arith; more_functions = omega (arith, len); more_requests = omega arith }

pub key_grows : (d e : Draft) (name : List ℕ) (size : ℕ) (init : List ℕ) → registry.add_key d name size init ≡ Ok e → Grown 1 0 0 d e
key_grows d e name size init h =
    let key : Key = record { name = name; size = size; init = init } in
    let added = last
    ((is_full 64 d.keys, too_many) ∷ (not (is_name name), bad_name) ∷ (is_taken name (key_names d), taken) ∷ (not (is_within 1 16777216 size), out_of_range) ∷ (nat_lt size (length init), too_long) ∷ [])
    (Ok (with_key d key)) e h in
    grown 1 0 0 d (with_key d key) e (record { more_keys = length_push d.keys key; more_functions = omega arith; more_requests = omega arith }) added

pub function_grows : (d e : Draft) (name : List ℕ) (quota fuel room : ℕ) → registry.add_function d name quota fuel room ≡ Ok e → Grown 0 1 0 d e
function_grows d e name quota fuel room h =
    let function : DraftFunction = new_function name quota fuel room in
    let added = last
    ((is_full 256 d.functions, too_many) ∷ (not (is_name name), bad_name) ∷ (is_taken name (function_names d), taken) ∷ (not (is_within 1 1024 quota), out_of_range) ∷ (not (is_within 1 1099511627776 fuel), out_of_range) ∷ (not (is_within 0 65536 room), out_of_range) ∷ [])
    (Ok (with_function d function)) e h in
    grown 0 1 0 d (with_function d function) e (record { more_keys = omega arith; more_functions = length_push d.functions function; more_requests = omega arith }) added

pub grant_grows : (d e : Draft) (f : ℕ) (key : List ℕ) (mode : Mode) → registry.grant d f key mode ≡ Ok e → Grown 0 0 0 d e
grant_grows d e f key mode h =
    let of : ℕ → Grant = λ k. record { key = k; size = registry.size_of d k; mode = mode } in
    let go : ℕ → registry.Answer = λ k. refuse_if (list_any (λ x. x.key == k) (registry.grants_of d f)) taken (Ok (with_grant d f (of k))) in
    let room = last ((is_full 32 (registry.grants_of d f), too_many) ∷ []) (of_name (number_of key (key_names d)) go) e h in
    let t = numbered (number_of key (key_names d)) go e room in
    let added = last ((list_any (λ x. x.key == t.0) (registry.grants_of d f), taken) ∷ []) (Ok (with_grant d f (of t.0))) e t.1 in
    grown 0 0 0 d (with_grant d f (of t.0)) e (changed_grows d f (λ x. record x { grants = x.grants ++ of t.0 ∷ [] })) added

pub callee_grows : (d e : Draft) (f : ℕ) (callee : List ℕ) → registry.allow d f callee ≡ Ok e → Grown 0 0 0 d e
callee_grows d e f callee h =
    let go : ℕ → registry.Answer = λ k. refuse_if (list_any (λ x. x == k) (registry.callees_of d f)) taken (Ok (with_callee d f k)) in
    let room = last ((is_full 256 (registry.callees_of d f), too_many) ∷ []) (of_name (number_of callee (function_names d)) go) e h in
    let t = numbered (number_of callee (function_names d)) go e room in
    let added = last ((list_any (λ x. x == t.0) (registry.callees_of d f), taken) ∷ []) (Ok (with_callee d f t.0)) e t.1 in
    grown 0 0 0 d (with_callee d f t.0) e (changed_grows d f (λ x. record x { callees = x.callees ++ t.0 ∷ [] })) added

pub request_grows : (d e : Draft) (label function : List ℕ) (host : ℕ) (input : List ℕ) → registry.add_request d label function host input ≡ Ok e → Grown 0 0 1 d e
request_grows d e label function host input h =
    let of : ℕ → Request = λ f. record { label = label; function = f; host = host; input = input } in
    let go : ℕ → registry.Answer = λ f. refuse_if (not (nat_lt host d.hosts)) out_of_range (refuse_if (nat_lt 65536 (length input)) too_long (Ok (with_request d (of f)))) in
    let named = last
    ((is_full 1024 d.requests, too_many) ∷ (not (is_name label), bad_name) ∷ (is_taken label (labels d), taken) ∷ [])
    (of_name (number_of function (function_names d)) go) e h in
    let n = numbered (number_of function (function_names d)) go e named in
    let added = last ((not (nat_lt host d.hosts), out_of_range) ∷ (nat_lt 65536 (length input), too_long) ∷ []) (Ok (with_request d (of n.0))) e n.1 in
    grown 0 0 1 d (with_request d (of n.0)) e (record { more_keys = omega arith; more_functions = omega arith; more_requests = length_push d.requests (of n.0) }) added
