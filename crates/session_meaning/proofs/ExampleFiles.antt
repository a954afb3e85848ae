-- Session files worked out: each refusal at its place, and which of two comes first.
use Rattle.std.proofs.Common.{◌≡◌, ℕ, Bool, true, false, List, [], ◌∷◌, None, Ok, Err, codes, replicate, refl}
use Rattle.faaslet_meaning.specs.declared.grant.Mode.TheVariants.{Write}
use Rattle.hex.specs.Hex.{decode_pairs}
use Rattle.serde_json.specs.Data.{Data, number, string, array, object, unsigned, Items, no_items, item, Members, no_members, member}
use Rattle.session_meaning.specs.declared.fault.Kind.{Kind}
use Rattle.session_meaning.specs.declared.fault.Kind.TheVariants as kind
use Rattle.session_meaning.specs.declared.fault.SessionList.{SessionList}
use Rattle.session_meaning.specs.declared.fault.SessionList.TheVariants.{Keys, Functions, Requests, Session}
use Rattle.session_meaning.specs.SessionFile.{Answer, Planned, refused, plan_of_tree}

-- ---- Trees, as texts give them.

abbrev whole : ℕ → Data
whole n = number (unsigned n)

abbrev text : List ℕ → Data
text s = string s

abbrev members : List (List ℕ × Data) → Members
members [] = no_members
members (m ∷ ms) = member m.0 m.1 (members ms)

abbrev items : List Data → Items
items [] = no_items
items (d ∷ ds) = item d (items ds)

abbrev list : List Data → Data
list ds = array (items ds)

abbrev of : List (List ℕ × Data) → Data
of ms = object (members ms)

abbrev session : ℕ → ℕ → List Data → List Data → List Data → Data
session hosts workers keys functions requests =
    of ((codes "hosts", whole hosts) ∷ (codes "workers", whole workers) ∷ (codes "keys", list keys) ∷ (codes "functions", list functions) ∷ (codes "requests", list requests) ∷ [])

abbrev key : List ℕ → ℕ → List ℕ → Data
key name size init = of ((codes "name", text name) ∷ (codes "size", whole size) ∷ (codes "init", text init) ∷ [])

abbrev grant : List ℕ → List ℕ → Data
grant k mode = of ((codes "key", text k) ∷ (codes "mode", text mode) ∷ [])

abbrev function : List ℕ → List Data → List Data → Data
function name grants calls = of ((codes "name", text name) ∷ (codes "module", text (codes "m")) ∷ (codes "grants", list grants) ∷ (codes "calls", list calls) ∷ [])

-- with one member more
abbrev function_of : List ℕ → List ℕ → ℕ → Data
function_of name what n = of ((codes "name", text name) ∷ (codes "module", text (codes "m")) ∷ (what, whole n) ∷ [])

abbrev request : List ℕ → List ℕ → ℕ → List ℕ → Data
request label f host input = of ((codes "label", text label) ∷ (codes "function", text f) ∷ (codes "host", whole host) ∷ (codes "input", text input) ∷ [])

abbrev k : List ℕ
k = codes "k"

abbrev f : List ℕ
f = codes "f"

abbrev fails : Data → Kind → SessionList → ℕ → Type 0
fails d kind list place = plan_of_tree d ≡ Err (refused kind list place)

-- what it keeps is not looked at
abbrev is_taken : Answer Planned → Bool
is_taken (Ok p) = true
is_taken (Err e) = false

abbrev passes : Data → Type 0
passes d = is_taken (plan_of_tree d) ≡ true

-- ---- Nothing, and what it may have.

nothing : plan_of_tree (session 1 1 [] [] []) ≡ Ok (record { draft = record { hosts = 1; workers = 1; keys = []; functions = []; requests = [] }; paths = [] })
nothing = refl

many_hosts : fails (session 17 1 [] [] []) kind.Range Session 0
many_hosts = refl

no_workers : fails (session 1 0 [] [] []) kind.Range Session 0
no_workers = refl

-- the first number past 32 bits that would be 1 in 32 bits
wide : fails (session 4294967297 1 [] [] []) kind.Range Session 0
wide = refl

another_member : fails (of ((codes "hosts", whole 1) ∷ (codes "workers", whole 1) ∷ (codes "keys", list []) ∷ (codes "functions", list []) ∷ (codes "requests", list []) ∷ (codes "note", whole 1) ∷ [])) kind.Shape Session 0
another_member = refl

no_requests : fails (of ((codes "hosts", whole 1) ∷ (codes "workers", whole 1) ∷ (codes "keys", list []) ∷ (codes "functions", list []) ∷ [])) kind.Shape Session 0
no_requests = refl

-- the shape of the whole comes before a number that is out of range
shape_first : fails (session 17 1 (whole 1 ∷ []) [] []) kind.Shape Session 0
shape_first = refl

-- ---- Keys.

twice : fails (session 1 1 (key k 1 [] ∷ key k 1 [] ∷ []) [] []) kind.Duplicate Keys 1
unfolding decode_pairs
twice = refl

-- a function may have the name of a key
other_list : passes (session 1 1 (key f 1 [] ∷ []) (function f [] [] ∷ []) (request f f 0 [] ∷ []))
unfolding decode_pairs
other_list = refl

-- a name, then whether it is there already, then the size, then the initial bytes
name_first : fails (session 1 1 (key (codes "!") 0 (codes "00") ∷ []) [] []) kind.Name Keys 0
unfolding decode_pairs
name_first = refl

then_twice : fails (session 1 1 (key k 1 [] ∷ key k 0 (codes "00") ∷ []) [] []) kind.Duplicate Keys 1
unfolding decode_pairs
then_twice = refl

then_size : fails (session 1 1 (key k 0 (codes "00") ∷ []) [] []) kind.Range Keys 0
unfolding decode_pairs
then_size = refl

then_long : fails (session 1 1 (key k 1 (codes "0011") ∷ []) [] []) kind.Long Keys 0
unfolding decode_pairs
then_long = refl

hex_before_name : fails (session 1 1 (key (codes "!") 1 (codes "0g") ∷ []) [] []) kind.Hex Keys 0
unfolding decode_pairs
hex_before_name = refl

wide_key : fails (session 1 1 (key k 4294967297 [] ∷ []) [] []) kind.Range Keys 0
unfolding decode_pairs
wide_key = refl

long_name : fails (session 1 1 (key (replicate 65 97) 1 [] ∷ []) [] []) kind.Name Keys 0
unfolding decode_pairs
long_name = refl

longest_name : passes (session 1 1 (key (replicate 64 97) 1 [] ∷ []) [] [])
unfolding decode_pairs
longest_name = refl

-- ---- Functions, grants, and what may be called.

defaults : plan_of_tree (session 1 1 (key k 2 (codes "Ff") ∷ []) (function f (grant k (codes "write") ∷ []) (text f ∷ []) ∷ []) (request f f 0 (codes "0a") ∷ []))
    ≡ Ok (record {
      draft =
          record {
            hosts = 1;
            workers = 1;
            keys = record { name = k; size = 2; init = 255 ∷ [] } ∷ [];
            functions = record { name = f; code = None; quota = 64; fuel = 100000000; room = 1024; grants = record { key = 0; size = 2; mode = Write } ∷ []; callees = 0 ∷ [] } ∷ [];
            requests = record { label = f; function = 0; host = 0; input = 10 ∷ [] } ∷ [];
          };
      paths = codes "m" ∷ [];
    })
unfolding decode_pairs
defaults = refl

no_quota : fails (session 1 1 [] (function_of f (codes "quota") 0 ∷ []) []) kind.Range Functions 0
no_quota = refl

most_fuel : passes (session 1 1 [] (function_of f (codes "fuel") 1099511627776 ∷ []) [])
most_fuel = refl

much_fuel : fails (session 1 1 [] (function_of f (codes "fuel") 1099511627777 ∷ []) []) kind.Range Functions 0
much_fuel = refl

much_output : fails (session 1 1 [] (function_of f (codes "output") 65537 ∷ []) []) kind.Range Functions 0
much_output = refl

granted_twice : fails (session 1 1 (key k 1 [] ∷ []) (function f (grant k (codes "read") ∷ grant k (codes "write") ∷ []) [] ∷ []) []) kind.Duplicate Functions 0
unfolding decode_pairs
granted_twice = refl

no_such_key : fails (session 1 1 (key k 1 [] ∷ []) (function f (grant (codes "z") (codes "read") ∷ []) [] ∷ []) []) kind.Unknown Functions 0
unfolding decode_pairs
no_such_key = refl

no_such_mode : fails (session 1 1 (key k 1 [] ∷ []) (function f (grant k (codes "Read") ∷ []) [] ∷ []) []) kind.Shape Session 0
unfolding decode_pairs
no_such_mode = refl

-- all functions are added before the first is granted anything
later_functions_first : fails (session 1 1 [] (function f (grant (codes "z") (codes "read") ∷ []) [] ∷ function f [] [] ∷ []) []) kind.Duplicate Functions 1
later_functions_first = refl

may_call_a_later_one : passes (session 1 1 [] (function f [] (text (codes "g") ∷ []) ∷ function (codes "g") [] [] ∷ []) [])
may_call_a_later_one = refl

called_twice : fails (session 1 1 [] (function f [] (text f ∷ text f ∷ []) ∷ []) []) kind.Duplicate Functions 0
called_twice = refl

-- of a function its grants come first
grants_first : fails (session 1 1 (key k 1 [] ∷ []) (function f (grant k (codes "read") ∷ grant k (codes "read") ∷ []) (text (codes "z") ∷ []) ∷ []) []) kind.Duplicate Functions 0
unfolding decode_pairs
grants_first = refl

-- ---- Requests.

unknown_before_host : fails (session 1 1 [] (function f [] [] ∷ []) (request f (codes "z") 1 [] ∷ [])) kind.Unknown Requests 0
unfolding decode_pairs
unknown_before_host = refl

no_such_host : fails (session 1 1 [] (function f [] [] ∷ []) (request f f 1 [] ∷ [])) kind.Range Requests 0
unfolding decode_pairs
no_such_host = refl

wide_host : fails (session 1 1 [] (function f [] [] ∷ []) (request f f 4294967296 [] ∷ [])) kind.Range Requests 0
unfolding decode_pairs
wide_host = refl

label_twice : fails (session 1 1 [] (function f [] [] ∷ []) (request f f 0 [] ∷ request f f 0 [] ∷ [])) kind.Duplicate Requests 1
unfolding decode_pairs
label_twice = refl

odd_digits : fails (session 1 1 [] (function f [] [] ∷ []) (request f f 0 (codes "0g") ∷ [])) kind.Hex Requests 0
unfolding decode_pairs
odd_digits = refl

-- ---- Budgets: a key has a replica at each host and its global value.

-- (15 + 1) * 512 pages are as many as there may be
all_pages : passes (session 15 1 (key (codes "a") 16777216 [] ∷ key (codes "b") 16777216 [] ∷ []) [] [])
unfolding decode_pairs
all_pages = refl

a_page_too_many : fails (session 15 1 (key (codes "a") 16777216 [] ∷ key (codes "b") 16777216 [] ∷ key (codes "c") 1 [] ∷ []) [] []) kind.StateBudget Session 0
unfolding decode_pairs
a_page_too_many = refl

-- 16 * (8 * 8 * 1,024 + 1,024) pages are too many, 4 * (8 * 2 * 64 + 128) are not
much_quota : fails (session 16 8 [] (function_of f (codes "quota") 1024 ∷ []) []) kind.PageBudget Session 0
much_quota = refl

two_functions : passes (session 4 2 [] (function f [] [] ∷ function (codes "g") [] [] ∷ []) [])
two_functions = refl

-- the budget of state comes first, and both come last
state_first : fails (session 16 8 (key (codes "a") 16777216 [] ∷ key (codes "b") 16777216 [] ∷ []) (function_of f (codes "quota") 1024 ∷ []) []) kind.StateBudget Session 0
unfolding decode_pairs
state_first = refl

budgets_last : fails (session 16 8 (key (codes "a") 16777216 [] ∷ key (codes "b") 16777216 [] ∷ []) (function f [] [] ∷ []) (request f (codes "z") 0 [] ∷ [])) kind.Unknown Requests 0
unfolding decode_pairs
budgets_last = refl
