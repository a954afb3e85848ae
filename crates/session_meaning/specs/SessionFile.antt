-- What a session file stands for, or why it stands for nothing: the first refusal in the order of this page. This project's own.
use Rattle.std.specs.Prelude.{◌≡◌, ℕ, ◌+◌, ◌<◌, ◌≤◌, All, List, [], ◌∷◌, Option, Some, None, Result, Ok, Err, length, map, min, IsUtf8}
use Rattle.hex.specs.Hex.{decode_of}
use Rattle.serde_json.specs.Data.{Data}
use Rattle.serde_json.specs.Read.{read}
use Rattle.session_meaning.specs.declared.fault.Kind.{Kind}
use Rattle.session_meaning.specs.declared.fault.Kind.TheVariants as kind
use Rattle.session_meaning.specs.declared.fault.SessionList.{SessionList}
use Rattle.session_meaning.specs.declared.fault.SessionList.TheVariants.{Keys, Functions, Requests, Session}
use Rattle.session_meaning.specs.SessionLimits.{file_limit}
use Rattle.session_meaning.specs.Draft.{Draft}
use Rattle.session_meaning.specs.WellFormed.{WellFormedDraft}
use Rattle.session_meaning.specs.Registry as registry
use Rattle.session_meaning.specs.Registry.{Refusal, too_many, bad_name, taken, out_of_range, too_long, unknown_name, over_state_budget, over_page_budget}
use Rattle.session_meaning.specs.SessionText.{KeyText, GrantText, FunctionText, RequestText, SessionText, session_text}

-- what is wrong, in which list, and at which place from 0
pub record Refused : Type 0 where
  pub kind : Kind
  pub list : SessionList
  pub place : ℕ

abbrev pub refused : Kind → SessionList → ℕ → Refused
refused kind list place = record { kind = kind; list = list; place = place }

abbrev pub Answer : Type 0 → Type 0
Answer A = Result A Refused

abbrev pub then_do : {A B : Type 0} → Answer A → (A → Answer B) → Answer B
then_do (Ok a) go = go a
then_do (Err e) go = Err e

-- what a refusal of the registry is called
abbrev pub kind_of : Refusal → Kind
kind_of too_many = kind.Many
kind_of bad_name = kind.Name
kind_of taken = kind.Duplicate
kind_of out_of_range = kind.Range
kind_of too_long = kind.Long
kind_of unknown_name = kind.Unknown
kind_of over_state_budget = kind.StateBudget
kind_of over_page_budget = kind.PageBudget

-- what the registry answers for the entry at a place of a list
abbrev pub on : SessionList → ℕ → registry.Answer → Answer Draft
on list place (Ok draft) = Ok draft
on list place (Err e) = Err (refused (kind_of e) list place)

-- digits in pairs, of either case
abbrev pub hex_bytes : {E B : Type 0} → SessionList → ℕ → Result (List ℕ) E → (List ℕ → Answer B) → Answer B
hex_bytes list place (Ok bytes) go = go bytes
hex_bytes list place (Err e) go = Err (refused kind.Hex list place)

-- a whole number as a field of 32 bits takes it
abbrev pub capped : ℕ → ℕ
capped n = min n 4294967295

-- each item in its turn, where the first has the place i
abbrev pub in_turn : {A B : Type 0} → ℕ → (ℕ → A → B → Answer A) → A → List B → Answer A
in_turn i act a [] = Ok a
in_turn i act a (x ∷ xs) = then_do (act i a x) λ b. in_turn (i + 1) act b xs

abbrev pub add_key : ℕ → Draft → KeyText → Answer Draft
add_key i d k = hex_bytes Keys i (decode_of k.init) λ init. on Keys i (registry.add_key d k.name (capped k.size) init)

-- fuel has 64 bits, as numbers of the tree
abbrev pub add_function : ℕ → Draft → FunctionText → Answer Draft
add_function i d f = on Functions i (registry.add_function d f.name (capped f.quota) f.fuel (capped f.room))

abbrev pub grant : ℕ → ℕ → Draft → GrantText → Answer Draft
grant f _ d g = on Functions f (registry.grant d f g.key g.mode)

abbrev pub allow : ℕ → ℕ → Draft → List ℕ → Answer Draft
allow f _ d callee = on Functions f (registry.allow d f callee)

-- a function's grants, and then what it may call
abbrev pub entitle : ℕ → Draft → FunctionText → Answer Draft
entitle f d t = then_do (in_turn 0 (grant f) d t.grants) λ d. in_turn 0 (allow f) d t.calls

abbrev pub add_request : ℕ → Draft → RequestText → Answer Draft
add_request i d r = hex_bytes Requests i (decode_of r.input) λ input. on Requests i (registry.add_request d r.label r.function (capped r.host) input)

abbrev pub planned : SessionText → Answer Draft
planned s =
    then_do (on Session 0 (registry.new (capped s.hosts) (capped s.workers))) λ d.
    then_do (in_turn 0 add_key d s.keys) λ d.
    then_do (in_turn 0 add_function d s.functions) λ d.
    then_do (in_turn 0 entitle d s.functions) λ d.
    then_do (in_turn 0 add_request d s.requests) λ d.
    on Session 0 (registry.check_budget d)

-- a draft without modules, and where the module of each function stands
pub record Planned : Type 0 where
  pub draft : Draft
  pub paths : List (List ℕ)

abbrev pub plan_of_text : Option SessionText → Answer Planned
plan_of_text None = Err (refused kind.Shape Session 0)
plan_of_text (Some s) = then_do (planned s) λ d. Ok (record { draft = d; paths = map (λ f. f.path) s.functions })

abbrev pub plan_of_tree : Data → Answer Planned
plan_of_tree tree = plan_of_text (session_text tree)

-- these bytes are the text of this value
pub record IsTree (bytes : List ℕ) (tree : Data) : Type 0 where
  pub text : IsUtf8 bytes
  pub value : read bytes ≡ Some tree

-- what a file is answered: its length comes first, then that it is a JSON text, and then what its tree is answered
pub data PlanOf (bytes : List ℕ) : Answer Planned → Type 0 where
  too_many_bytes : file_limit < length bytes → PlanOf bytes (Err (refused kind.Long Session 0))
  no_tree : length bytes ≤ file_limit → ((tree : Data) → IsTree bytes tree → ⊥) → PlanOf bytes (Err (refused kind.Json Session 0))
  has_tree : length bytes ≤ file_limit → (tree : Data) → IsTree bytes tree → PlanOf bytes (plan_of_tree tree)

-- What a file gives keeps every limit, and both budgets. No function has a module yet, and each has a path.
pub record FileFits (p : Planned) : Type 0 where
  pub fits : WellFormedDraft p.draft
  pub no_modules : All (λ f. f.code ≡ None) p.draft.functions
  pub paths : length p.paths ≡ length p.draft.functions
