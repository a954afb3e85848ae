-- What a call, a function and a key are called: a call by the label of its request and the way down to it, a function and a key by
-- the names in the plan. This project's own.
use Rattle.std.specs.Prelude.{◌≡◌, ◌==◌, not, true, Bool, ℕ, zero, suc, List, [], ◌∷◌, ◌++◌, Some, None, slice_get}
use Rattle.std.specs.List.{list_all}
use Rattle.faaslet_meaning.specs.declared.call.CallRecord.{CallRecord}
use Rattle.session_meaning.specs.Plan.{Request, Plan}
use Rattle.session_meaning.specs.SessionReport.{label_of, path}

-- The label of its request, and for each step from the request's call down to it the child's number.
pub record CallName : Type 0 where
  pub label : List ℕ
  pub steps : List ℕ

-- The steps down to a call. It has at most as many as its depth.
abbrev pub steps_by : List CallRecord → ℕ → ℕ → List ℕ
steps_by records zero call = []
steps_by records (suc depth) call = elim (slice_get records call) [ None ↦ [] | Some r ↦ elim r.parent [ None ↦ [] | Some parent ↦ steps_by records depth parent ++ r.child ∷ [] ] ]

-- a call that is not there has no label and no steps
abbrev pub call_name : Plan → List CallRecord → ℕ → CallName
call_name plan records call = elim (slice_get records call) [ None ↦ record { label = []; steps = [] } | Some r ↦ record { label = label_of plan r.request; steps = steps_by records r.depth call } ]

-- two places with one name are one place
abbrev pub NamedApart : {A : Type 0} → (A → List ℕ) → List A → Type 0
NamedApart {A} name xs = (m n : ℕ) (x y : A) → slice_get xs m ≡ Some x → slice_get xs n ≡ Some y → name x ≡ name y → m ≡ n

-- no two requests of a plan have one label
abbrev pub DistinctLabels : Plan → Type 0
DistinctLabels plan = NamedApart (λ r. r.label) plan.requests

-- no two keys have one name, and no two functions
pub record DistinctNames (plan : Plan) : Type 0 where
  pub keys : NamedApart (λ k. k.name) plan.keys
  pub functions : NamedApart (λ f. f.name) plan.functions

-- calls with one name are one call
abbrev pub CallsApart : Plan → List CallRecord → Type 0
CallsApart plan records = (c d : ℕ) (r s : CallRecord) → slice_get records c ≡ Some r → slice_get records d ≡ Some s → call_name plan records c ≡ call_name plan records d → c ≡ d

-- no label has a point
abbrev pub has_no_point : List ℕ → Bool
has_no_point text = list_all (λ c. not (c == 46)) text

abbrev pub PlainLabels : Plan → Type 0
PlainLabels plan = (n : ℕ) (r : Request) → slice_get plan.requests n ≡ Some r → has_no_point r.label ≡ true

-- calls with one path are one call
abbrev pub PathsApart : Plan → List CallRecord → Type 0
PathsApart plan records = (c d : ℕ) (r s : CallRecord) → slice_get records c ≡ Some r → slice_get records d ≡ Some s → path plan records c ≡ path plan records d → c ≡ d
