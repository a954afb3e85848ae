-- The way up from a call spells its path.
use Rattle.std.proofs.Common.{◌≡◌, ℕ, zero, suc, ◌-◌, ◌<◌, ◌≤◌, ◌⊎◌, inl, inr, List, [], ◌∷◌, ◌++◌, Option, Some, None, length, slice_get, refl, sym, ap, ◌∙◌, append_assoc, append-nil, arith}
use Rattle.std.specs.Prelude.{codes}
use Rattle.std.specs.Fmt.{decimal}
use Rattle.std.proofs.lemmas.Option.{slice_get_within}
use Rattle.faaslet_meaning.specs.declared.call.CallRecord.{CallRecord}
use Rattle.session_meaning.specs.Plan.{Plan}
use Rattle.session_meaning.specs.SessionReport.{label_of, path_by}
use Rattle.session_report.specs.Told.{steps_text}

-- one step more, above the others
step_above : (steps : List ℕ) (step : ℕ) → steps_text (steps ++ step ∷ []) ≡ (codes "." ++ decimal step) ++ steps_text steps
step_above [] step = sym (append-nil _)
step_above (s ∷ steps) step =
    ap (λ t. (t ++ codes ".") ++ decimal s) (step_above steps step)
    ∙ ap (λ t. t ++ decimal s) (append_assoc (codes "." ++ decimal step) (steps_text steps) (codes "."))
    ∙ append_assoc (codes "." ++ decimal step) (steps_text steps ++ codes ".") (decimal s)

-- the path of a call that is so many calls below the session, as its record says
abbrev above : Plan → List CallRecord → ℕ → CallRecord → Option ℕ → List ℕ
above plan records depth r parent = elim parent [ None ↦ label_of plan r.request | Some p ↦ path_by plan records depth p ++ codes "." ++ decimal r.child ]

abbrev of_record : Plan → List CallRecord → ℕ → Option CallRecord → List ℕ
of_record plan records depth o = elim o [ None ↦ [] | Some r ↦ above plan records depth r r.parent ]

-- a call that has a parent
path_step : (plan : Plan) (records : List CallRecord) (depth call : ℕ) (r : CallRecord) (parent : ℕ) → 0 < depth → slice_get records call ≡ Some r → r.parent ≡ Some parent
    → path_by plan records depth call ≡ path_by plan records (depth - 1) parent ++ codes "." ++ decimal r.child
path_step plan records zero call r parent some is has = absurd (omega (arith, some))
path_step plan records (suc depth) call r parent some is has =
    let same : depth ≡ suc depth - 1 = omega arith in
    ap (of_record plan records depth) is ∙ ap (above plan records depth r) has ∙ ap (λ d. path_by plan records d parent ++ codes "." ++ decimal r.child) same

pub up_more : (plan : Plan) (records : List CallRecord) (all : List ℕ) (depth call : ℕ) (r : CallRecord) (parent : ℕ) (steps : List ℕ) → 0 < depth → slice_get records call ≡ Some r → r.parent ≡ Some parent
    → all ≡ path_by plan records depth call ++ steps_text steps → all ≡ path_by plan records (depth - 1) parent ++ steps_text (steps ++ r.child ∷ [])
up_more plan records all depth call r parent steps some is has e =
    let high = path_by plan records (depth - 1) parent in
    e ∙ ap (λ t. t ++ steps_text steps) (path_step plan records depth call r parent some is has)
    ∙ ap (λ t. t ++ steps_text steps) (append_assoc high (codes ".") (decimal r.child))
    ∙ append_assoc high (codes "." ++ decimal r.child) (steps_text steps)
    ∙ ap (λ t. high ++ t) (sym (step_above steps r.child))

-- the way leads no further
pub up_none : (plan : Plan) (records : List CallRecord) (depth call : ℕ) → (depth ≡ 0) ⊎ (length records ≤ call) → path_by plan records depth call ≡ []
up_none plan records zero call end = refl
up_none plan records (suc depth) call (inl e) = absurd (omega (arith, e))
up_none plan records (suc depth) call (inr far) = by (slice_get records call) refl
  where
    by : (o : Option CallRecord) → slice_get records call ≡ o → of_record plan records depth o ≡ []
    by None e = refl
    by (Some r) e = absurd (omega (arith, far, slice_get_within records call r e))

-- the highest step is written before the others
pub down_more : (out new all steps left : List ℕ) (step : ℕ) → new ≡ out ++ (codes "." ++ decimal step) → steps ≡ left ++ step ∷ [] → out ++ steps_text steps ≡ all → new ++ steps_text left ≡ all
down_more out new all steps left step wrote popped e =
    ap (λ t. t ++ steps_text left) wrote ∙ append_assoc out (codes "." ++ decimal step) (steps_text left)
    ∙ ap (λ t. out ++ t) (sym (step_above left step) ∙ ap steps_text (sym popped)) ∙ e
