-- A kept call has the same path in the cut, and the same line where it is blocked.
use Rattle.std.proofs.Common.{◌≡◌, ℕ, zero, suc, Bool, true, false, cond, List, [], ◌∷◌, ◌++◌, Option, Some, None, refl, ap, ◌∙◌, map, slice_get, option_map, filter, codes}
use Rattle.std.specs.Fmt.{decimal}
use Rattle.faaslet_meaning.specs.declared.call.CallRecord.{CallRecord}
use Rattle.session_meaning.specs.Plan.{Key, Request, Plan}
use Rattle.session_meaning.specs.SessionReport.{label_of, path_by, path, key_name}
use Rattle.session_meaning.specs.Cut.{Part, kept, rank, cut_record, cut_request, cut_plan}
use Rattle.session_meaning.proofs.Kept.{get_kept, get_map}
use Rattle.session_meaning.proofs.Tables.{AllFit, get_cut}

-- a request is kept where its first call is
abbrev pub RequestsKept : Part → (ℕ → Bool) → List Request → Type 0
RequestsKept part is rs = (n : ℕ) (r : Request) → slice_get rs n ≡ Some r → part.functions r.function ≡ is n

pub filter_kept : (part : Part) (is : ℕ → Bool) (rs : List Request) → RequestsKept part is rs → filter (λ r. part.functions r.function) rs ≡ kept is rs
filter_kept part is [] same = refl
filter_kept part is (r ∷ rs) same = ap (λ b. cond b (r ∷ filter (λ r. part.functions r.function) rs) (filter (λ r. part.functions r.function) rs)) (same 0 r refl) ∙ by (is 0) (filter_kept part (λ n. is (suc n)) rs (λ n q e. same (suc n) q e))
  where
    by : (b : Bool) → filter (λ r. part.functions r.function) rs ≡ kept (λ n. is (suc n)) rs → cond b (r ∷ filter (λ r. part.functions r.function) rs) (filter (λ r. part.functions r.function) rs) ≡ cond b (r ∷ kept (λ n. is (suc n)) rs) (kept (λ n. is (suc n)) rs)
    by true e = ap (λ xs. r ∷ xs) e
    by false e = e

abbrev label_by : Option Request → List ℕ
label_by o = elim o [ None ↦ [] | Some r ↦ r.label ]

pub label_cut : (part : Part) (plan : Plan) (q : ℕ) → RequestsKept part part.calls plan.requests → part.calls q ≡ true → label_of (cut_plan part plan) (rank part.calls q) ≡ label_of plan q
label_cut part plan q same i =
    ap label_by (ap (λ rs. slice_get (map (cut_request part) rs) (rank part.calls q)) (filter_kept part part.calls plan.requests same) ∙ get_map (cut_request part) (kept part.calls plan.requests) (rank part.calls q) ∙ ap (option_map (cut_request part)) (get_kept part.calls plan.requests q i))
    ∙ by (slice_get plan.requests q)
  where
    by : (o : Option Request) → label_by (option_map (cut_request part) o) ≡ label_by o
    by None = refl
    by (Some r) = refl

abbrev step_by : Plan → (ℕ → List ℕ) → ℕ → ℕ → Option ℕ → List ℕ
step_by plan go request child o = elim o [ None ↦ label_of plan request | Some parent ↦ go parent ++ codes "." ++ decimal child ]

abbrev path_at : Plan → (ℕ → List ℕ) → Option CallRecord → List ℕ
path_at plan go o = elim o [ None ↦ [] | Some r ↦ step_by plan go r.request r.child r.parent ]

path_by_cut : (part : Part) (plan : Plan) (rs : List CallRecord) (depth call : ℕ) → AllFit part rs → RequestsKept part part.calls plan.requests → part.calls call ≡ true → path_by (cut_plan part plan) (map (cut_record part) (kept part.calls rs)) depth (rank part.calls call) ≡ path_by plan rs depth call
path_by_cut part plan rs zero call fit same i = refl
path_by_cut part plan rs (suc depth) call fit same i =
    ap (path_at (cut_plan part plan) (path_by (cut_plan part plan) (map (cut_record part) (kept part.calls rs)) depth)) (get_cut part rs call i)
    ∙ by (slice_get rs call) refl (λ parent k. path_by_cut part plan rs depth parent fit same k)
  where
    up : (r : CallRecord) → slice_get rs call ≡ Some r → ((parent : ℕ) → part.calls parent ≡ true → path_by (cut_plan part plan) (map (cut_record part) (kept part.calls rs)) depth (rank part.calls parent) ≡ path_by plan rs depth parent) → (o : Option ℕ) → r.parent ≡ o → step_by (cut_plan part plan) (path_by (cut_plan part plan) (map (cut_record part) (kept part.calls rs)) depth) (rank part.calls r.request) r.child (option_map (rank part.calls) o) ≡ step_by plan (path_by plan rs depth) r.request r.child o
    up r e go None h = label_cut part plan r.request same ((fit call r e).request ∙ i)
    up r e go (Some p) h = ap (λ xs. xs ++ codes "." ++ decimal r.child) (go p ((fit call r e).parent p h ∙ i))

    by : (o : Option CallRecord) → slice_get rs call ≡ o → ((parent : ℕ) → part.calls parent ≡ true → path_by (cut_plan part plan) (map (cut_record part) (kept part.calls rs)) depth (rank part.calls parent) ≡ path_by plan rs depth parent) → path_at (cut_plan part plan) (path_by (cut_plan part plan) (map (cut_record part) (kept part.calls rs)) depth) (option_map (cut_record part) o) ≡ path_at plan (path_by plan rs depth) o
    by None e go = refl
    by (Some r) e go = up r e go r.parent refl

abbrev whole_path : (ℕ → List ℕ) → Option CallRecord → List ℕ
whole_path go o = elim o [ None ↦ [] | Some r ↦ go r.depth ]

-- The name of a kept call, its request's label and the numbers of its children, is the same in the cut.
pub path_cut : (part : Part) (plan : Plan) (rs : List CallRecord) (call : ℕ) → AllFit part rs → RequestsKept part part.calls plan.requests → part.calls call ≡ true → path (cut_plan part plan) (map (cut_record part) (kept part.calls rs)) (rank part.calls call) ≡ path plan rs call
path_cut part plan rs call fit same i = ap (whole_path (λ d. path_by (cut_plan part plan) (map (cut_record part) (kept part.calls rs)) d (rank part.calls call))) (get_cut part rs call i) ∙ by (slice_get rs call)
  where
    by : (o : Option CallRecord) → whole_path (λ d. path_by (cut_plan part plan) (map (cut_record part) (kept part.calls rs)) d (rank part.calls call)) (option_map (cut_record part) o) ≡ whole_path (λ d. path_by plan rs d call) o
    by None = refl
    by (Some r) = path_by_cut part plan rs r.depth call fit same i

abbrev key_by : Option Key → List ℕ
key_by o = elim o [ None ↦ [] | Some k ↦ k.name ]

pub key_cut : (part : Part) (plan : Plan) (key : ℕ) → part.keys key ≡ true → key_name (cut_plan part plan) (rank part.keys key) ≡ key_name plan key
key_cut part plan key k = ap key_by (get_kept part.keys plan.keys key k)
