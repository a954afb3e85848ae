-- Lines that are written one after the other are the lines of all.
use Rattle.std.proofs.Common.{◌≡◌, ℕ, ◌+◌, ◌<◌, inl, inr, List, [], ◌∷◌, ◌++◌, Some, length, drop, slice_get, slice_index_or, sym, ap, ap₂, ◌∙◌, append_assoc, add-one, arith}
use Rattle.std.proofs.Math.Seq.{drop-cons}
use Rattle.std.proofs.lemmas.Option.{slice_get-get_or, slice_get_within, slice_get_cases, get_or_from_slice_get}
use Rattle.faaslet_meaning.specs.declared.call.CallRecord.{CallRecord}
use Rattle.session_meaning.specs.Plan.{Key, Plan, Request}
use Rattle.session_meaning.specs.SessionReport.{request_line, request_lines, state_line, state_lines}
use Rattle.session_report.specs.Told.{blocked_line, blocked_lines}
use Rattle.session_report.specs.declared.reported.Blocked.{Blocked}

-- what stands at a place of a list
pub there : {A : Type 0} (xs : List A) (i : ℕ) → i < length xs → (x : A) × (slice_get xs i ≡ Some x)
there xs i h = elim (slice_get_cases xs i).1 [
  | inl a ↦ (a.0, a.2)
  | inr b ↦ absurd (omega (arith, h, b.0))
]

drop_at : {A : Type 0} (xs : List A) (i : ℕ) (x : A) → slice_get xs i ≡ Some x → drop i xs ≡ x ∷ drop (i + 1) xs
drop_at xs i x e = drop-cons xs i x (slice_get_within xs i x e) ∙ ap₂ (λ y n. y ∷ drop n xs) (get_or_from_slice_get xs i x x e) (sym (add-one i))

-- one text more of those that are left
one_more : (now after first rest left all : List ℕ) → after ≡ now ++ first → left ≡ first ++ rest → now ++ left ≡ all → after ++ rest ≡ all
one_more now after first rest left all e f h = ap (λ z. z ++ rest) e ∙ append_assoc now first rest ∙ ap (λ z. now ++ z) (sym f) ∙ h

-- the requests that are left, of which the next is this one
pub requests_left : (records : List CallRecord) (rs : List Request) (i : ℕ) (r : Request) → slice_get rs i ≡ Some r → request_lines records i (drop i rs) ≡ request_line records i r ++ request_lines records (i + 1) (drop (i + 1) rs)
requests_left records rs i r e = ap (request_lines records i) (drop_at rs i r e) ∙ ap (λ n. request_line records i r ++ request_lines records n (drop (i + 1) rs)) (sym (add-one i))

-- the same of global values
pub values_left : (ks : List Key) (vs : List (List ℕ)) (i : ℕ) (k : Key) (v : List ℕ) → slice_get ks i ≡ Some k → slice_get vs i ≡ Some v → state_lines (drop i ks) (drop i vs) ≡ state_line k v ++ state_lines (drop (i + 1) ks) (drop (i + 1) vs)
values_left ks vs i k v e g = ap₂ state_lines (drop_at ks i k e) (drop_at vs i v g)

-- the same of blocked calls
pub blocked_left : (plan : Plan) (records : List CallRecord) (all : List Blocked) (i : ℕ) (b : Blocked) → slice_get all i ≡ Some b → blocked_lines plan records (drop i all) ≡ blocked_line plan records b ++ blocked_lines plan records (drop (i + 1) all)
blocked_left plan records all i b e = ap (blocked_lines plan records) (drop_at all i b e)

pub one_request : (records : List CallRecord) (rs : List Request) (i : ℕ) (r : Request) (now after all : List ℕ) → slice_get rs i ≡ Some r → after ≡ now ++ request_line records i r → now ++ request_lines records i (drop i rs) ≡ all → after ++ request_lines records (i + 1) (drop (i + 1) rs) ≡ all
one_request records rs i r now after all e f h =
    one_more now after (request_line records i r) (request_lines records (i + 1) (drop (i + 1) rs)) (request_lines records i (drop i rs)) all f (requests_left records rs i r e) h

pub one_value : (ks : List Key) (vs : List (List ℕ)) (i : ℕ) (k : Key) (v now after all : List ℕ) → slice_get ks i ≡ Some k → slice_get vs i ≡ Some v → after ≡ now ++ state_line k v → now ++ state_lines (drop i ks) (drop i vs) ≡ all → after ++ state_lines (drop (i + 1) ks) (drop (i + 1) vs) ≡ all
one_value ks vs i k v now after all e g f h =
    one_more now after (state_line k v) (state_lines (drop (i + 1) ks) (drop (i + 1) vs)) (state_lines (drop i ks) (drop i vs)) all f (values_left ks vs i k v e g) h

-- a blocked call at a place, with its line as it was pushed onto an empty one
pub next_blocked : (plan : Plan) (records : List CallRecord) (all : List Blocked) (i : ℕ) (d : Blocked) (bytes after before : List ℕ) → i < length all → bytes ≡ after → after ≡ before ++ blocked_line plan records (slice_index_or all i d) → before ≡ []
    → (b : Blocked) × (slice_get all i ≡ Some b) × (bytes ≡ blocked_line plan records b)
next_blocked plan records all i d bytes after before within is pushed empty =
    let b = slice_index_or all i d in
    (b, slice_get-get_or all i d within, is ∙ pushed ∙ ap (λ t. t ++ blocked_line plan records b) empty)
