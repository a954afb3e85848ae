-- What is left to do in a world, as a number: a queued call weighs more than an open one, and a question more than a child that it
-- submits.
use Rattle.std.proofs.Common.{◌≡◌, ℕ, zero, suc, ◌+◌, ◌-◌, ◌*◌, ◌<◌, ◌≤◌, cond, List, [], ◌∷◌, ◌++◌, Option, Some, None, refl, ap, ◌∙◌, length, slice_get, slice_set, unwrap_or, replicate, arith}
use Rattle.faaslet_meaning.specs.declared.call.CallRecord.{CallRecord}
use Rattle.faaslet_meaning.specs.Bounds.{bound, fuel_asks, steps_left}
use Rattle.faaslet_meaning.specs.CallState.{Invocation, Progress, runs, asks, over, lost, fresh_state}
use Rattle.faaslet_meaning.specs.Call.{call_step}
use Rattle.faaslet_meaning.specs.Configuration.{Configuration}
use Rattle.faaslet_meaning.specs.Fresh.{Function, Made, makes, breaks, nothing, fresh}
use Rattle.faaslet_meaning.specs.Lists.{total, changed}
use Rattle.faaslet_meaning.specs.Records.{is_queued}
use Rattle.faaslet_meaning.specs.Runs.{invocation}
use Rattle.faaslet_meaning.proofs.Bounded.{step_bound}
use Rattle.session_meaning.specs.Plan.{NamedFunction, Plan}
use Rattle.session_meaning.specs.OpenCall.{Machine, stands, is_broken, Open, steps, opened, machine_by}
use Rattle.session_meaning.specs.World.{filled}

-- ---- So many times a number.

abbrev pub times : ℕ → ℕ → ℕ
times zero a = 0
times (suc n) a = times n a + a

pub times_more : (m n a : ℕ) → m ≤ n → times m a ≤ times n a
times_more zero n a l = omega arith
times_more (suc m) zero a l = let no : ⊥ = omega (arith, l) in absurd no
times_more (suc m) (suc n) a l = let h = times_more m n a (omega (arith, l)) in omega (arith, h)

pub times_less : (m n a : ℕ) → m < n → times m a + a ≤ times n a
times_less m n a l = times_more (suc m) n a (omega (arith, l))

-- ---- What a call may still ask.

abbrev pub machine_cost : Invocation → Machine → ℕ
machine_cost j (stands p) = bound j p
machine_cost j (is_broken k) = 0

abbrev pub cost : Open → ℕ
cost o = machine_cost o.invocation o.machine

abbrev first_asks : Function → Made Configuration → ℕ
first_asks f (makes c) = fuel_asks c + 2 * length f.grants
first_asks f (breaks k) = 0
first_asks f nothing = 0

-- more than any call of the plan
abbrev pub most : Plan → ℕ
most plan = total (λ f. first_asks f.function (fresh f.function)) plan.functions

in_total : {A : Type 0} (f : A → ℕ) (xs : List A) (n : ℕ) (x : A) → slice_get xs n ≡ Some x → f x ≤ total f xs
in_total f [] n x e = let no : ⊥ = cc in absurd no
in_total f (y ∷ xs) zero x e = let same : y ≡ x = cc in let at = ap f same in omega (arith, at)
in_total f (y ∷ xs) (suc n) x e = let h = in_total f xs n x e in omega (arith, h)

pub steps_cost : (j : Invocation) (n : ℕ) (p : Progress) → bound j (steps j n p) ≤ bound j p
steps_cost j zero p = omega arith
steps_cost j (suc n) (runs s) = let h = steps_cost j n (call_step j s) in let k = step_bound j s in omega (arith, h, k)
steps_cost j (suc n) (asks s q) = omega arith
steps_cost j (suc n) (over s o) = omega arith
steps_cost j (suc n) lost = omega arith

pub opened_cost : (plan : Plan) (n : ℕ) (f : NamedFunction) (input : List ℕ) (host : ℕ) → slice_get plan.functions n ≡ Some f → cost (opened f.function input host) ≤ most plan
opened_cost plan n f input host e = by (fresh f.function) (in_total (λ f. first_asks f.function (fresh f.function)) plan.functions n f e)
  where
    by : (m : Made Configuration) → first_asks f.function m ≤ most plan → machine_cost (invocation f.function input) (machine_by (invocation f.function input) m) ≤ most plan
    by (makes c) l = let h = steps_cost (invocation f.function input) (steps_left (runs (fresh_state c))) (runs (fresh_state c)) in omega (arith, h, l)
    by (breaks k) l = omega arith
    by nothing l = omega arith

-- ---- What is left to do in a world: a queued call weighs more than an open one, and a question more than a child that it submits.

abbrev pub room : ℕ → ℕ → ℕ
room m zero = 1
room m (suc h) = times m (room m h) + 3

pub room_some : (m h : ℕ) → 0 < room m h
room_some m zero = omega arith
room_some m (suc h) = omega arith

abbrev pub height : CallRecord → ℕ
height r = 8 - r.depth

abbrev pub weight : ℕ → CallRecord → Option Open → ℕ
weight m r (Some o) = times (cost o) (room m (height r)) + 1
weight m r None = cond (is_queued r.state) (times m (room m (height r)) + 2) 0

abbrev pub weigh : ℕ → List CallRecord → List (Option Open) → ℕ
weigh m [] cs = 0
weigh m (r ∷ rs) [] = weight m r None + weigh m rs []
weigh m (r ∷ rs) (c ∷ cs) = weight m r c + weigh m rs cs

weigh_nones : (m : ℕ) (rs : List CallRecord) (k : ℕ) → weigh m rs (replicate k None) ≡ weigh m rs []
weigh_nones m [] k = refl
weigh_nones m (r ∷ rs) zero = refl
weigh_nones m (r ∷ rs) (suc k) = ap (λ n. weight m r None + n) (weigh_nones m rs k)

pub weigh_more : (m : ℕ) (rs : List CallRecord) (cs : List (Option Open)) (k : ℕ) → weigh m rs (cs ++ replicate k None) ≡ weigh m rs cs
weigh_more m rs [] k = weigh_nones m rs k
weigh_more m [] (c ∷ cs) k = refl
weigh_more m (r ∷ rs) (c ∷ cs) k = ap (λ n. weight m r c + n) (weigh_more m rs cs k)

changed_more : {A : Type 0} (x : A) (xs : List A) (n : ℕ) (f : A → A) → changed (x ∷ xs) (suc n) f ≡ x ∷ changed xs n f
changed_more {A} x xs n f = by (slice_get xs n)
  where
    by : (o : Option A) → elim o [ None ↦ x ∷ xs | Some y ↦ x ∷ slice_set xs n (f y) ] ≡ x ∷ elim o [ None ↦ xs | Some y ↦ slice_set xs n (f y) ]
    by None = refl
    by (Some y) = refl

-- one call changed
pub weigh_changed : (m : ℕ) (rs : List CallRecord) (cs : List (Option Open)) (n : ℕ) (r : CallRecord) (c : Option Open) (f : CallRecord → CallRecord) (g : Option Open → Option Open) → slice_get rs n ≡ Some r → slice_get cs n ≡ Some c → weigh m (changed rs n f) (changed cs n g) + weight m r c ≡ weigh m rs cs + weight m (f r) (g c)
weigh_changed m [] cs n r c f g e h = let no : ⊥ = cc in absurd no
weigh_changed m (x ∷ rs) [] n r c f g e h = let no : ⊥ = cc in absurd no
weigh_changed m (x ∷ rs) (y ∷ cs) zero r c f g e h =
    let same : x ≡ r = cc in
    let call : y ≡ c = cc in
    let a = ap (λ z. weight m z y) same in
    let b = ap (weight m r) call in
    let p = ap (λ z. weight m (f z) (g y)) same in
    let q = ap (λ z. weight m (f r) (g z)) call in
    omega (arith, a, b, p, q)
weigh_changed m (x ∷ rs) (y ∷ cs) (suc n) r c f g e h =
    let k = weigh_changed m rs cs n r c f g e h in
    let left = ap (λ z. weigh m z (changed (y ∷ cs) (suc n) g)) (changed_more x rs n f) ∙ ap (weigh m (x ∷ changed rs n f)) (changed_more y cs n g) in
    omega (arith, k, left)

pub weigh_alike : (m : ℕ) (rs : List CallRecord) (cs : List (Option Open)) (n : ℕ) (f : CallRecord → CallRecord) → ((r : CallRecord) (c : Option Open) → weight m (f r) c ≡ weight m r c) → weigh m (changed rs n f) cs ≡ weigh m rs cs
weigh_alike m [] cs n f same = refl
weigh_alike m (x ∷ rs) [] zero f same = ap (λ k. k + weigh m rs []) (same x None)
weigh_alike m (x ∷ rs) (c ∷ cs) zero f same = ap (λ k. k + weigh m rs cs) (same x c)
weigh_alike m (x ∷ rs) [] (suc n) f same = ap (λ z. weigh m z []) (changed_more x rs n f) ∙ ap (λ k. weight m x None + k) (weigh_alike m rs [] n f same)
weigh_alike m (x ∷ rs) (c ∷ cs) (suc n) f same = ap (λ z. weigh m z (c ∷ cs)) (changed_more x rs n f) ∙ ap (λ k. weight m x c + k) (weigh_alike m rs cs n f same)

pub weigh_push : (m : ℕ) (rs : List CallRecord) (cs : List (Option Open)) (x : CallRecord) → length cs ≤ length rs → weigh m (rs ++ x ∷ []) cs ≡ weigh m rs cs + weight m x None
weigh_push m [] [] x l = omega arith
weigh_push m [] (c ∷ cs) x l = let no : ⊥ = omega (arith, l) in absurd no
weigh_push m (r ∷ rs) [] x l = let h = weigh_push m rs [] x (omega arith) in omega (arith, h)
weigh_push m (r ∷ rs) (c ∷ cs) x l = let h = weigh_push m rs cs x (omega (arith, l)) in omega (arith, h)

-- there is a place for each record, and no new one is open
pub filled_at : (n : ℕ) (cs : List (Option Open)) (k : ℕ) → k < n → slice_get (filled n cs) k ≡ Some (unwrap_or (slice_get cs k) None)
filled_at n cs k l = by cs (n - length cs) k (omega (arith, l))
  where
    by : (cs : List (Option Open)) (i k : ℕ) → k < length cs + i → slice_get (cs ++ replicate i None) k ≡ Some (unwrap_or (slice_get cs k) None)
    by [] zero k h = let no : ⊥ = omega (arith, h) in absurd no
    by [] (suc i) zero h = refl
    by [] (suc i) (suc k) h = by [] i k (omega (arith, h))
    by (c ∷ cs) i zero h = refl
    by (c ∷ cs) i (suc k) h = by cs i k (omega (arith, h))
