-- Which calls are awaited is the same behind a Take and behind an End: the call that is taken looks at no call yet, and one that has
-- ended at none any more.
use Rattle.std.proofs.Common.{◌≡◌, ℕ, Bool, true, false, cond, List, [], ◌∷◌, Option, Some, None, refl, sym, ap, ◌∙◌, slice_get, subst, arith}
use Rattle.std.specs.Prelude.{◌==◌, ◌||◌, nat_lt}
use Rattle.std.specs.List.{list_any}
use Rattle.std.proofs.lemmas.Bool.{eqb-true}
use Rattle.faaslet_meaning.specs.declared.call.CallRecord.{CallRecord}
use Rattle.faaslet_meaning.specs.declared.call.CallState.TheVariants.{Queued}
use Rattle.faaslet_meaning.specs.CallState.{State, asks, lost, over, runs}
use Rattle.faaslet_meaning.specs.Channels.{Question}
use Rattle.faaslet_meaning.specs.Records.{child_of, is_child}
use Rattle.faaslet_meaning.specs.Table.{finish}
use Rattle.session_meaning.specs.Events.{finished, open_at, took}
use Rattle.session_meaning.specs.Keeping.{CallsOpen}
use Rattle.session_meaning.specs.OpenCall.{Ended, Machine, Open, asking, ended, ended_by, is_broken, stands}
use Rattle.session_meaning.specs.Plan.{NamedFunction, Plan, Request}
use Rattle.session_meaning.specs.Schedule.{is_awaited, looked_at, looks_at, open_calls}
use Rattle.session_meaning.specs.World.{World, on_table}
use Rattle.session_meaning.proofs.CallsAlike.{put_here}
use Rattle.session_meaning.proofs.Family.{ChildOf, Family, Placed}
use Rattle.world_core.proofs.Children.{child_parts, first_place}
use Rattle.world_core.proofs.Looking.{asks_nothing, looks_by}
use Rattle.world_core.proofs.Places.{put, without}
use Rattle.world_core.proofs.Steps.{end_leaves_children, end_leaves_open, end_leaves_others, take_leaves_children, take_leaves_open, take_leaves_others}

-- ---- Which calls a call looks at.

leads_to : ℕ → Option ℕ → Bool
leads_to x k = elim k as (λ k. Bool) [ None ↦ false | Some c ↦ c == x ]

-- as before, where it stands as before and has the same children
looks_same : (w v : World) (c x : ℕ) → open_at v c ≡ open_at w c → ((n : ℕ) → child_of v.table.records c n ≡ child_of w.table.records c n) → looks_at v c x ≡ looks_at w c x
looks_same w v c x same children =
    ap (λ o. elim o as (λ o. Bool) [ None ↦ false | Some o ↦ looks_by v c x (asking o.machine) ]) same ∙ by (open_at w c)
  where
    at : (child : Option ℕ) → ◌≡◌ {A = Bool} (elim child [ None ↦ false | Some n ↦ elim (child_of v.table.records c n) [ None ↦ false | Some k ↦ k == x ] ]) (elim child [ None ↦ false | Some n ↦ elim (child_of w.table.records c n) [ None ↦ false | Some k ↦ k == x ] ])
    at None = refl
    at (Some n) = ap (λ k. elim k as (λ k. Bool) [ None ↦ false | Some k ↦ k == x ]) (children n)

    asked : (a : Option (State × Question)) → looks_by v c x a ≡ looks_by w c x a
    asked None = refl
    asked (Some a) = at (looked_at a.1)

    by : (o : Option Open) → ◌≡◌ {A = Bool} (elim o [ None ↦ false | Some o ↦ looks_by v c x (asking o.machine) ]) (elim o [ None ↦ false | Some o ↦ looks_by w c x (asking o.machine) ])
    by None = refl
    by (Some o) = asked (asking o.machine)

-- at none, where it has no children
looks_none : (w : World) (c x : ℕ) → ((n : ℕ) → child_of w.table.records c n ≡ None) → looks_at w c x ≡ false
looks_none w c x none = by (open_at w c)
  where
    at : (child : Option ℕ) → ◌≡◌ {A = Bool} (elim child [ None ↦ false | Some n ↦ elim (child_of w.table.records c n) [ None ↦ false | Some k ↦ k == x ] ]) false
    at None = refl
    at (Some n) = ap (λ k. elim k as (λ k. Bool) [ None ↦ false | Some k ↦ k == x ]) (none n)

    asked : (a : Option (State × Question)) → looks_by w c x a ≡ false
    asked None = refl
    asked (Some a) = at (looked_at a.1)

    by : (o : Option Open) → ◌≡◌ {A = Bool} (elim o [ None ↦ false | Some o ↦ looks_by w c x (asking o.machine) ]) false
    by None = refl
    by (Some o) = asked (asking o.machine)

-- at none, where it is not open
looks_closed : (w : World) (c x : ℕ) → open_at w c ≡ None → looks_at w c x ≡ false
looks_closed w c x none = ap (λ o. elim o as (λ o. Bool) [ None ↦ false | Some o ↦ looks_by w c x (asking o.machine) ]) none

-- ---- A call that no record counts children of has none.

some_same : {A : Type 0} {x y : A} → Some x ≡ Some y → x ≡ y
some_same e = cc

pub no_child : (rs : List Request) (records : List CallRecord) (call n : ℕ) (r : CallRecord) → Family rs records → slice_get records call ≡ Some r → r.children ≡ 0 → child_of records call n ≡ None
no_child rs records call n r family here none = by (child_of records call n) refl
  where
    by : (o : Option ℕ) → child_of records call n ≡ o → o ≡ None
    by None e = refl
    by (Some k) e =
        let f = first_place (is_child call n) 0 records k e in
        let a = child_parts call n f.item f.passes in
        let placed : ChildOf records call f.item = subst (Placed rs records f.place f.item) a.0 (family.placed f.place f.item f.here) in
        let same : placed.parent ≡ r = some_same (sym placed.parent_is ∙ here) in
        let few = placed.child in
        let count : placed.parent.children ≡ 0 = ap (λ z. z.children) same ∙ none in
        let bad : ⊥ = omega (arith, few, count) in
        absurd bad

-- ---- Over a list of calls.

any_alike : (f g : ℕ → Bool) (xs : List ℕ) → ((x : ℕ) → f x ≡ g x) → list_any f xs ≡ list_any g xs
any_alike f g [] same = refl
any_alike f g (x ∷ xs) same = ap (λ b. b || list_any f xs) (same x) ∙ ap (λ b. g x || b) (any_alike f g xs same)

any_put : (f : ℕ → Bool) (n : ℕ) (xs : List ℕ) → f n ≡ false → list_any f (put n xs) ≡ list_any f xs
any_put f n [] h = ap (λ b. b || false) h
any_put f n (x ∷ xs) h = by (nat_lt n x) (any_put f n xs h)
  where
    by : (b : Bool) → list_any f (put n xs) ≡ list_any f xs → list_any f (cond b (n ∷ x ∷ xs) (x ∷ put n xs)) ≡ (f x || list_any f xs)
    by true e = ap (λ b. b || (f x || list_any f xs)) h
    by false e = ap (λ b. f x || b) e

any_without : (f : ℕ → Bool) (n : ℕ) (xs : List ℕ) → f n ≡ false → list_any f (without n xs) ≡ list_any f xs
any_without f n [] h = refl
any_without f n (x ∷ xs) h = by (x == n) refl (any_without f n xs h)
  where
    by : (b : Bool) → (x == n) ≡ b → list_any f (without n xs) ≡ list_any f xs → list_any f (cond b xs (x ∷ without n xs)) ≡ (f x || list_any f xs)
    by true e r = sym (ap (λ b. b || list_any f xs) (ap f (eqb-true x n e) ∙ h))
    by false e r = ap (λ b. f x || b) r

-- where only this call's looks may be others, and it looks at none before and after
alike : (w v : World) (call x : ℕ) → looks_at w call x ≡ false → looks_at v call x ≡ false → ((c : ℕ) → (call == c) ≡ false → looks_at v c x ≡ looks_at w c x) → (c : ℕ) → looks_at v c x ≡ looks_at w c x
alike w v call x before after others c = by (call == c) refl
  where
    by : (b : Bool) → (call == c) ≡ b → looks_at v c x ≡ looks_at w c x
    by true e = let same = eqb-true call c e in ap (λ c. looks_at v c x) (sym same) ∙ after ∙ sym before ∙ ap (λ c. looks_at w c x) same
    by false e = others c e

-- ---- A Take.

pub take_awaits : (plan : Plan) (w : World) (call host : ℕ) (r : CallRecord) (here : slice_get w.table.records call ≡ Some r) (queued : r.state ≡ Queued) (opens : CallsOpen plan w) (f : NamedFunction) → slice_get plan.functions r.function ≡ Some f → ((n : ℕ) → child_of w.table.records call n ≡ None) → (x : ℕ) → is_awaited (took plan w call host r) x ≡ is_awaited w x
take_awaits plan w call host r here queued opens f function_so none x =
    any_alike (λ c. looks_at v c x) (λ c. looks_at w c x) (open_calls v) (alike w v call x before after others)
    ∙ ap (list_any (λ c. looks_at w c x)) (take_leaves_open plan w call host r here queued opens f function_so)
    ∙ any_put (λ c. looks_at w c x) call (open_calls w) before
  where
    v : World
    v = took plan w call host r

    before : looks_at w call x ≡ false
    before = looks_none w call x none

    after : looks_at (took plan w call host r) call x ≡ false
    after = looks_none (took plan w call host r) call x (λ n. take_leaves_children plan w call host r here queued opens call n ∙ none n)

    others : (c : ℕ) → (call == c) ≡ false → looks_at (took plan w call host r) c x ≡ looks_at w c x
    others c ne = looks_same w (took plan w call host r) c x (take_leaves_others plan w call host r here queued opens c ne) (take_leaves_children plan w call host r here queued opens c)

-- ---- An End.

asks_no_more : (fuel : ℕ) (m : Machine) (e : Ended) → ended_by fuel m ≡ Some e → asking m ≡ None
asks_no_more fuel (stands (over s o)) e is = refl
asks_no_more fuel (is_broken k) e is = refl
asks_no_more fuel (stands (runs s)) e is = refl
asks_no_more fuel (stands lost) e is = refl
asks_no_more fuel (stands (asks s q)) e is = let bad : ⊥ = cc in absurd bad

-- it is open no more
pub closes : (w : World) (call : ℕ) (o : Open) (e : Ended) → open_at (finished w call o e) call ≡ None
closes w call o e = by (open_at (finished w call o e) call) refl
  where
    by : (x : Option Open) → open_at (finished w call o e) call ≡ x → x ≡ None
    by None is = refl
    by (Some y) is = let no = put_here (on_table w call (finish call e.outcome e.used e.output o.counts)) call None y is in let bad : ⊥ = cc in absurd bad

pub end_awaits : (plan : Plan) (w : World) (call : ℕ) (r : CallRecord) (here : slice_get w.table.records call ≡ Some r) (o : Open) (at : open_at w call ≡ Some o) (e : Ended) (opens : CallsOpen plan w) → ended o ≡ Some e → (x : ℕ) → is_awaited (finished w call o e) x ≡ is_awaited w x
end_awaits plan w call r here o at e opens is x =
    any_alike (λ c. looks_at v c x) (λ c. looks_at w c x) (open_calls v) (alike w v call x before after others)
    ∙ ap (list_any (λ c. looks_at w c x)) (end_leaves_open plan w call r here o at e opens)
    ∙ any_without (λ c. looks_at w c x) call (open_calls w) before
  where
    v : World
    v = finished w call o e

    before : looks_at w call x ≡ false
    before = asks_nothing w call x o o.machine at refl (asks_no_more o.fuel o.machine e is)

    after : looks_at (finished w call o e) call x ≡ false
    after = looks_closed (finished w call o e) call x (closes w call o e)

    others : (c : ℕ) → (call == c) ≡ false → looks_at (finished w call o e) c x ≡ looks_at w c x
    others c ne = looks_same w (finished w call o e) c x (end_leaves_others plan w call r here o at e opens c ne) (end_leaves_children plan w call r here o at e opens c)
