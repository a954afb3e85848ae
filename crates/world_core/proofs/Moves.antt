-- What an event does to the calls that are queued and those that are open.
use Rattle.std.proofs.Common.{◌≡◌, ℕ, zero, suc, ◌+◌, ◌-◌, Bool, true, false, cond, List, [], ◌∷◌, ◌++◌, Option, Some, None, length, replicate, refl, ap, ap₂, ◌∙◌, slice_get, slice_set, zero-add}
use Rattle.std.specs.Prelude.{is_some}
use Rattle.faaslet_meaning.specs.declared.call.CallRecord.{CallRecord}
use Rattle.faaslet_meaning.specs.Lists.{changed, places, places_from}
use Rattle.faaslet_meaning.specs.Records.{is_queued, queued_calls}
use Rattle.session_meaning.specs.OpenCall.{Open}
use Rattle.session_meaning.specs.World.{filled}
use Rattle.world_core.proofs.Places.{put, without, places_put, places_without, places_same, places_more}

-- ---- One item changed.

changed_is : {A : Type 0} (xs : List A) (n : ℕ) (f : A → A) (x : A) → slice_get xs n ≡ Some x → changed xs n f ≡ slice_set xs n (f x)
changed_is {A} xs n f x e = ap (λ o. elim o as (λ o. List A) [ None ↦ xs | Some y ↦ slice_set xs n (f y) ]) e

pub now_passes : {A : Type 0} (test : A → Bool) (xs : List A) (n : ℕ) (f : A → A) (x : A) → slice_get xs n ≡ Some x → test x ≡ false → test (f x) ≡ true → places test (changed xs n f) ≡ put n (places test xs)
now_passes test xs n f x e fails holds = ap (places test) (changed_is xs n f x e) ∙ places_put test 0 n xs x (f x) e fails holds ∙ ap (λ m. put m (places test xs)) (zero-add n)

pub passes_no_more : {A : Type 0} (test : A → Bool) (xs : List A) (n : ℕ) (f : A → A) (x : A) → slice_get xs n ≡ Some x → test x ≡ true → test (f x) ≡ false → places test (changed xs n f) ≡ without n (places test xs)
passes_no_more test xs n f x e holds fails = ap (places test) (changed_is xs n f x e) ∙ places_without test 0 n xs x (f x) e holds fails ∙ ap (λ m. without m (places test xs)) (zero-add n)

pub passes_as_before : {A : Type 0} (test : A → Bool) (xs : List A) (n : ℕ) (f : A → A) → ((x : A) → test (f x) ≡ test x) → places test (changed xs n f) ≡ places test xs
passes_as_before {A} test xs n f same = by (slice_get xs n) refl
  where
    by : (o : Option A) → slice_get xs n ≡ o → places test (elim o as (λ o. List A) [ None ↦ xs | Some y ↦ slice_set xs n (f y) ]) ≡ places test xs
    by None e = refl
    by (Some x) e = places_same test 0 n xs x (f x) e (same x)

-- ---- One more that is queued.

pub one_more_queued : (rs : List CallRecord) (r : CallRecord) → is_queued r.state ≡ true → queued_calls (rs ++ r ∷ []) ≡ queued_calls rs ++ length rs ∷ []
one_more_queued rs r queued =
    places_more (λ r. is_queued r.state) 0 rs r
    ∙ ap₂ (λ b n. queued_calls rs ++ cond b (n ∷ []) []) queued (zero-add (length rs))

-- ---- No call of a new record is open.

none_more : (k n : ℕ) → places_from k is_some (replicate n (let none : Option Open = None in none)) ≡ []
none_more k zero = refl
none_more k (suc n) = none_more (k + 1) n

open_after : (k : ℕ) (cs : List (Option Open)) (n : ℕ) → places_from k is_some (cs ++ replicate n None) ≡ places_from k is_some cs
open_after k [] n = none_more k n
open_after k (c ∷ cs) n = ap (λ l. cond (is_some c) (k ∷ l) l) (open_after (k + 1) cs n)

pub open_as_before : (n : ℕ) (cs : List (Option Open)) → places is_some (filled n cs) ≡ places is_some cs
open_as_before n cs = open_after 0 cs (n - length cs)
