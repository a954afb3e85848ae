-- The first reason why an event may not stand, told by searches of the queued and of the open calls.
use Rattle.std.proofs.Common.{◌≡◌, ℕ, ◌<◌, Bool, true, false, cond, List, Some, None, length, map, refl, sym, ap, ap₂, ◌∙◌, slice_get}
use Rattle.std.specs.Prelude.{◌==◌, nat_lt, position}
use Rattle.std.specs.List.{position_or_len}
use Rattle.std.proofs.lemmas.List.{length-map}
use Rattle.faaslet_meaning.specs.Records.{queued_calls}
use Rattle.session_meaning.specs.declared.event.Event.TheVariants.{Ask, End, Take}
use Rattle.session_meaning.specs.declared.event.Why.TheVariants.{NotOpen, NotQueued}
use Rattle.session_meaning.specs.Events.{why}
use Rattle.session_meaning.specs.Schedule.{open_calls}
use Rattle.session_meaning.specs.World.{World}
use Rattle.world_core.proofs.Places.{among, position_map, position_there}
use Rattle.world_core.proofs.Reasons.{ask_not_open, end_not_open, take_is}

-- ---- What a search finds.

number_among : {A : Type 0} (number : A → ℕ) (n : ℕ) (xs : List A) → among n (map number xs) ≡ nat_lt (position_or_len (λ x. number x == n) xs) (length xs)
number_among number n xs = ap₂ nat_lt (sym (position_map number (λ m. m == n) xs)) (length-map xs number)

pub not_found : {A : Type 0} (number : A → ℕ) (n : ℕ) (xs : List A) → position (λ x. number x == n) xs ≡ None → among n (map number xs) ≡ false
not_found number n xs e = number_among number n xs ∙ by (nat_lt (position_or_len (λ x. number x == n) xs) (length xs)) e
  where
    by : (b : Bool) → cond b (Some (position_or_len (λ x. number x == n) xs)) None ≡ None → b ≡ false
    by true h = let bad : ⊥ = cc in absurd bad
    by false h = refl

pub record Found {A : Type 0} (number : A → ℕ) (n i : ℕ) (xs : List A) : Type 0 where
  pub item : A
  pub here : slice_get xs i ≡ Some item
  pub is : number item ≡ n
  pub there : among n (map number xs) ≡ true

pub found : {A : Type 0} (number : A → ℕ) (n i : ℕ) (xs : List A) → position (λ x. number x == n) xs ≡ Some i → Found number n i xs
found {A} number n i xs e = by (nat_lt (position_or_len (λ x. number x == n) xs) (length xs)) (number_among number n xs) e
  where
    by : (b : Bool) → among n (map number xs) ≡ b → cond b (Some (position_or_len (λ x. number x == n) xs)) None ≡ Some i → Found number n i xs
    by true h f =
        let at = position_there number n xs h in
        let same : position_or_len (λ x. number x == n) xs ≡ i = cc in
        record { item = at.0; here = ap (slice_get xs) (sym same) ∙ at.1; is = at.2; there = h }
    by false h f = let bad : ⊥ = cc in absurd bad

-- ---- A Take, where these are the queued calls.

module _ {A : Type 0} (w : World) (number : A → ℕ) (queued : List A) (so : map number queued ≡ queued_calls w.table.records) where
  pub says_not_queued : (call host : ℕ) → call < length w.table.records → host < w.table.hosts → position (λ q. number q == call) queued ≡ None → why w (Take call host) ≡ Some NotQueued
  says_not_queued call host l m e = take_is w call host l m ∙ ap (λ b. cond b None (Some NotQueued)) (ap (among call) (sym so) ∙ not_found number call queued e)

  pub says_free : (call host i : ℕ) → call < length w.table.records → host < w.table.hosts → position (λ q. number q == call) queued ≡ Some i → why w (Take call host) ≡ None
  says_free call host i l m e = take_is w call host l m ∙ ap (λ b. cond b None (Some NotQueued)) (ap (among call) (sym so) ∙ (found number call i queued e).there)

-- ---- An Ask and an End, where these are the open calls.

pub says_not_open : {A : Type 0} (w : World) (number : A → ℕ) (calls : List A) (call : ℕ) → map number calls ≡ open_calls w → call < length w.table.records → position (λ c. number c == call) calls ≡ None → (why w (Ask call) ≡ Some NotOpen) × (why w (End call) ≡ Some NotOpen)
says_not_open w number calls call so l e =
    let none : among call (open_calls w) ≡ false = ap (among call) (sym so) ∙ not_found number call calls e in
    (ask_not_open w call l none, end_not_open w call l none)
