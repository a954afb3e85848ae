-- The first reason why an event may not stand, read off the calls that are queued and those that are open.
use Rattle.std.proofs.Common.{◌≡◌, ℕ, zero, suc, ◌<◌, ◌≤◌, Bool, false, cond, List, [], ◌∷◌, Option, Some, None, length, refl, sym, ap, ◌∙◌, slice_get, unwrap_or, zero-add, arith}
use Rattle.std.specs.Prelude.{is_some}
use Rattle.std.proofs.lemmas.Bool.{le-ltb, lt-ltb}
use Rattle.std.proofs.lemmas.Option.{slice_get_past}
use Rattle.faaslet_meaning.specs.declared.call.CallRecord.{CallRecord}
use Rattle.faaslet_meaning.specs.Lists.{passes_at, places}
use Rattle.faaslet_meaning.specs.Records.{is_queued, queued_calls}
use Rattle.session_meaning.specs.declared.event.Event.TheVariants.{Ask, End, Take}
use Rattle.session_meaning.specs.declared.event.Why.{Why}
use Rattle.session_meaning.specs.declared.event.Why.TheVariants.{NoCall, NoHost, NotOpen, NotQueued}
use Rattle.session_meaning.specs.Events.{open_at, why, why_ask, why_end, why_open, why_take}
use Rattle.session_meaning.specs.OpenCall.{Open}
use Rattle.session_meaning.specs.Schedule.{open_calls}
use Rattle.session_meaning.specs.World.{World}
use Rattle.world_core.proofs.Places.{among, found_at}

pub in_places : {A : Type 0} (test : A → Bool) (xs : List A) (n : ℕ) → among n (places test xs) ≡ passes_at test xs n
in_places test xs n = ap (λ m. among m (places test xs)) (sym (zero-add n)) ∙ found_at test 0 n xs

by_record : (w : World) (call : ℕ) (P : Option CallRecord → Type 0) → P None → ((r : CallRecord) → slice_get w.table.records call ≡ Some r → P (Some r)) → P (slice_get w.table.records call)
by_record w call P none some = by (slice_get w.table.records call) refl
  where
    by : (o : Option CallRecord) → slice_get w.table.records call ≡ o → P o
    by None e = none
    by (Some r) e = some r e

none_past : (w : World) (call : ℕ) → length w.table.records ≤ call → slice_get w.table.records call ≡ None
none_past w call h = slice_get_past w.table.records call h

-- ---- No such call.

pub take_no_call : (w : World) (call host : ℕ) → length w.table.records ≤ call → why w (Take call host) ≡ Some NoCall
take_no_call w call host h = ap (λ o. elim o as (λ o. Option Why) [ None ↦ Some NoCall | Some r ↦ why_take w r host ]) (none_past w call h)

pub ask_no_call : (w : World) (call : ℕ) → length w.table.records ≤ call → why w (Ask call) ≡ Some NoCall
ask_no_call w call h = ap (λ o. elim o as (λ o. Option Why) [ None ↦ Some NoCall | Some r ↦ why_open w call (why_ask w call) ]) (none_past w call h)

pub end_no_call : (w : World) (call : ℕ) → length w.table.records ≤ call → why w (End call) ≡ Some NoCall
end_no_call w call h = ap (λ o. elim o as (λ o. Option Why) [ None ↦ Some NoCall | Some r ↦ why_open w call why_end ]) (none_past w call h)

-- ---- A Take.

there : {A : Type 0} (xs : List A) (n : ℕ) → n < length xs → (x : A) × (slice_get xs n ≡ Some x)
there [] n h = let bad : ⊥ = omega (arith, h) in absurd bad
there (x ∷ xs) zero h = (x, refl)
there (x ∷ xs) (suc n) h = there xs n (omega (arith, h))

take_there : (w : World) (call host : ℕ) (r : CallRecord) → slice_get w.table.records call ≡ Some r → why w (Take call host) ≡ why_take w r host
take_there w call host r e = ap (λ o. elim o as (λ o. Option Why) [ None ↦ Some NoCall | Some r ↦ why_take w r host ]) e

pub queued_so : (w : World) (call : ℕ) (r : CallRecord) → slice_get w.table.records call ≡ Some r → among call (queued_calls w.table.records) ≡ is_queued r.state
queued_so w call r e = in_places (λ r. is_queued r.state) w.table.records call ∙ ap (λ o. elim o as (λ o. Bool) [ None ↦ false | Some r ↦ is_queued r.state ]) e

pub take_no_host : (w : World) (call host : ℕ) → call < length w.table.records → w.table.hosts ≤ host → why w (Take call host) ≡ Some NoHost
take_no_host w call host l h =
    let r = there w.table.records call l in
    take_there w call host r.0 r.1 ∙ ap (λ b. cond b (cond (is_queued r.0.state) None (Some NotQueued)) (Some NoHost)) (le-ltb host w.table.hosts h)

pub take_is : (w : World) (call host : ℕ) → call < length w.table.records → host < w.table.hosts → why w (Take call host) ≡ cond (among call (queued_calls w.table.records)) None (Some NotQueued)
take_is w call host l h =
    let r = there w.table.records call l in
    take_there w call host r.0 r.1
    ∙ ap (λ b. cond b (cond (is_queued r.0.state) None (Some NotQueued)) (Some NoHost)) (lt-ltb host w.table.hosts h)
    ∙ ap (λ b. cond b None (Some NotQueued)) (sym (queued_so w call r.0 r.1))

-- ---- An Ask and an End.

pub open_so : (w : World) (call : ℕ) → among call (open_calls w) ≡ is_some (open_at w call)
open_so w call = in_places is_some w.calls call ∙ by (slice_get w.calls call)
  where
    by : (o : Option (Option Open)) → ◌≡◌ {A = Bool} (elim o [ None ↦ false | Some x ↦ is_some x ]) (is_some (unwrap_or o None))
    by None = refl
    by (Some x) = refl

not_open : (w : World) (call : ℕ) → among call (open_calls w) ≡ false → open_at w call ≡ None
not_open w call h = by (open_at w call) (sym (open_so w call) ∙ h)
  where
    by : (o : Option Open) → is_some o ≡ false → o ≡ None
    by None e = refl
    by (Some x) e = let bad : ⊥ = cc in absurd bad

abbrev opened_by : World → ℕ → (Open → Option Why) → Option CallRecord → Option Why
opened_by w call reason o = elim o as (λ o. Option Why) [ None ↦ Some NoCall | Some r ↦ why_open w call reason ]

pub ask_not_open : (w : World) (call : ℕ) → call < length w.table.records → among call (open_calls w) ≡ false → why w (Ask call) ≡ Some NotOpen
ask_not_open w call l h =
    let r = there w.table.records call l in
    ap (opened_by w call (why_ask w call)) r.1 ∙ ap (λ o. elim o as (λ o. Option Why) [ None ↦ Some NotOpen | Some o ↦ why_ask w call o ]) (not_open w call h)

pub end_not_open : (w : World) (call : ℕ) → call < length w.table.records → among call (open_calls w) ≡ false → why w (End call) ≡ Some NotOpen
end_not_open w call l h =
    let r = there w.table.records call l in
    ap (opened_by w call why_end) r.1 ∙ ap (λ o. elim o as (λ o. Option Why) [ None ↦ Some NotOpen | Some o ↦ why_end o ]) (not_open w call h)

pub ask_is : (w : World) (call : ℕ) (o : Open) → call < length w.table.records → open_at w call ≡ Some o → why w (Ask call) ≡ why_ask w call o
ask_is w call o l h =
    let r = there w.table.records call l in
    ap (opened_by w call (why_ask w call)) r.1 ∙ ap (λ o. elim o as (λ o. Option Why) [ None ↦ Some NotOpen | Some o ↦ why_ask w call o ]) h

pub end_is : (w : World) (call : ℕ) (o : Open) → call < length w.table.records → open_at w call ≡ Some o → why w (End call) ≡ why_end o
end_is w call o l h =
    let r = there w.table.records call l in
    ap (opened_by w call why_end) r.1 ∙ ap (λ o. elim o as (λ o. Option Why) [ None ↦ Some NotOpen | Some o ↦ why_end o ]) h
