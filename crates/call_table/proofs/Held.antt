-- What is known of a record in a table, and that a table stays one where a record is changed or put behind the others.
use Rattle.std.proofs.Common.{◌≡◌, ℕ, zero, suc, ◌+◌, ◌<◌, ◌≤◌, ◌^◌, List, [], ◌∷◌, ◌++◌, length, true, Option, Some, None, All, slice_get, slice_set, refl, sym, ap, subst, arith}
use Rattle.std.proofs.lemmas.List.{length-set, length_push}
use Rattle.std.proofs.lemmas.List.Elements.{All-get_or, All-set, All-push, All-weaker}
use Rattle.std.proofs.lemmas.Option.{slice_get_within, get_or_from_slice_get, same_Some}
use Rattle.faaslet_meaning.specs.declared.call.Callable.{Callable}
use Rattle.faaslet_meaning.specs.declared.call.CallRecord.{CallRecord}
use Rattle.faaslet_meaning.specs.declared.call.CallState.{CallState}
use Rattle.faaslet_meaning.specs.declared.call.CallState.TheVariants.{Queued, Taken, Finished}
use Rattle.faaslet_meaning.specs.declared.outcome.Outcome.{Outcome}
use Rattle.faaslet_meaning.specs.Lists.{changed}
use Rattle.faaslet_meaning.specs.Records.{is_queued, is_finished}
use Rattle.call_table.specs.Held.{IsHeld}
use Rattle.call_table.specs.Inside.{IsTable, HasSpare, HaveSpares, channels_of}
use Rattle.call_table.specs.Spare.{HasRoom}
use Rattle.call_table.specs.declared.spare.Spare.{Spare}

pub changed_set : {A : Type 0} (xs : List A) (n : ℕ) (x : A) (change : A → A) → slice_get xs n ≡ Some x → changed xs n change ≡ slice_set xs n (change x)
changed_set xs n x change e = ap (λ o. elim o [ None ↦ xs | Some y ↦ slice_set xs n (change y) ]) e

-- ---- Room beside the records.

pub have_len : (fs : List Callable) (rs : List CallRecord) (ss : List (Option Spare)) → HaveSpares fs rs ss → length ss ≡ length rs
have_len fs [] [] h = refl
have_len fs [] (s ∷ ss) h = absurd h
have_len fs (r ∷ rs) [] h = absurd h
have_len fs (r ∷ rs) (s ∷ ss) h = ap suc (have_len fs rs ss h.1)

pub spare_at : (fs : List Callable) (rs : List CallRecord) (ss : List (Option Spare)) (n : ℕ) (r : CallRecord) (o : Option Spare) → HaveSpares fs rs ss → slice_get rs n ≡ Some r → slice_get ss n ≡ Some o → HasSpare fs r o
spare_at fs [] ss n r o h e f = let no : ⊥ = cc in absurd no
spare_at fs (x ∷ rs) [] n r o h e f = absurd h
spare_at fs (x ∷ rs) (s ∷ ss) zero r o h e f = subst (λ y. HasSpare fs y o) (same_Some x r e) (subst (λ y. HasSpare fs x y) (same_Some s o f) h.0)
spare_at fs (x ∷ rs) (s ∷ ss) (suc n) r o h e f = spare_at fs rs ss n r o h.1 e f

spares_stay : (fs : List Callable) (rs : List CallRecord) (ss : List (Option Spare)) (n : ℕ) (r new : CallRecord) → HaveSpares fs rs ss → slice_get rs n ≡ Some r → ((o : Option Spare) → HasSpare fs r o → HasSpare fs new o) → HaveSpares fs (slice_set rs n new) ss
spares_stay fs [] ss n r new h e k = h
spares_stay fs (x ∷ rs) [] n r new h e k = absurd h
spares_stay fs (x ∷ rs) (s ∷ ss) zero r new h e k = (k s (subst (λ y. HasSpare fs y s) (same_Some x r e) h.0), h.1)
spares_stay fs (x ∷ rs) (s ∷ ss) (suc n) r new h e k = (h.0, spares_stay fs rs ss n r new h.1 e k)

spares_change : (fs : List Callable) (rs : List CallRecord) (ss : List (Option Spare)) (n : ℕ) (new : CallRecord) (o : Option Spare) → HaveSpares fs rs ss → HasSpare fs new o → HaveSpares fs (slice_set rs n new) (slice_set ss n o)
spares_change fs [] [] n new o h k = h
spares_change fs [] (s ∷ ss) n new o h k = absurd h
spares_change fs (x ∷ rs) [] n new o h k = absurd h
spares_change fs (x ∷ rs) (s ∷ ss) zero new o h k = (k, h.1)
spares_change fs (x ∷ rs) (s ∷ ss) (suc n) new o h k = (h.0, spares_change fs rs ss n new o h.1 k)

spares_push : (fs : List Callable) (rs : List CallRecord) (ss : List (Option Spare)) (new : CallRecord) (o : Option Spare) → HaveSpares fs rs ss → HasSpare fs new o → HaveSpares fs (rs ++ new ∷ []) (ss ++ o ∷ [])
spares_push fs [] [] new o h k = (k, h)
spares_push fs [] (s ∷ ss) new o h k = absurd h
spares_push fs (x ∷ rs) [] new o h k = absurd h
spares_push fs (x ∷ rs) (s ∷ ss) new o h k = (h.0, spares_push fs rs ss new o h.1 k)

-- ---- A table.

module _ (hosts : ℕ) (fs : List Callable) (rs : List CallRecord) (ss : List (Option Spare)) (t : IsTable hosts fs rs ss) where
  pub held_at : (n : ℕ) (r : CallRecord) → slice_get rs n ≡ Some r → IsHeld hosts (length fs) (length rs) r
  held_at n r e = subst (IsHeld hosts (length fs) (length rs)) (get_or_from_slice_get rs n r r e) (All-get_or (IsHeld hosts (length fs) (length rs)) rs n r (slice_get_within rs n r e) t.each)

  set_so : (n : ℕ) (new : CallRecord) (ss' : List (Option Spare)) → IsHeld hosts (length fs) (length rs) new → HaveSpares fs (slice_set rs n new) ss' → IsTable hosts fs (slice_set rs n new) ss'
  set_so n new ss' h k =
      let len = length-set rs n new in
      record {
        rooms = t.rooms;
        few = rw len t.few;
        each = subst (λ m. All (IsHeld hosts (length fs) m) (slice_set rs n new)) (sym len) (All-set (IsHeld hosts (length fs) (length rs)) rs n new h t.each);
        spare = k;
      }

  queued_not_finished : (s : CallState) → is_queued s ≡ true → is_finished s ≡ true → ⊥
  queued_not_finished Queued q f = cc
  queued_not_finished (Taken host bench order) q f = cc
  queued_not_finished (Finished host bench order outcome used output counts) q f = cc

  pub table_taken : (n : ℕ) (r : CallRecord) (host bench order : ℕ) → slice_get rs n ≡ Some r → is_queued r.state ≡ true → host < hosts → IsTable hosts fs (slice_set rs n (record r { state = Taken host bench order })) ss
  table_taken n r host bench order e q h =
      let k = held_at n r e in
      set_so n (record r { state = Taken host bench order }) ss (record { small = record { input = k.small.input; room = k.small.room }; host = h; output = tt; function = k.function; children = k.children; depth = k.depth })
      (spares_stay fs rs ss n r (record r { state = Taken host bench order }) t.spare e by)
    where
      by : (o : Option Spare) → HasSpare fs r o → HasSpare fs (record r { state = Taken host bench order }) o
      by None f = absurd (queued_not_finished r.state q f)
      by (Some s) f = f

  pub table_finished : (n : ℕ) (r : CallRecord) (host bench order : ℕ) (outcome : Outcome) (used : ℕ) (output counts : List ℕ) → slice_get rs n ≡ Some r → r.state ≡ Taken host bench order → length output ≤ r.room
      → IsTable hosts fs (slice_set rs n (record r { state = Finished host bench order outcome used output counts })) (slice_set ss n None)
  table_finished n r host bench order outcome used output counts e is short =
      let k = held_at n r e in
      let new : CallRecord = record r { state = Finished host bench order outcome used output counts } in
      set_so n new (slice_set ss n None) (record { small = record { input = k.small.input; room = k.small.room }; host = rw is at k.host; output = short; function = k.function; children = k.children; depth = k.depth })
      (spares_change fs rs ss n new None t.spare refl)

  pub table_child : (n : ℕ) (r : CallRecord) (k : ℕ) → slice_get rs n ≡ Some r → k ≤ length rs → IsTable hosts fs (slice_set rs n (record r { children = k })) ss
  table_child n r c e few =
      let k = held_at n r e in
      set_so n (record r { children = c }) ss (record { small = record { input = k.small.input; room = k.small.room }; host = k.host; output = k.output; function = k.function; children = few; depth = k.depth })
      (spares_stay fs rs ss n r (record r { children = c }) t.spare e by)
    where
      by : (o : Option Spare) → HasSpare fs r o → HasSpare fs (record r { children = c }) o
      by None f = f
      by (Some s) f = f

  more : (r : CallRecord) → IsHeld hosts (length fs) (length rs) r → IsHeld hosts (length fs) (length rs + 1) r
  more r k = let c = k.children in record { small = record { input = k.small.input; room = k.small.room }; host = k.host; output = k.output; function = k.function; children = omega arith; depth = k.depth }

  pub table_push : (r : CallRecord) (s : Spare) → IsHeld hosts (length fs) (length rs) r → HasRoom r.room (channels_of fs r.function) s → length rs + 1 < 2 ^ 31 → IsTable hosts fs (rs ++ r ∷ []) (ss ++ Some s ∷ [])
  table_push r s k room few =
      let len = length_push rs r in
      record {
        rooms = t.rooms;
        few = rw len few;
        each = subst (λ m. All (IsHeld hosts (length fs) m) (rs ++ r ∷ [])) (sym len) (All-push (IsHeld hosts (length fs) (length rs + 1)) rs r (All-weaker (IsHeld hosts (length fs) (length rs)) (IsHeld hosts (length fs) (length rs + 1)) more rs t.each) (more r k));
        spare = spares_push fs rs ss r (Some s) t.spare room;
      }
