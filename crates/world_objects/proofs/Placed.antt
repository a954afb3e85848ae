-- Objects at their places: what a row of replicas has, and what both objects of a key are after a move.
use Rattle.std.proofs.Common.{◌≡◌, ℕ, ◌<◌, List, Some, Option, None, Result, Ok, Err, OnOk, IfSome, IsSome, length, slice_set, slice_get, option_and_then, refl, sym, ap, ap₂, ◌∙◌, subst}
use Rattle.std.proofs.lemmas.Option.{slice_get_within}
use Rattle.faaslet_meaning.specs.declared.grant.Channel.TheVariants.{Local, Global}
use Rattle.faaslet_meaning.specs.Lists.{changed}
use Rattle.world_objects.specs.Kept.{Kept, Objects}
use Rattle.world_objects.specs.Served.{object_at, both_changed}

abbrev pub objects : List (List Kept) → List Kept → Objects
objects locals globals = record { locals = locals; globals = globals }

within : {A B : Type 0} (xs : List A) (n : ℕ) (f : A → Option B) → IsSome (option_and_then f (slice_get xs n)) → n < length xs
within {A = A} xs n f h = by (slice_get xs n) refl h
  where
    by : (o : Option A) → slice_get xs n ≡ o → IsSome (option_and_then f o) → n < length xs
    by None e i = let no : ⊥ = cc in absurd no
    by (Some x) e i = slice_get_within xs n x e

-- the host of a replica is there
pub host_there : (o : Objects) (locals : List (List Kept)) (globals : List Kept) (host key : ℕ) → objects locals globals ≡ o → IsSome (object_at o host (Local key)) → host < length locals
host_there o locals globals host key v h = within locals host (λ row. slice_get row key) (subst (λ (z : Objects). IsSome (object_at z host (Local key))) (sym v) h)

pub local_object : (o : Objects) (locals : List (List Kept)) (globals : List Kept) (host key : ℕ) (row : List Kept) → objects locals globals ≡ o → slice_get locals host ≡ Some row → slice_get row key ≡ object_at o host (Local key)
local_object o locals globals host key row v e =
    sym (ap (λ (z : Option (List Kept)). option_and_then (λ x. slice_get x key) z) e) ∙ ap (λ (z : Objects). object_at z host (Local key)) v

pub global_object : (o : Objects) (locals : List (List Kept)) (globals : List Kept) (host key : ℕ) → objects locals globals ≡ o → slice_get globals key ≡ object_at o host (Global key)
global_object o locals globals host key v = ap (λ (z : Objects). object_at z host (Global key)) v

-- a fact on the two objects of a key
abbrev Both : (P : Kept → Kept → Type 0) → Option Kept → Option Kept → Type 0
Both P a b = IfSome a (λ l. IfSome b (λ g. P l g))

both : (P Q R : Kept → Kept → Type 0) (a b : Option Kept) → ((l g : Kept) → P l g → Q l g → R l g) → Both P a b → Both Q a b → Both R a b
both P Q R None b f p q = p
both P Q R (Some l) None f p q = p
both P Q R (Some l) (Some g) f p q = f l g p q

together : {T E : Type 0} {P Q R : Type 0} (r : Result T E) → (P → Q → R) → OnOk r P → OnOk r Q → OnOk r R
together (Ok x) f p q = f p q
together (Err e) f p q = p

pub both_after : {T E : Type 0} (o : Objects) (locals : List (List Kept)) (globals : List Kept) (host key : ℕ) (row new_row new_globals : List Kept) (F G : Kept → Kept → Kept → Kept) (r : Result T E) → objects locals globals ≡ o → slice_get locals host ≡ Some row → Both (λ l g. OnOk r (new_row ≡ changed row key (F l g))) (slice_get row key) (slice_get globals key) → Both (λ l g. OnOk r (new_globals ≡ changed globals key (G l g))) (slice_get row key) (slice_get globals key) → Both (λ l g. OnOk r (objects (slice_set locals host new_row) new_globals ≡ both_changed o host key (F l g) (G l g))) (object_at o host (Local key)) (object_at o host (Global key))
both_after o locals globals host key row new_row new_globals F G r v e p q =
    subst (λ z. Both (λ l g. OnOk r (objects (slice_set locals host new_row) new_globals ≡ both_changed o host key (F l g) (G l g))) z (object_at o host (Global key))) (local_object o locals globals host key row v e)
    (subst (λ z. Both (λ l g. OnOk r (objects (slice_set locals host new_row) new_globals ≡ both_changed o host key (F l g) (G l g))) (slice_get row key) z) (global_object o locals globals host key v)
    (both _ _ _ (slice_get row key) (slice_get globals key) (λ l g x y. together r (step l g) x y) p q))
  where
    step : (l g : Kept) → new_row ≡ changed row key (F l g) → new_globals ≡ changed globals key (G l g) → objects (slice_set locals host new_row) new_globals ≡ both_changed o host key (F l g) (G l g)
    step l g x y =
        ap₂ (λ a b. objects (slice_set locals host a) b) x y ∙ (sym (ap (λ (z : Option (List Kept)). objects (elim z [ None ↦ locals | Some k ↦ slice_set locals host (changed k key (F l g)) ]) (changed globals key (G l g))) e) ∙ ap (λ (z : Objects). both_changed z host key (F l g) (G l g)) v)

-- the same fact on them, read off a row
pub both_so : (o : Objects) (locals : List (List Kept)) (globals : List Kept) (host key : ℕ) (row : List Kept) (P : Kept → Kept → Type 0) → objects locals globals ≡ o → slice_get locals host ≡ Some row → Both P (slice_get row key) (slice_get globals key) → Both P (object_at o host (Local key)) (object_at o host (Global key))
both_so o locals globals host key row P v e p =
    subst (λ z. Both P z (object_at o host (Global key))) (local_object o locals globals host key row v e) (subst (λ z. Both P (slice_get row key) z) (global_object o locals globals host key v) p)
