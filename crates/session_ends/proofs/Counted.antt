-- A call counts nothing on the channels of a key that there is not.
use Rattle.std.proofs.Common.{◌≡◌, ℕ, suc, Bool, true, false, cond, List, [], ◌∷◌, Option, Some, None, refl, sym, ap, ◌∙◌, slice_get, filter, arith}
use Rattle.std.specs.Prelude.{◌==◌}
use Rattle.std.proofs.lemmas.Bool.{eqb-true}
use Rattle.faaslet_meaning.specs.declared.call.CallRecord.{CallRecord}
use Rattle.faaslet_meaning.specs.declared.grant.Channel.{Channel}
use Rattle.faaslet_meaning.specs.declared.grant.Channel.TheVariants.{Local, Global, Table as OnTable}
use Rattle.faaslet_meaning.specs.declared.grant.Grant.{Grant}
use Rattle.faaslet_meaning.specs.Channels.{channels, same_channel}
use Rattle.faaslet_meaning.specs.Lists.{total}
use Rattle.session_meaning.specs.Own.{counts_of, count_in, count_on}
use Rattle.session_meaning.specs.Plan.{NamedFunction, Plan}
use Rattle.session_meaning.specs.WellFormed.{WellFormed}
use Rattle.session_meaning.proofs.CallsRan.{functions_fit}
use Rattle.session_meaning.proofs.WellFits.{calls_fit}

-- a channel of the key
abbrev pub OfKey : ℕ → Channel → Type 0
OfKey key (Local k) = k ≡ key
OfKey key (Global k) = k ≡ key
OfKey key OnTable = ⊥

another : (a b : ℕ) → (a ≡ b → ⊥) → (a == b) ≡ false
another a b apart = by (a == b) refl
  where
    by : (c : Bool) → (a == b) ≡ c → c ≡ false
    by true e = absurd (apart (eqb-true a b e))
    by false e = refl

one_other : (key : ℕ) (ch : Channel) (g : Grant) → OfKey key ch → (g.key ≡ key → ⊥) → (same_channel (Local g.key) ch ≡ false) × (same_channel (Global g.key) ch ≡ false)
one_other key (Local k) g on apart = (another g.key k (λ e. apart (e ∙ on)), refl)
one_other key (Global k) g on apart = (refl, another g.key k (λ e. apart (e ∙ on)))
one_other key OnTable g on apart = absurd on

last_other : (key : ℕ) (ch : Channel) → OfKey key ch → same_channel OnTable ch ≡ false
last_other key (Local k) on = refl
last_other key (Global k) on = refl
last_other key OnTable on = absurd on

none_in : (key : ℕ) (ch : Channel) (gs : List Grant) (ns : List ℕ) → OfKey key ch → ((m : ℕ) (g : Grant) → slice_get gs m ≡ Some g → g.key ≡ key → ⊥) → count_in (channels gs) ns ch ≡ 0
none_in key ch gs [] on apart = by (channels gs)
  where
    by : (chs : List Channel) → count_in chs [] ch ≡ 0
    by [] = refl
    by (c ∷ cs) = refl
none_in key ch [] (n ∷ ns) on apart = ap (λ b. cond b n (count_in [] ns ch)) (last_other key ch on)
none_in key ch (g ∷ gs) (n ∷ []) on apart = ap (λ b. cond b n 0) (one_other key ch g on (apart 0 g refl)).0
none_in key ch (g ∷ gs) (n ∷ m ∷ ns) on apart =
    let other = one_other key ch g on (apart 0 g refl) in
    ap (λ b. cond b n (cond (same_channel (Global g.key) ch) m (count_in (channels gs) ns ch))) other.0
    ∙ ap (λ b. cond b m (count_in (channels gs) ns ch)) other.1
    ∙ none_in key ch gs ns on (λ i h at. apart (suc i) h at)

-- no grant names it
none_on : (plan : Plan) (r : CallRecord) (key : ℕ) (ch : Channel) → WellFormed plan → slice_get plan.keys key ≡ None → OfKey key ch → count_on plan r ch ≡ 0
none_on plan r key ch fine past on = by (slice_get plan.functions r.function) refl
  where
    by : (o : Option NamedFunction) → slice_get plan.functions r.function ≡ o → count_in (elim o as (λ o. List Channel) [ None ↦ [] | Some f ↦ channels f.function.grants ]) (counts_of r.state) ch ≡ 0
    by None e = refl
    by (Some f) e = none_in key ch f.function.grants (counts_of r.state) on (λ m g at same.
        let fits = functions_fit plan (calls_fit plan fine) r.function f e m g at in
        let there : slice_get plan.keys key ≡ Some fits.0 = ap (slice_get plan.keys) (sym same) ∙ fits.1 in
        let no : ⊥ = cc (there, past) in no)

pub none_made : (plan : Plan) (rs : List CallRecord) (test : CallRecord → Bool) (key : ℕ) (ch : Channel) → WellFormed plan → slice_get plan.keys key ≡ None → OfKey key ch → total (λ r. count_on plan r ch) (filter test rs) ≡ 0
none_made plan [] test key ch fine past on = refl
none_made plan (r ∷ rs) test key ch fine past on = by (test r) (none_made plan rs test key ch fine past on)
  where
    by : (b : Bool) → total (λ r. count_on plan r ch) (filter test rs) ≡ 0 → total (λ r. count_on plan r ch) (cond b (r ∷ filter test rs) (filter test rs)) ≡ 0
    by true h = let one = none_on plan r key ch fine past on in omega (arith, one, h)
    by false h = h
