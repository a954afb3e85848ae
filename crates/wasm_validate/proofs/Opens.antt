-- What the two stacks show as open blocks.
use Rattle.std.proofs.Common.{◌≡◌, ℕ, zero, suc, ◌-◌, ◌≤◌, ◌<◌, ◌≢◌, true, false, Option, Some, None, List, [], ◌∷◌, length, take, drop, refl, sym, ap, ◌∙◌, arith, subst}
use Rattle.std.specs.Prelude.{slice_get, option_map}
use Rattle.std.proofs.lemmas.List.{length-drop}
use Rattle.faaslet_meaning.specs.declared.instr.ValType.{ValType}
use Rattle.wasm_validate.specs.declared.kind.Control.{Control}
use Rattle.wasm_validate.specs.Frames.{Frame, push, pop_any, any_of, dead, closed, shut, ends_of, label_type, label_of}
use Rattle.wasm_validate.specs.Views.{frame_of, frames, Rises}

pub rises_more : (ks : List Control) (n m : ℕ) → Rises ks n → n ≤ m → Rises ks m
rises_more [] n m h l = tt
rises_more (k ∷ ks) n m h l = let a : k.height ≤ n = h.0 in (omega arith, h.1)

pub rises_push : (ks : List Control) (os : List (Option ValType)) (o : Option ValType) → Rises ks (length os) → Rises ks (length (o ∷ os))
rises_push ks os o h = rises_more ks (length os) (length (o ∷ os)) h (omega arith)

one_more : (n h : ℕ) → h ≤ n → suc n - h ≡ suc (n - h)
one_more n h l = omega arith

pub frames_push : (ks : List Control) (os : List (Option ValType)) (o : Option ValType) → Rises ks (length os) → frames ks (o ∷ os) ≡ push o (frames ks os)
frames_push [] os o h = refl
frames_push (k ∷ ks) os o h = ap (λ j. frame_of k (take j (o ∷ os)) ∷ frames ks (drop j (o ∷ os))) (one_more (length os) k.height h.0)

pub pop_none : (ks : List Control) (os : List (Option ValType)) → slice_get ks 0 ≡ None → pop_any (frames ks os) ≡ None
pop_none [] os e = refl
pop_none (k ∷ ks) os e = cc

-- the innermost block has no operands
none_own : (k : Control) (ks : List Control) (os : List (Option ValType)) → length os ≡ k.height → frames (k ∷ ks) os ≡ frame_of k [] ∷ frames ks os
none_own k ks os e = let z : length os - k.height ≡ 0 = omega arith in ap (λ j. frame_of k (take j os) ∷ frames ks (drop j os)) z

pub pop_unknown : (ks : List Control) (k : Control) (os : List (Option ValType)) → slice_get ks 0 ≡ Some k → length os ≡ k.height → k.unreachable ≡ true → pop_any (frames ks os) ≡ Some (None, frames ks os)
pop_unknown [] k os e l u = cc
pop_unknown (c ∷ ks) k os e l u =
    let same : c ≡ k = cc in
    let own : frames (c ∷ ks) os ≡ frame_of c [] ∷ frames ks os = none_own c ks os (l ∙ ap (λ x. x.height) (sym same)) in
    let flag : c.unreachable ≡ true = ap (λ x. x.unreachable) same ∙ u in
    ap pop_any own ∙ ap (λ b. any_of (frame_of c []) (frames ks os) b []) flag ∙ ap (λ x. Some (None, x)) (sym own)

pub pop_nothing : (ks : List Control) (k : Control) (os : List (Option ValType)) → slice_get ks 0 ≡ Some k → length os ≡ k.height → k.unreachable ≡ false → pop_any (frames ks os) ≡ None
pop_nothing [] k os e l u = cc
pop_nothing (c ∷ ks) k os e l u =
    let same : c ≡ k = cc in
    let own : frames (c ∷ ks) os ≡ frame_of c [] ∷ frames ks os = none_own c ks os (l ∙ ap (λ x. x.height) (sym same)) in
    let flag : c.unreachable ≡ false = ap (λ x. x.unreachable) same ∙ u in
    ap pop_any own ∙ ap (λ b. any_of (frame_of c []) (frames ks os) b []) flag

own_below : (c k : Control) (n m : ℕ) → c ≡ k → c.height ≤ m → m ≡ suc n → m ≢ k.height → c.height ≤ n
own_below c k n m same le e ne = let h : c.height ≡ k.height = ap (λ x. x.height) same in omega arith

pub pop_known : (ks : List Control) (k : Control) (os new : List (Option ValType)) (o : Option ValType) → slice_get ks 0 ≡ Some k → Rises ks (length os) → length os ≢ k.height → os ≡ o ∷ new → pop_any (frames ks os) ≡ Some (o, frames ks new)
pop_known [] k os new o e r n q = cc
pop_known (c ∷ ks) k os new o e r n q =
    let same : c ≡ k = cc in
    let le : c.height ≤ length new = own_below c k (length new) (length os) same r.0 (ap length q) n in
    ap (λ l. pop_any (frames (c ∷ ks) l)) q ∙ ap pop_any (frames_push (c ∷ ks) new o (le, r.1))

pub rises_pop : (ks : List Control) (k : Control) (os new : List (Option ValType)) (o : Option ValType) → slice_get ks 0 ≡ Some k → Rises ks (length os) → length os ≢ k.height → os ≡ o ∷ new → Rises ks (length new)
rises_pop [] k os new o e r n q = tt
rises_pop (c ∷ ks) k os new o e r n q = let same : c ≡ k = cc in (own_below c k (length new) (length os) same r.0 (ap length q) n, r.1)

pub label_shown : (ks : List Control) (os : List (Option ValType)) (n : ℕ) → option_map label_of (slice_get (frames ks os) n) ≡ option_map (λ k. label_type k.kind k.ends) (slice_get ks n)
label_shown [] os n = refl
label_shown (k ∷ ks) os zero = refl
label_shown (k ∷ ks) os (suc n) = label_shown ks (drop (length os - k.height) os) n

pub dead_shown : (ks new : List Control) (k : Control) (os : List (Option ValType)) → slice_get ks 0 ≡ Some k → Rises ks (length os) → new ≡ record k { unreachable = true } ∷ drop 1 ks → frames new (drop (length os - k.height) os) ≡ dead (frames ks os)
dead_shown [] new k os e r q = cc
dead_shown (c ∷ ks) new k os e r q =
    let same : k ≡ c = cc in
    let rest : List (Option ValType) = drop (length os - c.height) os in
    let le : c.height ≤ length os = r.0 in
    let z : length rest ≡ c.height = omega (arith, length-drop (length os - c.height) os) in
    ap (λ l. frames l (drop (length os - k.height) os)) q
    ∙ ap (λ x. frames (record x { unreachable = true } ∷ ks) (drop (length os - x.height) os)) same
    ∙ none_own (record c { unreachable = true }) ks rest z

pub rises_dead : (ks new : List Control) (k : Control) (os : List (Option ValType)) → slice_get ks 0 ≡ Some k → Rises ks (length os) → new ≡ record k { unreachable = true } ∷ drop 1 ks → Rises new (length (drop (length os - k.height) os))
rises_dead [] new k os e r q = cc
rises_dead (c ∷ ks) new k os e r q =
    let same : c ≡ k = cc in
    let le : c.height ≤ length os = r.0 in
    let hs : c.height ≡ k.height = ap (λ x. x.height) same in
    let all : Rises (record k { unreachable = true } ∷ ks) (length (drop (length os - k.height) os)) = (omega (arith, length-drop (length os - k.height) os), subst (λ x. Rises ks x.height) same r.1) in
    subst (λ l. Rises l (length (drop (length os - k.height) os))) (sym q) all

pub shut_none : (ks : List Control) (os : List (Option ValType)) → slice_get ks 0 ≡ None → closed (frames ks os) ≡ None
shut_none [] os e = refl
shut_none (k ∷ ks) os e = cc

some_taken : (f : Frame) (fs : List Frame) (n : ℕ) (os : List (Option ValType)) → 0 < n → n ≤ length os → shut f fs (take n os) ≡ None
some_taken f fs zero os h l = absurd (omega arith)
some_taken f fs (suc n) [] h l = absurd (omega arith)
some_taken f fs (suc n) (o ∷ os) h l = refl

pub shut_more : (ks : List Control) (k : Control) (os : List (Option ValType)) → slice_get ks 0 ≡ Some k → Rises ks (length os) → length os ≢ k.height → closed (frames ks os) ≡ None
shut_more [] k os e r n = cc
shut_more (c ∷ ks) k os e r n =
    let same : c ≡ k = cc in
    let hs : c.height ≡ k.height = ap (λ x. x.height) same in
    let le : c.height ≤ length os = r.0 in
    some_taken (frame_of c (take (length os - c.height) os)) (frames ks (drop (length os - c.height) os)) (length os - c.height) os (omega arith) (omega arith)

pub shut_now : (ks new : List Control) (k o : Control) (os : List (Option ValType)) → slice_get ks 0 ≡ Some k → length os ≡ k.height → ks ≡ o ∷ new → closed (frames ks os) ≡ Some ((k.kind, k.ends), frames new os)
shut_now [] new k o os e l q = cc
shut_now (c ∷ ks) new k o os e l q =
    let same : c ≡ k = cc in
    let tail : ks ≡ new = cc in
    ap closed (none_own c ks os (l ∙ ap (λ x. x.height) (sym same))) ∙ ap (λ x. Some ((x.kind, x.ends), frames ks os)) same ∙ ap (λ l. Some ((k.kind, k.ends), frames l os)) tail

pub rises_shut : (ks new : List Control) (k o : Control) (os : List (Option ValType)) → slice_get ks 0 ≡ Some k → Rises ks (length os) → length os ≡ k.height → ks ≡ o ∷ new → Rises new (length os)
rises_shut [] new k o os e r l q = cc
rises_shut (c ∷ ks) new k o os e r l q =
    let same : c ≡ k = cc in
    let tail : ks ≡ new = cc in
    let hs : c.height ≡ length os = ap (λ x. x.height) same ∙ sym l in
    subst (λ x. Rises x (length os)) tail (subst (λ x. Rises ks x) hs r.1)

pub none_shown : (ks : List Control) (os : List (Option ValType)) → frames ks os ≡ [] → length ks ≡ 0
none_shown [] os e = refl
none_shown (k ∷ ks) os e = cc

pub none_open : (ks : List Control) (os : List (Option ValType)) → length ks ≡ 0 → frames ks os ≡ []
none_open [] os e = refl
none_open (k ∷ ks) os e = absurd (omega arith)

pub pop_absent : (ks : List Control) (k : Control) (os : List (Option ValType)) → slice_get ks 0 ≡ Some k → Rises ks (length os) → length os ≢ k.height → os ≡ [] → ⊥
pop_absent [] k os e r n q = let f : ⊥ = cc in f
pop_absent (c ∷ ks) k os e r n q =
    let same : c ≡ k = cc in
    let hs : c.height ≡ k.height = ap (λ x. x.height) same in
    let le : c.height ≤ length os = r.0 in
    n (omega (arith, ap length q))

pub height_fits : (ks : List Control) (k : Control) (n : ℕ) → slice_get ks 0 ≡ Some k → Rises ks n → (k.height ≤ n) × (0 < length ks)
height_fits [] k n e r = cc
height_fits (c ∷ ks) k n e r =
    let same : c ≡ k = cc in
    let hs : c.height ≡ k.height = ap (λ x. x.height) same in
    let le : c.height ≤ n = r.0 in
    (omega arith, omega arith)

pub dead_none : (ks : List Control) (os : List (Option ValType)) → slice_get ks 0 ≡ None → dead (frames ks os) ≡ frames ks os
dead_none [] os e = refl
dead_none (k ∷ ks) os e = cc

pub ends_shown : (ks : List Control) (os : List (Option ValType)) (k : Control) → Some k ≡ slice_get ks 0 → k.ends ≡ ends_of (frames ks os)
ends_shown [] os k e = cc
ends_shown (c ∷ ks) os k e = let same : k ≡ c = cc in ap (λ x. x.ends) same

pub ends_none : (ks : List Control) (os : List (Option ValType)) → None ≡ slice_get ks 0 → None ≡ ends_of (frames ks os)
ends_none [] os e = refl
ends_none (c ∷ ks) os e = cc
