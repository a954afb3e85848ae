-- Where all of memory is private, no step stops at a shared piece, and memory stays private.
use Rattle.std.proofs.Common.{◌≡◌, ℕ, ◌+◌, ◌-◌, ◌*◌, List, [], ◌∷◌, length, refl, subst, sym, Bool, true, false, cond, not, take, drop}
use Rattle.std.specs.Prelude.{nat_lt, filter, min}
use Rattle.faaslet_meaning.specs.LoadStore.{Load, load_size}
use Rattle.faaslet_meaning.specs.Memory.{Home, private, mapped, is_private, Segment, Memory, Piece, page_size, cut, pieces, Access, reads, writes, Written, reading, writing, write_on, put, with_pages}
use Rattle.faaslet_meaning.specs.Configuration.{Begun, Program, Configuration, Next}
use Rattle.faaslet_meaning.specs.HostCalls.{HostCall}
use Rattle.faaslet_meaning.specs.MemoryRules.{load_on, store_on, stored}
use Rattle.faaslet_meaning.specs.Fresh.{steps}
use Rattle.faaslet_meaning.specs.Step.{step}
use Rattle.faaslet_meaning.proofs.StepWalk.{View, Good, Rules, step_holds, steps_hold}

abbrev pub IsPrivate : Home → Type 0
IsPrivate private = Unit {0}
IsPrivate (mapped k) = ⊥

abbrev pub AllPrivate : List Segment → Type 0
AllPrivate [] = Unit {0}
AllPrivate (s ∷ ss) = IsPrivate s.home × AllPrivate ss

abbrev pub Private : Configuration → Type 0
Private c = AllPrivate c.memory.segments

abbrev InPrivate : View → Type 0
InPrivate v = AllPrivate v.memory.segments

abbrev Never : Configuration → Begun → Type 0
Never c b = ⊥

abbrev Ever : Configuration → HostCall → Type 0
Ever c h = Unit {0}

-- what a step comes to where memory is private: at no shared piece
abbrev pub Quiet : Next → Type 0
Quiet x = Good InPrivate InPrivate Never Ever x

abbrev PiecesPrivate : List Piece → Type 0
PiecesPrivate [] = Unit {0}
PiecesPrivate (p ∷ ps) = IsPrivate p.home × PiecesPrivate ps

cut_private : (ss : List Segment) (base at n : ℕ) → AllPrivate ss → PiecesPrivate (cut ss base at n)
cut_private [] base at n h = tt
cut_private (s ∷ ss) base at n h =
    let next = base + s.pages * page_size in
    let here = min n (next - at) in
    by next here (nat_lt 0 here) (cut_private ss next (at + here) (n - here) h.1) (cut_private ss next at n h.1)
  where
    by : (next here : ℕ) (b : Bool) → PiecesPrivate (cut ss next (at + here) (n - here)) → PiecesPrivate (cut ss next at n) → PiecesPrivate (cond b (record { home = s.home; off = at - base; at = at; size = here } ∷ cut ss next (at + here) (n - here)) (cut ss next at n))
    by next here true k l = (h.0, k)
    by next here false k l = l

none_shared : (ps : List Piece) → PiecesPrivate ps → filter (λ p. not (is_private p.home)) ps ≡ []
none_shared [] h = refl
none_shared (p ∷ ps) h = by p.home h.0 (none_shared ps h.1)
  where
    by : (a : Home) → IsPrivate a → filter (λ p. not (is_private p.home)) ps ≡ [] → cond (not (is_private a)) (p ∷ filter (λ p. not (is_private p.home)) ps) (filter (λ p. not (is_private p.home)) ps) ≡ []
    by private k e = e
    by (mapped n) k e = absurd k

-- a write is through at once, and leaves the segments
abbrev WrittenOut : Written → Type 0
WrittenOut w = (w.access ≡ writes [] []) × AllPrivate w.memory.segments

write_private : (ps : List Piece) (m : Memory) (bs : List ℕ) → PiecesPrivate ps → AllPrivate m.segments → WrittenOut (write_on ps m bs)
write_private [] m bs h a = (refl, a)
write_private (p ∷ ps) m bs h a = by p.home h.0 (write_private ps (put m p.at (take p.size bs)) (drop p.size bs) h.1 a)
  where
    by : (k : Home) → IsPrivate k → WrittenOut (write_on ps (put m p.at (take p.size bs)) (drop p.size bs)) → WrittenOut (elim k as (λ _. Written) [ private ↦ write_on ps (put m p.at (take p.size bs)) (drop p.size bs) | mapped n ↦ record { memory = m; access = writes (p ∷ ps) bs } ])
    by private k w = w
    by (mapped n) k w = absurd k

pages_private : (ss : List Segment) (n : ℕ) → AllPrivate ss → AllPrivate (with_pages ss n)
pages_private [] n h = (tt, tt)
pages_private (s ∷ []) n h = by (is_private s.home)
  where
    by : (b : Bool) → AllPrivate (cond b (record s { pages = s.pages + n } ∷ []) (s ∷ record { home = private; pages = n } ∷ []))
    by true = (h.0, tt)
    by false = (h.0, (tt, tt))
pages_private (s ∷ t ∷ ss) n h = (h.0, pages_private (t ∷ ss) n h.1)

load_quiet : (c : Configuration) (l : Load) (at : ℕ) → Private c → Quiet (load_on c l (reading c.memory at (load_size l)))
load_quiet c l at h =
    let n = load_size l in
    let none = none_shared (pieces c.memory at n) (cut_private c.memory.segments 0 at n h) in
    subst (λ (ps : List Piece). Quiet (load_on c l (reads at n ps c.memory.bytes))) (sym none) h

store_quiet : (c : Configuration) (at : ℕ) (bs : List ℕ) → Private c → Quiet (stored c (writing c.memory at bs))
store_quiet c at bs h =
    let w = writing c.memory at bs in
    let out : WrittenOut w = write_private (pieces c.memory at (length bs)) c.memory bs (cut_private c.memory.segments 0 at (length bs) h) h in
    subst (λ (a : Access). Quiet (store_on (record c { memory = w.memory }) a)) (sym out.0) out.1

rules : (p : Program) → Rules InPrivate InPrivate Never Ever InPrivate InPrivate p
rules p = record {
  pays = λ v k h. h;
  leaves = λ v k less h. h;
  stays = λ v k most h. h;
  grows = λ v n may h. pages_private v.memory.segments n h;
  ends_before = λ v h. h;
  ends_paid = λ v h. h;
  loads = λ c l at in_ h. load_quiet c l at h;
  stores = λ c at bs few in_ h. store_quiet c at bs h;
  asks = λ c h k less short hosted w. tt;
}

pub step_quiet : (p : Program) (c : Configuration) → Private c → Quiet (step p c)
step_quiet p c h = step_holds InPrivate InPrivate Never Ever p (rules p) c h

pub steps_quiet : (p : Program) (n : ℕ) (c : Configuration) → Private c → Quiet (steps p n c)
steps_quiet p n c h = steps_hold InPrivate InPrivate Never Ever p (rules p) (λ v k. k) n c h
