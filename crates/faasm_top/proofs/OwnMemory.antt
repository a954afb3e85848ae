-- Where all memory is private a step stops at no shared piece, and memory stays private, also where the step stops at a host call;
-- and a buffer is through at once.
use Rattle.std.proofs.Common.{◌≡◌, ℕ, ◌+◌, ◌-◌, ◌*◌, List, [], ◌∷◌, length, refl, subst, sym, Bool, true, false, cond, not, take, drop}
use Rattle.std.specs.Prelude.{nat_lt, filter, min}
use Rattle.faaslet_meaning.specs.LoadStore.{Load, load_size}
use Rattle.faaslet_meaning.specs.Memory.{Home, private, mapped, is_private, Segment, Memory, Piece, page_size, cut, pieces, shared_pieces, Access, reads, writes, Written, reading, writing, write_on, put, with_pages}
use Rattle.faaslet_meaning.specs.Configuration.{Begun, Program, Configuration, Next}
use Rattle.faaslet_meaning.specs.HostCalls.{HostCall}
use Rattle.faaslet_meaning.specs.MemoryRules.{load_on, store_on, stored}
use Rattle.faaslet_meaning.specs.Step.{step}
use Rattle.faaslet_meaning.proofs.Quiet.{IsPrivate, AllPrivate, Private}
use Rattle.faaslet_meaning.proofs.StepWalk.{View, Good, Rules, step_holds}

-- ---- Pieces

abbrev PiecesPrivate : List Piece → Type 0
PiecesPrivate [] = Unit {0}
PiecesPrivate (p ∷ ps) = IsPrivate p.home × PiecesPrivate ps

cut_private : (ss : List Segment) (base at n : ℕ) → AllPrivate ss → PiecesPrivate (cut ss base at n)
cut_private [] base at n h = tt
cut_private (s ∷ ss) base at n h =
    let next = base + s.pages * page_size in
    let size = min n (next - at) in
    by next size (nat_lt 0 size) (cut_private ss next (at + size) (n - size) h.1) (cut_private ss next at n h.1)
  where
    by : (next size : ℕ) (b : Bool) → PiecesPrivate (cut ss next (at + size) (n - size)) → PiecesPrivate (cut ss next at n) → PiecesPrivate (cond b (record { home = s.home; off = at - base; at = at; size = size } ∷ cut ss next (at + size) (n - size)) (cut ss next at n))
    by next size true k l = (h.0, k)
    by next size false k l = l

unshared : (ps : List Piece) → PiecesPrivate ps → filter (λ p. not (is_private p.home)) ps ≡ []
unshared [] h = refl
unshared (p ∷ ps) h = by p.home h.0 (unshared ps h.1)
  where
    by : (a : Home) → IsPrivate a → filter (λ p. not (is_private p.home)) ps ≡ [] → cond (not (is_private a)) (p ∷ filter (λ p. not (is_private p.home)) ps) (filter (λ p. not (is_private p.home)) ps) ≡ []
    by private k e = e
    by (mapped n) k e = absurd k

pub none_shared : (m : Memory) (at n : ℕ) → AllPrivate m.segments → shared_pieces m at n ≡ []
none_shared m at n h = unshared (pieces m at n) (cut_private m.segments 0 at n h)

-- a write is through at once, and leaves the segments
abbrev pub WrittenOut : Written → Type 0
WrittenOut w = (w.access ≡ writes [] []) × AllPrivate w.memory.segments

write_private : (ps : List Piece) (m : Memory) (bs : List ℕ) → PiecesPrivate ps → AllPrivate m.segments → WrittenOut (write_on ps m bs)
write_private [] m bs h a = (refl, a)
write_private (p ∷ ps) m bs h a = by p.home h.0 (write_private ps (put m p.at (take p.size bs)) (drop p.size bs) h.1 a)
  where
    by : (k : Home) → IsPrivate k → WrittenOut (write_on ps (put m p.at (take p.size bs)) (drop p.size bs)) → WrittenOut (elim k as (λ _. Written) [ private ↦ write_on ps (put m p.at (take p.size bs)) (drop p.size bs) | mapped n ↦ record { memory = m; access = writes (p ∷ ps) bs } ])
    by private k w = w
    by (mapped n) k w = absurd k

pub written_out : (m : Memory) (at : ℕ) (bs : List ℕ) → AllPrivate m.segments → WrittenOut (writing m at bs)
written_out m at bs h = write_private (pieces m at (length bs)) m bs (cut_private m.segments 0 at (length bs) h) h

-- ---- Steps

abbrev InPrivate : View → Type 0
InPrivate v = AllPrivate v.memory.segments

abbrev Never : Configuration → Begun → Type 0
Never c b = ⊥

abbrev Called : Configuration → HostCall → Type 0
Called c h = Private c

-- what a step comes to: at no shared piece
abbrev pub OwnMemory : Next → Type 0
OwnMemory x = Good InPrivate InPrivate Never Called x

pages_private : (ss : List Segment) (n : ℕ) → AllPrivate ss → AllPrivate (with_pages ss n)
pages_private [] n h = (tt, tt)
pages_private (s ∷ []) n h = by (is_private s.home)
  where
    by : (b : Bool) → AllPrivate (cond b (record s { pages = s.pages + n } ∷ []) (s ∷ record { home = private; pages = n } ∷ []))
    by true = (h.0, tt)
    by false = (h.0, (tt, tt))
pages_private (s ∷ t ∷ ss) n h = (h.0, pages_private (t ∷ ss) n h.1)

load_own : (c : Configuration) (l : Load) (at : ℕ) → Private c → OwnMemory (load_on c l (reading c.memory at (load_size l)))
load_own c l at h =
    let n = load_size l in
    subst (λ (ps : List Piece). OwnMemory (load_on c l (reads at n ps c.memory.bytes))) (sym (none_shared c.memory at n h)) h

store_own : (c : Configuration) (at : ℕ) (bs : List ℕ) → Private c → OwnMemory (stored c (writing c.memory at bs))
store_own c at bs h =
    let w = writing c.memory at bs in
    let out = written_out c.memory at bs h in
    subst (λ (a : Access). OwnMemory (store_on (record c { memory = w.memory }) a)) (sym out.0) out.1

rules : (p : Program) → Rules InPrivate InPrivate Never Called InPrivate InPrivate p
rules p = record {
  pays = λ v k h. h;
  leaves = λ v k less h. h;
  stays = λ v k most h. h;
  grows = λ v n may h. pages_private v.memory.segments n h;
  ends_before = λ v h. h;
  ends_paid = λ v h. h;
  loads = λ c l at in_ h. load_own c l at h;
  stores = λ c at bs few in_ h. store_own c at bs h;
  asks = λ c h k less short hosted w. w;
}

pub step_own : (p : Program) (c : Configuration) → Private c → OwnMemory (step p c)
step_own p c h = step_holds InPrivate InPrivate Never Called p (rules p) c h
