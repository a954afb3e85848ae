-- No load or store of a typed configuration lacks what it needs, nor does it after a reply.
use Rattle.std.proofs.Common.{◌≡◌, ℕ, List, [], ◌∷◌, length, take, drop, refl, arith, None, Some, Option, cond, not}
use Rattle.std.specs.Prelude.{filter}
use Rattle.faaslet_meaning.specs.declared.grant.Mode.TheVariants.{Write}
use Rattle.faaslet_meaning.specs.LoadStore.{Load, load_size}
use Rattle.faaslet_meaning.specs.Memory.{Home, private, mapped, is_private, Memory, Piece, Access, reads, writes, Written, Touch, reads_piece, writes_piece, reading, writing, write_on, put, answered, lies_in, pieces, shared_pieces}
use Rattle.faaslet_meaning.specs.Configuration.{Program, Configuration, Begun, load, store}
use Rattle.faaslet_meaning.specs.Limits.{with_values}
use Rattle.faaslet_meaning.specs.MemoryRules.{under, all_granted, load_on, store_on, load_at, store_at, resumed}
use Rattle.faaslet_meaning.specs.Fine.{Ground, ConfigOk, IsShared, AllShared, ReadOk, WriteOk, BegunOk, NextOk}
use Rattle.faaslet_meaning.proofs.Sound.{either_ok}

all_shared : (ps : List Piece) → AllShared (filter (λ p. not (is_private p.home)) ps)
all_shared [] = tt
all_shared (p ∷ ps) = by p.home refl (all_shared ps)
  where
    by : (h : Home) → h ≡ p.home → AllShared (filter (λ p. not (is_private p.home)) ps) → AllShared (cond (not (is_private h)) (p ∷ filter (λ p. not (is_private p.home)) ps) (filter (λ p. not (is_private p.home)) ps))
    by private e r = r
    by (mapped k) e r = (shared k p.home e, r)
      where
        shared : (k : ℕ) (h : Home) → mapped k ≡ h → IsShared h
        shared k private e = cc
        shared k (mapped j) e = tt

write_stands : (ps : List Piece) (m : Memory) (bs : List ℕ) → WriteOk (write_on ps m bs).access
write_stands [] m bs = tt
write_stands (p ∷ ps) m bs = by p.home refl (write_stands ps (put m p.at (take p.size bs)) (drop p.size bs))
  where
    by : (h : Home) → h ≡ p.home → WriteOk (write_on ps (put m p.at (take p.size bs)) (drop p.size bs)).access → WriteOk (elim h as (λ _. Written) [ private ↦ write_on ps (put m p.at (take p.size bs)) (drop p.size bs) | mapped k ↦ record { memory = m; access = writes (p ∷ ps) bs } ]).access
    by private e r = r
    by (mapped k) e r = shared k p.home e
      where
        shared : (k : ℕ) (h : Home) → mapped k ≡ h → IsShared h
        shared k private e = cc
        shared k (mapped j) e = tt

read_touches : (p : Piece) (h : Home) → IsShared h → (t : Touch) × (elim h as (λ _. Option Touch) [ private ↦ None | mapped k ↦ Some (reads_piece k p.off p.size) ] ≡ Some t)
read_touches p private s = absurd s
read_touches p (mapped k) s = (reads_piece k p.off p.size, refl)

write_touches : (p : Piece) (bs : List ℕ) (h : Home) → IsShared h → (t : Touch) × (elim h as (λ _. Option Touch) [ private ↦ None | mapped k ↦ Some (writes_piece k p.off (take p.size bs)) ] ≡ Some t)
write_touches p bs private s = absurd s
write_touches p bs (mapped k) s = (writes_piece k p.off (take p.size bs), refl)

read_on : (m : Memory) (a : Access) (bs : List ℕ) → ReadOk a → ReadOk (answered m a bs).access
read_on m (reads at n [] copy) bs h = h
read_on m (reads at n (p ∷ ps) copy) bs h = h.1
read_on m (writes left bytes) bs h = absurd h

written_on : (m : Memory) (a : Access) (bs : List ℕ) → WriteOk a → WriteOk (answered m a bs).access
written_on m (writes [] bytes) bs h = h
written_on m (writes (p ∷ ps) bytes) bs h = write_stands ps m (drop p.size bytes)
written_on m (reads at n left copy) bs h = absurd h

module _ (g : Ground) where
  -- which values they are does not count
  pub other_values : (c : Configuration) (vs ws : List ℕ) → length ws ≡ length vs → ConfigOk g (with_values c vs) → ConfigOk g (with_values c ws)
  other_values c vs ws n h =
      let f = h.0.0 in
      ((record { context = f.context; grounded = f.grounded; results = f.results; types = f.types; values = omega (arith, n, f.values); rest = f.rest; labels = f.labels; arity = f.arity; locals = f.locals }, h.0.1), h.1)

  load_ok : (c : Configuration) (l : Load) (a : Access) → ReadOk a → ConfigOk g (with_values c (0 ∷ under 1 c)) → NextOk g (load_on c l a)
  load_ok c l (reads at n [] copy) r h = other_values c (0 ∷ under 1 c) _ (omega arith) h
  load_ok c l (reads at n (p ∷ ps) copy) r h = (r, read_touches p p.home r.0, h)
  load_ok c l (writes left bytes) r h = absurd r

  store_ok : (c : Configuration) (a : Access) → WriteOk a → ConfigOk g (with_values c (under 2 c)) → NextOk g (store_on c a)
  store_ok c (writes [] bytes) w h = h
  store_ok c (writes (p ∷ ps) bytes) w h = (w, write_touches p bytes p.home w, h)
  store_ok c (reads at n left copy) w h = absurd w

  pub load_at_ok : (c : Configuration) (l : Load) (at : ℕ) → ConfigOk g (with_values c (0 ∷ under 1 c)) → NextOk g (load_at c l at)
  load_at_ok c l at h = either_ok g (lies_in c.memory at (load_size l)) _ _ (load_ok c l (reading c.memory at (load_size l)) (all_shared (pieces c.memory at (load_size l))) h) h.1

  pub store_at_ok : (p : Program) (c : Configuration) (at : ℕ) (bs : List ℕ) → ConfigOk g (with_values c (under 2 c)) → NextOk g (store_at p c at bs)
  store_at_ok p c at bs h =
      let w = writing c.memory at bs in
      either_ok g (lies_in c.memory at (length bs)) _ _ (either_ok g (all_granted p.grants Write (shared_pieces c.memory at (length bs))) _ _ (store_ok (record c { memory = w.memory }) w.access (write_stands (pieces c.memory at (length bs)) c.memory bs) h) h.1) h.1

  -- after the reply to a shared piece
  pub resumed_ok : (c : Configuration) (b : Begun) (bs : List ℕ) → BegunOk g c b → NextOk g (resumed c b bs)
  resumed_ok c (load l a) bs h = load_ok c l (answered c.memory a bs).access (read_on c.memory a bs h.0) h.2
  resumed_ok c (store a) bs h = store_ok (record c { memory = (answered c.memory a bs).memory }) (answered c.memory a bs).access (written_on c.memory a bs h.0) h.2
