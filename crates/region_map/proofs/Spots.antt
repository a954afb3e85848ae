-- Where an address is: what is read and written there, and the pieces of a range.
use Rattle.std.proofs.Common.{◌≡◌, ℕ, suc, ◌+◌, ◌-◌, ◌*◌, ◌<◌, ◌≤◌, Bool, true, false, not, List, [], ◌∷◌, ◌++◌, All, Option, Some, None, length, take, drop, replicate, refl, ap, arith, ◌∙◌, sym, subst}
use Rattle.std.specs.Prelude.{filter, min, nat_lt}
use Rattle.std.proofs.lemmas.Bool.{ltb-true, ltb-false, lt-ltb}
use Rattle.std.proofs.lemmas.List.{length-drop, length-take-le, length-replicate, drop-drop}
use Rattle.faaslet_meaning.specs.Memory.{Home, private, mapped, Segment, Piece, cut, over, is_private, page_size, pages_of, private_pages}
use Rattle.region_map.specs.declared.segments.Mapping.{Mapping}
use Rattle.region_map.specs.declared.segments.Spot.{Spot}
use Rattle.region_map.specs.declared.segments.Spot.TheVariants.{Private, Shared}
use Rattle.region_map.specs.Segments.{private_behind, segments_of, all_segments, spread, spot_of, IsMapping, IsPlace, IsElsewhere}
use Rattle.private_pages.proofs.Overs.{part_of, drop_behind, over_behind, over_front, over_take, over_drop, over_take_behind, over_drop_behind}

-- what is read and written at a private address, `q` bytes behind the first private byte of these segments
pub record Held (ss : List Segment) (b : List ℕ) (before at p left : ℕ) : Type 0 where
  pub q : ℕ
  pub is : p ≡ before + q
  pub fits : q + left ≤ length b
  pub reads : (n : ℕ) → n ≤ left → take n (drop at (spread ss b)) ≡ take n (drop q b)
  pub writes : (new : List ℕ) → length new ≤ left → over (spread ss b) at new ≡ spread ss (over b q new)

private_here : (ss : List Segment) (s : Segment) (b : List ℕ) (before at p left : ℕ) → s.home ≡ private → at < s.pages * page_size → s.pages * page_size ≤ length b → p ≡ before + at → left ≡ s.pages * page_size - at → Held (s ∷ ss) b before at p left
private_here ss s b before at p left e t l i j =
    let n = s.pages * page_size in
    record {
      q = at;
      is = i;
      fits = omega arith;
      reads = λ m h. rw e (part_of b (spread ss (drop n b)) at m n (omega arith) l);
      writes = λ new h.
          let f = over_front (take n b) (spread ss (drop n b)) at new (omega (arith, length-take-le n b l)) in
          let x = over_take b at n new (omega arith) l in
          let y = over_drop b at n new (omega arith) l in
          rw (e, f, x, y) refl;
    }

private_before : (ss : List Segment) (s : Segment) (b : List ℕ) (before at p left : ℕ) → s.home ≡ private → s.pages * page_size ≤ at → s.pages * page_size ≤ length b → Held ss (drop (s.pages * page_size) b) (before + s.pages * page_size) (at - s.pages * page_size) p left → Held (s ∷ ss) b before at p left
private_before ss s b before at p left e t l r =
    let n = s.pages * page_size in
    let k = length-take-le n b l in
    record {
      q = n + r.q;
      is = omega (arith, r.is);
      fits = omega (arith, r.fits, length-drop n b);
      reads = λ m h.
          let d : drop at (take n b ++ spread ss (drop n b)) ≡ drop (at - n) (spread ss (drop n b)) = drop_behind (take n b) (spread ss (drop n b)) at (omega arith) ∙ ap (λ (i : ℕ). drop i (spread ss (drop n b))) (omega arith) in
          rw e (ap (take m) d ∙ r.reads m h ∙ ap (take m) (drop-drop r.q n b));
      writes = λ new h.
          let o : over (take n b ++ spread ss (drop n b)) at new ≡ take n b ++ over (spread ss (drop n b)) (at - n) new = over_behind (take n b) (spread ss (drop n b)) at new (omega arith) ∙ ap (λ (i : ℕ). take n b ++ over (spread ss (drop n b)) i new) (omega arith) in
          let x = over_take_behind b r.q n new l in
          let y = over_drop_behind b r.q n new l in
          rw (e, o, x, y, r.writes new h) refl;
    }

mapped_before : (ss : List Segment) (s : Segment) (b : List ℕ) (before at p left k : ℕ) → s.home ≡ mapped k → s.pages * page_size ≤ at → Held ss b before (at - s.pages * page_size) p left → Held (s ∷ ss) b before at p left
mapped_before ss s b before at p left k e t r =
    let n = s.pages * page_size in
    let z : length (replicate {A = ℕ} n 0) ≡ n = length-replicate n 0 in
    record {
      q = r.q;
      is = r.is;
      fits = r.fits;
      reads = λ m h.
          let d : drop at (replicate n 0 ++ spread ss b) ≡ drop (at - n) (spread ss b) = drop_behind (replicate n 0) (spread ss b) at (omega arith) ∙ ap (λ (i : ℕ). drop i (spread ss b)) (omega arith) in
          rw e (ap (take m) d ∙ r.reads m h);
      writes = λ new h.
          let o : over (replicate n 0 ++ spread ss b) at new ≡ replicate n 0 ++ over (spread ss b) (at - n) new = over_behind (replicate n 0) (spread ss b) at new (omega arith) ∙ ap (λ (i : ℕ). replicate n 0 ++ over (spread ss b) i new) (omega arith) in
          rw (e, o, r.writes new h) refl;
    }

pub held : (ss : List Segment) (b : List ℕ) (before at p left : ℕ) → spot_of ss before at ≡ Some (Private p left) → length b ≡ private_pages ss * page_size → Held ss b before at p left
held [] b before at p left h l = cc
held (s ∷ ss) b before at p left h l = by s.home refl (nat_lt at (s.pages * page_size)) refl (held ss)
  where
    by : (c : Home) → s.home ≡ c → (d : Bool) → nat_lt at (s.pages * page_size) ≡ d → ((b : List ℕ) (before at p left : ℕ) → spot_of ss before at ≡ Some (Private p left) → length b ≡ private_pages ss * page_size → Held ss b before at p left) → Held (s ∷ ss) b before at p left
    by private e true t ih =
        let n = s.pages * page_size in
        let k : length b ≡ (s.pages + private_pages ss) * page_size = rw e at l in
        let i : Some (Private (before + at) (n - at)) ≡ Some (Private p left) = rw (t, e) at h in
        let pe : before + at ≡ p = cc in
        let le : n - at ≡ left = cc in
        private_here ss s b before at p left e (ltb-true _ _ t) (omega arith) (sym pe) (sym le)
    by private e false t ih =
        let n = s.pages * page_size in
        let k : length b ≡ (s.pages + private_pages ss) * page_size = rw e at l in
        let i : spot_of ss (before + n) (at - n) ≡ Some (Private p left) = rw (t, e) at h in
        private_before ss s b before at p left e (ltb-false _ _ t) (omega arith) (ih (drop n b) (before + n) (at - n) p left i (omega (arith, length-drop n b)))
    by (mapped k) e true t ih =
        let i : Some (Shared k at (s.pages * page_size - at)) ≡ Some (Private p left) = rw (t, e) at h in
        cc
    by (mapped k) e false t ih =
        let n = s.pages * page_size in
        let l' : length b ≡ private_pages ss * page_size = rw e at l in
        let i : spot_of ss before (at - n) ≡ Some (Private p left) = rw (t, e) at h in
        mapped_before ss s b before at p left k e (ltb-false _ _ t) (ih b before (at - n) p left i l')

-- past the end
pub past : (ss : List Segment) (before at : ℕ) → spot_of ss before at ≡ None → pages_of ss * page_size ≤ at
past [] before at h = omega arith
past (s ∷ ss) before at h = by s.home refl (nat_lt at (s.pages * page_size)) refl (past ss)
  where
    by : (c : Home) → s.home ≡ c → (d : Bool) → nat_lt at (s.pages * page_size) ≡ d → ((before at : ℕ) → spot_of ss before at ≡ None → pages_of ss * page_size ≤ at) → pages_of (s ∷ ss) * page_size ≤ at
    by c e true t ih = let i = rw t at h in cc
    by private e false t ih = let r = ih (before + s.pages * page_size) (at - s.pages * page_size) (rw (t, e) at h) in omega (arith, ltb-false _ _ t)
    by (mapped k) e false t ih = let r = ih before (at - s.pages * page_size) (rw (t, e) at h) in omega (arith, ltb-false _ _ t)

-- ---- the pieces of a range that begins there

abbrev pub left_of : Spot → ℕ
left_of (Private p left) = left
left_of (Shared k off left) = left

abbrev pub HomeIs : Piece → Spot → Type 0
HomeIs piece (Private p left) = piece.home ≡ private
HomeIs piece (Shared k off left) = (piece.home ≡ mapped k) × (piece.off ≡ off)

pub record Cut (ss : List Segment) (base a n : ℕ) (spot : Spot) : Type 0 where
  pub first : Piece
  pub others : List Piece
  pub is : cut ss base a n ≡ first ∷ others
  pub size : first.size ≡ min n (left_of spot)
  pub home : HomeIs first spot
  pub alone : n ≤ left_of spot → others ≡ []

cut_none : (ss : List Segment) (base at : ℕ) → cut ss base at 0 ≡ []
cut_none [] base at = refl
cut_none (s ∷ ss) base at =
    let z : min 0 (base + s.pages * page_size - at) ≡ 0 = omega arith in
    rw z (cut_none ss (base + s.pages * page_size) at)

cut_here : (s : Segment) (ss : List Segment) (base at a n : ℕ) → a ≡ base + at → at < s.pages * page_size → 0 < n → cut (s ∷ ss) base a n ≡ record { home = s.home; off = a - base; at = a; size = min n (base + s.pages * page_size - a) } ∷ cut ss (base + s.pages * page_size) (a + min n (base + s.pages * page_size - a)) (n - min n (base + s.pages * page_size - a))
cut_here s ss base at a n e t some =
    let z = lt-ltb 0 (min n (base + s.pages * page_size - a)) (omega arith) in
    rw z refl

cut_on : (s : Segment) (ss : List Segment) (base at a n : ℕ) → a ≡ base + at → s.pages * page_size ≤ at → cut (s ∷ ss) base a n ≡ cut ss (base + s.pages * page_size) a n
cut_on s ss base at a n e t =
    let z : min n (base + s.pages * page_size - a) ≡ 0 = omega arith in
    rw z refl

first_here : (s : Segment) (ss : List Segment) (base at a n : ℕ) (spot : Spot) → a ≡ base + at → at < s.pages * page_size → 0 < n → left_of spot ≡ s.pages * page_size - at → HomeIs (record { home = s.home; off = a - base; at = a; size = min n (base + s.pages * page_size - a) }) spot → Cut (s ∷ ss) base a n spot
first_here s ss base at a n spot e t some left home =
    let here = min n (base + s.pages * page_size - a) in
    record {
      first = record { home = s.home; off = a - base; at = a; size = here };
      others = cut ss (base + s.pages * page_size) (a + here) (n - here);
      is = cut_here s ss base at a n e t some;
      size = omega (arith, left);
      home = home;
      alone = λ l.
          let z : n - here ≡ 0 = omega (arith, left) in
          ap (cut ss (base + s.pages * page_size) (a + here)) z ∙ cut_none ss (base + s.pages * page_size) (a + here);
    }

pub cut_spot : (ss : List Segment) (base before at a n : ℕ) (spot : Spot) → a ≡ base + at → spot_of ss before at ≡ Some spot → 0 < n → Cut ss base a n spot
cut_spot [] base before at a n spot e h some = cc
cut_spot (s ∷ ss) base before at a n spot e h some = by s.home refl (nat_lt at (s.pages * page_size)) refl (λ b d x y. cut_spot ss b d x a n spot y)
  where
    on : s.pages * page_size ≤ at → Cut ss (base + s.pages * page_size) a n spot → Cut (s ∷ ss) base a n spot
    on t r = record { first = r.first; others = r.others; is = cut_on s ss base at a n e t ∙ r.is; size = r.size; home = r.home; alone = r.alone }

    by : (c : Home) → s.home ≡ c → (d : Bool) → nat_lt at (s.pages * page_size) ≡ d → ((b before at : ℕ) → a ≡ b + at → spot_of ss before at ≡ Some spot → 0 < n → Cut ss b a n spot) → Cut (s ∷ ss) base a n spot
    by private c true t ih =
        let i : Some (Private (before + at) (s.pages * page_size - at)) ≡ Some spot = rw (t, c) at h in
        let j : Private (before + at) (s.pages * page_size - at) ≡ spot = cc in
        subst (Cut (s ∷ ss) base a n) j (first_here s ss base at a n _ e (ltb-true _ _ t) some refl c)
    by (mapped k) c true t ih =
        let i : Some (Shared k at (s.pages * page_size - at)) ≡ Some spot = rw (t, c) at h in
        let j : Shared k at (s.pages * page_size - at) ≡ spot = cc in
        subst (Cut (s ∷ ss) base a n) j (first_here s ss base at a n _ e (ltb-true _ _ t) some refl (c, omega arith))
    by private c false t ih =
        let l = ltb-false _ _ t in
        on l (ih (base + s.pages * page_size) (before + s.pages * page_size) (at - s.pages * page_size) (omega arith) (rw (t, c) at h) some)
    by (mapped k) c false t ih =
        let l = ltb-false _ _ t in
        on l (ih (base + s.pages * page_size) before (at - s.pages * page_size) (omega arith) (rw (t, c) at h) some)

-- ---- no two private segments touch

abbrev pub shared : List Piece → List Piece
shared ps = filter (λ p. not (is_private p.home)) ps

abbrev NextMapped : List Segment → Type 0
NextMapped [] = Unit {0}
NextMapped (t ∷ ts) = (is_private t.home ≡ false) × (1 ≤ t.pages)

abbrev pub Parted : List Segment → Type 0
Parted [] = Unit {0}
Parted (s ∷ ss) = (is_private s.home ≡ true → NextMapped ss) × Parted ss

next_mapped : (ms : List Mapping) → All IsMapping ms → NextMapped (segments_of ms)
next_mapped [] h = tt
next_mapped (m ∷ ms) h = let one = h 0 m (omega arith) in (refl, one.some)

parted_behind : (n : Option ℕ) (ss : List Segment) → NextMapped ss → Parted ss → Parted (private_behind n ++ ss)
parted_behind None ss next h = h
parted_behind (Some n) ss next h = ((λ e. next), h)

parted_of : (ms : List Mapping) → All IsMapping ms → Parted (segments_of ms)
parted_of [] h = tt
parted_of (m ∷ ms) h =
    let rest : All IsMapping ms = λ k d l. h (suc k) d (omega arith) in
    ((λ e. cc), parted_behind m.behind (segments_of ms) (next_mapped ms rest) (parted_of ms rest))

pub parted_all : (first : ℕ) (ms : List Mapping) → All IsMapping ms → Parted (all_segments first ms)
parted_all first ms h = ((λ e. next_mapped ms h), parted_of ms h)

shared_first : (p : Piece) (ps : List Piece) → is_private p.home ≡ false → shared (p ∷ ps) ≡ [] → ⊥
shared_first p ps e h = let i = rw e at h in cc

-- behind a private segment a replica begins
shared_next : (ss : List Segment) (base n : ℕ) → NextMapped ss → 0 < n → base + n ≤ base + pages_of ss * page_size → shared (cut ss base base n) ≡ [] → ⊥
shared_next [] base n next some h f = omega arith
shared_next (s ∷ ss) base n next some h f =
    let here = min n (base + s.pages * page_size - base) in
    shared_first (record { home = s.home; off = base - base; at = base; size = here }) (cut ss (base + s.pages * page_size) (base + here) (n - here)) next.0 (rw (cut_here s ss base 0 base n (omega arith) (omega (arith, next.1)) some) at f)

pub short : (ss : List Segment) (base before at a n p left : ℕ) → a ≡ base + at → Parted ss → spot_of ss before at ≡ Some (Private p left) → left < n → a + n ≤ base + pages_of ss * page_size → shared (cut ss base a n) ≡ [] → ⊥
short [] base before at a n p left e parted h l w f = cc
short (s ∷ ss) base before at a n p left e parted h l w f = by s.home refl (nat_lt at (s.pages * page_size)) refl (λ b d x. short ss b d x a n p left)
  where
    by : (c : Home) → s.home ≡ c → (d : Bool) → nat_lt at (s.pages * page_size) ≡ d → ((b before at : ℕ) → a ≡ b + at → Parted ss → spot_of ss before at ≡ Some (Private p left) → left < n → a + n ≤ b + pages_of ss * page_size → shared (cut ss b a n) ≡ [] → ⊥) → ⊥
    by private c true t ih =
        let i : Some (Private (before + at) (s.pages * page_size - at)) ≡ Some (Private p left) = rw (t, c) at h in
        let j : s.pages * page_size - at ≡ left = cc in
        let less = ltb-true _ _ t in
        let next = base + s.pages * page_size in
        let here = min n (next - a) in
        let x : a + here ≡ next = omega arith in
        let g = rw (cut_here s ss base at a n e less (omega arith), c) at f in
        shared_next ss next (n - here) (parted.0 (ap is_private c)) (omega arith) (omega arith) (rw x at g)
    by (mapped k) c true t ih =
        let i : Some (Shared k at (s.pages * page_size - at)) ≡ Some (Private p left) = rw (t, c) at h in
        cc
    by private c false t ih =
        let m = ltb-false _ _ t in
        ih (base + s.pages * page_size) (before + s.pages * page_size) (at - s.pages * page_size) (omega arith) parted.1 (rw (t, c) at h) l (omega arith) (rw (cut_on s ss base at a n e m) at f)
    by (mapped k) c false t ih =
        let m = ltb-false _ _ t in
        ih (base + s.pages * page_size) before (at - s.pages * page_size) (omega arith) parted.1 (rw (t, c) at h) l (omega arith) (rw (cut_on s ss base at a n e m) at f)

-- ---- where a range is

within : (ss : List Segment) (before at : ℕ) (spot : Spot) → spot_of ss before at ≡ Some spot → at + left_of spot ≤ pages_of ss * page_size
within [] before at spot h = cc
within (s ∷ ss) before at spot h = by s.home refl (nat_lt at (s.pages * page_size)) refl (λ b x. within ss b x spot)
  where
    by : (c : Home) → s.home ≡ c → (d : Bool) → nat_lt at (s.pages * page_size) ≡ d → ((before at : ℕ) → spot_of ss before at ≡ Some spot → at + left_of spot ≤ pages_of ss * page_size) → at + left_of spot ≤ pages_of (s ∷ ss) * page_size
    by private c true t ih =
        let i : Some (Private (before + at) (s.pages * page_size - at)) ≡ Some spot = rw (t, c) at h in
        let j : Private (before + at) (s.pages * page_size - at) ≡ spot = cc in
        omega (arith, ltb-true _ _ t, ap left_of j)
    by (mapped k) c true t ih =
        let i : Some (Shared k at (s.pages * page_size - at)) ≡ Some spot = rw (t, c) at h in
        let j : Shared k at (s.pages * page_size - at) ≡ spot = cc in
        omega (arith, ltb-true _ _ t, ap left_of j)
    by private c false t ih = omega (arith, ltb-false _ _ t, ih (before + s.pages * page_size) (at - s.pages * page_size) (rw (t, c) at h))
    by (mapped k) c false t ih = omega (arith, ltb-false _ _ t, ih before (at - s.pages * page_size) (rw (t, c) at h))

pub place : (ss : List Segment) (at n p left : ℕ) → spot_of ss 0 at ≡ Some (Private p left) → 0 < n → n ≤ left → IsPlace ss at n p
place ss at n p left h some l =
    let c = cut_spot ss 0 0 at at n (Private p left) (omega arith) h some in
    let w = within ss 0 at (Private p left) h in
    record {
      inside = omega arith;
      alone = rw (c.is, c.alone l, c.home) refl;
      fits = λ b m. let r = held ss b 0 at p left h m in omega (arith, r.is, r.fits);
      reads = λ b m. let r = held ss b 0 at p left h m in let q : r.q ≡ p = omega (arith, r.is) in r.reads n l ∙ ap (λ (i : ℕ). take n (drop i b)) q;
      writes = λ b new m k. let r = held ss b 0 at p left h m in let q : r.q ≡ p = omega (arith, r.is) in r.writes new (omega arith) ∙ ap (λ (i : ℕ). spread ss (over b i new)) q;
    }

-- at the front of the first segment, which is private
pub place_first : (first : ℕ) (ms : List Mapping) (at n : ℕ) → 0 < n → at + n ≤ first * page_size → IsPlace (all_segments first ms) at n at
place_first first ms at n some h =
    let t = lt-ltb at (first * page_size) (omega arith) in
    let e : 0 + at ≡ at = omega arith in
    let i : spot_of (all_segments first ms) 0 at ≡ Some (Private at (first * page_size - at)) = rw (t, e) refl in
    place (all_segments first ms) at n at (first * page_size - at) i some (omega arith)

pub past_end : (ss : List Segment) (at n : ℕ) → spot_of ss 0 at ≡ None → 0 < n → IsElsewhere ss at n
past_end ss at n h some = record { never = λ i f. omega (arith, past ss 0 at h) }

pub in_replica : (ss : List Segment) (at n k off left : ℕ) → spot_of ss 0 at ≡ Some (Shared k off left) → 0 < n → IsElsewhere ss at n
in_replica ss at n k off left h some =
    let c = cut_spot ss 0 0 at at n (Shared k off left) (omega arith) h some in
    record { never = λ i f. shared_first c.first c.others (ap is_private c.home.0) (rw c.is at f) }

pub too_long : (first : ℕ) (ms : List Mapping) (at n p left : ℕ) → All IsMapping ms → spot_of (all_segments first ms) 0 at ≡ Some (Private p left) → left < n → IsElsewhere (all_segments first ms) at n
too_long first ms at n p left each h l =
    record { never = λ i f. short (all_segments first ms) 0 0 at at n p left (omega arith) (parted_all first ms each) h l (omega arith) f }
