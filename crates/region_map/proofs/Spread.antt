-- Segments and their bytes: what is appended, and what every memory keeps to.
use Rattle.std.proofs.Common.{◌≡◌, ℕ, suc, ◌+◌, ◌*◌, ◌≤◌, not, List, [], ◌∷◌, ◌++◌, All, Option, Some, None, unwrap_or, length, take, drop, replicate, refl, ap, arith, ◌∙◌, sym, append_assoc}
use Rattle.std.specs.Prelude.{filter}
use Rattle.std.proofs.lemmas.List.Elements.{All-nil, All-cons, All-append, All-pop, All-push}
use Rattle.std.proofs.lemmas.List.{append-nil, length-append, length-drop, length-take-le, length-replicate, take-append-le, drop-append-le, take_at, drop_at, take-append-drop, take_all, nil_from_length}
use Rattle.faaslet_meaning.specs.Memory.{Home, private, mapped, Segment, IsMemory, MappedZero, HasPlace, is_private, page_size, pages_of, private_pages, private_bytes, with_pages}
use Rattle.private_pages.specs.Pages.{Pages}
use Rattle.region_map.specs.declared.segments.Mapping.{Mapping}
use Rattle.region_map.specs.Segments.{private_behind, segments_of, all_segments, spread, memory_of, IsMapping, AreSegments}

pub length_spread : (ss : List Segment) (b : List ℕ) → length b ≡ private_pages ss * page_size → length (spread ss b) ≡ pages_of ss * page_size
length_spread [] b h = refl
length_spread (s ∷ ss) b h = by s.home refl (length_spread ss)
  where
    by : (c : Home) → s.home ≡ c → ((b : List ℕ) → length b ≡ private_pages ss * page_size → length (spread ss b) ≡ pages_of ss * page_size) → length (spread (s ∷ ss) b) ≡ pages_of (s ∷ ss) * page_size
    by private e ih =
        let n = s.pages * page_size in
        let l : length b ≡ (s.pages + private_pages ss) * page_size = rw e at h in
        let r = ih (drop n b) (omega (arith, length-drop n b)) in
        rw e (omega (arith, length-append (take n b) (spread ss (drop n b)), length-take-le n b (omega arith)))
    by (mapped k) e ih =
        let n = s.pages * page_size in
        let l : length b ≡ private_pages ss * page_size = rw e at h in
        let r = ih b l in
        rw e (omega (arith, length-append (replicate n 0) (spread ss b), length-replicate {A = ℕ} n 0))

zero_spread : (ss : List Segment) (b : List ℕ) → length b ≡ private_pages ss * page_size → MappedZero ss (spread ss b)
zero_spread [] b h = tt
zero_spread (s ∷ ss) b h = by s.home refl (zero_spread ss)
  where
    by : (c : Home) → s.home ≡ c → ((b : List ℕ) → length b ≡ private_pages ss * page_size → MappedZero ss (spread ss b)) → MappedZero (s ∷ ss) (spread (s ∷ ss) b)
    by private e ih =
        let n = s.pages * page_size in
        let l : length b ≡ (s.pages + private_pages ss) * page_size = rw e at h in
        let r = ih (drop n b) (omega (arith, length-drop n b)) in
        let d = drop_at (take n b) (spread ss (drop n b)) n (length-take-le n b (omega arith)) in
        rw e ((λ f. cc), rw d r)
    by (mapped k) e ih =
        let n = s.pages * page_size in
        let l : length b ≡ private_pages ss * page_size = rw e at h in
        let d = drop_at (replicate n 0) (spread ss b) n (length-replicate {A = ℕ} n 0) in
        let t = take_at (replicate n 0) (spread ss b) n (length-replicate {A = ℕ} n 0) in
        rw e ((λ f. t), rw d (ih b l))

pub private_spread : (ss : List Segment) (b : List ℕ) → length b ≡ private_pages ss * page_size → private_bytes ss (spread ss b) ≡ b
private_spread [] b h = sym (nil_from_length b (omega (arith, h)))
private_spread (s ∷ ss) b h = by s.home refl (private_spread ss)
  where
    by : (c : Home) → s.home ≡ c → ((b : List ℕ) → length b ≡ private_pages ss * page_size → private_bytes ss (spread ss b) ≡ b) → private_bytes (s ∷ ss) (spread (s ∷ ss) b) ≡ b
    by private e ih =
        let n = s.pages * page_size in
        let l : length b ≡ (s.pages + private_pages ss) * page_size = rw e at h in
        let k = length-take-le n b (omega arith) in
        let d = drop_at (take n b) (spread ss (drop n b)) n k in
        let t = take_at (take n b) (spread ss (drop n b)) n k in
        let r = ih (drop n b) (omega (arith, length-drop n b)) in
        rw (e, d, t, r) (take-append-drop n b)
    by (mapped k) e ih =
        let n = s.pages * page_size in
        let l : length b ≡ private_pages ss * page_size = rw e at h in
        let d = drop_at (replicate n 0) (spread ss b) n (length-replicate {A = ℕ} n 0) in
        rw (e, d) (ih b l)

-- ---- a mapping behind all others

pub spread_map : (ss : List Segment) (b : List ℕ) (k n : ℕ) → spread (ss ++ record { home = mapped k; pages = n } ∷ []) b ≡ spread ss b ++ replicate (n * page_size) 0
spread_map [] b k n = append-nil _
spread_map (s ∷ ss) b k n = by s.home refl (spread_map ss)
  where
    by : (c : Home) → s.home ≡ c → ((b : List ℕ) (k n : ℕ) → spread (ss ++ record { home = mapped k; pages = n } ∷ []) b ≡ spread ss b ++ replicate (n * page_size) 0) → spread ((s ∷ ss) ++ record { home = mapped k; pages = n } ∷ []) b ≡ spread (s ∷ ss) b ++ replicate (n * page_size) 0
    by private e ih = let m = s.pages * page_size in rw (e, ih (drop m b) k n) (sym (append_assoc (take m b) (spread ss (drop m b)) (replicate (n * page_size) 0)))
    by (mapped j) e ih = let m = s.pages * page_size in rw (e, ih b k n) (sym (append_assoc (replicate m 0) (spread ss b) (replicate (n * page_size) 0)))

pub pages_append : (ss ts : List Segment) → pages_of (ss ++ ts) ≡ pages_of ss + pages_of ts
pages_append [] ts = omega arith
pages_append (s ∷ ss) ts = let r = pages_append ss ts in omega arith

pub private_append : (ss ts : List Segment) → private_pages (ss ++ ts) ≡ private_pages ss + private_pages ts
private_append [] ts = omega arith
private_append (s ∷ ss) ts = by s.home refl (private_append ss ts)
  where
    by : (c : Home) → s.home ≡ c → (private_pages (ss ++ ts) ≡ private_pages ss + private_pages ts) → private_pages ((s ∷ ss) ++ ts) ≡ private_pages (s ∷ ss) + private_pages ts
    by private e ih = let r = ih in rw e (omega arith)
    by (mapped k) e ih = rw e (ih)

pub segments_append : (ms ns : List Mapping) → segments_of (ms ++ ns) ≡ segments_of ms ++ segments_of ns
segments_append [] ns = refl
segments_append (m ∷ ms) ns =
    rw (segments_append ms ns) (ap (λ (w : List Segment). record { home = mapped m.place; pages = m.pages } ∷ w) (sym (append_assoc (private_behind m.behind) (segments_of ms) (segments_of ns))))

-- ---- pages behind all others

pub pages_grown : (ss : List Segment) (n : ℕ) → pages_of (with_pages ss n) ≡ pages_of ss + n
pages_grown [] n = omega arith
pages_grown (s ∷ []) n = by s.home refl
  where
    by : (c : Home) → s.home ≡ c → pages_of (with_pages (s ∷ []) n) ≡ pages_of (s ∷ []) + n
    by private e = rw e (omega arith)
    by (mapped k) e = rw e (omega arith)
pages_grown (s ∷ t ∷ ss) n = let r = pages_grown (t ∷ ss) n in omega arith

pub private_grown : (ss : List Segment) (n : ℕ) → private_pages (with_pages ss n) ≡ private_pages ss + n
private_grown [] n = omega arith
private_grown (s ∷ []) n = by s.home refl
  where
    by : (c : Home) → s.home ≡ c → private_pages (with_pages (s ∷ []) n) ≡ private_pages (s ∷ []) + n
    by private e = rw e (omega arith)
    by (mapped k) e = rw e (omega arith)
private_grown (s ∷ t ∷ ss) n = by s.home refl (private_grown (t ∷ ss))
  where
    by : (c : Home) → s.home ≡ c → ((n : ℕ) → private_pages (with_pages (t ∷ ss) n) ≡ private_pages (t ∷ ss) + n) → private_pages (with_pages (s ∷ t ∷ ss) n) ≡ private_pages (s ∷ t ∷ ss) + n
    by private e ih = let r = ih n in rw e (omega arith)
    by (mapped k) e ih = let r = ih n in rw e (omega arith)

pub spread_grown : (ss : List Segment) (b : List ℕ) (n : ℕ) → length b ≡ private_pages ss * page_size → spread (with_pages ss n) (b ++ replicate (n * page_size) 0) ≡ spread ss b ++ replicate (n * page_size) 0
spread_grown [] b n h =
    let z : List ℕ = replicate (n * page_size) 0 in
    let o : b ≡ [] = nil_from_length b (omega (arith, h)) in
    rw o (append-nil (take (n * page_size) z) ∙ take_all (n * page_size) z (omega (arith, length-replicate {A = ℕ} (n * page_size) 0)))
spread_grown (s ∷ []) b n h = by s.home refl
  where
    by : (c : Home) → s.home ≡ c → spread (with_pages (s ∷ []) n) (b ++ replicate (n * page_size) 0) ≡ spread (s ∷ []) b ++ replicate (n * page_size) 0
    by private e =
        let z : List ℕ = replicate (n * page_size) 0 in
        let l : length b ≡ (s.pages + 0) * page_size = rw e at h in
        let t = take_all ((s.pages + n) * page_size) (b ++ z) (omega (arith, length-append b z, length-replicate {A = ℕ} (n * page_size) 0)) in
        let u = take_all (s.pages * page_size) b (omega arith) in
        rw (e, t, u, append-nil (b ++ z), append-nil b) refl
    by (mapped k) e =
        let z : List ℕ = replicate (n * page_size) 0 in
        let l : length b ≡ 0 = omega (arith, rw e at h) in
        let o : b ≡ [] = nil_from_length b l in
        let t = take_all (n * page_size) z (omega (arith, length-replicate {A = ℕ} (n * page_size) 0)) in
        rw (e, o, t, append-nil z, append-nil {A = ℕ} (replicate (s.pages * page_size) 0)) refl
spread_grown (s ∷ t ∷ ss) b n h = by s.home refl (spread_grown (t ∷ ss))
  where
    by : (c : Home) → s.home ≡ c → ((b : List ℕ) (n : ℕ) → length b ≡ private_pages (t ∷ ss) * page_size → spread (with_pages (t ∷ ss) n) (b ++ replicate (n * page_size) 0) ≡ spread (t ∷ ss) b ++ replicate (n * page_size) 0) → spread (with_pages (s ∷ t ∷ ss) n) (b ++ replicate (n * page_size) 0) ≡ spread (s ∷ t ∷ ss) b ++ replicate (n * page_size) 0
    by private e ih =
        let z : List ℕ = replicate (n * page_size) 0 in
        let m = s.pages * page_size in
        let l : length b ≡ (s.pages + private_pages (t ∷ ss)) * page_size = rw e at h in
        let r = ih (drop m b) n (omega (arith, length-drop m b)) in
        let x = take-append-le m b z (omega arith) in
        let y = drop-append-le m b z (omega arith) in
        rw (e, x, y, r) (sym (append_assoc (take m b) (spread (t ∷ ss) (drop m b)) z))
    by (mapped k) e ih =
        let z : List ℕ = replicate (n * page_size) 0 in
        let m = s.pages * page_size in
        let l : length b ≡ private_pages (t ∷ ss) * page_size = rw e at h in
        let r = ih b n l in
        rw (e, r) (sym (append_assoc (replicate m 0) (spread (t ∷ ss) b) z))

with_pages_behind : (ss : List Segment) (t : Segment) (ts : List Segment) (n : ℕ) → with_pages (ss ++ t ∷ ts) n ≡ ss ++ with_pages (t ∷ ts) n
with_pages_behind [] t ts n = refl
with_pages_behind (s ∷ []) t ts n = refl
with_pages_behind (s ∷ r ∷ ss) t ts n = ap (λ (w : List Segment). s ∷ w) (with_pages_behind (r ∷ ss) t ts n)

last_grown : (k p n : ℕ) (o : Option ℕ) → record { home = mapped k; pages = p } ∷ (private_behind (Some (unwrap_or o 0 + n)) ++ []) ≡ with_pages (record { home = mapped k; pages = p } ∷ (private_behind o ++ [])) n
last_grown k p n None = let z : 0 + n ≡ n = omega arith in rw z refl
last_grown k p n (Some m) = refl

-- the same in the last mapping
pub lengthened : (first : ℕ) (ms : List Mapping) (m : Mapping) (n : ℕ) → all_segments first (ms ++ record m { behind = Some (unwrap_or m.behind 0 + n) } ∷ []) ≡ with_pages (all_segments first (ms ++ m ∷ [])) n
lengthened first ms m n =
    let head : Segment = record { home = private; pages = first } in
    let last : Segment = record { home = mapped m.place; pages = m.pages } in
    ap (λ (w : List Segment). head ∷ w) (segments_append ms (record m { behind = Some (unwrap_or m.behind 0 + n) } ∷ []))
    ∙ ap (λ (w : List Segment). head ∷ (segments_of ms ++ w)) (last_grown m.place m.pages n m.behind)
    ∙ sym (with_pages_behind (head ∷ segments_of ms) last (private_behind m.behind ++ []) n)
    ∙ ap (λ (w : List Segment). with_pages (head ∷ w) n) (sym (segments_append ms (m ∷ [])))

behind_small : (o : Option ℕ) → unwrap_or o 0 ≤ pages_of (private_behind o ++ [])
behind_small None = omega arith
behind_small (Some n) = omega arith

pub last_small : (first : ℕ) (ms : List Mapping) (m : Mapping) → unwrap_or m.behind 0 ≤ pages_of (all_segments first (ms ++ m ∷ []))
last_small first ms m =
    let a = behind_small m.behind in
    let b = pages_append (segments_of ms) (segments_of (m ∷ [])) in
    let c = ap pages_of (segments_append ms (m ∷ [])) in
    omega arith

pub each_longer : (ms : List Mapping) (m : Mapping) (n : ℕ) → All IsMapping (ms ++ m ∷ []) → All IsMapping (ms ++ record m { behind = Some n } ∷ [])
each_longer ms m n h =
    let parts = All-pop IsMapping (ms ++ m ∷ []) ms (Some m) refl h in
    All-push IsMapping ms (record m { behind = Some n }) parts.0 (record { place = parts.1.place; some = parts.1.some })

-- ---- what every memory keeps to

behind_mapped : (n : Option ℕ) (ss : List Segment) → length (filter (λ s. not (is_private s.home)) (private_behind n ++ ss)) ≡ length (filter (λ s. not (is_private s.home)) ss)
behind_mapped None ss = refl
behind_mapped (Some n) ss = refl

pub mappings_many : (first : ℕ) (ms : List Mapping) → length (filter (λ s. not (is_private s.home)) (all_segments first ms)) ≡ length ms
mappings_many first [] = refl
mappings_many first (m ∷ ms) = ap suc (behind_mapped m.behind (segments_of ms) ∙ mappings_many first ms)

abbrev Placed : Segment → Type 0
Placed s = HasPlace s.home

places_behind : (n : Option ℕ) → All Placed (private_behind n)
places_behind None = All-nil Placed
places_behind (Some n) = All-cons Placed (record { home = private; pages = n }) [] tt (All-nil Placed)

places_all : (ms : List Mapping) → All IsMapping ms → All Placed (segments_of ms)
places_all [] h = All-nil Placed
places_all (m ∷ ms) h =
    let one = h 0 m (omega arith) in
    let rest : All IsMapping ms = λ k d l. h (suc k) d (omega arith) in
    All-cons Placed (record { home = mapped m.place; pages = m.pages }) (private_behind m.behind ++ segments_of ms) one.place (All-append Placed (private_behind m.behind) (segments_of ms) (places_behind m.behind) (places_all ms rest))

pub is_memory : (first pages : ℕ) (ms : List Mapping) (p : Pages) → AreSegments first pages ms p → IsMemory (memory_of (all_segments first ms) p.content.bytes p.quota)
is_memory first pages ms p h =
    let l : length p.content.bytes ≡ private_pages (all_segments first ms) * page_size = h.are.content.whole ∙ ap (λ (n : ℕ). n * page_size) h.privates in
    record {
      long = length_spread (all_segments first ms) p.content.bytes l;
      zero = zero_spread (all_segments first ms) p.content.bytes l;
      few = omega (arith, h.count, h.few);
      within = omega (arith, h.privates, h.are.within);
      mapped = omega (arith, mappings_many first ms, h.mapped);
      places = All-cons Placed (record { home = private; pages = first }) (segments_of ms) tt (places_all ms h.each);
    }
