-- What each change of a segmented memory leaves.
use Rattle.std.proofs.Common.{◌≡◌, ℕ, ◌+◌, ◌*◌, ◌<◌, ◌≤◌, List, [], ◌∷◌, ◌++◌, All, Some, None, length, replicate, refl, ap, arith, ◌∙◌, sym, subst, IsTrue}
use Rattle.std.specs.Prelude.{min}
use Rattle.std.proofs.lemmas.List.{append-nil, take_all, length_push}
use Rattle.std.proofs.lemmas.List.Elements.{All-nil, All-push}
use Rattle.faaslet_meaning.specs.Memory.{Content, private, mapped, Segment, IsMemory, page_size, page_limit, grant_limit, mapping_limit, pages_of, private_pages, with_pages, grown, with_map, unmapped, put, mappings, may_map, may_grow, lies_in, IsPrivate, IsFirstPiece}
use Rattle.faaslet_meaning.specs.declared.linear.Home.TheVariants as code
use Rattle.region_map.specs.declared.segments.Spot.TheVariants.{Private, Shared}
use Rattle.std.proofs.lemmas.Bool.{le-leb, leb-true}
use Rattle.region_map.proofs.Spots.{past, cut_spot}
use Rattle.private_pages.specs.Pages.{Pages, ArePages, IsWritten}
use Rattle.region_map.specs.declared.segments.Mapping.{Mapping}
use Rattle.region_map.specs.declared.segmented.SegmentedMemory.TheInside.{Inside}
use Rattle.region_map.specs.Segments.{all_segments, spread, memory_of, IsMapping, AreSegments, IsPlace, Segmented, spot_of}
use Rattle.region_map.specs.SegmentedMemory.{memory_in, IsSegmented}
use Rattle.region_map.proofs.Spread.{is_memory, spread_map, private_spread, spread_grown, pages_append, private_append, pages_grown, private_grown, segments_append, mappings_many}

-- what every memory keeps to
pub sound : (s : Inside) (m : Segmented) → memory_in s ≡ m → IsSegmented s → IsMemory m.memory
sound s m e h = subst (λ (v : Segmented). IsMemory v.memory) e (is_memory s.first s.pages s.mappings.items s.bytes h.are)

-- ---- one private segment

pub alone : (k : ℕ) (b : List ℕ) → length b ≡ k * page_size → spread (all_segments k []) b ≡ b
alone k b h = append-nil _ ∙ take_all (k * page_size) b (omega arith)

pub one_memory : (k : ℕ) (b : List ℕ) (quota : ℕ) → length b ≡ k * page_size → memory_of (all_segments k []) b quota ≡ record { segments = record { home = private; pages = k } ∷ []; bytes = b; quota = quota }
one_memory k b quota h = rw (alone k b h) refl

pub one_are : (k : ℕ) (p : Pages) → p.content.pages ≡ k → ArePages p → AreSegments k k [] p
one_are k p e h = record {
  count = omega arith;
  few = omega (arith, h.within, h.roomy, h.few);
  privates = omega arith;
  mapped = omega arith;
  each = All-nil IsMapping;
  are = h;
}

pub unmapped_is : (first : ℕ) (ms : List Mapping) (pages : ℕ) (p : Pages) → AreSegments first pages ms p → memory_of (all_segments p.content.pages []) p.content.bytes p.quota ≡ unmapped (memory_of (all_segments first ms) p.content.bytes p.quota)
unmapped_is first ms pages p h =
    let l : length p.content.bytes ≡ private_pages (all_segments first ms) * page_size = h.are.content.whole ∙ ap (λ (n : ℕ). n * page_size) h.privates in
    one_memory p.content.pages p.content.bytes p.quota h.are.content.whole
    ∙ ap (λ (k : ℕ). record { segments = record { home = private; pages = k } ∷ []; bytes = p.content.bytes; quota = p.quota }) h.privates
    ∙ ap (λ (b : List ℕ). record { segments = record { home = private; pages = private_pages (all_segments first ms) } ∷ []; bytes = b; quota = p.quota }) (sym (private_spread (all_segments first ms) p.content.bytes l))

-- ---- one more mapping

abbrev mapping_at : ℕ → ℕ → Mapping
mapping_at place n = record { place = place; pages = n; behind = None }

segments_mapped : (first : ℕ) (ms : List Mapping) (place n : ℕ) → all_segments first (ms ++ mapping_at place n ∷ []) ≡ all_segments first ms ++ record { home = mapped place; pages = n } ∷ []
segments_mapped first ms place n = ap (λ (w : List Segment). record { home = private; pages = first } ∷ w) (segments_append ms (mapping_at place n ∷ []))

pub mapped_are : (first : ℕ) (ms : List Mapping) (pages place n : ℕ) (p : Pages) → AreSegments first pages ms p → pages + n ≤ page_limit → 1 ≤ n → place < grant_limit → length ms < mapping_limit → AreSegments first (pages + n) (ms ++ mapping_at place n ∷ []) p
mapped_are first ms pages place n p h few some low room =
    let e = segments_mapped first ms place n in
    let a = pages_append (all_segments first ms) (record { home = mapped place; pages = n } ∷ []) in
    let b = private_append (all_segments first ms) (record { home = mapped place; pages = n } ∷ []) in
    record {
      count = omega (arith, h.count, ap pages_of e);
      few = few;
      privates = omega (arith, h.privates, ap private_pages e);
      mapped = omega (arith, length_push ms (mapping_at place n));
      each = All-push IsMapping ms (mapping_at place n) h.each (record { place = low; some = some });
      are = h.are;
    }

pub mapped_is : (first : ℕ) (ms : List Mapping) (place n : ℕ) (b : List ℕ) (quota : ℕ) → memory_of (all_segments first (ms ++ mapping_at place n ∷ [])) b quota ≡ with_map (memory_of (all_segments first ms) b quota) place n
mapped_is first ms place n b quota =
    let e = segments_mapped first ms place n in
    ap (λ (ss : List Segment). memory_of ss b quota) e ∙ rw (spread_map (all_segments first ms) b place n) refl

-- ---- more pages

pub grown_are : (first longer : ℕ) (ms ns : List Mapping) (pages n : ℕ) (p q : Pages) → AreSegments first pages ms p → all_segments longer ns ≡ with_pages (all_segments first ms) n → All IsMapping ns → length ns ≡ length ms → pages + n ≤ page_limit → q.content.pages ≡ p.content.pages + n → ArePages q → AreSegments longer (pages + n) ns q
grown_are first longer ms ns pages n p q h e each many few more are = record {
  count = omega (arith, h.count, ap pages_of e, pages_grown (all_segments first ms) n);
  few = few;
  privates = omega (arith, h.privates, ap private_pages e, private_grown (all_segments first ms) n);
  mapped = omega (arith, h.mapped);
  each = each;
  are = are;
}

pub grown_is : (first longer : ℕ) (ms ns : List Mapping) (pages n : ℕ) (p : Pages) → AreSegments first pages ms p → all_segments longer ns ≡ with_pages (all_segments first ms) n → memory_of (all_segments longer ns) (p.content.bytes ++ replicate (n * page_size) 0) p.quota ≡ grown (memory_of (all_segments first ms) p.content.bytes p.quota) n
grown_is first longer ms ns pages n p h e =
    let l : length p.content.bytes ≡ private_pages (all_segments first ms) * page_size = h.are.content.whole ∙ ap (λ (k : ℕ). k * page_size) h.privates in
    ap (λ (ss : List Segment). memory_of ss (p.content.bytes ++ replicate (n * page_size) 0) p.quota) e ∙ rw (spread_grown (all_segments first ms) p.content.bytes n l) refl

-- ---- the clauses, said of the fields

pub written_are : (first : ℕ) (ms : List Mapping) (pages : ℕ) (p q : Pages) → AreSegments first pages ms p → q.content.pages ≡ p.content.pages → ArePages q → AreSegments first pages ms q
written_are first ms pages p q h e are = record { count = h.count; few = h.few; privates = e ∙ h.privates; mapped = h.mapped; each = h.each; are = are }

pub written_now : (s : Inside) (m : Segmented) (at n place : ℕ) (new : List ℕ) (q : Pages) → memory_in s ≡ m → IsSegmented s → IsPlace (all_segments s.first s.mappings.items) at n place → length new ≡ n → (most : ℕ) → IsWritten s.bytes q place new most → IsTrue (lies_in m.memory at n) × IsPrivate m.memory at n × (memory_of (all_segments s.first s.mappings.items) q.content.bytes q.quota ≡ put m.memory at new)
written_now s m at n place new q e h p k most w =
    let ss = all_segments s.first s.mappings.items in
    let l : length s.bytes.content.bytes ≡ private_pages ss * page_size = h.are.are.content.whole ∙ ap (λ (i : ℕ). i * page_size) h.are.privates in
    let P : Segmented → Type 0 = λ v. IsTrue (lies_in v.memory at n) × IsPrivate v.memory at n × (memory_of ss q.content.bytes q.quota ≡ put v.memory at new) in
    subst P e (le-leb _ _ p.inside, p.alone, rw (ap (λ (c : Content). c.bytes) w.content, w.quota, p.writes s.bytes.content.bytes new l k) refl)

pub room_to_map : (s : Inside) (m : Segmented) → memory_in s ≡ m → mappings m.memory < mapping_limit → length s.mappings.items < mapping_limit
room_to_map s m e h =
    let few = rw (← e) at h in
    omega (arith, mappings_many s.first s.mappings.items)

pub mapped_now : (s : Inside) (m : Segmented) (place n : ℕ) → memory_in s ≡ m → IsSegmented s → s.pages + n ≤ page_limit → IsTrue (may_map m.memory n) × (memory_of (all_segments s.first (s.mappings.items ++ mapping_at place n ∷ [])) s.bytes.content.bytes s.bytes.quota ≡ with_map m.memory place n)
mapped_now s m place n e h few =
    let P : Segmented → Type 0 = λ v. IsTrue (may_map v.memory n) × (memory_of (all_segments s.first (s.mappings.items ++ mapping_at place n ∷ [])) s.bytes.content.bytes s.bytes.quota ≡ with_map v.memory place n) in
    subst P e (le-leb _ _ (omega (arith, h.are.count)), mapped_is s.first s.mappings.items place n s.bytes.content.bytes s.bytes.quota)

pub grown_now : (s : Inside) (m : Segmented) (longer : ℕ) (ns : List Mapping) (n max : ℕ) (q : Pages) → memory_in s ≡ m → IsSegmented s → all_segments longer ns ≡ with_pages (all_segments s.first s.mappings.items) n → s.pages + n ≤ min max page_limit → s.bytes.content.pages + n ≤ s.bytes.quota → q ≡ record s.bytes { content = record { pages = s.bytes.content.pages + n; bytes = s.bytes.content.bytes ++ replicate (n * page_size) 0 } } → IsTrue (may_grow m.memory n max) × (memory_of (all_segments longer ns) q.content.bytes q.quota ≡ grown m.memory n)
grown_now s m longer ns n max q e h l few within w =
    let P : Segmented → Type 0 = λ v. IsTrue (may_grow v.memory n max) × (memory_of (all_segments longer ns) q.content.bytes q.quota ≡ grown v.memory n) in
    let a = le-leb (pages_of (all_segments s.first s.mappings.items) + n) (min max page_limit) (omega (arith, h.are.count)) in
    let b = le-leb (private_pages (all_segments s.first s.mappings.items) + n) s.bytes.quota (omega (arith, h.are.privates)) in
    subst P e (rw (a, b) refl, rw w (grown_is s.first longer s.mappings.items ns s.pages n s.bytes h.are l))

pub not_past : (s : Inside) (m : Segmented) (at n : ℕ) → memory_in s ≡ m → IsTrue (lies_in m.memory at n) → 0 < n → spot_of (all_segments s.first s.mappings.items) 0 at ≡ None → ⊥
not_past s m at n e h some f =
    let inside = rw (← e) at h in
    omega (arith, leb-true _ _ inside, past (all_segments s.first s.mappings.items) 0 at f)

pub first_private : (s : Inside) (m : Segmented) (at n p left len : ℕ) → memory_in s ≡ m → spot_of (all_segments s.first s.mappings.items) 0 at ≡ Some (Private p left) → 0 < n → len ≡ min n left → IsFirstPiece m.memory at n (record { len = len; home = code.Private })
first_private s m at n p left len e h some l =
    let c = cut_spot (all_segments s.first s.mappings.items) 0 0 at at n (Private p left) (omega arith) h some in
    subst (λ (v : Segmented). IsFirstPiece v.memory at n (record { len = len; home = code.Private })) e (record { first = c.first; others = c.others; cut = c.is; is_long = l ∙ sym c.size; is_home = c.home })

pub first_shared : (s : Inside) (m : Segmented) (at n k off left len : ℕ) → memory_in s ≡ m → spot_of (all_segments s.first s.mappings.items) 0 at ≡ Some (Shared k off left) → 0 < n → len ≡ min n left → IsFirstPiece m.memory at n (record { len = len; home = code.Shared k off })
first_shared s m at n k off left len e h some l =
    let c = cut_spot (all_segments s.first s.mappings.items) 0 0 at at n (Shared k off left) (omega arith) h some in
    subst (λ (v : Segmented). IsFirstPiece v.memory at n (record { len = len; home = code.Shared k off })) e (record { first = c.first; others = c.others; cut = c.is; is_long = l ∙ sym c.size; is_home = c.home })
