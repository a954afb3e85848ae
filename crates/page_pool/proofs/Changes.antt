-- What each change of a pool leaves.
use Rattle.std.proofs.Common.{◌≡◌, ℕ, suc, ◌+◌, ◌-◌, ◌*◌, ◌<◌, ◌≤◌, List, [], ◌∷◌, ◌++◌, All, length, take, drop, replicate, get_or, set, refl, ap, arith, ◌∙◌, sym, inl, inr, append-nil, append_assoc}
use Rattle.std.specs.Prelude.{vec_capacity}
use Rattle.std.proofs.lemmas.Bool.{cases_lt}
use Rattle.std.proofs.lemmas.List.{length-set, length_push, length-append, length-replicate, length-take-le, length-drop, drop-drop, get_or_append_left, get_or-replicate, take_all, with_items_is}
use Rattle.std.specs.Vec.{with_items}
use Rattle.std.proofs.lemmas.List.Elements.{All-nil, All-set, All-push}
use Rattle.std.proofs.lemmas.List.Quantifiers.{all_pairs_push}
use lib.Seq.{set-append_left}
use borrow.Rule.Slice.PartMut.{put_mid}
use Rattle.page_pool.specs.Pool.{Pool, IsPool, IsTaken, page_size, content_of, worked, with_content, over}
use Rattle.page_pool.specs.PagePool.{chunks, contents_in, numbers_from, pool_in, IsPagePool}
use Rattle.page_pool.specs.declared.pool.PagePool.TheInside.{Inside}
use Rattle.page_pool.proofs.Chunks.{many, chunk_at, chunk_set, contents_more}
use Rattle.page_pool.proofs.Numbers.{front, last, front_apart, last_apart, length-numbers_from, numbers_below, numbers_apart, numbers_more, numbers_have, front_of_two}
use Rattle.page_pool.proofs.Numbers as numbers

-- how many pages there are
pub all_pages : (pages made : ℕ) (b : List ℕ) → made ≤ pages → length (contents_in pages made b) ≡ pages
all_pages pages made b h =
    omega (arith, length-append (chunks page_size made b) (replicate (pages - made) (replicate page_size 0)), many page_size made b, length-replicate {A = List ℕ} (pages - made) (replicate page_size 0))

pub pages_are : (s : Inside) → IsPagePool s → length (pool_in s).contents ≡ s.pages
pages_are s h = all_pages s.pages s.made s.bytes.items h.within

-- a page that is taken was made
made_there : (pages made page : ℕ) (given : List ℕ) → made ≤ pages → page < pages → All (λ n. n ≡ page → ⊥) (numbers_from made (pages - made) ++ given) → page < made
made_there pages made page given h l t = elim (cases_lt page made) [
  | inl w ↦ w
  | inr w ↦ absurd (numbers_have made (pages - made) page w (omega arith) (front_of_two (λ n. n ≡ page → ⊥) (numbers_from made (pages - made)) given t))
]

pub among : (s : Inside) (p : Pool) (page : ℕ) → pool_in s ≡ p → IsPagePool s → IsTaken p page → page < s.made
among s p page e i h =
    let t = rw (← e) at h in
    made_there s.pages s.made page s.given_back.items i.within (omega (arith, t.below, pages_are s i)) t.not_free

pub content_is : (s : Inside) (p : Pool) (page : ℕ) → pool_in s ≡ p → IsPagePool s → IsTaken p page → content_of p page ≡ take page_size (drop (page * page_size) s.bytes.items)
content_is s p page e i h =
    let l = among s p page e i h in
    ap (λ (q : Pool). content_of q page) (sym e)
    ∙ get_or_append_left (chunks page_size s.made s.bytes.items) (replicate (s.pages - s.made) (replicate page_size 0)) [] page (omega (arith, many page_size s.made s.bytes.items))
    ∙ chunk_at page_size s.made s.bytes.items page l

pub few : (p : Pool) → IsPool p → length p.free ≤ length p.contents
few p h = numbers.few (length p.contents) p.free h.below h.apart

-- a page that is taken is none of those that are free, so there are fewer of these
pub fewer : (p : Pool) (page : ℕ) → IsPool p → IsTaken p page → length p.free + 1 ≤ length p.contents
fewer p page h t =
    let all = numbers.few (length p.contents) (p.free ++ page ∷ []) (All-push (λ n. n < length p.contents) p.free page h.below t.below) (all_pairs_push (λ m n. m ≡ n → ⊥) p.free page h.apart t.not_free) in
    omega (arith, length_push p.free page)

-- how many are free, of which those given back are a part
pub free_many : (s : Inside) → length (pool_in s).free ≡ s.pages - s.made + length s.given_back.items
free_many s = omega (arith, length-append (numbers_from s.made (s.pages - s.made)) s.given_back.items, length-numbers_from s.made (s.pages - s.made))

-- the last of the free pages is taken
pub record Took (p q : Pool) (page : ℕ) : Type 0 where
  pub sound : IsPool q
  pub taken : IsTaken q page

pub took : (p q : Pool) (page : ℕ) → IsPool p → q.contents ≡ p.contents → p.free ≡ q.free ++ page ∷ [] → Took p q page
took p q page h a b =
    let below = rw (b, ← a) at h.below in
    let apart = rw b at h.apart in
    record {
      sound = record { each = rw a h.each; below = front (λ n. n < length q.contents) q.free page below; apart = front_apart q.free page apart };
      taken = record { below = last (λ n. n < length q.contents) q.free page below; not_free = last_apart q.free page apart };
    }

length-put_mid : (xs ys : List ℕ) (a k : ℕ) → a + k ≤ length xs → length ys ≡ k → length (put_mid a k xs ys) ≡ length xs
length-put_mid xs ys a k h l =
    omega (arith, length-append (take a xs) (ys ++ drop k (drop a xs)), length-append ys (drop k (drop a xs)), length-take-le a xs (omega arith), length-drop k (drop a xs), length-drop a xs)

-- what the vector is after the part of a page was written
pub wrote : (s : Inside) (page at k : ℕ) (old new content : List ℕ) → IsPagePool s → page < s.made → length content ≡ page_size → at ≡ page * 65536 → k ≡ 65536 → old ≡ s.bytes.items → new ≡ content → (with_items s.bytes (put_mid at k old new)).items ≡ put_mid (page * 65536) 65536 s.bytes.items content
wrote s page at k old new content h l w a b o n =
    let z : length (put_mid (page * 65536) 65536 s.bytes.items content) ≡ s.bytes.len = length-put_mid s.bytes.items content (page * 65536) 65536 (omega (arith, h.whole)) w ∙ sym s.bytes.ok.0 in
    rw (a, b, o, n) (with_items_is s.bytes (put_mid (page * 65536) 65536 s.bytes.items content) z)

-- the contents then
contents_set : (size pages made page : ℕ) (b content z : List ℕ) → page < made → length b ≡ made * size → length content ≡ size → chunks size made (put_mid (page * size) size b content) ++ replicate (pages - made) z ≡ set (chunks size made b ++ replicate (pages - made) z) page content
contents_set size pages made page b content z l h w =
    ap (λ (x : List (List ℕ)). x ++ replicate (pages - made) z) (chunk_set size made b page (page * size) content l h w refl)
    ∙ sym (set-append_left (chunks size made b) (replicate (pages - made) z) page content (omega (arith, many size made b)))

pub written_is : (s : Inside) (p : Pool) (page : ℕ) (content items : List ℕ) (work : ℕ) → pool_in s ≡ p → IsPagePool s → page < s.made → length content ≡ page_size → items ≡ put_mid (page * 65536) 65536 s.bytes.items content → work ≡ worked s.work → ◌≡◌ {A = Pool} (record { contents = contents_in s.pages s.made items; free = numbers_from s.made (s.pages - s.made) ++ s.given_back.items; made = s.made; work = work }) (with_content p page content)
written_is s p page content items work e h l w i k =
    rw (i, k, contents_set page_size s.pages s.made page s.bytes.items content (replicate page_size 0) l h.whole w) (ap (λ (q : Pool). with_content q page content) e)

pub written_sound : (s t : Inside) (page : ℕ) (content : List ℕ) → IsPagePool s → page < s.made → length content ≡ page_size → t.bytes.items ≡ put_mid (page * 65536) 65536 s.bytes.items content → vec_capacity t.bytes ≡ vec_capacity s.bytes → t.pages ≡ s.pages → t.made ≡ s.made → t.given_back ≡ s.given_back → IsPagePool t
written_sound s t page content h l w i v p m f = record {
  are = rw (i, p, m, f, contents_set page_size s.pages s.made page s.bytes.items content (replicate page_size 0) l h.whole w) (record {
    each = All-set (λ c. length c ≡ page_size) (contents_in s.pages s.made s.bytes.items) page content w h.are.each;
    below = rw length-set h.are.below;
    apart = h.are.apart;
  });
  within = rw (p, m) h.within;
  whole = rw (i, m) (length-put_mid s.bytes.items content (page * 65536) 65536 (omega (arith, h.whole)) w ∙ h.whole);
  given = rw (m, f) h.given;
  reserved = rw (p, v) h.reserved;
  room = rw (p, f) h.room;
}

-- a page stays taken when it is given another content
pub still_taken : (p q : Pool) (page : ℕ) (content : List ℕ) → IsTaken p page → q ≡ with_content p page content → IsTaken q page
still_taken p q page content h e = rw e (record { below = rw length-set h.below; not_free = h.not_free })

length-over : (b : List ℕ) (at : ℕ) (new : List ℕ) → at + length new ≤ length b → length (over b at new) ≡ length b
length-over b at new h =
    omega (arith, length-append (take at b) (new ++ drop (at + length new) b), length-append new (drop (at + length new) b), length-take-le at b (omega arith), length-drop (at + length new) b)

-- the part of a page that is written, and how long the page stays
pub part_is : (s : Inside) (p : Pool) (page at k from to : ℕ) (old new source : List ℕ) → pool_in s ≡ p → IsPagePool s → IsTaken p page → at ≡ page * 65536 → k ≡ 65536 → to ≡ from + length source → old ≡ s.bytes.items → new ≡ source → put_mid from (to - from) (take k (drop at old)) new ≡ over (content_of p page) from source
part_is s p page at k from to old new source e i h a b t o n =
    let j : from + (to - from) ≡ from + length source = omega arith in
    let xs = take page_size (drop (page * page_size) s.bytes.items) in
    rw (a, b, o, n, content_is s p page e i h) (ap (λ (r : List ℕ). take from xs ++ (source ++ r)) (drop-drop (to - from) from xs ∙ ap (λ (i : ℕ). drop i xs) j))

pub part_long : (s : Inside) (p : Pool) (page from : ℕ) (source : List ℕ) → pool_in s ≡ p → IsPagePool s → IsTaken p page → from + length source ≤ page_size → length (over (content_of p page) from source) ≡ page_size
part_long s p page from source e h t l =
    let sound = rw e at h.are in
    let w : length (content_of p page) ≡ page_size = sound.each page [] t.below in
    length-over (content_of p page) from source (omega arith) ∙ w

-- ---- a pool at first

pub none_made : (s : Inside) → s.made ≡ 0 → s.bytes.items ≡ [] → s.given_back.items ≡ [] → s.pages * page_size ≤ vec_capacity s.bytes → s.pages ≤ vec_capacity s.given_back → IsPagePool s
none_made s m b g r f =
    let free : (pool_in s).free ≡ numbers_from 0 s.pages = rw (m, g) (append-nil (numbers_from 0 (s.pages - 0)) ∙ ap (numbers_from 0) (omega arith)) in
    let contents : (pool_in s).contents ≡ replicate s.pages (replicate page_size 0) = rw m (ap (λ (n : ℕ). replicate n (replicate page_size 0)) (omega arith)) in
    let long : length (pool_in s).contents ≡ s.pages = all_pages s.pages s.made s.bytes.items (omega arith) in
    record {
      are = record {
        each = rw contents (λ i d l. (let e : get_or (replicate {A = List ℕ} s.pages (replicate page_size 0)) i d ≡ replicate page_size 0 = get_or-replicate s.pages i (replicate page_size 0) d (omega (arith, length-replicate {A = List ℕ} s.pages (replicate page_size 0))) in rw e (length-replicate {A = ℕ} page_size 0)));
        below = rw (long, free) (numbers_below 0 s.pages s.pages (omega arith));
        apart = rw free (numbers_apart 0 s.pages);
      };
      within = omega arith;
      whole = rw (m, b) (omega arith);
      given = rw g (All-nil (λ n. n < s.made));
      reserved = r;
      room = f;
    }

-- ---- one more page is made

-- after bytes of a whole page were put behind
pub made_one : (s t : Inside) → IsPagePool s → s.made < s.pages → s.given_back.items ≡ [] → t.bytes.items ≡ s.bytes.items ++ replicate page_size 0 → t.made ≡ s.made + 1 → t.pages ≡ s.pages → t.given_back.items ≡ [] → ((pool_in t).contents ≡ (pool_in s).contents) × ((pool_in s).free ≡ (pool_in t).free ++ s.made ∷ [])
made_one s t h l g b m p f =
    let k = s.pages - (s.made + 1) in
    let e : s.pages - s.made ≡ suc k = omega arith in
    let contents : (pool_in t).contents ≡ (pool_in s).contents = rw (b, m, p) (contents_more page_size s.pages s.made k s.bytes.items (replicate page_size 0) h.whole (length-replicate {A = ℕ} page_size 0) e refl) in
    let old : (pool_in s).free ≡ numbers_from (s.made + 1) k ++ s.made ∷ [] = rw g (append-nil (numbers_from s.made (s.pages - s.made)) ∙ ap (numbers_from s.made) e ∙ numbers_more s.made k) in
    let new : (pool_in t).free ≡ numbers_from (s.made + 1) k = rw (m, p, f) (append-nil (numbers_from (s.made + 1) k)) in
    (contents, old ∙ ap (λ (x : List ℕ). x ++ s.made ∷ []) (sym new))

-- one that was given back is taken
pub given_one : (s t : Inside) (page : ℕ) → s.given_back.items ≡ t.given_back.items ++ page ∷ [] → t.bytes ≡ s.bytes → t.made ≡ s.made → t.pages ≡ s.pages → ((pool_in t).contents ≡ (pool_in s).contents) × ((pool_in s).free ≡ (pool_in t).free ++ page ∷ [])
given_one s t page g b m p =
    (rw (b, m, p) refl, rw (g, m, p) (sym (append_assoc (numbers_from s.made (s.pages - s.made)) t.given_back.items (page ∷ []))))

-- a page is given back
pub gave : (s : Inside) (p : Pool) (page : ℕ) (xs : List ℕ) → pool_in s ≡ p → IsPagePool s → IsTaken p page → xs ≡ s.given_back.items ++ page ∷ [] → (numbers_from s.made (s.pages - s.made) ++ xs ≡ p.free ++ page ∷ []) × All (λ n. n < s.made) xs
gave s p page xs e h t f =
    (rw f (sym (append_assoc (numbers_from s.made (s.pages - s.made)) s.given_back.items (page ∷ [])) ∙ ap (λ (q : Pool). q.free ++ page ∷ []) e), rw f (All-push (λ n. n < s.made) s.given_back.items page h.given (among s p page e h t)))

pub gave_sound : (p q : Pool) (page : ℕ) → IsPool p → IsTaken p page → q.contents ≡ p.contents → q.free ≡ p.free ++ page ∷ [] → IsPool q
gave_sound p q page h t a b = record {
  each = rw a h.each;
  below = rw (a, b) (All-push (λ n. n < length p.contents) p.free page h.below t.below);
  apart = rw b (all_pairs_push (λ m n. m ≡ n → ⊥) p.free page h.apart t.not_free);
}

-- ---- what the pool keeps to after a page was taken

pub given_sound : (s t : Inside) (page : ℕ) → IsPagePool s → s.given_back.items ≡ t.given_back.items ++ page ∷ [] → t.bytes ≡ s.bytes → t.made ≡ s.made → t.pages ≡ s.pages → vec_capacity s.given_back ≤ vec_capacity t.given_back → IsPagePool t
given_sound s t page h g b m p v =
    let o = given_one s t page g b m p in
    let given = rw g at h.given in
    record {
      are = (took (pool_in s) (pool_in t) page h.are o.0 o.1).sound;
      within = rw (m, p) h.within;
      whole = rw (b, m) h.whole;
      given = rw m (front (λ n. n < s.made) t.given_back.items page given);
      reserved = rw (p, b) h.reserved;
      room = omega (arith, p, h.room);
    }

-- the number of a page that was given back is below those to be made
pub given_below : (s : Inside) (xs : List ℕ) (page : ℕ) → IsPagePool s → s.given_back.items ≡ xs ++ page ∷ [] → page < s.made
given_below s xs page h g = last (λ n. n < s.made) xs page (rw g at h.given)

pub made_sound : (s t : Inside) → IsPagePool s → s.made < s.pages → s.given_back.items ≡ [] → t.bytes.items ≡ s.bytes.items ++ replicate page_size 0 → t.made ≡ s.made + 1 → t.pages ≡ s.pages → t.given_back.items ≡ [] → vec_capacity s.bytes ≤ vec_capacity t.bytes → vec_capacity s.given_back ≤ vec_capacity t.given_back → IsPagePool t
made_sound s t h l g b m p f v r =
    let o = made_one s t h l g b m p f in
    record {
      are = (took (pool_in s) (pool_in t) s.made h.are o.0 o.1).sound;
      within = omega arith;
      whole = ap length b ∙ omega (arith, length-append s.bytes.items (replicate page_size 0), length-replicate {A = ℕ} page_size 0, h.whole, m);
      given = rw f (All-nil (λ n. n < t.made));
      reserved = omega (arith, p, h.reserved);
      room = omega (arith, p, h.room);
    }

-- the vector once it was lengthened by a page
pub lengthened : (b items : List ℕ) (made size rest : ℕ) → items ≡ take size b ++ replicate rest 0 → length b ≡ made * page_size → rest ≡ size - length b → size ≡ (made + 1) * page_size → items ≡ b ++ replicate page_size 0
lengthened b items made size rest e h r n =
    let k : rest ≡ page_size = omega arith in
    e ∙ ap (λ (x : List ℕ). x ++ replicate rest 0) (take_all size b (omega arith)) ∙ ap (λ (i : ℕ). b ++ replicate i 0) k
