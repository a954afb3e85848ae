-- The content of private pages.
use Rattle.std.proofs.Common.{◌≡◌, ℕ, zero, suc, ◌+◌, ◌-◌, ◌*◌, ◌<◌, ◌≤◌, List, [], ◌∷◌, ◌++◌, Option, Some, None, Bool, true, false, length, get_or, set, take, drop, replicate, refl, ap, arith, ◌∙◌, sym, inl, inr}
use Rattle.std.specs.Prelude.{IfSome, IfNone, nat_lt, option_map, if◌then◌else◌}
use Rattle.std.proofs.lemmas.Bool.{cases_eq, cases_lt, lt-ltb, ltb-true}
use Rattle.std.proofs.lemmas.List.{length-drop, length-take-le, length-replicate, length-set, drop-drop, take-replicate, drop-replicate, take_all, get_or_past, get_or_default, get_or-set_same, get_or-set_other}
use Rattle.faaslet_meaning.specs.Memory.{Content, page_size, page_limit, over, read_bytes}
use Rattle.private_pages.specs.Own.{Own, page_of, own_count, AreWhole, IsPut, content_or_zeros}
use Rattle.private_pages.specs.Pages.{Pages, ArePages, IsContent, IsWritten, joined, page_at, clean_page, page_content, own_or, last_content, fresh_pages}
use Rattle.private_pages.specs.PrivatePages.{pages_in, IsPrivatePages}
use Rattle.private_pages.specs.declared.pages.PrivatePages.TheInside.{Inside}
use Rattle.private_pages.proofs.Overs.{part}
use Rattle.private_pages.proofs.Joined.{joined_long, joined_same, joined_page, joined_over, joined_zeros, joined_parts}

-- what an image has, if there is one
abbrev pub IsLast : Option Content → ℕ → Type 0
IsLast last quota = IfSome last (λ c. IsContent c × (c.pages ≤ quota))

page_long : (b : List ℕ) (n k : ℕ) → length b ≡ n * page_size → k < n → length (page_at b k) ≡ page_size
page_long b n k h l = length-take-le page_size (drop (k * page_size) b) (omega (arith, length-drop (k * page_size) b))

pick : (t : Bool) (x y : List ℕ) → t ≡ true → (if t then x else y) ≡ x
pick t x y e = rw e refl

pub clean_within : (last : Option Content) (k : ℕ) → k < (last_content last).pages → clean_page last k ≡ page_at (last_content last).bytes k
clean_within last k l = pick (nat_lt k (last_content last).pages) (page_at (last_content last).bytes k) (replicate page_size 0) (lt-ltb k (last_content last).pages l)

past : (t : Bool) (x y : List ℕ) → (t ≡ true → ⊥) → (if t then x else y) ≡ y
past true x y h = absurd (h refl)
past false x y h = refl

pub clean_past : (last : Option Content) (k : ℕ) → (last_content last).pages ≤ k → clean_page last k ≡ replicate page_size 0
clean_past last k l = past (nat_lt k (last_content last).pages) (page_at (last_content last).bytes k) (replicate page_size 0) (λ e. (let x = ltb-true k (last_content last).pages e in omega arith))

last_whole : (last : Option Content) (quota : ℕ) → IsLast last quota → IsContent (last_content last)
last_whole None quota h = record { whole = omega arith; few = omega arith }
last_whole (Some c) quota h = h.0

pub clean_long : (last : Option Content) (quota k : ℕ) → IsLast last quota → length (clean_page last k) ≡ page_size
clean_long last quota k h =
    let w = last_whole last quota h in
    elim (cases_lt k (last_content last).pages) [
      | inl l ↦ rw (clean_within last k l) (page_long (last_content last).bytes (last_content last).pages k w.whole l)
      | inr l ↦ rw (clean_past last k l) (length-replicate {A = ℕ} page_size 0)
    ]

own_long : (r : Option (List ℕ)) (clean : List ℕ) → IfSome r (λ b. length b ≡ page_size) → length clean ≡ page_size → length (own_or r clean) ≡ page_size
own_long None clean h l = l
own_long (Some b) clean h l = h

entry_whole : (o : Own) (k : ℕ) → AreWhole o → IfSome (page_of o k) (λ b. length b ≡ page_size)
entry_whole o k h = elim (cases_lt k (length o.pages)) [
  | inl l ↦ h.each k None l
  | inr l ↦ (let e : page_of o k ≡ None = get_or_past o.pages k None l in rw e tt)
]

pub each_long : (o : Own) (last : Option Content) (quota : ℕ) → AreWhole o → IsLast last quota → (k : ℕ) → length (page_content o.pages last k) ≡ page_size
each_long o last quota h l k = own_long (page_of o k) (clean_page last k) (entry_whole o k h) (clean_long last quota k l)

-- a page of the content is what its entry says
pub page_is : (s : Inside) (k : ℕ) → IsPrivatePages s → k < s.pages → page_at (pages_in s).content.bytes k ≡ page_content s.own.pages (option_map (λ image. image.now) s.image) k
page_is s k h l =
    let last = option_map (λ image. image.now) s.image in
    joined_page page_size (page_content s.own.pages last) s.pages k (each_long s.own last s.quota h.whole h.kept) l

pub sound_pages : (s : Inside) → IsPrivatePages s → ArePages (pages_in s)
sound_pages s h =
    let last = option_map (λ image. image.now) s.image in
    record {
      content = record { whole = joined_long page_size (page_content s.own.pages last) s.pages (each_long s.own last s.quota h.whole h.kept); few = omega (arith, h.within, h.roomy, h.few) };
      within = h.within;
      roomy = h.roomy;
      few = h.few;
      kept = h.kept;
    }

-- ---- restored

none_there : (n k : ℕ) → get_or {A = Option (List ℕ)} (replicate n None) k None ≡ None
none_there zero k = refl
none_there (suc n) zero = refl
none_there (suc n) (suc k) = none_there n k

pub count_nothing : (n : ℕ) → own_count {A = List ℕ} (replicate n None) ≡ 0
count_nothing zero = refl
count_nothing (suc n) = count_nothing n

pub restored_content : (own : List (Option (List ℕ))) (m : ℕ) (last : Option Content) (pages quota : ℕ) → own ≡ replicate m None → pages ≡ (last_content last).pages → IsLast last quota → ◌≡◌ {A = Content} (record { pages = pages; bytes = joined (page_content own last) pages }) (last_content last)
restored_content own m last pages quota e p h =
    let w = last_whole last quota h in
    let n = (last_content last).pages in
    let b = (last_content last).bytes in
    let same : joined (page_content own last) n ≡ b =
    joined_same (page_content own last) (page_at b) n (λ k l. ap (λ (r : Option (List ℕ)). own_or r (clean_page last k)) (ap (λ (o : List (Option (List ℕ))). get_or o k None) e ∙ none_there m k) ∙ clean_within last k l)
    ∙ joined_parts page_size n b ∙ take_all (n * page_size) b (omega (arith, w.whole)) in
    rw (p, same) refl

last_within : (last : Option Content) (quota n : ℕ) → IsLast last quota → n ≡ (last_content last).pages → n ≤ quota
last_within None quota n h p = omega arith
last_within (Some c) quota n h p = omega (arith, h.1)

pub restored_are : (t : Inside) (m : ℕ) → t.own.pages ≡ replicate m None → t.pages ≡ (last_content (option_map (λ image. image.now) t.image)).pages → IsLast (option_map (λ image. image.now) t.image) t.quota → t.quota ≤ m → m ≤ page_limit → IsPrivatePages t
restored_are t m e p h q f =
    let long : length t.own.pages ≡ m = ap length e ∙ length-replicate m None in
    record {
      within = last_within (option_map (λ image. image.now) t.image) t.quota t.pages h p;
      roomy = omega arith;
      few = omega arith;
      kept = h;
      grown = omega arith;
      past = λ k l. ap (λ (o : List (Option (List ℕ))). get_or o k None) e ∙ none_there m k;
      whole = record { each = λ k d l. (let x : get_or t.own.pages k d ≡ None = get_or_default t.own.pages k d None l ∙ ap (λ (o : List (Option (List ℕ))). get_or o k None) e ∙ none_there m k in rw x tt) };
    }

pub fresh_is : (o : Own) (n work quota : ℕ) → o ≡ record { pages = replicate n None; work = work } → quota ≡ length o.pages → ◌≡◌ {A = Pages} (record { content = record { pages = 0; bytes = [] }; quota = quota; room = length o.pages; last = None; dirty = own_count o.pages; work = o.work }) (fresh_pages n work)
fresh_is o n work quota e q = rw (q, e, length-replicate {A = Option (List ℕ)} n None, count_nothing n) refl

-- ---- grown

pub grown_are : (s : Inside) (n : ℕ) → IsPrivatePages s → s.pages + n ≤ s.quota → IsPrivatePages (record s { pages = s.pages + n })
grown_are s n h l = record {
  within = l;
  roomy = h.roomy;
  few = h.few;
  kept = h.kept;
  grown = omega (arith, h.grown);
  past = λ k m. h.past k (omega arith);
  whole = h.whole;
}

pub grown_bytes : (s : Inside) (n : ℕ) → IsPrivatePages s → joined (page_content s.own.pages (option_map (λ image. image.now) s.image)) (s.pages + n) ≡ (pages_in s).content.bytes ++ replicate (n * page_size) 0
grown_bytes s n h =
    let last = option_map (λ image. image.now) s.image in
    joined_zeros page_size (page_content s.own.pages last) s.pages n (λ k l. ap (λ (r : Option (List ℕ)). own_or r (clean_page last k)) (h.past k l) ∙ clean_past last k (omega (arith, h.grown)))

-- ---- written

abbrev count_of : {A : Type 0} → Option A → ℕ
count_of None = 0
count_of (Some a) = 1

count_set : {A : Type 0} (es : List (Option A)) (k : ℕ) (a : A) → k < length es → own_count (set es k (Some a)) + count_of (get_or es k None) ≡ own_count es + 1
count_set [] k a h = absurd (omega arith)
count_set (None ∷ es) zero a h = omega arith
count_set (Some x ∷ es) zero a h = refl
count_set (None ∷ es) (suc k) a h = count_set es k a (omega arith)
count_set (Some x ∷ es) (suc k) a h = let r = count_set es k a (omega arith) in omega arith

-- an entry was set: with what the page had, or with what is put over it
pub set_content : (own new : List (Option (List ℕ))) (last : Option Content) (n k : ℕ) (c : List ℕ) → k < length own → new ≡ set own k (Some c) → c ≡ page_content own last k → joined (page_content new last) n ≡ joined (page_content own last) n
set_content own new last n k c l e same =
    joined_same (page_content new last) (page_content own last) n (λ j m. elim (cases_eq j k) [
      | inl w ↦ rw (w, e, get_or-set_same own k (Some c) None l) same
      | inr w ↦ rw (e, get_or-set_other own k j (Some c) None w) refl
    ])

pub put_content : (o : Own) (new : List (Option (List ℕ))) (last : Option Content) (quota n k from : ℕ) (b source : List ℕ) → AreWhole o → IsLast last quota → k < n → k < length o.pages → from + length source ≤ page_size → page_of o k ≡ Some b → new ≡ set o.pages k (Some (over b from source)) → joined (page_content new last) n ≡ over (joined (page_content o.pages last) n) (k * page_size + from) source
put_content o new last quota n k from b source h q l i w e a =
    sym (joined_over page_size (page_content o.pages last) (page_content new last) n k from source (each_long o last quota h q) l w
    (ap (λ (x : List (Option (List ℕ))). own_or (get_or x k None) (clean_page last k)) a ∙ ap (λ (r : Option (List ℕ)). own_or r (clean_page last k)) (get_or-set_same o.pages k (Some (over b from source)) None i) ∙ ap (λ (r : Option (List ℕ)). over (own_or r (clean_page last k)) from source) (sym e))
    (λ j v. ap (λ (x : List (Option (List ℕ))). own_or (get_or x j None) (clean_page last j)) a ∙ ap (λ (r : Option (List ℕ)). own_or r (clean_page last j)) (get_or-set_other o.pages k j (Some (over b from source)) None v)))

-- ---- what is known at an entry

pub own_there : (s : Inside) (k : ℕ) (b : List ℕ) → IsPrivatePages s → k < s.pages → page_of s.own k ≡ Some b → b ≡ page_at (pages_in s).content.bytes k
own_there s k b h l e = sym (page_is s k h l ∙ ap (λ (r : Option (List ℕ)). own_or r (clean_page (option_map (λ image. image.now) s.image) k)) e)

pub clean_there : (s : Inside) (k : ℕ) → IsPrivatePages s → k < s.pages → page_of s.own k ≡ None → clean_page (option_map (λ image. image.now) s.image) k ≡ page_at (pages_in s).content.bytes k
clean_there s k h l e = sym (page_is s k h l ∙ ap (λ (r : Option (List ℕ)). own_or r (clean_page (option_map (λ image. image.now) s.image) k)) e)

pub if_none : {X : Type 0} (r : Option X) {P Q : Type 0} → IfNone r P → (P → Q) → IfNone r Q
if_none None h f = f h
if_none (Some x) h f = h

pub clean_given : {X : Type 0} (f : X → List ℕ) (r : Option X) (p : List ℕ) → IfSome r (λ b. f b ≡ p) → IfNone r (p ≡ replicate page_size 0) → content_or_zeros (option_map f r) ≡ p
clean_given f None p h z = sym z
clean_given f (Some x) p h z = h

-- ---- one entry was set

abbrev bytes_as : Inside → List ℕ → Content
bytes_as s b = record { pages = s.pages; bytes = b }

set_are : (s : Inside) (o : Own) (place : ℕ) (a : List ℕ) → IsPrivatePages s → place < s.pages → o.pages ≡ set s.own.pages place (Some a) → AreWhole o → IsPrivatePages (record s { own = o })
set_are s o place a h l e w =
    let long : length o.pages ≡ length s.own.pages = ap length e ∙ length-set s.own.pages place (Some a) in
    record {
      within = h.within;
      roomy = omega (arith, h.roomy);
      few = omega (arith, h.few);
      kept = h.kept;
      grown = h.grown;
      past = λ k m. ap (λ (x : List (Option (List ℕ))). get_or x k None) e ∙ get_or-set_other s.own.pages place k (Some a) None (λ v. omega arith) ∙ h.past k m;
      whole = w;
    }

-- what a call leaves that puts bytes into a page, with at most so many more pages in use
pub record Put (s t : Inside) (at : ℕ) (source : List ℕ) (most : ℕ) : Type 0 where
  pub written : IsWritten (pages_in s) (pages_in t) at source most
  pub are : IsPrivatePages t

pub put_step : (s : Inside) (o : Own) (place from : ℕ) (source : List ℕ) → IsPrivatePages s → place < s.pages → from + length source ≤ page_size → IsPut s.own place from source o → AreWhole o → Put s (record s { own = o }) (place * page_size + from) source 1
put_step s o place from source h l i p w =
    let last = option_map (λ image. image.now) s.image in
    let inside : place < length s.own.pages = omega (arith, h.within, h.roomy) in
    let bytes = put_content s.own o.pages last s.quota s.pages place from p.own source h.whole h.kept l inside i p.was p.now in
    let count = count_set s.own.pages place (over p.own from source) inside in
    let one : count_of (page_of s.own place) ≡ 1 = ap count_of p.was in
    let now : own_count o.pages ≡ own_count (set s.own.pages place (Some (over p.own from source))) = ap own_count p.now in
    record {
      written = record {
        content = ap (λ (b : List ℕ). bytes_as s b) bytes;
        quota = refl;
        room = ap length p.now ∙ length-set s.own.pages place (Some (over p.own from source));
        last = refl;
        low = omega arith;
        high = omega arith;
        work = omega (arith, p.work);
      };
      are = set_are s o place (over p.own from source) h l p.now w;
    }

-- a page was taken first, with what the place had
pub take_step : (s : Inside) (o q : Own) (place from : ℕ) (c source : List ℕ) → IsPrivatePages s → place < s.pages → from + length source ≤ page_size → page_of s.own place ≡ None → o.pages ≡ set s.own.pages place (Some c) → c ≡ clean_page (option_map (λ image. image.now) s.image) place → AreWhole o → o.work ≤ s.own.work + 2 → IsPut o place from source q → AreWhole q → Put s (record s { own = q }) (place * page_size + from) source 1
take_step s o q place from c source h l i z e k w two p v =
    let last = option_map (λ image. image.now) s.image in
    let inside : place < length s.own.pages = omega (arith, h.within, h.roomy) in
    let are = set_are s o place c h l e w in
    let next = put_step (record s { own = o }) q place from source are l i p v in
    let same = set_content s.own.pages o.pages last s.pages place c inside e (k ∙ ap (λ (r : Option (List ℕ)). own_or r (clean_page last place)) (sym z)) in
    let count = count_set s.own.pages place c inside in
    let none : count_of (page_of s.own place) ≡ 0 = ap count_of z in
    let now : own_count o.pages ≡ own_count (set s.own.pages place (Some c)) = ap own_count e in
    let second = count_set o.pages place (over p.own from source) (omega (arith, ap length e, length-set s.own.pages place (Some c))) in
    let one : count_of (page_of o place) ≡ 1 = ap count_of p.was in
    let after : own_count q.pages ≡ own_count (set o.pages place (Some (over p.own from source))) = ap own_count p.now in
    record {
      written = record {
        content = next.written.content ∙ ap (λ (b : List ℕ). bytes_as s (over b (place * page_size + from) source)) same;
        quota = refl;
        room = next.written.room ∙ ap length e ∙ length-set s.own.pages place (Some c);
        last = refl;
        low = omega (arith, next.written.low);
        high = omega arith;
        work = omega (arith, next.written.work, p.work);
      };
      are = next.are;
    }

-- ---- reads inside a page

pub part_read : (bytes content : List ℕ) (place from to n : ℕ) → content ≡ page_at bytes place → to ≡ from + n → from + n ≤ page_size → take (to - from) (drop from content) ≡ read_bytes (place * page_size + from) n bytes
part_read bytes content place from to n e t h =
    let m : to - from ≡ n = omega arith in
    ap (λ (x : List ℕ). take (to - from) (drop from x)) e ∙ ap (λ (i : ℕ). take i (drop from (page_at bytes place))) m ∙ part (drop (place * page_size) bytes) from n page_size h ∙ ap (take n) (drop-drop from (place * page_size) bytes)

pub zero_read : (bytes : List ℕ) (place from n : ℕ) → page_at bytes place ≡ replicate page_size 0 → from + n ≤ page_size → replicate n 0 ≡ read_bytes (place * page_size + from) n bytes
zero_read bytes place from n e h =
    let m : from + n - from ≡ n = omega arith in
    let zeros : take n (drop from (replicate {A = ℕ} page_size 0)) ≡ replicate n 0 = ap (take n) (drop-replicate from page_size 0) ∙ take-replicate n (page_size - from) 0 (omega arith) in
    sym zeros ∙ ap (λ (i : ℕ). take i (drop from (replicate page_size 0))) (sym m) ∙ part_read bytes (replicate page_size 0) place from (from + n) n (sym e) refl h
