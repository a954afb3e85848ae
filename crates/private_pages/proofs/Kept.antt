-- The content of an image, from the pages that it keeps.
use Rattle.std.proofs.Common.{◌≡◌, ℕ, suc, ◌+◌, ◌*◌, ◌/◌, ◌%◌, ◌<◌, ◌≤◌, List, [], ◌∷◌, ◌++◌, Option, Some, None, length, get_or, take, drop, refl, ap, arith, ◌∙◌, sym, inl, inr, replicate}
use Rattle.std.specs.Prelude.{◌≢◌, IfSome}
use Rattle.std.proofs.lemmas.Bool.{cases_lt}
use Rattle.std.proofs.lemmas.List.{length-append, length-drop, length-take-le, length-replicate, get_or_past, get_or_append_left, get_or_push, length_push, drop-append-le, take-append-le, drop_at, take_all}
use Rattle.std.proofs.lemmas.List.Elements.{All-push}
use Rattle.faaslet_meaning.specs.Memory.{Content, page_size, page_limit}
use Rattle.private_pages.specs.Pages.{IsContent, joined, page_at}
use Rattle.private_pages.specs.Images.{kept_page, content_in, IsImage}
use Rattle.private_pages.specs.declared.image.Image.TheInside.{Inside}
use Rattle.private_pages.proofs.Joined.{joined_long, joined_same, joined_page}

kept_long : (kept : List ℕ) (r : Option ℕ) → IfSome r (λ place. place * page_size + page_size ≤ length kept) → length (kept_page kept r) ≡ page_size
kept_long kept None h = length-replicate {A = ℕ} page_size 0
kept_long kept (Some place) h = length-take-le page_size (drop (place * page_size) kept) (omega (arith, length-drop (place * page_size) kept))

pub within : (s : Inside) (k : ℕ) → IsImage s → IfSome (get_or s.places.items k None) (λ place. place * page_size + page_size ≤ length s.kept.items)
within s k h = elim (cases_lt k (length s.places.items)) [
  | inl l ↦ h.each k None l
  | inr l ↦ (let e : get_or s.places.items k None ≡ None = get_or_past s.places.items k None l in rw e tt)
]

pub image_sound : (s : Inside) → IsImage s → IsContent (content_in s)
image_sound s h = record {
  whole = joined_long page_size (λ place. kept_page s.kept.items (get_or s.places.items place None)) (length s.places.items) (λ k. kept_long s.kept.items (get_or s.places.items k None) (within s k h));
  few = h.few;
}

pub image_page : (s : Inside) (k : ℕ) → IsImage s → k < length s.places.items → page_at (content_in s).bytes k ≡ kept_page s.kept.items (get_or s.places.items k None)
image_page s k h l =
    joined_page page_size (λ place. kept_page s.kept.items (get_or s.places.items place None)) (length s.places.items) k (λ j. kept_long s.kept.items (get_or s.places.items j None) (within s j h)) l

-- one page more, and what is kept has only grown
kept_more : (kept tail : List ℕ) (r : Option ℕ) → IfSome r (λ place. place * page_size + page_size ≤ length kept) → kept_page (kept ++ tail) r ≡ kept_page kept r
kept_more kept tail None h = refl
kept_more kept tail (Some place) h =
    ap (take page_size) (drop-append-le (place * page_size) kept tail (omega arith)) ∙ take-append-le page_size (drop (place * page_size) kept) tail (omega (arith, length-drop (place * page_size) kept))

abbrev content_as : ℕ → List ℕ → Content
content_as n b = record { pages = n; bytes = b }

abbrev content_of_kept : List (Option ℕ) → List ℕ → Content
content_of_kept places kept = content_as (length places) (joined (λ k. kept_page kept (get_or places k None)) (length places))

pub pushed_is : (s t : Inside) (r : Option ℕ) (tail content : List ℕ) → IsImage s → t.places.items ≡ s.places.items ++ r ∷ [] → t.kept.items ≡ s.kept.items ++ tail → kept_page (s.kept.items ++ tail) r ≡ content → content_in t ≡ record { pages = (content_in s).pages + 1; bytes = (content_in s).bytes ++ content }
pushed_is s t r tail content h a b e =
    let n = length s.places.items in
    let f : ℕ → List ℕ = λ k. kept_page (s.kept.items ++ tail) (get_or (s.places.items ++ r ∷ []) k None) in
    let g : ℕ → List ℕ = λ k. kept_page s.kept.items (get_or s.places.items k None) in
    let count : length (s.places.items ++ r ∷ []) ≡ suc n = length_push s.places.items r ∙ omega arith in
    let one : suc n ≡ n + 1 = omega arith in
    let same : joined f n ≡ joined g n = joined_same f g n (λ k l. ap (kept_page (s.kept.items ++ tail)) (get_or_append_left s.places.items (r ∷ []) None k l) ∙ kept_more s.kept.items tail (get_or s.places.items k None) (within s k h)) in
    let last : f n ≡ content = ap (kept_page (s.kept.items ++ tail)) (get_or_push s.places.items r None n refl) ∙ e in
    ap (λ (x : List (Option ℕ)). content_of_kept x t.kept.items) a ∙ ap (content_of_kept (s.places.items ++ r ∷ [])) b
    ∙ ap (λ (m : ℕ). content_as m (joined f m)) count ∙ ap (λ (x : List ℕ). content_as (suc n) (x ++ f n)) same ∙ ap (λ (x : List ℕ). content_as (suc n) (joined g n ++ x)) last ∙ ap (λ (m : ℕ). content_as m (joined g n ++ content)) one

-- bytes kept behind whole pages are the next page
pub kept_last : (kept content : List ℕ) → length kept % page_size ≡ 0 → length content ≡ page_size → kept_page (kept ++ content) (Some (length kept / page_size)) ≡ content
kept_last kept content h w =
    let e : length kept / page_size * page_size ≡ length kept = omega arith in
    ap (λ (i : ℕ). take page_size (drop i (kept ++ content))) e ∙ ap (take page_size) (drop_at kept content (length kept) refl) ∙ take_all page_size content (omega arith)

-- a page more: none is kept for it, or one behind those kept before
pub pushed_are : (s t : Inside) (r : Option ℕ) (tail : List ℕ) → IsImage s → t.places.items ≡ s.places.items ++ r ∷ [] → t.kept.items ≡ s.kept.items ++ tail → length s.places.items < page_limit → length tail ≤ page_size → length tail % page_size ≡ 0 → IfSome r (λ place. place * page_size + page_size ≤ length (s.kept.items ++ tail)) → IfSome r (λ place. page_at (s.kept.items ++ tail) place ≢ replicate page_size 0) → IsImage t
pushed_are s t r tail h a b l m d i n =
    let long : length t.kept.items ≡ length s.kept.items + length tail = ap length b ∙ length-append s.kept.items tail in
    let many : length t.places.items ≡ length s.places.items + 1 = ap length a ∙ length_push s.places.items r in
    record {
      few = omega arith;
      each = rw (a, b) (All-push (λ e. IfSome e (λ place. place * page_size + page_size ≤ length (s.kept.items ++ tail))) s.places.items r (λ k d l. inside (get_or s.places.items k d) (h.each k d l)) i);
      some = rw (a, b) (All-push (λ e. IfSome e (λ place. page_at (s.kept.items ++ tail) place ≢ replicate page_size 0)) s.places.items r (λ k d l. still (get_or s.places.items k d) (h.each k d l) (h.some k d l)) n);
      room = omega (arith, h.room);
      whole = omega (arith, h.whole);
    }
  where
    inside : (e : Option ℕ) → IfSome e (λ place. place * page_size + page_size ≤ length s.kept.items) → IfSome e (λ place. place * page_size + page_size ≤ length (s.kept.items ++ tail))
    inside None x = tt
    inside (Some place) x = omega (arith, length-append s.kept.items tail)

    still : (e : Option ℕ) → IfSome e (λ place. place * page_size + page_size ≤ length s.kept.items) → IfSome e (λ place. page_at s.kept.items place ≢ replicate page_size 0) → IfSome e (λ place. page_at (s.kept.items ++ tail) place ≢ replicate page_size 0)
    still None x y = tt
    still (Some place) x y = λ e. y (sym (kept_more s.kept.items tail (Some place) x) ∙ e)
