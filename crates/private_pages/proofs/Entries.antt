-- What each change of the entries leaves.
use Rattle.std.proofs.Common.{◌≡◌, ℕ, zero, suc, ◌+◌, ◌<◌, ◌≤◌, List, [], ◌∷◌, Option, Some, None, length, get_or, set, map, replicate, refl, ap, arith, ◌∙◌, sym, inl, inr, ◌++◌, All, subst}
use Rattle.std.specs.Prelude.{option_map, IfSome}
use Rattle.std.proofs.lemmas.Bool.{cases_eq}
use Rattle.std.proofs.lemmas.List.{length-map, length-set, length_push, get_or-set_same, get_or-set_other, get_or_append_left, get_or_push, length-replicate, ext_get_or, set-get_or}
use Rattle.std.proofs.lemmas.List.Elements.{All-push, All-from_get_or}
use Rattle.std.proofs.lemmas.List.Quantifiers.{all_pairs_push}
use Rattle.page_pool.specs.Pool.{Pool, IsPool, IsTaken, content_of, page_size, with_content}
use Rattle.private_pages.specs.OwnPages.{AreEntries}
use Rattle.private_pages.specs.Own.{Own, own_count, page_of, AreWhole}

pub count_given : (es : List (Option ℕ)) (k n : ℕ) → k < length es → get_or es k None ≡ None → own_count (set es k (Some n)) ≡ own_count es + 1
count_given [] k n h e = absurd (omega arith)
count_given (None ∷ es) zero n h e = refl
count_given (Some m ∷ es) zero n h e = absurd (cc)
count_given (None ∷ es) (suc k) n h e = count_given es k n (omega arith) e
count_given (Some m ∷ es) (suc k) n h e = ap (λ (i : ℕ). i + 1) (count_given es k n (omega arith) e)

pub count_taken : (es : List (Option ℕ)) (k n : ℕ) → get_or es k None ≡ Some n → own_count (set es k None) + 1 ≡ own_count es
count_taken [] k n e = absurd (cc)
count_taken (None ∷ es) zero n e = absurd (cc)
count_taken (Some m ∷ es) zero n e = refl
count_taken (None ∷ es) (suc k) n e = count_taken es k n e
count_taken (Some m ∷ es) (suc k) n e = ap (λ (i : ℕ). i + 1) (count_taken es k n e)

pub count_most : (es : List (Option ℕ)) → own_count es ≤ length es
count_most [] = omega arith
count_most (None ∷ es) = let r = count_most es in omega arith
count_most (Some m ∷ es) = let r = count_most es in omega arith

pub count_below : (es : List (Option ℕ)) (k : ℕ) → k < length es → get_or es k None ≡ None → own_count es < length es
count_below [] k h e = absurd (omega arith)
count_below (None ∷ es) zero h e = let r = count_most es in omega arith
count_below (Some m ∷ es) zero h e = absurd (cc)
count_below (None ∷ es) (suc k) h e = let r = count_below es k (omega arith) e in omega arith
count_below (Some m ∷ es) (suc k) h e = let r = count_below es k (omega arith) e in omega arith

pub count_none : (es : List (Option ℕ)) (k : ℕ) → own_count es ≡ 0 → get_or es k None ≡ None
count_none [] k h = refl
count_none (None ∷ es) zero h = refl
count_none (Some m ∷ es) k h = absurd (omega arith)
count_none (None ∷ es) (suc k) h = count_none es k h

-- ---- what is seen of the entries

pub seen_at : (f : ℕ → List ℕ) (es : List (Option ℕ)) (k : ℕ) → get_or (map (option_map f) es) k None ≡ option_map f (get_or es k None)
seen_at f [] k = refl
seen_at f (e ∷ es) zero = refl
seen_at f (e ∷ es) (suc k) = seen_at f es k

pub count_seen : (f : ℕ → List ℕ) (es : List (Option ℕ)) → own_count (map (option_map f) es) ≡ own_count es
count_seen f [] = refl
count_seen f (None ∷ es) = count_seen f es
count_seen f (Some m ∷ es) = ap (λ (i : ℕ). i + 1) (count_seen f es)

pub seen_none : (f : ℕ → List ℕ) (es : List (Option ℕ)) → own_count es ≡ 0 → map (option_map f) es ≡ replicate (length es) None
seen_none f [] h = refl
seen_none f (None ∷ es) h = ap (λ (r : List (Option (List ℕ))). None ∷ r) (seen_none f es h)
seen_none f (Some m ∷ es) h = absurd (omega arith)

same_seen : (f g : ℕ → List ℕ) (r : Option ℕ) → ((m : ℕ) → r ≡ Some m → g m ≡ f m) → option_map g r ≡ option_map f r
same_seen f g None h = refl
same_seen f g (Some m) h = ap Some (h m refl)

-- one place has this content now, and what the others have stands
pub seen_set : (f g : ℕ → List ℕ) (es : List (Option ℕ)) (place n : ℕ) (c : List ℕ) → place < length es → g n ≡ c → ((k m : ℕ) → (k ≡ place → ⊥) → get_or es k None ≡ Some m → g m ≡ f m) → map (option_map g) (set es place (Some n)) ≡ set (map (option_map f) es) place (Some c)
seen_set f g es place n c h e same =
    ext_get_or None (map (option_map g) (set es place (Some n))) (set (map (option_map f) es) place (Some c)) (simp (length-map, length-set) refl) (λ k l.
    elim (cases_eq k place) [
      | inl w ↦ rw (w, seen_at g (set es place (Some n)) place, get_or-set_same es place (Some n) None h, get_or-set_same (map (option_map f) es) place (Some c) None (rw length-map h), e) refl
      | inr w ↦ rw (seen_at g (set es place (Some n)) k, get_or-set_other es place k (Some n) None w, get_or-set_other (map (option_map f) es) place k (Some c) None w, seen_at f es k) (same_seen f g (get_or es k None) (λ m q. same k m w q))
    ])

-- ---- the entries over the pool

-- an entry that has a page is one of the entries
pub some_below : (es : List (Option ℕ)) (k n : ℕ) → get_or es k None ≡ Some n → k < length es
some_below [] k n e = absurd (cc)
some_below (e' ∷ es) zero n e = omega arith
some_below (e' ∷ es) (suc k) n e = let r = some_below es k n e in omega arith

-- of a list and one more
front : {X : Type 0} (P : X → Type 0) (xs : List X) (x : X) → All P (xs ++ x ∷ []) → All P xs
front P xs x h k d l = subst P (get_or_append_left xs (x ∷ []) d k l) (h k d (omega (arith, length_push xs x)))

last : {X : Type 0} (P : X → Type 0) (xs : List X) (x : X) → All P (xs ++ x ∷ []) → P x
last P xs x h = subst P (get_or_push xs x x (length xs) refl) (h (length xs) x (omega (arith, length_push xs x)))

-- the last page listed is given back
pub given_back : (p q : Pool) (es : List (Option ℕ)) (dirty : List ℕ) (place n : ℕ) → AreEntries p es (dirty ++ place ∷ []) → get_or es place None ≡ Some n → q.contents ≡ p.contents → q.free ≡ p.free ++ n ∷ [] → IsPool q → AreEntries q (set es place None) dirty
given_back p q es dirty place n h e a b s =
    let l = some_below es place n e in
    let gone : get_or (set es place None) place None ≡ None = get_or-set_same es place None None l in
    let old : (k m : ℕ) → get_or (set es place None) k None ≡ Some m → (k ≡ place → ⊥) × (get_or es k None ≡ Some m) =
    λ k m f. elim (cases_eq k place) [
      | inl w ↦ absurd (let x : get_or (set es place None) k None ≡ None = rw w gone in cc)
      | inr w ↦ (w, sym (get_or-set_other es place k None None w) ∙ f)
    ] in
    let apart : (i d : ℕ) → i < length dirty → get_or dirty i d ≡ place → ⊥ =
    λ i d k w. h.once i (length dirty) d k (omega (arith, length_push dirty place)) (get_or_append_left dirty (place ∷ []) d i k ∙ w ∙ sym (get_or_push dirty place d (length dirty) refl)) in
    record {
      pool = s;
      many = length-set es place None ∙ h.many ∙ ap length (sym a);
      taken = λ k m f. let o = old k m f in let t = h.taken k m o.1 in record {
        below = rw a t.below;
        not_free = rw b (All-push (λ x. x ≡ m → ⊥) p.free n t.not_free (λ w. o.0 (h.apart k place m o.1 (e ∙ ap Some w))));
      };
      apart = λ j k m f g. h.apart j k m (old j m f).1 (old k m g).1;
      listed = λ i d k.
          let o = h.listed i d (omega (arith, length_push dirty place)) in
          let x = get_or_append_left dirty (place ∷ []) d i k in
          (o.0, get_or-set_other es place (get_or dirty i d) None None (apart i d k) ∙ (rw x at o.1));
      once = λ i j d k l'. λ w. h.once i j d k (omega (arith, length_push dirty place)) (get_or_append_left dirty (place ∷ []) d i (omega arith) ∙ w ∙ sym (get_or_append_left dirty (place ∷ []) d j l'));
      count = omega (arith, count_taken es place n e, h.count, length_push dirty place);
      free = omega (arith, h.free, ap length a, ap length b, length_push p.free n, length_push dirty place);
    }

-- a page is taken for a place that has none
pub taken_for : (p q : Pool) (es : List (Option ℕ)) (dirty : List ℕ) (place n : ℕ) → AreEntries p es dirty → place < length es → get_or es place None ≡ None → length q.contents ≡ length p.contents → p.free ≡ q.free ++ n ∷ [] → IsTaken q n → IsPool q → AreEntries q (set es place (Some n)) (dirty ++ place ∷ [])
taken_for p q es dirty place n h l e a b t s =
    let new : get_or (set es place (Some n)) place None ≡ Some n = get_or-set_same es place (Some n) None l in
    let not_n : (k : ℕ) → get_or es k None ≡ Some n → ⊥ = λ k f. last (λ x. x ≡ n → ⊥) q.free n (rw b at (h.taken k n f).not_free) refl in
    record {
      pool = s;
      many = length-set es place (Some n) ∙ h.many ∙ sym a;
      taken = λ k m f. elim (cases_eq k place) [
        | inl w ↦ (let x : n ≡ m = (let y : get_or (set es place (Some n)) k None ≡ Some n = rw w new in cc) in subst (λ (i : ℕ). IsTaken q i) x t)
        | inr w ↦ (let o = h.taken k m (sym (get_or-set_other es place k (Some n) None w) ∙ f) in record { below = rw a o.below; not_free = front (λ x. x ≡ m → ⊥) q.free n (rw b at o.not_free) })
      ];
      apart = λ j k m f g. elim (cases_eq j place) [
        | inl w ↦ elim (cases_eq k place) [ inl v ↦ w ∙ sym v | inr v ↦ absurd (let y : get_or (set es place (Some n)) j None ≡ Some n = rw w new in let x : n ≡ m = (cc) in not_n k (sym (get_or-set_other es place k (Some n) None v) ∙ g ∙ ap Some (sym x))) ]
        | inr w ↦ elim (cases_eq k place) [
          | inl v ↦ absurd (let y : get_or (set es place (Some n)) k None ≡ Some n = rw v new in let x : n ≡ m = (cc) in not_n j (sym (get_or-set_other es place j (Some n) None w) ∙ f ∙ ap Some (sym x)))
          | inr v ↦ h.apart j k m (sym (get_or-set_other es place j (Some n) None w) ∙ f) (sym (get_or-set_other es place k (Some n) None v) ∙ g)
        ]
      ];
      listed = λ i d k. elim (cases_eq i (length dirty)) [
        | inl w ↦ (n, rw (w, get_or_push dirty place d (length dirty) refl) new)
        | inr w ↦ (let i' : i < length dirty = omega (arith, length_push dirty place) in
            let o = h.listed i d i' in
            let ne : get_or dirty i d ≡ place → ⊥ = λ v. (let z = rw v at o.1 in let z' : None ≡ Some o.0 = sym e ∙ z in cc) in
            (o.0, rw (get_or_append_left dirty (place ∷ []) d i i', get_or-set_other es place (get_or dirty i d) (Some n) None ne) o.1))
      ];
      once = all_pairs_push (λ j k. j ≡ k → ⊥) dirty place h.once (λ k d l' v. (let o = h.listed k d l' in let z = rw v at o.1 in let z' : None ≡ Some o.0 = sym e ∙ z in cc));
      count = omega (arith, count_given es place n l e, h.count, length_push dirty place);
      free = omega (arith, h.free, a, ap length b, length_push q.free n, length_push dirty place);
    }

-- the free list as before
pub same_free : (p q : Pool) (es : List (Option ℕ)) (dirty : List ℕ) → AreEntries p es dirty → length q.contents ≡ length p.contents → q.free ≡ p.free → IsPool q → AreEntries q es dirty
same_free p q es dirty h a b s = record {
  pool = s;
  many = h.many ∙ sym a;
  taken = λ k n f. let t = h.taken k n f in record { below = rw a t.below; not_free = rw b t.not_free };
  apart = h.apart;
  listed = h.listed;
  once = h.once;
  count = h.count;
  free = rw (a, b) h.free;
}

whole_at : (p : Pool) (r : Option ℕ) → IsPool p → ((n : ℕ) → r ≡ Some n → IsTaken p n) → IfSome (option_map (content_of p) r) (λ b. length b ≡ page_size)
whole_at p None h t = tt
whole_at p (Some n) h t = h.each n [] (t n refl).below

pub whole_seen : (p : Pool) (es : List (Option ℕ)) (dirty : List ℕ) (work : ℕ) → AreEntries p es dirty → AreWhole (record { pages = map (option_map (content_of p)) es; work = work })
whole_seen p es dirty work h = record {
  each = All-from_get_or (λ e. IfSome e (λ b. length b ≡ page_size)) (map (option_map (content_of p)) es) None (λ i l. rw (seen_at (content_of p) es i) (whole_at p (get_or es i None) h.pool (h.taken i)));
}

-- what is seen after bytes were put into the page of a place
pub seen_put : (p q : Pool) (es : List (Option ℕ)) (dirty : List ℕ) (place n : ℕ) (c : List ℕ) → AreEntries p es dirty → get_or es place None ≡ Some n → q.contents ≡ set p.contents n c → map (option_map (content_of q)) es ≡ set (map (option_map (content_of p)) es) place (Some c)
seen_put p q es dirty place n c h e a =
    let l = some_below es place n e in
    let same : set es place (Some n) ≡ es = ap (λ (x : Option ℕ). set es place x) (sym e) ∙ set-get_or es place None in
    let t = h.taken place n e in
    ap (map (option_map (content_of q))) (sym same)
    ∙ seen_set (content_of p) (content_of q) es place n c l (rw a (get_or-set_same p.contents n c [] t.below)) (λ k m w f. rw a (get_or-set_other p.contents n m c [] (λ v. w (h.apart k place n (f ∙ ap Some v) e))))

-- and after a page was taken and given this content
pub seen_taken : (p q : Pool) (es : List (Option ℕ)) (dirty rest : List ℕ) (place n : ℕ) (c : List ℕ) → AreEntries p es dirty → place < length es → p.free ≡ rest ++ n ∷ [] → n < length p.contents → q.contents ≡ set p.contents n c → map (option_map (content_of q)) (set es place (Some n)) ≡ set (map (option_map (content_of p)) es) place (Some c)
seen_taken p q es dirty rest place n c h l b low a =
    seen_set (content_of p) (content_of q) es place n c l (rw a (get_or-set_same p.contents n c [] low)) (λ k m w f. rw a (get_or-set_other p.contents n m c [] (λ v. last (λ x. x ≡ m → ⊥) rest n (rw b at (h.taken k m f).not_free) (sym v))))

-- a place without a page leaves a page free
pub some_free : (p : Pool) (es : List (Option ℕ)) (dirty : List ℕ) (place : ℕ) → AreEntries p es dirty → place < length es → get_or es place None ≡ None → p.free ≡ [] → ⊥
some_free p es dirty place h l e z = omega (arith, h.free, h.many, h.count, count_below es place l e, ap length z)

-- what is seen of a place is what its entry says
pub seen_none_at : (f : ℕ → List ℕ) (es : List (Option ℕ)) (k : ℕ) → get_or (map (option_map f) es) k None ≡ None → get_or es k None ≡ None
seen_none_at f es k h = none_from f (get_or es k None) (sym (seen_at f es k) ∙ h)
  where
    none_from : (f : ℕ → List ℕ) (r : Option ℕ) → option_map f r ≡ None → r ≡ None
    none_from f None e = refl
    none_from f (Some n) e = absurd (cc)

pub within : (p : Pool) (es : List (Option ℕ)) (work k : ℕ) (o : Own) → ◌≡◌ {A = Own} (record { pages = map (option_map (content_of p)) es; work = work }) o → k < length o.pages → k < length es
within p es work k o e h = omega (arith, ap (λ (v : Own). length v.pages) e, length-map es (option_map (content_of p)))

pub none_at : (p : Pool) (es : List (Option ℕ)) (work k : ℕ) (o : Own) → ◌≡◌ {A = Own} (record { pages = map (option_map (content_of p)) es; work = work }) o → page_of o k ≡ None → get_or es k None ≡ None
none_at p es work k o e h = seen_none_at (content_of p) es k (ap (λ (v : Own). page_of v k) e ∙ h)

-- ---- the calls

pub record Took (p q : Pool) (es : List (Option ℕ)) (dirty : List ℕ) (place n : ℕ) (c : List ℕ) : Type 0 where
  pub are : AreEntries q (set es place (Some n)) (dirty ++ place ∷ [])
  pub seen : map (option_map (content_of q)) (set es place (Some n)) ≡ set (map (option_map (content_of p)) es) place (Some c)
  pub many : length q.contents ≡ length p.contents

pub took : (p p1 q : Pool) (es : List (Option ℕ)) (dirty : List ℕ) (place n : ℕ) (c : List ℕ) → AreEntries p es dirty → place < length es → get_or es place None ≡ None → p1.contents ≡ p.contents → (p.free ≡ p1.free ++ n ∷ []) × IsTaken p1 n → q ≡ with_content p1 n c → IsPool q → Took p q es dirty place n c
took p p1 q es dirty place n c h l e a b w s =
    let contents : q.contents ≡ set p.contents n c = ap (λ (x : Pool). x.contents) w ∙ ap (λ (x : List (List ℕ)). set x n c) a in
    let free : q.free ≡ p1.free = ap (λ (x : Pool). x.free) w in
    let many : length q.contents ≡ length p.contents = ap length contents ∙ length-set p.contents n c in
    let low : n < length p.contents = omega (arith, b.1.below, ap length a) in
    record {
      are = taken_for p q es dirty place n h l e many (b.0 ∙ ap (λ (x : List ℕ). x ++ n ∷ []) (sym free)) (record { below = omega arith; not_free = rw free b.1.not_free }) s;
      seen = seen_taken p q es dirty p1.free place n c h l b.0 low contents;
      many = many;
    }

pub seen_over : (p q : Pool) (es : List (Option ℕ)) (dirty : List ℕ) (place n : ℕ) (c : List ℕ) → AreEntries p es dirty → get_or es place None ≡ Some n → q ≡ with_content p n c → map (option_map (content_of q)) es ≡ set (map (option_map (content_of p)) es) place (Some c)
seen_over p q es dirty place n c h e w = seen_put p q es dirty place n c h e (ap (λ (x : Pool). x.contents) w)

pub are_over : (p q : Pool) (es : List (Option ℕ)) (dirty : List ℕ) (n : ℕ) (c : List ℕ) → AreEntries p es dirty → q ≡ with_content p n c → IsPool q → AreEntries q es dirty
are_over p q es dirty n c h w s = same_free p q es dirty h (ap (λ (x : Pool). length x.contents) w ∙ length-set p.contents n c) (ap (λ (x : Pool). x.free) w) s

pub last_listed : (p : Pool) (es : List (Option ℕ)) (dirty : List ℕ) (place : ℕ) → AreEntries p es (dirty ++ place ∷ []) → (n : ℕ) × (get_or es place None ≡ Some n)
last_listed p es dirty place h =
    let o = h.listed (length dirty) 0 (omega (arith, length_push dirty place)) in
    (o.0, rw (get_or_push dirty place 0 (length dirty) refl) at o.1)

none_there : (n k : ℕ) → get_or {A = Option ℕ} (replicate n None) k None ≡ None
none_there zero k = refl
none_there (suc n) zero = refl
none_there (suc n) (suc k) = none_there n k

count_nothing : (n : ℕ) → own_count {A = ℕ} (replicate n None) ≡ 0
count_nothing zero = refl
count_nothing (suc n) = count_nothing n

pub at_first : (p : Pool) (n : ℕ) → IsPool p → length p.contents ≡ n → length p.free ≡ n → AreEntries p (replicate n None) []
at_first p n h m a = record {
  pool = h;
  many = length-replicate n None ∙ sym m;
  taken = λ k m f. absurd (let x : None ≡ Some m = sym (none_there n k) ∙ f in cc);
  apart = λ j k m f g. absurd (let x : None ≡ Some m = sym (none_there n k) ∙ g in cc);
  listed = λ i d l. absurd (omega arith);
  once = λ i j d k l. absurd (omega arith);
  count = count_nothing n;
  free = omega (arith, m, a);
}

pub seen_first : (p : Pool) (n m : ℕ) → n ≡ m → ◌≡◌ {A = Own} (record { pages = map (option_map (content_of p)) (replicate n None); work = p.work }) (record { pages = replicate m None; work = p.work })
seen_first p n m e = rw (seen_none (content_of p) (replicate n None) (count_nothing n), length-replicate {A = Option ℕ} n None, e) refl
