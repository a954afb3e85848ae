-- One more part of a range.
use Rattle.std.proofs.Common.{◌≡◌, ℕ, zero, suc, ◌+◌, ◌-◌, ◌/◌, ◌%◌, ◌<◌, ◌≤◌, List, [], ◌++◌, ◌⊎◌, Bool, true, false, length, take, drop, refl, ap, arith, ◌∙◌, sym, inl, inr, append_assoc}
use borrow.Rule.Slice.PartMut.{put_mid}
use Rattle.std.proofs.lemmas.Bool.{cases_lt, eqb-true}
use Rattle.std.specs.Prelude.{min, nat_eq, if◌then◌else◌}
use Rattle.std.proofs.lemmas.Slice.{take-put_mid}
use Rattle.std.proofs.lemmas.List.{length-append, length-take-le, length-drop, drop-drop, drop-take, take-take, take-append-drop}
use Rattle.faaslet_meaning.specs.Memory.{Content, over, read_bytes}
use Rattle.private_pages.specs.Pages.{Pages, IsWritten, pages_touched}
use Rattle.private_pages.proofs.Overs.{over_behind}

pub put_long : (xs ys : List ℕ) (a k : ℕ) → a + k ≤ length xs → length ys ≡ k → length (put_mid a k xs ys) ≡ length xs
put_long xs ys a k h l =
    omega (arith, length-append (take a xs) (ys ++ drop k (drop a xs)), length-append ys (drop k (drop a xs)), length-take-le a xs (omega arith), length-drop k (drop a xs), length-drop a xs)

read_on : (b : List ℕ) (at d n : ℕ) → read_bytes at d b ++ read_bytes (at + d) n b ≡ read_bytes at (d + n) b
read_on b at d n =
    let first : take d (take (d + n) (drop at b)) ≡ take d (drop at b) = take-take d (d + n) (drop at b) (omega arith) in
    let rest : drop d (take (d + n) (drop at b)) ≡ take n (drop (at + d) b) = drop-take d n (drop at b) ∙ ap (take n) (drop-drop d at b) in
    sym (sym (take-append-drop d (take (d + n) (drop at b))) ∙ rw (first, rest) refl)

pub read_more : (b buf new : List ℕ) (at d n j k q : ℕ) → take d buf ≡ read_bytes at d b → new ≡ read_bytes q k b → q ≡ at + d → k ≡ n → length new ≡ n → d + n ≤ length buf → take (d + n) (put_mid d j buf new) ≡ read_bytes at (d + n) b
read_more b buf new at d n j k q h e f g l w =
    take-put_mid d j buf new (d + n) (omega arith) (omega arith) ∙ ap (λ (x : List ℕ). x ++ new) h ∙ ap (λ (x : List ℕ). read_bytes at d b ++ x) (e ∙ ap (λ (i : ℕ). read_bytes i k b) f ∙ ap (λ (i : ℕ). read_bytes (at + d) i b) g) ∙ read_on b at d n

pub over_none : (b : List ℕ) (at : ℕ) → over b at [] ≡ b
over_none b at = let z : at + 0 ≡ at = omega arith in rw z (take-append-drop at b)

over_first : (r ys : List ℕ) → over r 0 ys ≡ ys ++ drop (length ys) r
over_first r ys = let z : 0 + length ys ≡ length ys = omega arith in rw z refl

-- bytes put behind those that were put before
pub over_more : (b xs ys : List ℕ) (at d : ℕ) → length xs ≡ d → at + d + length ys ≤ length b → over (over b at xs) (at + d) ys ≡ over b at (xs ++ ys)
over_more b xs ys at d l h =
    let a = take at b ++ xs in
    let r = drop (at + length xs) b in
    let t : length a ≡ at + d = omega (arith, length-append (take at b) xs, length-take-le at b (omega arith)) in
    let z : at + d - length a ≡ 0 = omega arith in
    let e : at + length xs + length ys ≡ at + length (xs ++ ys) = omega (arith, length-append xs ys) in
    ap (λ (x : List ℕ). over x (at + d) ys) (sym (append_assoc (take at b) xs r))
    ∙ over_behind a r (at + d) ys (omega arith)
    ∙ ap (λ (i : ℕ). a ++ over r i ys) z
    ∙ ap (λ (x : List ℕ). a ++ x) (over_first r ys)
    ∙ ap (λ (x : List ℕ). a ++ (ys ++ x)) (drop-drop (length ys) (at + length xs) b ∙ ap (λ (i : ℕ). drop i b) e)
    ∙ append_assoc (take at b) xs (ys ++ drop (at + length (xs ++ ys)) b)
    ∙ ap (λ (x : List ℕ). take at b ++ x) (sym (append_assoc xs ys (drop (at + length (xs ++ ys)) b)))

otherwise : (t : Bool) (x y : ℕ) → (t ≡ true → ⊥) → (if t then x else y) ≡ y
otherwise true x y h = absurd (h refl)
otherwise false x y h = refl

touched_some : (at n : ℕ) → 0 < n → pages_touched at n ≡ (at + n - 1) / 65536 - at / 65536 + 1
touched_some at n h = otherwise (nat_eq n 0) 0 ((at + n - 1) / 65536 - at / 65536 + 1) (λ e. let z = eqb-true n 0 e in omega arith)

pub touched_one : (at n : ℕ) → 0 < n → at % 65536 + n ≤ 65536 → pages_touched at n ≡ 1
touched_one at n h l = let t = touched_some at n h in t ∙ omega arith

pub touched_more : (at d n : ℕ) → 0 < n → n ≤ 65536 - (at + d) % 65536 → (d ≡ 0) ⊎ ((at + d) % 65536 ≡ 0) → pages_touched at (d + n) ≡ pages_touched at d + 1
touched_more at zero n h l w = let t = touched_some at (0 + n) (omega arith) in t ∙ omega arith
touched_more at (suc d) n h l (inl e) = absurd (omega arith)
touched_more at (suc d) n h l (inr e) =
    let t = touched_some at (suc d + n) (omega arith) in
    let u = touched_some at (suc d) (omega arith) in
    omega arith

pub written_more : (old mid new : Pages) (at d q most more : ℕ) (xs ys zs : List ℕ) → IsWritten old mid at xs most → IsWritten mid new q ys 1 → q ≡ at + d → length xs ≡ d → at + d + length ys ≤ length old.content.bytes → xs ++ ys ≡ zs → more ≡ most + 1 → IsWritten old new at zs more
written_more old mid new at d q most more xs ys zs w p e l h z k =
    let bytes : over mid.content.bytes q ys ≡ over old.content.bytes at zs =
    ap (λ (c : Content). over c.bytes q ys) w.content ∙ ap (λ (i : ℕ). over (over old.content.bytes at xs) i ys) e ∙ over_more old.content.bytes xs ys at d l h ∙ ap (over old.content.bytes at) z in
    record {
      content = p.content ∙ ap (λ (c : Content). record c { bytes = over mid.content.bytes q ys }) w.content ∙ ap (λ (b : List ℕ). record old.content { bytes = b }) bytes;
      quota = p.quota ∙ w.quota;
      room = p.room ∙ w.room;
      last = p.last ∙ w.last;
      low = omega (arith, p.low, w.low);
      high = omega (arith, p.high, w.high);
      work = omega (arith, p.work, w.work);
    }

pub take_part : (b : List ℕ) (d n j : ℕ) → j ≡ n → take d b ++ take j (drop d b) ≡ take (d + n) b
take_part b d n j e =
    let first : take d (take (d + n) b) ≡ take d b = take-take d (d + n) b (omega arith) in
    let rest : drop d (take (d + n) b) ≡ take n (drop d b) = drop-take d n b in
    ap (λ (i : ℕ). take d b ++ take i (drop d b)) e ∙ sym (sym (take-append-drop d (take (d + n) b)) ∙ rw (first, rest) refl)

pub border_more : (at d n size : ℕ) → n ≡ min (size - d) (65536 - (at + d) % 65536) → d < size → (d + n ≡ size) ⊎ ((d + n ≡ 0) ⊎ ((at + (d + n)) % 65536 ≡ 0))
border_more at d n size e h = elim (cases_lt (65536 - (at + d) % 65536) (size - d)) [
  | inl l ↦ inr (inr (omega arith))
  | inr l ↦ inl (omega arith)
]
