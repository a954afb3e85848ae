-- A region that its entries lead to: its sizes stay, each maker holds one lock at most, and holds one where its own
-- entries say so.
use Rattle.std.proofs.Common.{◌≡◌, ◌≢◌, ℕ, zero, suc, ◌+◌, ◌<◌, ◌≤◌, ne_eqb, Bool, true, false, not, cond, List, [], ◌∷◌, ◌++◌, length, take, drop, filter, refl, sym, ap, ◌∙◌, subst, arith, length-append, length-take, length-drop, if◌then◌else◌, ◌==◌}
use Rattle.std.specs.List.{All}
use Rattle.std.proofs.lemmas.Bool.{leb-true, eqb-true, eqb-false}
use Rattle.std.proofs.lemmas.List.Elements.{All-head, All-tail}
use Rattle.std.proofs.lemmas.List.Filters.{length-filter_both}
use Rattle.faaslet_meaning.specs.declared.ask.RegionOp.{RegionOp}
use Rattle.faaslet_meaning.specs.declared.ask.RegionOp.TheVariants as op
use Rattle.faaslet_meaning.specs.Channels.{RegionOperation}
use Rattle.faaslet_meaning.specs.Lists.{is_empty}
use Rattle.faaslet_meaning.specs.Memory.{over}
use Rattle.faaslet_meaning.specs.Region as region
use Rattle.faaslet_meaning.specs.Region.{Region, after, holders, writes, holds}
use Rattle.faaslet_meaning.specs.Spelling.{spelled}
use Rattle.shared_region.specs.Entries.{MakesShared, InBytes, OwnLocks}
use Rattle.shared_region.specs.Operations.{operation_of, Fits}
use Rattle.shared_region.specs.Shared.{Shared}
use Rattle.turn_cell.specs.declared.view.Entry.{Entry}
use Rattle.turn_cell.specs.History.{Stands, Extends, MakersBelow}
use Rattle.region_tier.specs.Holding.{locked_after, locked_by, has_lock, LocksInTurn}
use Rattle.region_tier.specs.Opened.{IsFree, InRange}
use Rattle.region_tier.proofs.Locks.{times, held, times_join, times_one, times_out, times_stay, is_some, is_none, same_some, Count, counted, count_free}

-- ---- Sizes.

over_long : (bytes : List ℕ) (at : ℕ) (new : List ℕ) → at + length new ≤ length bytes → length (over bytes at new) ≡ length bytes
over_long bytes at new h =
    let a = length-append (take at bytes) (new ++ drop (at + length new) bytes) in
    let b = length-append new (drop (at + length new) bytes) in
    let c = length-take at bytes in
    let d = length-drop (at + length new) bytes in
    omega (arith, a, b, c, d, h)

-- so many bytes, of which so many are the key's
abbrev pub Long : ℕ → ℕ → Region → Type 0
Long n size s = (length s.bytes ≡ n) × (s.size ≡ size)

after_long : (n size : ℕ) (s : Region) (maker : ℕ) (o : RegionOperation) → size ≤ n → InBytes n o → Long n size s → Long n size (after s maker o)
after_long n size s maker (RegionOperation.fill bytes) few h k = by s.present
  where
    by : (b : Bool) → Long n size (cond b s (record (region.with_bytes s 0 bytes) { present = true }))
    by true = k
    by false = let long = k.0 in (over_long s.bytes 0 bytes (omega (arith, h, long)) ∙ k.0, k.1)
after_long n size s maker (RegionOperation.write off bytes) few h k = let long = k.0 in (over_long s.bytes off bytes (omega (arith, h, long)) ∙ k.0, k.1)
after_long n size s maker (RegionOperation.take off bytes) few h k = let long = k.0 in (over_long s.bytes off bytes (omega (arith, h, long)) ∙ k.0, k.1)
after_long n size s maker (RegionOperation.put off bytes) few h k = let long = k.0 in (over_long s.bytes off bytes (omega (arith, h, long)) ∙ k.0, k.1)
after_long n size s maker (RegionOperation.append bytes) few h k = by (region.has_room s bytes) refl
  where
    by : (b : Bool) → region.has_room s bytes ≡ b → Long n size (cond b (record (region.with_bytes s s.used bytes) { used = s.used + length bytes }) s)
    by true e =
        let room = leb-true (s.used + length bytes) s.size e in
        let long = k.0 in
        let whole = k.1 in
        (over_long s.bytes s.used bytes (omega (arith, room, long, whole, few)) ∙ k.0, k.1)
    by false e = k
after_long n size s maker o few h k = k

-- ---- Locks.

-- what is left where a number is taken out
rest_few : (n k : ℕ) (xs : List ℕ) → (times k xs ≤ 1 → times k (filter (λ y. not (y == n)) xs) ≤ 1) × (n ≤ k → (suc n ≤ k → times k xs ≡ 0) → times k (filter (λ y. not (y == n)) xs) ≡ 0)
rest_few n k xs = by (n == k) refl
  where
    by : (b : Bool) → (n == k) ≡ b → (times k xs ≤ 1 → times k (filter (λ y. not (y == n)) xs) ≤ 1) × (n ≤ k → (suc n ≤ k → times k xs ≡ 0) → times k (filter (λ y. not (y == n)) xs) ≡ 0)
    by true e = let none : times k (filter (λ y. not (y == n)) xs) ≡ 0 = ap (λ j. times j (filter (λ y. not (y == n)) xs)) (sym (eqb-true n k e)) ∙ times_out n xs in ((λ h. omega (arith, none)), (λ h f. none))
    by false e = let same = times_stay k n xs e in let apart = eqb-false n k e in ((λ h. omega (arith, same, h)), (λ h f. same ∙ f (omega (arith, h, apart))))

-- where each number below the first stands in a list once at most, and no other does, the list is no longer than that
few : (n : ℕ) (xs : List ℕ) → ((k : ℕ) → times k xs ≤ 1) → ((k : ℕ) → n ≤ k → times k xs ≡ 0) → length xs ≤ n
few zero [] once below = omega arith
few zero (x ∷ xs) once below = let h = below x (omega arith) in let e = ap (λ b. length (cond b (x ∷ filter (λ y. y == x) xs) (filter (λ y. y == x) xs))) (refl_eq x) in absurd (omega (arith, h, e))
  where
    refl_eq : (x : ℕ) → (x == x) ≡ true
    refl_eq x = grind arith
few (suc n) xs once below =
    let rest = filter (λ y. not (y == n)) xs in
    let both = length-filter_both (λ y. y == n) (λ y. not (y == n)) (λ y. refl) xs in
    let one = once n in
    let apart = λ (k : ℕ). rest_few n k xs in
    let ih : length rest ≤ n = few n rest (λ k. (apart k).0 (once k)) (λ k h. (apart k).1 h (below k)) in
    omega (arith, both, one, ih)

-- the list of entries has led from the start to a region like this
pub record Sound (start : Shared) (numbers : ℕ) (s : Shared) : Type 0 where
  pub room : s.room ≡ start.room
  pub long : Long (length start.region.bytes) start.region.size s.region
  pub once : (k : ℕ) → held s.region k ≤ 1
  pub below : (k : ℕ) → numbers ≤ k → held s.region k ≡ 0

-- an entry of another changes no count
count_apart : (o : RegionOperation) (x y : ℕ) → Count o false x y → y ≡ x
count_apart RegionOperation.probe x y c = c
count_apart RegionOperation.size x y c = c
count_apart RegionOperation.lock_read x y c = c
count_apart RegionOperation.lock_write x y c = c
count_apart RegionOperation.unlock x y c = c
count_apart (RegionOperation.read off len) x y c = c
count_apart (RegionOperation.send off len) x y c = c
count_apart (RegionOperation.fill bytes) x y c = c
count_apart (RegionOperation.append bytes) x y c = c
count_apart (RegionOperation.write off bytes) x y c = c
count_apart (RegionOperation.take off bytes) x y c = c
count_apart (RegionOperation.put off bytes) x y c = c

count_once : (o : RegionOperation) (b : Bool) (x y : ℕ) → Count o b x y → x ≤ 1 → y ≤ 1
count_once RegionOperation.lock_read true x y c h = omega (arith, c.1)
count_once RegionOperation.lock_write true x y c h = omega (arith, c.1)
count_once RegionOperation.unlock true x y c h = omega (arith, c)
count_once o true x y c h = let e : y ≡ x = c in omega (arith, e, h)
count_once o false x y c h = let e = count_apart o x y c in omega (arith, e, h)

count_none : (o : RegionOperation) (b : Bool) (x y : ℕ) → b ≡ false → Count o b x y → x ≡ 0 → y ≡ 0
count_none o true x y e c h = cc
count_none o false x y e c h = count_apart o x y c ∙ h

pub sound_step : (start s t : Shared) (numbers m : ℕ) (e : List ℕ) → start.region.size ≤ length start.region.bytes → m < numbers → Sound start numbers s → MakesShared m e s t → Sound start numbers t
sound_step start s t numbers m e whole low g x =
    let o = x.region.operation in
    let count = λ (k : ℕ). counted o s.region m k x.region.may_stand x.own_locks in
    let inside = subst (λ n. InBytes n o) g.long.0 x.in_bytes in
    record {
      room = x.room ∙ g.room;
      long = subst (Long (length start.region.bytes) start.region.size) (sym x.region.after_so) (after_long (length start.region.bytes) start.region.size s.region m o whole inside g.long);
      once = λ k. subst (λ (r : Region). held r k ≤ 1) (sym x.region.after_so) (count_once o (m == k) _ _ (count k) (g.once k));
      below = λ k h. subst (λ (r : Region). held r k ≡ 0) (sym x.region.after_so) (count_none o (m == k) _ _ (ne_eqb m k (λ same. omega (arith, same, low, h))) (count k) (g.below k h));
    }

pub sound_start : (start : Shared) (numbers : ℕ) → IsFree start numbers → Sound start numbers start
sound_start start numbers f = record { room = refl; long = (refl, refl); once = λ k. rw (f.writer, f.readers) (omega arith); below = λ k h. rw (f.writer, f.readers) refl }

pub sound_all : (start s t : Shared) (numbers : ℕ) (log : List Entry) → start.region.size ≤ length start.region.bytes → MakersBelow numbers log → Sound start numbers s → Stands MakesShared s log t → Sound start numbers t
sound_all start s t numbers [] whole low g st = subst (Sound start numbers) st g
sound_all start s t numbers (e ∷ es) whole low g st =
    sound_all start st.0 t numbers es whole (All-tail (λ (d : Entry). d.maker < numbers) e es low)
    (sound_step start s st.0 numbers e.maker e.numbers whole (All-head (λ (d : Entry). d.maker < numbers) e es low) g st.1) st.2

-- ---- What a maker holds, by its entries.

one_listed : (o : RegionOperation) (b : Bool) (xs ys : List ℕ) → Count o b (length xs) (length ys) → not (is_empty ys) ≡ (if b then locked_after (spelled o) (not (is_empty xs)) else not (is_empty xs))
one_listed RegionOperation.lock_read true xs ys c = is_some ys 0 c.1
one_listed RegionOperation.lock_write true xs ys c = is_some ys 0 c.1
one_listed RegionOperation.unlock true xs ys c = is_none ys c
one_listed o true xs ys c = same_some ys xs c
one_listed o false xs ys c = same_some ys xs (count_apart o (length xs) (length ys) c)

step_listed : (n m : ℕ) (e : List ℕ) (s t : Shared) → MakesShared m e s t → holds t.region n ≡ (if m == n then locked_after e (holds s.region n) else holds s.region n)
step_listed n m e s t x =
    let o = x.region.operation in
    let c = one_listed o (m == n) (filter (λ h. h == n) (holders s.region writes)) (filter (λ h. h == n) (holders (after s.region m o) writes)) (counted o s.region m n x.region.may_stand x.own_locks) in
    ap (λ (r : Region). holds r n) x.region.after_so ∙ (c ∙ ap (λ z. if m == n then locked_after z (holds s.region n) else holds s.region n) (sym x.region.spelled_so))

pub listed : (n : ℕ) (log : List Entry) (s t : Shared) → Stands MakesShared s log t → holds t.region n ≡ locked_by n (holds s.region n) log
listed n [] s t st = ap (λ (u : Shared). holds u.region n) (sym st)
listed n (e ∷ es) s t st = listed n es st.0 t st.2 ∙ ap (λ b. locked_by n b es) (step_listed n e.maker e.numbers s st.0 st.1)

pub locked_join : (n : ℕ) (b : Bool) (l rest : List Entry) → locked_by n b (l ++ rest) ≡ locked_by n (locked_by n b l) rest
locked_join n b [] rest = refl
locked_join n b (e ∷ es) rest = locked_join n (if e.maker == n then locked_after e.numbers b else b) es rest

locked_others : (n : ℕ) (b : Bool) (rest : List Entry) → All (λ e. e.maker ≢ n) rest → locked_by n b rest ≡ b
locked_others n b [] all = refl
locked_others n b (e ∷ es) all = rw (ne_eqb e.maker n (All-head (λ (d : Entry). d.maker ≢ n) e es all)) (locked_others n b es (All-tail (λ (d : Entry). d.maker ≢ n) e es all))

-- entries of others change nothing
pub still_locked : (n : ℕ) (l log : List Entry) → Extends n l log → has_lock n log ≡ has_lock n l
still_locked n l log x = ap (locked_by n false) (sym x.1) ∙ (locked_join n false l x.0 ∙ locked_others n (has_lock n l) x.0 x.2)

free_holds : (start : Shared) (numbers n : ℕ) → IsFree start numbers → holds start.region n ≡ false
free_holds start numbers n f = rw (f.writer, f.readers) refl

-- a maker holds a lock where its entries say so
pub holds_so : (start s : Shared) (numbers n : ℕ) (log : List Entry) → IsFree start numbers → Stands MakesShared start log s → holds s.region n ≡ has_lock n log
holds_so start s numbers n log f st = listed n log start s st ∙ ap (λ b. locked_by n b log) (free_holds start numbers n f)

-- ---- What an operation asks for.

pub own_so : (s : Region) (n : ℕ) (o : RegionOperation) (b : Bool) → holds s n ≡ b → LocksInTurn o b → OwnLocks s n o
own_so s n RegionOperation.lock_read b e l = e ∙ l
own_so s n RegionOperation.lock_write b e l = e ∙ l
own_so s n RegionOperation.unlock b e l = e ∙ l
own_so s n RegionOperation.probe b e l = tt
own_so s n RegionOperation.size b e l = tt
own_so s n (RegionOperation.read off len) b e l = tt
own_so s n (RegionOperation.send off len) b e l = tt
own_so s n (RegionOperation.fill bytes) b e l = tt
own_so s n (RegionOperation.append bytes) b e l = tt
own_so s n (RegionOperation.write off bytes) b e l = tt
own_so s n (RegionOperation.take off bytes) b e l = tt
own_so s n (RegionOperation.put off bytes) b e l = tt

one_more : (n k : ℕ) (xs : List ℕ) → times n xs ≡ 0 → (times k xs ≤ 1 → times k (xs ++ n ∷ []) ≤ 1) × ((n ≡ k → ⊥) → times k xs ≡ 0 → times k (xs ++ n ∷ []) ≡ 0)
one_more n k xs none = by (n == k) refl
  where
    by : (b : Bool) → (n == k) ≡ b → (times k xs ≤ 1 → times k (xs ++ n ∷ []) ≤ 1) × ((n ≡ k → ⊥) → times k xs ≡ 0 → times k (xs ++ n ∷ []) ≡ 0)
    by true e =
        let same = eqb-true n k e in
        let zero_so : times k xs ≡ 0 = ap (λ j. times j xs) (sym same) ∙ none in
        let join = times_join k xs (n ∷ []) in
        let one : times k (n ∷ []) ≡ 1 = times_one k n ∙ ap (λ (b : Bool). if b then 1 else 0) e in
        ((λ h. omega (arith, join, one, zero_so)), (λ ne h. absurd (ne same)))
    by false e =
        let join = times_join k xs (n ∷ []) in
        let one : times k (n ∷ []) ≡ 0 = times_one k n ∙ ap (λ (b : Bool). if b then 1 else 0) e in
        ((λ h. omega (arith, join, one, h)), (λ ne h. omega (arith, join, one, h)))

-- one more lock finds room
room_left : (start s : Shared) (numbers n : ℕ) → IsFree start numbers → Sound start numbers s → n < numbers → holds s.region n ≡ false → length (holders s.region writes) < s.room
room_left start s numbers n f g low free =
    let xs = holders s.region writes in
    let none : times n xs ≡ 0 = count_free s.region n free in
    let all = few numbers (xs ++ n ∷ []) (λ k. (one_more n k xs none).0 (g.once k)) (λ k h. (one_more n k xs none).1 (λ e. let no : ⊥ = omega (arith, e, h, low) in no) (g.below k h)) in
    let long = length-append xs (n ∷ []) in
    let room = g.room in let is = f.room in
    omega (arith, all, long, room, is)

pub fits_so : (start s : Shared) (numbers n : ℕ) (o : RegionOp) (scratch : ℕ) (b : Bool) → IsFree start numbers → Sound start numbers s → n < numbers → holds s.region n ≡ b → LocksInTurn (operation_of o) b → InRange start o scratch → Fits s o scratch
fits_so start s numbers n op.Probe scratch b f g low e l h = tt
fits_so start s numbers n (op.Read off len) scratch b f g low e l h = (let long = g.long.0 in let k = h.0 in omega (arith, long, k), h.1)
fits_so start s numbers n (op.Write off bytes) scratch b f g low e l h = let long = g.long.0 in omega (arith, long, h)
fits_so start s numbers n (op.Append bytes) scratch b f g low e l h = tt
fits_so start s numbers n op.Size scratch b f g low e l h = tt
fits_so start s numbers n op.LockRead scratch b f g low e l h = room_left start s numbers n f g low (e ∙ l)
fits_so start s numbers n op.LockWrite scratch b f g low e l h = tt
fits_so start s numbers n op.Unlock scratch b f g low e l h = tt

-- ---- What is known in a turn.

pub record InTurn (start s : Shared) (numbers n : ℕ) (list : List Entry) : Type 0 where
  pub sound : Sound start numbers s
  pub locks : holds s.region n ≡ has_lock n list

pub in_turn : (start s : Shared) (numbers n : ℕ) (list log : List Entry) → IsFree start numbers → MakersBelow numbers log → Stands MakesShared start log s → Extends n list log → InTurn start s numbers n list
in_turn start s numbers n list log f low st x = record {
  sound = sound_all start start s numbers log f.whole low (sound_start start numbers f) st;
  locks = holds_so start s numbers n log f st ∙ still_locked n list log x;
}

pub makes_moved : (m n : ℕ) (e d : List ℕ) (a b t : Shared) → m ≡ n → e ≡ d → a ≡ b → MakesShared m e a t → MakesShared n d b t
makes_moved m n e d a b t p q r x = subst (λ k. MakesShared k d b t) p (subst (λ k. MakesShared m k b t) q (subst (λ k. MakesShared m e k t) r x))
