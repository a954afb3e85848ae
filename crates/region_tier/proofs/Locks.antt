-- What an entry makes of the locks of a region, counted for each maker.
use Rattle.std.proofs.Common.{◌≡◌, ℕ, suc, ◌+◌, Bool, true, false, not, cond, List, [], ◌∷◌, ◌++◌, Option, Some, None, length, filter, option_to_list, refl, sym, ap, ◌∙◌, arith, length-append, append_assoc, if◌then◌else◌, ◌==◌}
use Rattle.std.proofs.lemmas.List.Elements.{filter-append}
use Rattle.std.proofs.lemmas.Bool.{eqb-true}
use Rattle.faaslet_meaning.specs.Channels.{RegionOperation}
use Rattle.faaslet_meaning.specs.Lists.{is_empty}
use Rattle.faaslet_meaning.specs.Region.{Region, after, holders, others, writes, kind, holds, unless_held_by, has_room, with_bytes}
use Rattle.shared_region.specs.Entries.{OwnLocks}

-- how often a number stands in a list
abbrev pub times : ℕ → List ℕ → ℕ
times n xs = length (filter (λ holder. holder == n) xs)

-- how many locks of a region a maker holds
abbrev pub held : Region → ℕ → ℕ
held s n = times n (holders s writes)

pub times_join : (n : ℕ) (xs ys : List ℕ) → times n (xs ++ ys) ≡ times n xs + times n ys
times_join n xs ys = ap length (filter-append (λ (h : ℕ). h == n) xs ys) ∙ length-append (filter (λ h. h == n) xs) (filter (λ h. h == n) ys)

pub times_one : (n m : ℕ) → times n (m ∷ []) ≡ (if m == n then 1 else 0)
times_one n m = by (m == n)
  where
    by : (b : Bool) → length (cond b (m ∷ []) []) ≡ cond b 1 0
    by true = refl
    by false = refl

-- after a number is taken out it does not stand there
pub times_out : (m : ℕ) (xs : List ℕ) → times m (filter (λ holder. not (holder == m)) xs) ≡ 0
times_out m [] = refl
times_out m (x ∷ xs) = by (times_out m xs) (x == m) refl
  where
    by : times m (filter (λ h. not (h == m)) xs) ≡ 0 → (b : Bool) → (x == m) ≡ b → length (filter (λ h. h == m) (cond (not b) (x ∷ filter (λ h. not (h == m)) xs) (filter (λ h. not (h == m)) xs))) ≡ 0
    by go true e = go
    by go false e = rw e go

-- and others stand there as before
pub times_stay : (n m : ℕ) (xs : List ℕ) → (m == n) ≡ false → times n (filter (λ holder. not (holder == m)) xs) ≡ times n xs
times_stay n m [] ne = refl
times_stay n m (x ∷ xs) ne = by (times_stay n m xs ne) (x == m) refl
  where
    by : times n (filter (λ holder. not (holder == m)) xs) ≡ times n xs → (b : Bool) → (x == m) ≡ b → length (filter (λ h. h == n) (cond (not b) (x ∷ filter (λ h. not (h == m)) xs) (filter (λ h. not (h == m)) xs))) ≡ times n (x ∷ xs)
    by go true e = let same = eqb-true x m e in let apart : (x == n) ≡ false = ap (λ z. z == n) same ∙ ne in rw apart go
    by go false e = again (x == n)
      where
        again : (b : Bool) → length (cond b (x ∷ filter (λ h. h == n) (filter (λ h. not (h == m)) xs)) (filter (λ h. h == n) (filter (λ h. not (h == m)) xs))) ≡ length (cond b (x ∷ filter (λ h. h == n) xs) (filter (λ h. h == n) xs))
        again true = ap suc go
        again false = go

-- who unlocks is taken out of the holders
unlocked : (w : Option ℕ) (readers : List ℕ) (m : ℕ) → option_to_list (unless_held_by m w) ++ filter (λ holder. not (holder == m)) readers ≡ filter (λ holder. not (holder == m)) (option_to_list w ++ readers)
unlocked None readers m = refl
unlocked (Some h) readers m = by (h == m)
  where
    by : (b : Bool) → option_to_list (cond b None (Some h)) ++ filter (λ x. not (x == m)) readers ≡ cond (not b) (h ∷ filter (λ x. not (x == m)) readers) (filter (λ x. not (x == m)) readers)
    by true = refl
    by false = refl

-- a list without others and without the maker is empty
nobody : (m : ℕ) (xs : List ℕ) → is_empty (filter (λ holder. not (holder == m)) xs) ≡ true → times m xs ≡ 0 → xs ≡ []
nobody m [] a b = refl
nobody m (x ∷ xs) a b = by (x == m) a b
  where
    by : (b : Bool) → is_empty (cond (not b) (x ∷ filter (λ h. not (h == m)) xs) (filter (λ h. not (h == m)) xs)) ≡ true → length (cond b (x ∷ filter (λ h. h == m) xs) (filter (λ h. h == m) xs)) ≡ 0 → (x ∷ xs) ≡ []
    by true a b = absurd (omega (arith, b))
    by false a b = cc

-- whether a list has an element, by its length
pub some_if : {A : Type 0} (xs : List A) → not (is_empty xs) ≡ true → (k : ℕ) × (length xs ≡ suc k)
some_if [] e = cc
some_if (x ∷ xs) e = (length xs, refl)

pub none_if : {A : Type 0} (xs : List A) → not (is_empty xs) ≡ false → length xs ≡ 0
none_if [] e = refl
none_if (x ∷ xs) e = cc

pub is_some : {A : Type 0} (xs : List A) (k : ℕ) → length xs ≡ suc k → not (is_empty xs) ≡ true
is_some [] k e = absurd (omega (arith, e))
is_some (x ∷ xs) k e = refl

pub is_none : {A : Type 0} (xs : List A) → length xs ≡ 0 → not (is_empty xs) ≡ false
is_none [] e = refl
is_none (x ∷ xs) e = absurd (omega (arith, e))

pub same_some : {A B : Type 0} (xs : List A) (ys : List B) → length xs ≡ length ys → not (is_empty xs) ≡ not (is_empty ys)
same_some [] [] e = refl
same_some [] (y ∷ ys) e = absurd (omega (arith, e))
same_some (x ∷ xs) [] e = absurd (omega (arith, e))
same_some (x ∷ xs) (y ∷ ys) e = refl

-- What an entry makes of the locks that a maker holds; `own` says whether it is that maker's.
abbrev pub Count : RegionOperation → Bool → ℕ → ℕ → Type 0
Count RegionOperation.lock_read true before now = (before ≡ 0) × (now ≡ 1)
Count RegionOperation.lock_write true before now = (before ≡ 0) × (now ≡ 1)
Count RegionOperation.unlock true before now = now ≡ 0
Count _ _ before now = now ≡ before

-- the holders are as before, or the maker is added where it was not, or it is taken out
locks_one : (o : RegionOperation) → ((b : Bool) (x y : ℕ) → (b ≡ true → (x ≡ 0) × (y ≡ 1)) → (b ≡ false → y ≡ x) → Count o b x y) → (m n : ℕ) (xs ys : List ℕ) → ys ≡ xs ++ m ∷ [] → times m xs ≡ 0 → Count o (m == n) (times n xs) (times n ys)
locks_one o build m n xs ys e none = build (m == n) (times n xs) (times n ys)
    (λ own. let same = eqb-true m n own in let zero_so : times n xs ≡ 0 = ap (λ k. times k xs) (sym same) ∙ none in
    (zero_so, ap (times n) e ∙ (times_join n xs (m ∷ []) ∙ (let one : times n (m ∷ []) ≡ 1 = times_one n m ∙ ap (λ (b : Bool). if b then 1 else 0) own in omega (arith, one, zero_so)))))
    (λ apart. ap (times n) e ∙ (times_join n xs (m ∷ []) ∙ (let one : times n (m ∷ []) ≡ 0 = times_one n m ∙ ap (λ (b : Bool). if b then 1 else 0) apart in omega (arith, one))))

build_read : (b : Bool) (x y : ℕ) → (b ≡ true → (x ≡ 0) × (y ≡ 1)) → (b ≡ false → y ≡ x) → Count RegionOperation.lock_read b x y
build_read true x y f g = f refl
build_read false x y f g = g refl

build_write : (b : Bool) (x y : ℕ) → (b ≡ true → (x ≡ 0) × (y ≡ 1)) → (b ≡ false → y ≡ x) → Count RegionOperation.lock_write b x y
build_write true x y f g = f refl
build_write false x y f g = g refl

build_unlock : (b : Bool) (x y : ℕ) → (b ≡ true → y ≡ 0) → (b ≡ false → y ≡ x) → Count RegionOperation.unlock b x y
build_unlock true x y f g = f refl
build_unlock false x y f g = g refl

pub count_free : (s : Region) (m : ℕ) → holds s m ≡ false → held s m ≡ 0
count_free s m e = none_if (filter (λ h. h == m) (holders s writes)) e

-- no lock at all
no_locks : (s : Region) (m : ℕ) → is_empty (others s m writes) ≡ true → holds s m ≡ false → holders s writes ≡ []
no_locks s m a b = nobody m (holders s writes) a (count_free s m b)

-- where nobody held a lock, the writer is alone
alone : {m : ℕ} (w : Option ℕ) (readers : List ℕ) → option_to_list w ++ readers ≡ [] → (m ∷ readers) ≡ option_to_list w ++ readers ++ m ∷ []
alone None [] e = refl
alone None (r ∷ rs) e = absurd (let k = ap length e in omega (arith, k))
alone (Some w) rs e = absurd (let k = ap length e in omega (arith, k))

pub counted : (o : RegionOperation) (s : Region) (m n : ℕ) → is_empty (others s m (kind o)) ≡ true → OwnLocks s m o → Count o (m == n) (held s n) (held (after s m o) n)
counted RegionOperation.probe s m n may own = refl
counted RegionOperation.size s m n may own = refl
counted (RegionOperation.read off len) s m n may own = refl
counted (RegionOperation.send off len) s m n may own = refl
counted (RegionOperation.write off bytes) s m n may own = refl
counted (RegionOperation.take off bytes) s m n may own = refl
counted (RegionOperation.put off bytes) s m n may own = refl
counted (RegionOperation.fill bytes) s m n may own = by s.present
  where
    by : (b : Bool) → held (cond b s (record (with_bytes s 0 bytes) { present = true })) n ≡ held s n
    by true = refl
    by false = refl
counted (RegionOperation.append bytes) s m n may own = by (has_room s bytes)
  where
    by : (b : Bool) → held (cond b (record (with_bytes s s.used bytes) { used = s.used + length bytes }) s) n ≡ held s n
    by true = refl
    by false = refl
counted RegionOperation.lock_read s m n may own = locks_one RegionOperation.lock_read build_read m n (holders s writes) (holders (after s m RegionOperation.lock_read) writes) (sym (append_assoc (option_to_list s.writer) s.readers (m ∷ []))) (count_free s m own)
counted RegionOperation.lock_write s m n may own = locks_one RegionOperation.lock_write build_write m n (holders s writes) (holders (after s m RegionOperation.lock_write) writes) (alone s.writer s.readers (no_locks s m may own)) (count_free s m own)
counted RegionOperation.unlock s m n may own = build_unlock (m == n) (held s n) (held (after s m RegionOperation.unlock) n)
    (λ e. let same = eqb-true m n e in ap (times n) (unlocked s.writer s.readers m) ∙ (ap (λ k. times k (filter (λ h. not (h == m)) (holders s writes))) (sym same) ∙ times_out m (holders s writes)))
    (λ e. ap (times n) (unlocked s.writer s.readers m) ∙ times_stay n m (holders s writes) e)
