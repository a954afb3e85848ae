-- Prefixes of legal histories, and write-lock sections.
use Rattle.std.proofs.Common.{◌≡◌, ◌≢◌, ℕ, List, [], ◌∷◌, ◌++◌, refl, sym, subst, ap, ◌∙◌, Bool, true, false, cond, not, Some, None}
use Rattle.std.proofs.lemmas.Bool.{eqb-true, ne_eqb, eq-eqb, and_parts}
use Rattle.std.specs.Prelude.{◌+◌, length, ◌||◌, filter, option_to_list, IsTrue, IsFalse, ◌==◌, ◌&&◌}
use Rattle.std.specs.List.{list_any, list_all}
use Rattle.faaslet_meaning.specs.Lists.{is_empty}
use Rattle.faaslet_meaning.specs.Channels.{RegionOperation}
use Rattle.faaslet_meaning.specs.Region as region
use Rattle.faaslet_meaning.specs.Region.{Region, Kind, reads, writes, always, kind, holders, others, may, unless_held_by, holds}
use Rattle.faaslet_meaning.specs.History.{Rules, History, left, Legal, replies, told_to, region_rules}
use Rattle.faaslet_meaning.specs.Sections.{is_unlock, unlocks, HasSections}

pub legal_prefix : {S O : Type 0} (rules : Rules S O) (s : S) (xs ys : History O) → Legal rules s (xs ++ ys) → Legal rules s xs
legal_prefix rules s [] ys h = tt
legal_prefix rules s (e ∷ xs) ys h = (h.0, legal_prefix rules (rules.after s e.0 e.1) xs ys h.1)

pub legal_rest : {S O : Type 0} (rules : Rules S O) (s : S) (xs ys : History O) → Legal rules s (xs ++ ys) → Legal rules (left rules s xs) ys
legal_rest rules s [] ys h = h
legal_rest rules s (e ∷ xs) ys h = legal_rest rules (rules.after s e.0 e.1) xs ys h.1

pub legal_both : {S O : Type 0} (rules : Rules S O) (s : S) (xs ys : History O) → Legal rules s xs → Legal rules (left rules s xs) ys → Legal rules s (xs ++ ys)
legal_both rules s [] ys h k = k
legal_both rules s (e ∷ xs) ys h k = (h.0, legal_both rules (rules.after s e.0 e.1) xs ys h.1 k)

pub left_both : {S O : Type 0} (rules : Rules S O) (s : S) (xs ys : History O) → left rules s (xs ++ ys) ≡ left rules (left rules s xs) ys
left_both rules s [] ys = refl
left_both rules s (e ∷ xs) ys = left_both rules (rules.after s e.0 e.1) xs ys

pub replies_both : {S O : Type 0} (rules : Rules S O) (s : S) (xs ys : History O) → replies rules s (xs ++ ys) ≡ replies rules s xs ++ replies rules (left rules s xs) ys
replies_both rules s [] ys = refl
replies_both rules s (e ∷ xs) ys = ap (λ rs. rules.reply s e.0 e.1 ∷ rs) (replies_both rules (rules.after s e.0 e.1) xs ys)

-- where what follows is of other makers, a maker is told the same by the prefix and by the whole
not_own : (b : Bool) → not b ≡ true → b ≡ false
not_own true h = let no : ⊥ = cc in absurd no
not_own false h = refl

told_none : {S O : Type 0} (rules : Rules S O) (maker : ℕ) (s : S) (es : History O) → IsTrue (list_all (λ e. not (e.0 == maker)) es) → told_to rules maker s es ≡ []
told_none rules maker s [] h = refl
told_none rules maker s (e ∷ es) h =
    let g = and_parts (not (e.0 == maker)) (list_all (λ e. not (e.0 == maker)) es) h in
    let rest = told_to rules maker (rules.after s e.0 e.1) es in
    ap (λ b. cond b ((e.1, rules.reply s e.0 e.1) ∷ rest) rest) (not_own (e.0 == maker) g.0) ∙ told_none rules maker (rules.after s e.0 e.1) es g.1

pub told_both : {S O : Type 0} (rules : Rules S O) (maker : ℕ) (s : S) (xs ys : History O) → IsTrue (list_all (λ e. not (e.0 == maker)) ys) → told_to rules maker s (xs ++ ys) ≡ told_to rules maker s xs
told_both rules maker s [] ys h = told_none rules maker s ys h
told_both rules maker s (e ∷ xs) ys h = ap (λ rest. cond (e.0 == maker) ((e.1, rules.reply s e.0 e.1) ∷ rest) rest) (told_both rules maker (rules.after s e.0 e.1) xs ys h)

-- ---- A maker that holds the write lock, beside whom nobody else holds a lock.

abbrev is_other : ℕ → ℕ → Bool
is_other maker holder = not (holder == maker)

abbrev Alone : ℕ → Region → Type 0
Alone maker s = (s.writer ≡ Some maker) × (filter (is_other maker) s.readers ≡ [])

empty_list : {A : Type 0} (xs : List A) → is_empty xs ≡ true → xs ≡ []
empty_list [] h = refl
empty_list (x ∷ xs) h = let no : ⊥ = cc in absurd no

pub filter_both : {A : Type 0} (test : A → Bool) (xs ys : List A) → filter test (xs ++ ys) ≡ filter test xs ++ filter test ys
filter_both test [] ys = refl
filter_both test (x ∷ xs) ys = by (test x) (filter_both test xs ys)
  where
    by : (b : Bool) → filter test (xs ++ ys) ≡ filter test xs ++ filter test ys → cond b (x ∷ filter test (xs ++ ys)) (filter test (xs ++ ys)) ≡ cond b (x ∷ filter test xs) (filter test xs) ++ filter test ys
    by true e = ap (λ zs. x ∷ zs) e
    by false e = e

none_behind : {A : Type 0} (xs ys : List A) → xs ++ ys ≡ [] → ys ≡ []
none_behind [] ys h = h
none_behind (x ∷ xs) ys h = let no : ⊥ = cc in absurd no

and_left : (a b : Bool) → (a && b) ≡ true → a ≡ true
and_left true b h = refl
and_left false b h = h

and_right : (a b : Bool) → (a && b) ≡ true → b ≡ true
and_right true b h = h
and_right false b h = let no : ⊥ = cc in absurd no

locked : (s : Region) (maker : ℕ) → IsTrue (may s maker RegionOperation.lock_write) → Alone maker (region.after s maker RegionOperation.lock_write)
locked s maker h =
    let none = empty_list (others s maker writes) h in
    let split = filter_both (is_other maker) (option_to_list s.writer) s.readers in
    (refl, none_behind (filter (is_other maker) (option_to_list s.writer)) (filter (is_other maker) s.readers) (sym split ∙ none))

-- ---- Beside such a maker.

one_blocks : (maker other : ℕ) (rest : List ℕ) → other ≢ maker → is_empty (filter (is_other other) (maker ∷ rest)) ≡ false
one_blocks maker other rest apart = by (maker == other) refl
  where
    by : (b : Bool) → (maker == other) ≡ b → is_empty (cond (not b) (maker ∷ filter (is_other other) rest) (filter (is_other other) rest)) ≡ false
    by true h = absurd (apart (sym (eqb-true maker other h)))
    by false h = refl

no_read : (s : Region) (maker other : ℕ) → Alone maker s → other ≢ maker → is_empty (others s other reads) ≡ false
no_read s maker other alone apart =
    subst (λ w. is_empty (filter (is_other other) (option_to_list w)) ≡ false) (sym alone.0) (one_blocks maker other [] apart)

no_write : (s : Region) (maker other : ℕ) → Alone maker s → other ≢ maker → is_empty (others s other writes) ≡ false
no_write s maker other alone apart =
    subst (λ w. is_empty (filter (is_other other) (option_to_list w ++ s.readers)) ≡ false) (sym alone.0) (one_blocks maker other s.readers apart)

clash : (b : Bool) → b ≡ true → b ≡ false → ⊥
clash b h k = cc

only_always : (s : Region) (maker other : ℕ) (k : Kind) → Alone maker s → other ≢ maker → is_empty (others s other k) ≡ true → k ≡ always
only_always s maker other reads alone apart h = absurd (clash (is_empty (others s other reads)) h (no_read s maker other alone apart))
only_always s maker other writes alone apart h = absurd (clash (is_empty (others s other writes)) h (no_write s maker other alone apart))
only_always s maker other always alone apart h = refl

always_unlock : (op : RegionOperation) → kind op ≡ always → op ≡ RegionOperation.unlock
always_unlock RegionOperation.unlock h = refl
always_unlock op h = let no : ⊥ = cc in absurd no

only_unlock : (s : Region) (maker other : ℕ) (op : RegionOperation) → Alone maker s → other ≢ maker → IsTrue (may s other op) → op ≡ RegionOperation.unlock
only_unlock s maker other op alone apart h = always_unlock op (only_always s maker other (kind op) alone apart h)

-- a list of which nothing passes one test has nothing that passes the other
nothing_held : (maker other : ℕ) (xs : List ℕ) → other ≢ maker → filter (is_other maker) xs ≡ [] → filter (λ holder. holder == other) xs ≡ []
nothing_held maker other [] apart h = refl
nothing_held maker other (x ∷ xs) apart h = by (x == maker) refl h (nothing_held maker other xs apart)
  where
    apart_too : (x == maker) ≡ true → (x == other) ≡ false
    apart_too e = ne_eqb x other (λ g. apart (sym g ∙ eqb-true x maker e))

    by : (b : Bool) → (x == maker) ≡ b → cond (not b) (x ∷ filter (is_other maker) xs) (filter (is_other maker) xs) ≡ [] → (filter (is_other maker) xs ≡ [] → filter (λ holder. holder == other) xs ≡ []) → filter (λ holder. holder == other) (x ∷ xs) ≡ []
    by true e h go = subst (λ b. cond b (x ∷ filter (λ holder. holder == other) xs) (filter (λ holder. holder == other) xs) ≡ []) (sym (apart_too e)) (go h)
    by false e h go = let no : ⊥ = cc in absurd no

alone_list : (maker : ℕ) → filter (is_other maker) (maker ∷ []) ≡ []
alone_list maker = subst (λ b. cond (not b) (maker ∷ []) [] ≡ []) (sym (eq-eqb maker maker refl)) refl

holds_nothing : (s : Region) (maker other : ℕ) → Alone maker s → other ≢ maker → IsFalse (holds s other)
holds_nothing s maker other alone apart =
    let first = subst (λ w. filter (λ holder. holder == other) (option_to_list w) ≡ []) (sym alone.0) (nothing_held maker other (maker ∷ []) apart (alone_list maker)) in
    let rest = nothing_held maker other s.readers apart alone.1 in
    let both = filter_both (λ holder. holder == other) (option_to_list s.writer) s.readers in
    ap (λ xs. not (is_empty xs)) (both ∙ ap (λ xs. xs ++ filter (λ holder. holder == other) s.readers) first ∙ rest)

-- ---- It stays so until its Unlock.

filter_twice : (maker other : ℕ) (xs : List ℕ) → filter (is_other maker) xs ≡ [] → filter (is_other maker) (filter (is_other other) xs) ≡ []
filter_twice maker other [] h = refl
filter_twice maker other (x ∷ xs) h = by (x == maker) refl h (filter_twice maker other xs)
  where
    next : (b : Bool) → (x == maker) ≡ true → filter (is_other maker) (filter (is_other other) xs) ≡ [] → filter (is_other maker) (cond b (x ∷ filter (is_other other) xs) (filter (is_other other) xs)) ≡ []
    next true e h = subst (λ c. cond (not c) (x ∷ filter (is_other maker) (filter (is_other other) xs)) (filter (is_other maker) (filter (is_other other) xs)) ≡ []) (sym e) h
    next false e h = h

    by : (b : Bool) → (x == maker) ≡ b → cond (not b) (x ∷ filter (is_other maker) xs) (filter (is_other maker) xs) ≡ [] → (filter (is_other maker) xs ≡ [] → filter (is_other maker) (filter (is_other other) xs) ≡ []) → filter (is_other maker) (filter (is_other other) (x ∷ xs)) ≡ []
    by true e h go = next (is_other other x) e (go h)
    by false e h go = let no : ⊥ = cc in absurd no

alone_after : (maker : ℕ) (s : Region) (op : RegionOperation) → Alone maker s → is_unlock op ≡ false → Alone maker (region.after s maker op)
alone_after maker s (RegionOperation.fill bytes) alone h = by s.present
  where
    by : (b : Bool) → Alone maker (cond b s (record (region.with_bytes s 0 bytes) { present = true }))
    by true = alone
    by false = alone
alone_after maker s (RegionOperation.append bytes) alone h = by (region.has_room s bytes)
  where
    by : (b : Bool) → Alone maker (cond b (record (region.with_bytes s s.used bytes) { used = s.used + length bytes }) s)
    by true = alone
    by false = alone
alone_after maker s RegionOperation.lock_read alone h =
    (alone.0, filter_both (is_other maker) s.readers (maker ∷ []) ∙ ap (λ xs. xs ++ filter (is_other maker) (maker ∷ [])) alone.1 ∙ alone_list maker)
alone_after maker s RegionOperation.lock_write alone h = (refl, alone.1)
alone_after maker s RegionOperation.unlock alone h = let no : ⊥ = cc in absurd no
alone_after maker s op alone h = alone

alone_beside : (maker other : ℕ) (s : Region) → Alone maker s → other ≢ maker → Alone maker (region.after s other RegionOperation.unlock)
alone_beside maker other s alone apart =
    (ap (unless_held_by other) alone.0 ∙ subst (λ b. cond b None (Some maker) ≡ Some maker) (sym (ne_eqb maker other (λ e. apart (sym e)))) refl, filter_twice maker other s.readers alone.1)

stays : (maker : ℕ) (s : Region) (e : ℕ × RegionOperation) → Alone maker s → IsTrue (may s e.0 e.1) → unlocks maker e ≡ false → Alone maker (region.after s e.0 e.1)
stays maker s e alone h free = by (e.0 == maker) refl free
  where
    by : (b : Bool) → (e.0 == maker) ≡ b → (b && is_unlock e.1) ≡ false → Alone maker (region.after s e.0 e.1)
    by true g free = subst (λ m. Alone maker (region.after s m e.1)) (sym (eqb-true e.0 maker g)) (alone_after maker s e.1 alone free)
    by false g free =
        let apart = λ (k : e.0 ≡ maker). clash (e.0 == maker) (eq-eqb e.0 maker k) g in
        subst (λ op. Alone maker (region.after s e.0 op)) (sym (only_unlock s maker e.0 e.1 alone apart h)) (alone_beside maker e.0 s alone apart)

or_left : (a b : Bool) → (a || b) ≡ false → a ≡ false
or_left true b h = h
or_left false b h = refl

or_right : (a b : Bool) → (a || b) ≡ false → b ≡ false
or_right true b h = let no : ⊥ = cc in absurd no
or_right false b h = h

stays_over : (maker : ℕ) (s : Region) (es : History RegionOperation) → Alone maker s → Legal region_rules s es → IsFalse (list_any (unlocks maker) es) → Alone maker (left region_rules s es)
stays_over maker s [] alone h free = alone
stays_over maker s (e ∷ es) alone h free =
    stays_over maker (region.after s e.0 e.1) es (stays maker s e alone h.0 (or_left (unlocks maker e) (list_any (unlocks maker) es) free)) h.1 (or_right (unlocks maker e) (list_any (unlocks maker) es) free)

-- ---- So every legal history has write-lock sections.

pub has_sections : (s : Region) (history : History RegionOperation) → Legal region_rules s history → HasSections s history
has_sections s history legal maker other op before between behind same free apart =
    let whole = subst (λ es. Legal region_rules s es) same legal in
    let at_lock = legal_rest region_rules s before ((maker, RegionOperation.lock_write) ∷ (between ++ (other, op) ∷ behind)) whole in
    let t = left region_rules s before in
    let rest = at_lock.1 in
    let alone = stays_over maker (region.after t maker RegionOperation.lock_write) between (locked t maker at_lock.0) (legal_prefix region_rules (region.after t maker RegionOperation.lock_write) between ((other, op) ∷ behind) rest) free in
    let at_other = legal_rest region_rules (region.after t maker RegionOperation.lock_write) between ((other, op) ∷ behind) rest in
    let u = left region_rules (region.after t maker RegionOperation.lock_write) between in
    (only_unlock u maker other op alone apart at_other.0, subst (λ v. IsFalse (holds v other)) (sym (left_both region_rules s before ((maker, RegionOperation.lock_write) ∷ between))) (holds_nothing u maker other alone apart))
