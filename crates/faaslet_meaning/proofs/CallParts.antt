-- The parts of a call that keep to something, each said of its own fields, and what changes them.
use Rattle.std.proofs.Common.{◌≡◌, ℕ, zero, suc, ◌<◌, ◌≤◌, List, [], ◌∷◌, ◌++◌, length, refl, sym, ap, subst, arith, None, Some, Option, Bool, true, false, cond, not, length-append}
use Rattle.std.specs.Prelude.{All, IsTrue, filter, find, is_some, slice_set, ◌==◌}
use Rattle.faaslet_meaning.specs.Memory.{mapping_limit}
use Rattle.faaslet_meaning.specs.CallState.{Invocation, Tier, Lock, State, is_lock}
use Rattle.faaslet_meaning.specs.Checks.{lock_limit}
use Rattle.faaslet_meaning.specs.Call.{child_limit, output_limit}
use Rattle.faaslet_meaning.specs.Formed.{AllDiffer, same_lock, same_place, IsTied, IsShortOutput, Formed}

-- ---- Each item, said by recursion

abbrev pub Each : {A : Type 0} → (A → Type 0) → List A → Type 0
Each P [] = Unit {0}
Each P (x ∷ xs) = P x × Each P xs

pub all_each : {A : Type 0} (P : A → Type 0) (xs : List A) → Each P xs → All P xs
all_each P [] h k d l = absurd (omega (arith, l))
all_each P (x ∷ xs) h zero d l = h.0
all_each P (x ∷ xs) h (suc k) d l = all_each P xs h.1 k d (omega (arith, l))

pub each_all : {A : Type 0} (P : A → Type 0) (xs : List A) → All P xs → Each P xs
each_all P [] h = tt
each_all P (x ∷ xs) h = (h 0 x (omega arith), each_all P xs (λ k d l. h (suc k) d (omega (arith, l))))

pub each_append : {A : Type 0} (P : A → Type 0) (xs ys : List A) → Each P xs → Each P ys → Each P (xs ++ ys)
each_append P [] ys h k = k
each_append P (x ∷ xs) ys h k = (h.0, each_append P xs ys h.1 k)

pub each_map : {A : Type 0} (P Q : A → Type 0) (xs : List A) → ((x : A) → P x → Q x) → Each P xs → Each Q xs
each_map P Q [] f h = tt
each_map P Q (x ∷ xs) f h = (f x h.0, each_map P Q xs f h.1)

pub each_filter : {A : Type 0} (P : A → Type 0) (test : A → Bool) (xs : List A) → Each P xs → Each P (filter test xs)
each_filter P test [] h = tt
each_filter P test (x ∷ xs) h = by (test x) (each_filter P test xs h.1)
  where
    by : (b : Bool) → Each P (filter test xs) → Each P (cond b (x ∷ filter test xs) (filter test xs))
    by true r = (h.0, r)
    by false r = r

pub each_set : {A : Type 0} (P : A → Type 0) (xs : List A) (k : ℕ) (v : A) → P v → Each P xs → Each P (slice_set xs k v)
each_set P [] k v p h = tt
each_set P (x ∷ xs) zero v p h = (p, h.1)
each_set P (x ∷ xs) (suc k) v p h = (h.0, each_set P xs k v p h.1)

pub length_set : {A : Type 0} (xs : List A) (k : ℕ) (v : A) → length (slice_set xs k v) ≡ length xs
length_set [] k v = refl
length_set (x ∷ xs) zero v = refl
length_set (x ∷ xs) (suc k) v = ap suc (length_set xs k v)

pub length_filter : {A : Type 0} (test : A → Bool) (xs : List A) → length (filter test xs) ≤ length xs
length_filter test [] = omega arith
length_filter test (x ∷ xs) = by (test x) (length_filter test xs)
  where
    by : (b : Bool) → length (filter test xs) ≤ length xs → length (cond b (x ∷ filter test xs) (filter test xs)) ≤ suc (length xs)
    by true h = omega arith
    by false h = omega arith

-- ---- Found or not

-- what isn't found in a list isn't found in a part of it
pub none_filtered : {A : Type 0} (look test : A → Bool) (xs : List A) → find look xs ≡ None → find look (filter test xs) ≡ None
none_filtered look test [] e = refl
none_filtered look test (x ∷ xs) e = by (look x) (test x) refl e (λ f. none_filtered look test xs f)
  where
    by : (a b : Bool) → look x ≡ a → cond a (Some x) (find look xs) ≡ None → (find look xs ≡ None → find look (filter test xs) ≡ None) → find look (cond b (x ∷ filter test xs) (filter test xs)) ≡ None
    by true b g e r = absurd (cc)
    by false true g e r = subst (λ a. cond a (Some x) (find look (filter test xs)) ≡ None) (sym g) (r e)
    by false false g e r = r e

pub differ_filter : {A : Type 0} (alike : A → A → Bool) (test : A → Bool) (xs : List A) → AllDiffer alike xs → AllDiffer alike (filter test xs)
differ_filter alike test [] h = tt
differ_filter alike test (x ∷ xs) h = by (test x) (differ_filter alike test xs h.1)
  where
    by : (b : Bool) → AllDiffer alike (filter test xs) → AllDiffer alike (cond b (x ∷ filter test xs) (filter test xs))
    by true r = (none_filtered (alike x) test xs h.0, r)
    by false r = r

-- what a test refuses is found as before where only such items are taken out that the test refuses
pub found_filtered : {A : Type 0} (look out : A → Bool) (xs : List A) → ((x : A) → look x ≡ true → out x ≡ false) → is_some (find look xs) ≡ true → is_some (find look (filter (λ x. not (out x)) xs)) ≡ true
found_filtered look out [] k e = e
found_filtered look out (x ∷ xs) k e = by (look x) (out x) refl refl e (λ f. found_filtered look out xs k f)
  where
    by : (a b : Bool) → look x ≡ a → out x ≡ b → is_some (cond a (Some x) (find look xs)) ≡ true → (is_some (find look xs) ≡ true → is_some (find look (filter (λ y. not (out y)) xs)) ≡ true) → is_some (find look (cond (not b) (x ∷ filter (λ y. not (out y)) xs) (filter (λ y. not (out y)) xs))) ≡ true
    by true true g h e r = absurd (let f = k x g in cc)
    by true false g h e r = subst (λ a. is_some (cond a (Some x) (find look (filter (λ y. not (out y)) xs))) ≡ true) (sym g) refl
    by false true g h e r = r e
    by false false g h e r = subst (λ a. is_some (cond a (Some x) (find look (filter (λ y. not (out y)) xs))) ≡ true) (sym g) (r e)

-- ---- The parts of a call

pub record MappedOk (j : Invocation) (present : List ℕ) (mapped : List (ℕ × ℕ)) : Type 0 where
  pub once : AllDiffer same_place mapped
  pub few : length mapped ≤ mapping_limit
  pub seen : Each (λ m. IsTrue (is_some (find (λ p. p == m.0) present))) mapped
  pub granted : Each (λ m. m.0 < length j.program.grants) mapped

abbrev pub Granted : Invocation → List ℕ → Type 0
Granted j ks = Each (λ k. k < length j.program.grants) ks

pub record LocksOk (j : Invocation) (locks : List Lock) : Type 0 where
  pub once : AllDiffer same_lock locks
  pub few : length locks ≤ lock_limit
  pub granted : Each (λ l. l.place < length j.program.grants) locks

pub record ChildrenOk (children : List (Option ℕ)) : Type 0 where
  pub few : length children ≤ child_limit
  pub short : Each IsShortOutput children

-- all but the memory
abbrev pub Others : Invocation → State → Type 0
Others j s = MappedOk j s.present s.mapped × Granted j s.present × LocksOk j s.locks × (length s.output ≤ j.room) × ChildrenOk s.children

abbrev pub Parts : Invocation → State → Type 0
Parts j s = IsTied s.config.memory.segments s.mapped × Others j s

pub parts_formed : (j : Invocation) (s : State) → Parts j s → Formed j s
parts_formed j s h =
    let (tied, others) = h in
    let (m, p, l, o, c) = others in
    record {
      memory = tied;
      mapped_once = m.once;
      few_mapped = m.few;
      mapped_present = all_each _ s.mapped m.seen;
      mapped_granted = all_each _ s.mapped m.granted;
      present_granted = all_each _ s.present p;
      locked_once = l.once;
      few_locks = l.few;
      locks_granted = all_each _ s.locks l.granted;
      in_room = o;
      few_children = c.few;
      short_outputs = all_each _ s.children c.short;
    }

pub formed_parts : (j : Invocation) (s : State) → Formed j s → Parts j s
formed_parts j s h = (
  h.memory,
  (
    record { once = h.mapped_once; few = h.few_mapped; seen = each_all _ s.mapped h.mapped_present; granted = each_all _ s.mapped h.mapped_granted },
    each_all _ s.present h.present_granted,
    record { once = h.locked_once; few = h.few_locks; granted = each_all _ s.locks h.locks_granted },
    h.in_room,
    record { few = h.few_children; short = each_all _ s.children h.short_outputs },
  ),
)

-- ---- What changes them

-- once a key was seen present it stays so
pub still_present : (k m : ℕ) (ps : List ℕ) → is_some (find (λ p. p == m) ps) ≡ true → is_some (find (λ p. p == m) (k ∷ ps)) ≡ true
still_present k m ps e = by (k == m)
  where
    by : (b : Bool) → is_some (cond b (Some k) (find (λ p. p == m) ps)) ≡ true
    by true = refl
    by false = e

pub mapped_seen : (j : Invocation) (k : ℕ) (ps : List ℕ) (mapped : List (ℕ × ℕ)) → MappedOk j ps mapped → MappedOk j (k ∷ ps) mapped
mapped_seen j k ps mapped h = record { once = h.once; few = h.few; seen = each_map _ _ mapped (λ m e. still_present k m.0 ps e) h.seen; granted = h.granted }

pub lock_taken : (j : Invocation) (t : Tier) (k : ℕ) (locks : List Lock) → k < length j.program.grants → find (is_lock t k) locks ≡ None → length locks < lock_limit → LocksOk j locks → LocksOk j (record { tier = t; place = k } ∷ locks)
lock_taken j t k locks g e l h = record { once = (e, h.once); few = omega (arith, l); granted = (g, h.granted) }

pub locks_less : (j : Invocation) (test : Lock → Bool) (locks : List Lock) → LocksOk j locks → LocksOk j (filter test locks)
locks_less j test locks h = record { once = differ_filter same_lock test locks h.once; few = omega (arith, length_filter test locks, h.few); granted = each_filter _ test locks h.granted }

pub child_more : (children : List (Option ℕ)) → length children < child_limit → ChildrenOk children → ChildrenOk (children ++ None ∷ [])
child_more children l h = record { few = omega (arith, l, length-append children (None ∷ [])); short = each_append IsShortOutput children (None ∷ []) h.short (tt, tt) }

pub child_noted : (children : List (Option ℕ)) (c n : ℕ) → n ≤ output_limit → ChildrenOk children → ChildrenOk (slice_set children c (Some n))
child_noted children c n l h = record { few = omega (arith, length_set children c (Some n), h.few); short = each_set IsShortOutput children c (Some n) l h.short }
