-- The places of the items that pass a test: how many they are, and what is at the first.
use Rattle.std.proofs.Common.{◌≡◌, ℕ, zero, suc, ◌+◌, ◌<◌, ◌≤◌, List, [], ◌∷◌, ◌++◌, length, Bool, true, false, cond, Option, Some, None, filter, slice_get, get_or, refl, sym, ap, ◌∙◌, arith, add-zero}
use Rattle.std.specs.Prelude.{not, ◌==◌, ◌&&◌}
use Rattle.std.specs.List.{range_with_len}
use Rattle.std.proofs.lemmas.Bool.{and_parts}
use Rattle.std.proofs.lemmas.Option.{get_or_from_slice_get}
use Rattle.faaslet_meaning.specs.declared.call.CallRecord.{CallRecord}
use Rattle.faaslet_meaning.specs.Lists.{is_empty, first, places_from, places, passes_at}
use Rattle.faaslet_meaning.specs.Records.{is_queued, queue, queued_calls}

places_filter : {A : Type 0} (test : A → Bool) (n : ℕ) (xs : List A) → length (places_from n test xs) ≡ length (filter test xs)
places_filter test n [] = refl
places_filter test n (x ∷ xs) = by (test x) (places_filter test (n + 1) xs)
  where
    by : (b : Bool) → length (places_from (n + 1) test xs) ≡ length (filter test xs) → length (cond b (n ∷ places_from (n + 1) test xs) (places_from (n + 1) test xs)) ≡ length (cond b (x ∷ filter test xs) (filter test xs))
    by true e = ap suc e
    by false e = e

pub queue_counts : (records : List CallRecord) (host : ℕ) → length (filter (λ r. is_queued r.state && (r.placed == host)) records) ≡ length (queue records host)
queue_counts records host = sym (places_filter (λ r. is_queued r.state && (r.placed == host)) 0 records)

add-suc-one : (n : ℕ) → suc n + 1 ≡ suc (n + 1)
add-suc-one n = omega arith

range_from : (a n : ℕ) → range_with_len a (n + 1) ≡ range_with_len a n ++ (a + n) ∷ []
range_from a zero = ap (λ m. m ∷ []) (sym (add-zero a))
range_from a (suc n) =
    let e : (a + 1) + n ≡ a + suc n = omega arith in
    let tail : range_with_len (a + 1) (n + 1) ≡ range_with_len (a + 1) n ++ (a + suc n) ∷ [] = range_from (a + 1) n ∙ ap (λ m. range_with_len (a + 1) n ++ m ∷ []) e in
    rw (add-suc-one n) (ap (λ l. a ∷ l) tail)

pub range_more : (n : ℕ) → range_with_len 0 (n + 1) ≡ range_with_len 0 n ++ n ∷ []
range_more n = range_from 0 n ∙ ap (λ m. range_with_len 0 n ++ m ∷ []) (omega arith)

abbrev passes_by : {A : Type 0} → (A → Bool) → Option A → Bool
passes_by test o = elim o [ None ↦ false | Some x ↦ test x ]

-- an item is there, and passes
pub record PassesAt {A : Type 0} (test : A → Bool) (xs : List A) (n : ℕ) : Type 0 where
  pub item : A
  pub there : slice_get xs n ≡ Some item
  pub inside : n < length xs
  pub passes : test item ≡ true

pub passes_there : {A : Type 0} (test : A → Bool) (xs : List A) (n : ℕ) → passes_at test xs n ≡ true → PassesAt test xs n
passes_there test [] n e = let no : ⊥ = cc in absurd no
passes_there test (x ∷ xs) zero e = record { item = x; there = refl; inside = omega arith; passes = e }
passes_there test (x ∷ xs) (suc n) e = let p = passes_there test xs n e in record { item = p.item; there = p.there; inside = let h = p.inside in omega arith; passes = p.passes }

-- ---- What is at the first place.

later : {A : Type 0} (test : A → Bool) (m : ℕ) (xs : List A) (n : ℕ) → first (places_from m test xs) ≡ Some n → m ≤ n
later test m [] n e = let no : ⊥ = cc in absurd no
later test m (x ∷ xs) n e = by (test x) (λ f. later test (m + 1) xs n f) e
  where
    by : (b : Bool) → (first (places_from (m + 1) test xs) ≡ Some n → m + 1 ≤ n) → first (cond b (m ∷ places_from (m + 1) test xs) (places_from (m + 1) test xs)) ≡ Some n → m ≤ n
    by true k e = let z : m ≡ n = grind arith in omega arith
    by false k e = let h = k e in omega arith

first_from : {A : Type 0} (test : A → Bool) (m n : ℕ) (xs : List A) → first (places_from m test xs) ≡ Some (m + n) → passes_at test xs n ≡ true
first_from test m n [] e = let no : ⊥ = cc in absurd no
first_from {A} test m zero (x ∷ xs) e = by (test x) (λ (f : first (places_from (m + 1) test xs) ≡ Some (m + zero)). later test (m + 1) xs (m + zero) f) e
  where
    by : (b : Bool) → (first (places_from (m + 1) test xs) ≡ Some (m + zero) → m + 1 ≤ m + zero) → first (cond b (m ∷ places_from (m + 1) test xs) (places_from (m + 1) test xs)) ≡ Some (m + zero) → b ≡ true
    by true k e = refl
    by false k e = let h = k e in absurd (omega arith)
first_from test m (suc n) (x ∷ xs) e = by (test x) (λ f. first_from test (m + 1) n xs (f ∙ ap (λ k. Some k) (let z : m + suc n ≡ m + 1 + n = omega arith in z))) e
  where
    by : (b : Bool) → (first (places_from (m + 1) test xs) ≡ Some (m + suc n) → passes_at test xs n ≡ true) → first (cond b (m ∷ places_from (m + 1) test xs) (places_from (m + 1) test xs)) ≡ Some (m + suc n) → passes_at test xs n ≡ true
    by true k e = let z : m ≡ m + suc n = grind arith in absurd (omega arith)
    by false k e = k e

at_first : {A : Type 0} (test : A → Bool) (xs : List A) (n : ℕ) → first (places test xs) ≡ Some n → passes_at test xs n ≡ true
at_first test xs n e = first_from test 0 n xs (e ∙ ap (λ k. Some k) (let z : n ≡ 0 + n = omega arith in z))

pub first_queued : (records : List CallRecord) (n : ℕ) → first (queued_calls records) ≡ Some n → passes_at (λ r. is_queued r.state) records n ≡ true
first_queued records n e = at_first (λ r. is_queued r.state) records n e

pub weaker : {A : Type 0} (test other : A → Bool) (xs : List A) (n : ℕ) → ((x : A) → test x ≡ true → other x ≡ true) → passes_at test xs n ≡ true → passes_at other xs n ≡ true
weaker test other [] n h e = e
weaker test other (x ∷ xs) zero h e = h x e
weaker test other (x ∷ xs) (suc n) h e = weaker test other xs n h e

pub first_at_host : (records : List CallRecord) (host n : ℕ) → first (queue records host) ≡ Some n → passes_at (λ r. is_queued r.state) records n ≡ true
first_at_host records host n e =
    weaker (λ r. is_queued r.state && (r.placed == host)) (λ r. is_queued r.state) records n (λ r t. (and_parts (is_queued r.state) (r.placed == host) t).0)
    (at_first (λ r. is_queued r.state && (r.placed == host)) records n e)

-- ---- An item that was read.

pub record Read {A : Type 0} (test : A → Bool) (xs : List A) (n : ℕ) (x : A) : Type 0 where
  pub there : slice_get xs n ≡ Some x
  pub inside : n < length xs
  pub passes : test x ≡ true

pub read_at : {A : Type 0} (test : A → Bool) (xs : List A) (n : ℕ) (x : A) → passes_at test xs n ≡ true → x ≡ get_or xs n x → Read test xs n x
read_at test xs n x e is =
    let p = passes_there test xs n e in
    let same : x ≡ p.item = is ∙ get_or_from_slice_get xs n p.item x p.there in
    record { there = p.there ∙ ap (λ y. Some y) (sym same); inside = p.inside; passes = ap test same ∙ p.passes }

pub passes_so : {A : Type 0} (test : A → Bool) (xs : List A) (n : ℕ) (x : A) → slice_get xs n ≡ Some x → passes_at test xs n ≡ test x
passes_so test xs n x e = ap (passes_by test) e

-- ---- Where one passes, some do.

pub some_place : {A : Type 0} (test : A → Bool) (m : ℕ) (xs : List A) (n : ℕ) → passes_at test xs n ≡ true → not (is_empty (places_from m test xs)) ≡ true
some_place test m [] n e = e
some_place test m (x ∷ xs) zero e = by (test x) e
  where
    by : (b : Bool) → b ≡ true → not (is_empty (cond b (m ∷ places_from (m + 1) test xs) (places_from (m + 1) test xs))) ≡ true
    by true e = refl
    by false e = let no : ⊥ = cc in absurd no
some_place test m (x ∷ xs) (suc n) e = by (test x) (some_place test (m + 1) xs n e)
  where
    by : (b : Bool) → not (is_empty (places_from (m + 1) test xs)) ≡ true → not (is_empty (cond b (m ∷ places_from (m + 1) test xs) (places_from (m + 1) test xs))) ≡ true
    by true e = refl
    by false e = e
