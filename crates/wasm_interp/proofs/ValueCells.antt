-- The cells of the stack of values: one written, some made zero, and what of them is the stack.
use Rattle.std.proofs.Common.{◌≡◌, ℕ, zero, suc, ◌+◌, ◌-◌, ◌*◌, ◌/◌, ◌<◌, ◌≤◌, List, [], ◌∷◌, ◌++◌, Bool, true, false, length, take, drop, set, get_or, replicate, reverse, refl, sym, ap, ◌∙◌, subst, arith, ⊎_elim, ◌⊎◌, inl, inr}
use Rattle.std.specs.Prelude.{◌≢◌}
use Rattle.std.proofs.lemmas.Bool.{cases_lt}
use Rattle.std.proofs.Math.Seq.{take-append_seam}
use Rattle.std.specs.Int.{div_ceil}
use Rattle.std.proofs.lemmas.List.{length-set, length-reverse, length-take-le, reverse-append, take-set-le, take_more, get_or-take, replicate-append-replicate, append_assoc, append-nil, length-append, length-replicate}
use Rattle.wasm_validate.proofs.Piles.{pushed}
use Rattle.wasm_interp.specs.ValueCells.{put_at, cleared, AreClean, AreUnmarked, AreValues, Cleaned}
use Rattle.wasm_interp.proofs.Lists.{take_twice}

-- ---- one cell

true_is_not_false : true ≡ false → ⊥
true_is_not_false e = cc

pub put_is_set : (xs : List ℕ) (k x : ℕ) → k < length xs → set xs k x ≡ put_at xs k x
put_is_set [] k x lt = absurd (omega arith)
put_is_set (y ∷ ys) zero x lt = refl
put_is_set (y ∷ ys) (suc k) x lt = ap (λ l. y ∷ l) (put_is_set ys k x (omega arith))

pub put_is_push : (xs : List ℕ) (k x : ℕ) → k ≡ length xs → xs ++ x ∷ [] ≡ put_at xs k x
put_is_push [] zero x e = refl
put_is_push [] (suc k) x e = absurd (omega arith)
put_is_push (y ∷ ys) zero x e = absurd (omega arith)
put_is_push (y ∷ ys) (suc k) x e = ap (λ l. y ∷ l) (put_is_push ys k x (omega arith))

get_put : (xs : List ℕ) (k j x : ℕ) → j ≢ k → k ≤ length xs → get_or (put_at xs k x) j 0 ≡ get_or xs j 0
get_put [] k zero x n le = absurd (n (omega arith))
get_put [] k (suc j) x n le = refl
get_put (y ∷ ys) zero zero x n le = absurd (n refl)
get_put (y ∷ ys) zero (suc j) x n le = refl
get_put (y ∷ ys) (suc k) zero x n le = refl
get_put (y ∷ ys) (suc k) (suc j) x n le = get_put ys k j x (λ e. n (ap suc e)) (omega arith)

put_longer : (xs : List ℕ) (k x : ℕ) → k ≤ length xs → k + 1 ≤ length (put_at xs k x)
put_longer [] k x le = omega arith
put_longer (y ∷ ys) zero x le = omega arith
put_longer (y ∷ ys) (suc k) x le = omega (arith, put_longer ys k x (omega arith))

put_within : (xs : List ℕ) (k x n : ℕ) → k < n → length xs ≤ n → length (put_at xs k x) ≤ n
put_within [] k x n lt le = omega arith
put_within (y ∷ ys) zero x n lt le = omega arith
put_within (y ∷ ys) (suc k) x n lt le = omega (arith, put_within ys k x (n - 1) (omega arith) (omega arith))

take_put : (xs : List ℕ) (k x : ℕ) → k ≤ length xs → take (suc k) (put_at xs k x) ≡ take k xs ++ x ∷ []
take_put [] zero x le = refl
take_put [] (suc k) x le = absurd (omega arith)
take_put (y ∷ ys) zero x le = refl
take_put (y ∷ ys) (suc k) x le = ap (λ l. y ∷ l) (take_put ys k x (omega arith))

-- ---- marks

marked : (marks : List Bool) (i j : ℕ) → get_or (set marks i true) j true ≡ false → (j ≢ i) × (get_or marks j true ≡ false)
marked [] i j e = absurd (true_is_not_false e)
marked (m ∷ ms) zero zero e = absurd (true_is_not_false e)
marked (m ∷ ms) zero (suc j) e = (λ f. absurd (omega (arith, f)), e)
marked (m ∷ ms) (suc i) zero e = (λ f. absurd (omega (arith, f)), e)
marked (m ∷ ms) (suc i) (suc j) e = let h = marked ms i j e in (λ f. h.0 (omega (arith, f)), h.1)

pub read_mark : (marks : List Bool) (i : ℕ) → i < length marks → get_or marks i false ≡ false → get_or marks i true ≡ false
read_mark [] i lt e = absurd (omega arith)
read_mark (m ∷ ms) zero lt e = e
read_mark (m ∷ ms) (suc i) lt e = read_mark ms i (omega arith) e

clean_put : (cells : List ℕ) (marks : List Bool) (k x : ℕ) → AreClean cells marks → k ≤ length cells → AreClean (put_at cells k x) (set marks (k / 64) true)
clean_put cells marks k x clean le j e =
    let h = marked marks (k / 64) (j / 64) e in
    get_put cells k j x (λ same. h.0 (ap (λ n. n / 64) same)) le ∙ clean j h.1

-- ---- one value more

pub push_keeps : (cells new : List ℕ) (top : ℕ) (marks : List Bool) (room space x : ℕ) → AreValues cells top marks room → top < 65536 → new ≡ put_at cells top x → room ≤ space → AreValues new (top + 1) (set marks (top / 64) true) space
push_keeps cells new top marks room space x v lt e same =
    record {
      top_in = subst (λ l. top + 1 ≤ length l) (sym e) (put_longer cells top x v.top_in);
      few = subst (λ l. length l ≤ 65536) (sym e) (put_within cells top x 65536 lt v.few);
      enough = omega (arith, v.enough, same);
      clean = subst (λ l. AreClean l (set marks (top / 64) true)) (sym e) (clean_put cells marks top x v.clean v.top_in);
    }

pub push_is : (cells new : List ℕ) (top x : ℕ) → top ≤ length cells → new ≡ put_at cells top x → reverse (take (top + 1) new) ≡ x ∷ reverse (take top cells)
push_is cells new top x le e =
    let one : top + 1 ≡ suc top = omega arith in
    pushed (take (top + 1) new) (take top cells) x (ap (λ n. take n new) one ∙ ap (take (suc top)) e ∙ take_put cells top x le)

pub length_is : (cells vs : List ℕ) (top : ℕ) → reverse (take top cells) ≡ vs → top ≤ length cells → length vs ≡ top
length_is cells vs top e le = sym (ap length e) ∙ length-reverse (take top cells) ∙ length-take-le top cells le

-- ---- cells made zero

cleared_long : (xs : List ℕ) (from n : ℕ) → length (cleared xs from n) ≡ length xs
cleared_long xs from zero = refl
cleared_long xs from (suc n) = length-set (cleared xs from n) (from + n) 0 ∙ cleared_long xs from n

cleared_below : (xs : List ℕ) (from n h : ℕ) → h ≤ from → take h (cleared xs from n) ≡ take h xs
cleared_below xs from zero h le = refl
cleared_below xs from (suc n) h le = take-set-le h (cleared xs from n) (from + n) 0 (omega arith) ∙ cleared_below xs from n h le

zero_set : (xs : List ℕ) (i k : ℕ) → get_or xs k 0 ≡ 0 → get_or (set xs i 0) k 0 ≡ 0
zero_set [] i k e = refl
zero_set (x ∷ xs) zero zero e = refl
zero_set (x ∷ xs) zero (suc k) e = e
zero_set (x ∷ xs) (suc i) zero e = e
zero_set (x ∷ xs) (suc i) (suc k) e = zero_set xs i k e

set_zero : (xs : List ℕ) (k : ℕ) → get_or (set xs k 0) k 0 ≡ 0
set_zero [] k = refl
set_zero (x ∷ xs) zero = refl
set_zero (x ∷ xs) (suc k) = set_zero xs k

stays_zero : (xs : List ℕ) (from n k : ℕ) → get_or xs k 0 ≡ 0 → get_or (cleared xs from n) k 0 ≡ 0
stays_zero xs from zero k e = e
stays_zero xs from (suc n) k e = zero_set (cleared xs from n) (from + n) k (stays_zero xs from n k e)

becomes_zero : (xs : List ℕ) (from n k : ℕ) → from ≤ k → k < from + n → get_or (cleared xs from n) k 0 ≡ 0
becomes_zero xs from zero k le lt = absurd (omega arith)
becomes_zero xs from (suc n) k le lt = ⊎_elim
    (λ before. zero_set (cleared xs from n) (from + n) k (becomes_zero xs from n k le before))
    (λ past. let last : from + n ≡ k = omega arith in subst (λ i. get_or (set (cleared xs from n) (from + n) 0) i 0 ≡ 0) last (set_zero (cleared xs from n) (from + n)))
    (cases_lt k (from + n))

-- ---- whole runs

pub none_cleaned : (cells : List ℕ) (marks : List Bool) (from to : ℕ) → to ≤ from → AreClean cells marks → Cleaned cells cells marks from to
none_cleaned cells marks from to le clean = record { long = refl; below = refl; zeros = λ k low high. absurd (omega arith); clean = clean }

unmarked : (marks : List Bool) (i j : ℕ) → get_or (set marks i false) j true ≡ false → (j ≡ i) ⊎ (get_or marks j true ≡ false)
unmarked [] i j e = inr e
unmarked (m ∷ ms) zero zero e = inl refl
unmarked (m ∷ ms) zero (suc j) e = inr e
unmarked (m ∷ ms) (suc i) zero e = inr e
unmarked (m ∷ ms) (suc i) (suc j) e = ⊎_elim (λ f. inl (ap suc f)) (λ f. inr f) (unmarked ms i j e)

pub run_cleaned : (old cells new : List ℕ) (marks ms : List Bool) (first run n : ℕ) → first ≤ run → n ≡ 64 → Cleaned old cells marks (first * 64) (run * 64) → new ≡ cleared cells (run * 64) n → ms ≡ set marks run false → Cleaned old new ms (first * 64) ((run + 1) * 64)
run_cleaned old cells new marks ms first run n le many c e f =
    subst (λ l. Cleaned old l ms (first * 64) ((run + 1) * 64)) (sym (e ∙ ap (cleared cells (run * 64)) many)) (subst (λ l. Cleaned old (cleared cells (run * 64) 64) l (first * 64) ((run + 1) * 64)) (sym f) (record {
      long = cleared_long cells (run * 64) 64 ∙ c.long;
      below = cleared_below cells (run * 64) 64 (first * 64) (omega arith) ∙ c.below;
      zeros = λ k low high. ⊎_elim
          (λ before. stays_zero cells (run * 64) 64 k (c.zeros k low before))
          (λ past. becomes_zero cells (run * 64) 64 k past (omega arith))
          (cases_lt k (run * 64));
      clean = λ k f. ⊎_elim
          (λ here. becomes_zero cells (run * 64) 64 k (omega (arith, here)) (omega (arith, here)))
          (λ other. stays_zero cells (run * 64) 64 k (c.clean k other))
          (unmarked marks run (k / 64) f);
    }))

pub run_passed : (old cells new : List ℕ) (marks ms : List Bool) (first run : ℕ) → Cleaned old cells marks (first * 64) (run * 64) → get_or marks run true ≡ false → new ≡ cells → ms ≡ marks → Cleaned old new ms (first * 64) ((run + 1) * 64)
run_passed old cells new marks ms first run c e f g =
    subst (λ l. Cleaned old l ms (first * 64) ((run + 1) * 64)) (sym f) (subst (λ l. Cleaned old cells l (first * 64) ((run + 1) * 64)) (sym g) (record {
      long = c.long;
      below = c.below;
      zeros = λ k low high. ⊎_elim
          (λ before. c.zeros k low before)
          (λ past.
          let here : run ≡ k / 64 = omega arith in
          c.clean k (subst (λ i. get_or marks i true ≡ false) here e))
          (cases_lt k (run * 64));
      clean = c.clean;
    }))

-- ---- groups of runs

pub unmarked_more : (marks : List Bool) (from k : ℕ) → AreUnmarked marks from k → get_or marks k true ≡ false → AreUnmarked marks from (k + 1)
unmarked_more marks from k none e j low high = ⊎_elim
    (λ before. none j low before)
    (λ past. let same : k ≡ j = omega arith in subst (λ i. get_or marks i true ≡ false) same e)
    (cases_lt j k)

-- The runs from one on up to another are cleaned as far as they lie in groups below this one.
pub record GroupsCleaned (old new : List ℕ) (marks : List Bool) (first last group : ℕ) : Type 0 where
  pub long : length new ≡ length old
  pub below : take (first * 64) new ≡ take (first * 64) old
  pub zeros : (k : ℕ) → first * 64 ≤ k → k < last * 64 → k < group * 2048 → get_or new k 0 ≡ 0
  pub clean : AreClean new marks

pub no_group_cleaned : (cells : List ℕ) (marks : List Bool) (first last group : ℕ) → group * 32 ≤ first → AreClean cells marks → GroupsCleaned cells cells marks first last group
no_group_cleaned cells marks first last group le clean = record { long = refl; below = refl; zeros = λ k low high before. absurd (omega arith); clean = clean }

pub group_cleaned : (old cells new : List ℕ) (marks ms : List Bool) (first last group from to : ℕ) → first ≤ from
    → ((k : ℕ) → first * 64 ≤ k → k < from * 64 → k < group * 2048) → ((k : ℕ) → k < last * 64 → k < (group + 1) * 2048 → k < to * 64)
    → GroupsCleaned old cells marks first last group → Cleaned cells new ms (from * 64) (to * 64) → GroupsCleaned old new ms first last (group + 1)
group_cleaned old cells new marks ms first last group from to le low high c d =
    record {
      long = d.long ∙ c.long;
      below = sym (take_twice (first * 64) (from * 64) new (omega arith)) ∙ ap (take (first * 64)) d.below ∙ take_twice (first * 64) (from * 64) cells (omega arith) ∙ c.below;
      zeros = λ k a b e. ⊎_elim
          (λ before. sym (get_or-take (from * 64) new k 0 before) ∙ ap (λ l. get_or l k 0) d.below ∙ get_or-take (from * 64) cells k 0 before ∙ c.zeros k a b (low k a before))
          (λ past. d.zeros k past (high k b e))
          (cases_lt k (from * 64));
      clean = d.clean;
    }

pub group_passed : (old cells : List ℕ) (marks : List Bool) (first last group : ℕ) → GroupsCleaned old cells marks first last group → AreUnmarked marks (group * 32) (group * 32 + 32) → GroupsCleaned old cells marks first last (group + 1)
group_passed old cells marks first last group c none =
    record {
      long = c.long;
      below = c.below;
      zeros = λ k a b e. ⊎_elim
          (λ before. c.zeros k a b before)
          (λ past. c.clean k (none (k / 64) (omega arith) (omega arith)))
          (cases_lt k (group * 2048));
      clean = c.clean;
    }

pub groups_cleaned : (old new : List ℕ) (marks : List Bool) (first last group : ℕ) → last ≤ group * 32 → GroupsCleaned old new marks first last group → Cleaned old new marks (first * 64) (last * 64)
groups_cleaned old new marks first last group le c = record { long = c.long; below = c.below; zeros = λ k low high. c.zeros k low high (omega arith); clean = c.clean }

-- ---- zeros on top

get_grown : (xs : List ℕ) (n k : ℕ) → get_or (xs ++ replicate n 0) k 0 ≡ get_or xs k 0
get_grown [] zero k = refl
get_grown [] (suc n) zero = refl
get_grown [] (suc n) (suc k) = get_grown [] n k
get_grown (x ∷ xs) n zero = refl
get_grown (x ∷ xs) n (suc k) = get_grown xs n k

take_grown : (xs ys : List ℕ) (h : ℕ) → h ≤ length xs → take h (xs ++ ys) ≡ take h xs
take_grown xs ys zero le = refl
take_grown [] ys (suc h) le = absurd (omega arith)
take_grown (x ∷ xs) ys (suc h) le = ap (λ l. x ∷ l) (take_grown xs ys h (omega arith))

pub zeros_more : (xs : List ℕ) (n : ℕ) → (xs ++ replicate n 0) ++ 0 ∷ [] ≡ xs ++ replicate (suc n) 0
zeros_more xs n =
    let one : n + 1 ≡ suc n = omega arith in
    append_assoc xs (replicate n 0) (0 ∷ []) ∙ ap (λ l. xs ++ l) (replicate-append-replicate n 1 0 ∙ ap (λ k. replicate k 0) one)

take_zeros : (xs : List ℕ) (h n : ℕ) → h + n ≤ length xs → ((k : ℕ) → h ≤ k → k < h + n → get_or xs k 0 ≡ 0) → take (h + n) xs ≡ take h xs ++ replicate n 0
take_zeros xs h zero le z =
    let none : h + 0 ≡ h = omega arith in
    ap (λ k. take k xs) none ∙ sym (append-nil (take h xs))
take_zeros xs h (suc n) le z =
    let next : h + suc n ≡ h + n + 1 = omega arith in
    ap (λ k. take k xs) next
    ∙ take_more xs (h + n) 0 (omega arith)
    ∙ ap (λ y. take (h + n) xs ++ y ∷ []) (z (h + n) (omega arith) (omega arith))
    ∙ ap (λ l. l ++ 0 ∷ []) (take_zeros xs h n (omega arith) (λ k low high. z k low (omega arith)))
    ∙ zeros_more (take h xs) n

reverse_zeros : (n : ℕ) → reverse {A = ℕ} (replicate n 0) ≡ replicate n 0
reverse_zeros zero = refl
reverse_zeros (suc n) =
    let one : n + 1 ≡ suc n = omega arith in
    reverse-append {A = ℕ} (0 ∷ []) (replicate n 0) ∙ ap (λ (l : List ℕ). l ++ 0 ∷ []) (reverse_zeros n) ∙ replicate-append-replicate n 1 0 ∙ ap (λ k. replicate k 0) one

pub part_clean : (cells grown part : List ℕ) (top z n : ℕ) (marks : List Bool) → AreClean cells marks → grown ≡ cells ++ replicate z 0 → part ≡ cleared grown top n → AreClean part marks
part_clean cells grown part top z n marks clean e f k h =
    subst (λ l. get_or l k 0 ≡ 0) (sym f) (stays_zero grown top n k (subst (λ l. get_or l k 0 ≡ 0) (sym e) (get_grown cells z k ∙ clean k h)))

-- what `put_zeros` leaves: the cells were first grown, then those up to a run's end made zero, and then whole runs
pub record ZerosPut (cells made : List ℕ) (top count : ℕ) (marks : List Bool) (room : ℕ) : Type 0 where
  pub keeps : AreValues made (top + count) marks room
  pub is : reverse (take (top + count) made) ≡ replicate count 0 ++ reverse (take top cells)

pub zeros_put : (cells grown part made : List ℕ) (top count first last z n : ℕ) (marks after : List Bool) (room space : ℕ)
    → AreValues cells top marks room → top + count ≤ 65536 → room ≤ space → top ≤ first * 64 → first ≤ last → top + count ≤ last * 64 → last * 64 < top + count + 64
    → grown ≡ cells ++ replicate z 0 → last * 64 ≤ length grown → length grown ≤ 65536
    → part ≡ cleared grown top n → ((k : ℕ) → top ≤ k → k < top + count → k < first * 64 → k < top + n)
    → (AreClean part marks → Cleaned part made after (first * 64) (last * 64)) → ZerosPut cells made top count after space
zeros_put cells grown part made top count first last z n marks after room space v few same low order high near e enough within f covers cleaned =
    let c = cleaned (part_clean cells grown part top z n marks v.clean e f) in
    let long : length made ≡ length grown = c.long ∙ ap length f ∙ cleared_long grown top n in
    let front : take top made ≡ take top cells =
    sym (take_twice top (first * 64) made low) ∙ ap (take top) c.below ∙ take_twice top (first * 64) part low ∙ ap (take top) f ∙ cleared_below grown top n top (omega arith) ∙ ap (take top) e ∙ take_grown cells (replicate z 0) top v.top_in in
    let zeros : (k : ℕ) → top ≤ k → k < top + count → get_or made k 0 ≡ 0 = λ k from to. ⊎_elim
    (λ before.
    sym (get_or-take (first * 64) made k 0 before) ∙ ap (λ l. get_or l k 0) c.below ∙ get_or-take (first * 64) part k 0 before
    ∙ ap (λ l. get_or l k 0) f ∙ becomes_zero grown top n k from (covers k from to before))
    (λ past. c.zeros k past (omega arith))
    (cases_lt k (first * 64)) in
    record {
      keeps = record { top_in = omega (arith, long); few = omega (arith, long); enough = omega (arith, v.enough, same); clean = c.clean };
      is =
          ap reverse (take_zeros made top count (omega (arith, long)) zeros)
          ∙ reverse-append (take top made) (replicate count 0)
          ∙ ap (λ l. l ++ reverse (take top made)) (reverse_zeros count)
          ∙ ap (λ l. replicate count 0 ++ reverse l) front;
    }

pub grown_within : (cells grown : List ℕ) (n most : ℕ) → grown ≡ cells ++ replicate (n - length cells) 0 → length cells ≤ most → n ≤ most → (n ≤ length grown) × (length grown ≤ most)
grown_within cells grown n most e few le =
    let long : length grown ≡ length cells + (n - length cells) = ap length e ∙ length-append cells (replicate (n - length cells) 0) ∙ ap (λ k. length cells + k) (length-replicate (n - length cells) 0) in
    (omega (arith, long), omega (arith, long))

-- the end of the run that holds a place
pub run_end : (x : ℕ) → (x ≤ div_ceil x 64 * 64) × (div_ceil x 64 * 64 < x + 64)
run_end x = (omega arith, omega arith)

-- a slice of all cells, written back
pub written_back : (xs ys : List ℕ) (n : ℕ) → n ≡ length xs → take n (xs ++ drop (length xs) ys) ≡ xs
written_back xs ys n e = ap (λ k. take k (xs ++ drop (length xs) ys)) e ∙ take-append_seam xs (drop (length xs) ys)
