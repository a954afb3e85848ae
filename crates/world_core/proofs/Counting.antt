-- How many events are offered, and which stands at a place.
use Rattle.std.proofs.Common.{◌≡◌, ℕ, zero, suc, ◌+◌, ◌-◌, ◌*◌, ◌<◌, ◌≤◌, Bool, true, false, cond, List, [], ◌∷◌, ◌++◌, Some, None, length, map, filter, drop, slice_get, option_map, get_or, inl, inr, refl, sym, ap, ap₂, ◌∙◌, subst, arith, length-append, drop-cons, add-one}
use Rattle.std.specs.List.{flat_map, range_with_len}
use Rattle.std.proofs.Math.ListN.{drop_of_length-le}
use Rattle.std.proofs.lemmas.Option.{slice_get_cases, slice_get_within}
use Rattle.session_meaning.specs.declared.event.Event.{Event}
use Rattle.session_meaning.specs.declared.event.Event.TheVariants.{Take, Ask, End}
use Rattle.session_meaning.proofs.Kept.{get_map}
use Rattle.world_core.specs.declared.floor.Floor.{Floor}
use Rattle.world_core.specs.declared.floor.Seat.{Seat}
use Rattle.world_core.specs.declared.floor.Stand.{Stand}
use Rattle.world_core.specs.declared.floor.Stand.TheVariants as stand
use Rattle.world_core.specs.declared.floor.Waiting.{Waiting}
use Rattle.world_core.specs.Floor.{asks_on, ends_on, has_stand, has_worker_on, may_take, offered_on, takes_at, takes_on}

abbrev pub takes_of : ℕ → Bool → List Waiting → List Event
takes_of hosts free qs = flat_map (λ (q : Waiting). takes_at hosts q.call) (filter (may_take free) qs)

-- ---- Lengths.

length_range : (n m : ℕ) → length (range_with_len n m) ≡ m
length_range n zero = refl
length_range n (suc m) = ap suc (length_range (n + 1) m)

length_mapped : {A B : Type 0} (f : A → B) (xs : List A) → length (map f xs) ≡ length xs
length_mapped f [] = refl
length_mapped f (x ∷ xs) = ap suc (length_mapped f xs)

length_takes_at : (hosts call : ℕ) → length (takes_at hosts call) ≡ hosts
length_takes_at hosts call = length_mapped (λ host. Take call host) (range_with_len 0 hosts) ∙ length_range 0 hosts

length_takes : (hosts : ℕ) (qs : List Waiting) → length (flat_map (λ (q : Waiting). takes_at hosts q.call) qs) ≡ length qs * hosts
length_takes hosts [] = sym (zero_times hosts)
  where
    zero_times : (n : ℕ) → 0 * n ≡ 0
    zero_times n = omega arith
length_takes hosts (q ∷ qs) =
    length-append (takes_at hosts q.call) (flat_map (λ (p : Waiting). takes_at hosts p.call) qs) ∙ (ap₂ (λ a b. a + b) (length_takes_at hosts q.call) (length_takes hosts qs) ∙ grind arith)

pub length_takes_on : (f : Floor) → length (takes_on f) ≡ length (filter (may_take (has_worker_on f)) f.queued.items) * f.hosts
length_takes_on f = length_takes f.hosts (filter (may_take (has_worker_on f)) f.queued.items)

pub count_so : (f : Floor) → length (offered_on f) ≡ length (filter (may_take (has_worker_on f)) f.queued.items) * f.hosts + length (filter (has_stand stand.Free) f.open.items) + length (filter (has_stand stand.Ended) f.open.items)
count_so f =
    length-append (takes_on f ++ asks_on f) (ends_on f)
    ∙ ap₂ (λ a b. a + b) (length-append (takes_on f) (asks_on f) ∙ ap₂ (λ a b. a + b) (length_takes_on f) (length_mapped (λ (s : Seat). Ask s.call) (filter (has_stand stand.Free) f.open.items))) (length_mapped (λ (s : Seat). End s.call) (filter (has_stand stand.Ended) f.open.items))

-- ---- Places.

pub before : {A : Type 0} (xs ys : List A) (i : ℕ) → i < length xs → slice_get (xs ++ ys) i ≡ slice_get xs i
before [] ys i h = absurd (omega (arith, h))
before (x ∷ xs) ys zero h = refl
before (x ∷ xs) ys (suc i) h = before xs ys i (omega arith)

pub behind : {A : Type 0} (xs ys : List A) (i : ℕ) → length xs ≤ i → slice_get (xs ++ ys) i ≡ slice_get ys (i - length xs)
behind [] ys i h = ap (slice_get ys) (omega arith)
behind (x ∷ xs) ys zero h = absurd (omega (arith, h))
behind (x ∷ xs) ys (suc i) h = behind xs ys i (omega arith) ∙ ap (slice_get ys) (omega arith)

ranged : (n m i : ℕ) → i < m → slice_get (range_with_len n m) i ≡ Some (n + i)
ranged n zero i h = absurd (omega (arith, h))
ranged n (suc m) zero h = ap (λ k. Some k) (omega arith)
ranged n (suc m) (suc i) h = ranged (n + 1) m i (omega arith) ∙ ap (λ k. Some k) (omega arith)

pub take_here : (hosts call host : ℕ) → host < hosts → slice_get (takes_at hosts call) host ≡ Some (Take call host)
take_here hosts call host h = get_map (λ k. Take call k) (range_with_len 0 hosts) host ∙ ap (option_map (λ k. Take call k)) (ranged 0 hosts host h) ∙ ap (λ k. Some (Take call k)) (omega arith)

-- the first of the calls that are left may be taken: at one of the hosts, or it is one of the others
pub first_taken : (hosts : ℕ) (free : Bool) (q : Waiting) (qs : List Waiting) (left : ℕ) → may_take free q ≡ true → left < hosts → slice_get (takes_of hosts free (q ∷ qs)) left ≡ Some (Take q.call left)
first_taken hosts free q qs left e h =
    ap (λ b. slice_get (flat_map (λ (p : Waiting). takes_at hosts p.call) (cond b (q ∷ filter (may_take free) qs) (filter (may_take free) qs))) left) e
    ∙ (before (takes_at hosts q.call) (takes_of hosts free qs) left (omega (arith, length_takes_at hosts q.call, h)) ∙ take_here hosts q.call left h)

pub later_taken : (hosts : ℕ) (free : Bool) (q : Waiting) (qs : List Waiting) (left : ℕ) → may_take free q ≡ true → hosts ≤ left → slice_get (takes_of hosts free (q ∷ qs)) left ≡ slice_get (takes_of hosts free qs) (left - hosts)
later_taken hosts free q qs left e h =
    ap (λ b. slice_get (flat_map (λ (p : Waiting). takes_at hosts p.call) (cond b (q ∷ filter (may_take free) qs) (filter (may_take free) qs))) left) e
    ∙ (behind (takes_at hosts q.call) (takes_of hosts free qs) left (omega (arith, length_takes_at hosts q.call, h)) ∙ ap (λ n. slice_get (takes_of hosts free qs) (left - n)) (length_takes_at hosts q.call))

pub not_taken : (hosts : ℕ) (free : Bool) (q : Waiting) (qs : List Waiting) (left : ℕ) → may_take free q ≡ false → slice_get (takes_of hosts free (q ∷ qs)) left ≡ slice_get (takes_of hosts free qs) left
not_taken hosts free q qs left e =
    ap (λ b. slice_get (flat_map (λ (p : Waiting). takes_at hosts p.call) (cond b (q ∷ filter (may_take free) qs) (filter (may_take free) qs))) left) e

abbrev pub no_call : Waiting
no_call = record { call = 0; awaited = false }

abbrev pub no_seat : Seat
no_seat = record { call = 0; stand = stand.Free }

-- ---- One step along a list, which the code knows under another name.

rest_first : {A : Type 0} (xs : List A) (i : ℕ) (d : A) → i < length xs → drop i xs ≡ get_or xs i d ∷ drop (i + 1) xs
rest_first xs i d h = drop-cons xs i d h ∙ ap (λ n. get_or xs i d ∷ drop n xs) (sym (add-one i))

step : {A : Type 0} (got xs : List A) (i : ℕ) (d : A) → got ≡ xs → i < length got → drop i xs ≡ get_or got i d ∷ drop (i + 1) xs
step got xs i d e h = subst (λ ys. drop i ys ≡ get_or got i d ∷ drop (i + 1) ys) e (rest_first got i d h)

pub take_found : (hosts : ℕ) (free : Bool) (got items : List Waiting) (i left : ℕ) (d : Waiting) → got ≡ items → i < length got → may_take free (get_or got i d) ≡ true → left < hosts → slice_get (takes_of hosts free (drop i items)) left ≡ Some (Take (get_or got i d).call left)
take_found hosts free got items i left d e h m l =
    ap (λ qs. slice_get (takes_of hosts free qs) left) (step got items i d e h) ∙ first_taken hosts free (get_or got i d) (drop (i + 1) items) left m l

pub take_later : (hosts : ℕ) (free : Bool) (got items : List Waiting) (i left : ℕ) (d : Waiting) → got ≡ items → i < length got → may_take free (get_or got i d) ≡ true → hosts ≤ left → slice_get (takes_of hosts free (drop i items)) left ≡ slice_get (takes_of hosts free (drop (i + 1) items)) (left - hosts)
take_later hosts free got items i left d e h m l =
    ap (λ qs. slice_get (takes_of hosts free qs) left) (step got items i d e h) ∙ later_taken hosts free (get_or got i d) (drop (i + 1) items) left m l

pub take_not : (hosts : ℕ) (free : Bool) (got items : List Waiting) (i left : ℕ) (d : Waiting) → got ≡ items → i < length got → may_take free (get_or got i d) ≡ false → slice_get (takes_of hosts free (drop i items)) left ≡ slice_get (takes_of hosts free (drop (i + 1) items)) left
take_not hosts free got items i left d e h m =
    ap (λ qs. slice_get (takes_of hosts free qs) left) (step got items i d e h) ∙ not_taken hosts free (get_or got i d) (drop (i + 1) items) left m

-- ---- The seats that stand so.

abbrev pub standing : Stand → List Seat → List Seat
standing p seats = filter (has_stand p) seats

pub seat_found : (p : Stand) (got items : List Seat) (i : ℕ) (d : Seat) → got ≡ items → i < length got → has_stand p (get_or got i d) ≡ true → slice_get (standing p (drop i items)) 0 ≡ Some (get_or got i d)
seat_found p got items i d e h m =
    ap (λ seats. slice_get (standing p seats) 0) (step got items i d e h) ∙ ap (λ b. slice_get (cond b (get_or got i d ∷ standing p (drop (i + 1) items)) (standing p (drop (i + 1) items))) 0) m

pub seat_later : (p : Stand) (got items : List Seat) (i left : ℕ) (d : Seat) → got ≡ items → i < length got → has_stand p (get_or got i d) ≡ true → 0 < left → slice_get (standing p (drop i items)) left ≡ slice_get (standing p (drop (i + 1) items)) (left - 1)
seat_later p got items i zero d e h m l = absurd (omega (arith, l))
seat_later p got items i (suc left) d e h m l =
    ap (λ seats. slice_get (standing p seats) (suc left)) (step got items i d e h) ∙ (ap (λ b. slice_get (cond b (get_or got i d ∷ standing p (drop (i + 1) items)) (standing p (drop (i + 1) items))) (suc left)) m ∙ ap (slice_get (standing p (drop (i + 1) items))) (omega arith))

pub seat_not : (p : Stand) (got items : List Seat) (i left : ℕ) (d : Seat) → got ≡ items → i < length got → has_stand p (get_or got i d) ≡ false → slice_get (standing p (drop i items)) left ≡ slice_get (standing p (drop (i + 1) items)) left
seat_not p got items i left d e h m =
    ap (λ seats. slice_get (standing p seats) left) (step got items i d e h) ∙ ap (λ b. slice_get (cond b (get_or got i d ∷ standing p (drop (i + 1) items)) (standing p (drop (i + 1) items))) left) m

-- a place below the length is no place of what is left at the end
pub seat_there : (p : Stand) (items : List Seat) (n i left : ℕ) → n < length (standing p items) → length items ≤ i → slice_get (standing p items) n ≡ slice_get (standing p (drop i items)) left → ⊥
seat_there p items n i left h l e =
    let past : slice_get (standing p (drop i items)) left ≡ None = ap (λ seats. slice_get (standing p seats) left) (drop_of_length-le items l) in
    elim (slice_get_cases (standing p items) n).1 [
      | inl x ↦ (let no : Some x.0 ≡ None = sym x.2 ∙ (e ∙ past) in let bad : ⊥ = cc in bad)
      | inr x ↦ omega (arith, h, x.0)
    ]

-- ---- The event at a place.

pub ends_before : {A : Type 0} (xs : List A) (i : ℕ) → slice_get xs i ≡ None → length xs ≤ i
ends_before xs i e =
    elim (slice_get_cases xs i).1 [
      | inl x ↦ (let no : Some x.0 ≡ None = sym x.2 ∙ e in let bad : ⊥ = cc in absurd bad)
      | inr x ↦ x.0
    ]

pub take_there : (f : Floor) (i : ℕ) (e : Event) → slice_get (takes_on f) i ≡ Some e → slice_get (offered_on f) i ≡ Some e
take_there f i e h =
    let inside = slice_get_within (takes_on f) i e h in
    before (takes_on f ++ asks_on f) (ends_on f) i (omega (arith, length-append (takes_on f) (asks_on f), inside)) ∙ (before (takes_on f) (asks_on f) i inside ∙ h)

called : (e : ℕ → Event) (seats : List Seat) (k call : ℕ) → k < length seats → ((s : Seat) → slice_get seats k ≡ Some s → call ≡ s.call) → slice_get (map (λ (s : Seat). e s.call) seats) k ≡ Some (e call)
called e seats k call h named =
    get_map (λ (s : Seat). e s.call) seats k ∙ by
  where
    by : option_map (λ (s : Seat). e s.call) (slice_get seats k) ≡ Some (e call)
    by = elim (slice_get_cases seats k).1 [
      | inl x ↦ ap (option_map (λ (s : Seat). e s.call)) x.2 ∙ ap (λ n. Some (e n)) (sym (named x.0 x.2))
      | inr x ↦ absurd (omega (arith, h, x.0))
    ]

pub ask_there : (f : Floor) (i call : ℕ) → length (takes_on f) ≤ i → i - length (takes_on f) < length (standing stand.Free f.open.items) → ((s : Seat) → slice_get (standing stand.Free f.open.items) (i - length (takes_on f)) ≡ Some s → call ≡ s.call) → slice_get (offered_on f) i ≡ Some (Ask call)
ask_there f i call h l named =
    let asks = length_mapped (λ (s : Seat). Ask s.call) (standing stand.Free f.open.items) in
    before (takes_on f ++ asks_on f) (ends_on f) i (omega (arith, length-append (takes_on f) (asks_on f), asks, h, l))
    ∙ (behind (takes_on f) (asks_on f) i h ∙ called (λ n. Ask n) (standing stand.Free f.open.items) (i - length (takes_on f)) call l named)

pub end_there : (f : Floor) (i call : ℕ) → length (takes_on f) ≤ i → length (standing stand.Free f.open.items) ≤ i - length (takes_on f) → i - length (takes_on f) - length (standing stand.Free f.open.items) < length (standing stand.Ended f.open.items) → ((s : Seat) → slice_get (standing stand.Ended f.open.items) (i - length (takes_on f) - length (standing stand.Free f.open.items)) ≡ Some s → call ≡ s.call) → slice_get (offered_on f) i ≡ Some (End call)
end_there f i call h k l named =
    let asks = length_mapped (λ (s : Seat). Ask s.call) (standing stand.Free f.open.items) in
    let both = length-append (takes_on f) (asks_on f) in
    let place : i - length (takes_on f ++ asks_on f) ≡ i - length (takes_on f) - length (standing stand.Free f.open.items) = omega (arith, both, asks) in
    behind (takes_on f ++ asks_on f) (ends_on f) i (omega (arith, both, asks, h, k))
    ∙ (ap (slice_get (ends_on f)) place ∙ called (λ n. End n) (standing stand.Ended f.open.items) (i - length (takes_on f) - length (standing stand.Free f.open.items)) call l named)

pub takes_count : (f : Floor) (n : ℕ) → n ≡ length (filter (may_take (has_worker_on f)) f.queued.items) → n * f.hosts ≡ length (takes_on f)
takes_count f n e = ap (λ k. k * f.hosts) e ∙ sym (length_takes_on f)

pub ask_here : (f : Floor) (i n call : ℕ) → n ≡ length (takes_on f) → length (takes_on f) ≤ i → i - n < length (standing stand.Free f.open.items) → ((s : Seat) → slice_get (standing stand.Free f.open.items) (i - n) ≡ Some s → call ≡ s.call) → slice_get (offered_on f) i ≡ Some (Ask call)
ask_here f i n call e h = subst (λ m. i - m < length (standing stand.Free f.open.items) → ((s : Seat) → slice_get (standing stand.Free f.open.items) (i - m) ≡ Some s → call ≡ s.call) → slice_get (offered_on f) i ≡ Some (Ask call)) (sym e) (ask_there f i call h)

-- behind the Takes and the Asks
pub record IsBehind (f : Floor) (i n a : ℕ) : Type 0 where
  pub takes : n ≡ length (takes_on f)
  pub asks : a ≡ length (standing stand.Free f.open.items)
  pub behind_takes : length (takes_on f) ≤ i
  pub behind_asks : a ≤ i - n
  pub within : i < length (offered_on f)

pub end_within : (f : Floor) (i n a : ℕ) → IsBehind f i n a → i - n - a < length (standing stand.Ended f.open.items)
end_within f i n a b =
    let all = length-append (takes_on f ++ asks_on f) (ends_on f) in
    let both = length-append (takes_on f) (asks_on f) in
    let asks = length_mapped (λ (s : Seat). Ask s.call) (standing stand.Free f.open.items) in
    let ends = length_mapped (λ (s : Seat). End s.call) (standing stand.Ended f.open.items) in
    omega (arith, all, both, asks, ends, b.takes, b.asks, b.behind_takes, b.behind_asks, b.within)

pub end_here : (f : Floor) (i n a call : ℕ) → IsBehind f i n a → ((s : Seat) → slice_get (standing stand.Ended f.open.items) (i - n - a) ≡ Some s → call ≡ s.call) → slice_get (offered_on f) i ≡ Some (End call)
end_here f i n a call b named =
    let same : i - n - a ≡ i - length (takes_on f) - length (standing stand.Free f.open.items) = ap₂ (λ x y. i - x - y) b.takes b.asks in
    end_there f i call b.behind_takes (omega (arith, b.takes, b.asks, b.behind_asks)) (subst (λ k. k < length (standing stand.Ended f.open.items)) same (end_within f i n a b)) (λ s e. named s (ap (slice_get (standing stand.Ended f.open.items)) same ∙ e))
