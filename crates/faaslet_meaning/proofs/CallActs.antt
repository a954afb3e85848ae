-- What is left of a host call rests on facts that its checks made sure of, up to the act that uses each of them.
use Rattle.std.proofs.Common.{◌≡◌, ℕ, ◌+◌, ◌*◌, ◌<◌, ◌≤◌, List, [], ◌∷◌, length, refl, ap, arith, None, Some, Option, Bool, true, false, cond}
use Rattle.std.specs.Prelude.{IsTrue, is_some, find, not, option_map, nat_lt, unwrap_or, ◌==◌, ◌||◌}
use Rattle.std.proofs.lemmas.Bool.{leb-true, ltb-true, le-leb}
use Rattle.std.proofs.lemmas.Option.{slice_get_within}
use Rattle.faaslet_meaning.specs.declared.grant.Grant.{Grant}
use Rattle.faaslet_meaning.specs.Memory.{lies_in, size_of, may_map, page_size, page_limit, mapping_limit, pages_of, key_pages, Segment, Access, reads, writes}
use Rattle.faaslet_meaning.specs.HostCalls.{HostCall, state_size, state_used, get_state, read_state, set_state, push_state, pull_state, push_state_offset, pull_state_offset, append_state, lock_state_read, lock_state_write, unlock_state, lock_global_read, lock_global_write, unlock_global, input_size, read_input, write_output, chain_call, await_call, output_size, read_output, buffer_of}
use Rattle.faaslet_meaning.specs.ControlRules.{buffer_limit}
use Rattle.faaslet_meaning.specs.CallState.{Invocation, Tier, local, global, Lock, Act, presence, fill, buffer_in, buffer_out, passing, local_read, local_write, push, pull, used, append, map, lock_read, lock_write, unlock, take_input, give_output, submit, await, look, gives, State, grant_at, is_lock, address_of}
use Rattle.faaslet_meaning.specs.Checks.{lock_limit, Check, checks, passes, trap_of, first_trap, fits_in, size_at, key_size}
use Rattle.faaslet_meaning.specs.Operations.{operations, address_or_map}
use Rattle.std.proofs.Math.Dec.{eqb_refl}
use Rattle.faaslet_meaning.proofs.One.{from_test}
use Rattle.faaslet_meaning.proofs.StepWalk.{IsShort}
use Rattle.faaslet_meaning.proofs.CallMemory.{AccessFits}

-- what acts read of a state, but for the places seen present
pub record Base : Type 0 where
  pub pages : ℕ
  pub mapped : List (ℕ × ℕ)
  pub locks : List Lock
  pub put : ℕ
  pub children : ℕ

abbrev pub base_over : State → List Segment → ℕ → Base
base_over s segments children = record { pages = pages_of segments; mapped = s.mapped; locks = s.locks; put = length s.output; children = children }

abbrev pub base : State → Base
base s = base_over s s.config.memory.segments (length s.children)

abbrev pub has : List ℕ → ℕ → Bool
has present k = is_some (find (λ p. p == k) present)

abbrev pub held_lock : List Lock → Tier → ℕ → Bool
held_lock locks t k = is_some (find (is_lock t k) locks)

-- so many bytes from off on lie in the key
abbrev pub InKey : Invocation → ℕ → ℕ → ℕ → Type 0
InKey j k off len = IsTrue (fits_in off len (size_at j k))

abbrev pub IsGranted : Invocation → ℕ → Type 0
IsGranted j k = k < length j.program.grants

pub record MapFits (b : Base) (n k : ℕ) : Type 0 where
  pub new : find (λ m. m.0 == k) b.mapped ≡ None
  pub few : length b.mapped < mapping_limit
  pub pages : b.pages + n ≤ page_limit

pub record LockFits (j : Invocation) (b : Base) (t : Tier) (k : ℕ) : Type 0 where
  pub granted : IsGranted j k
  pub new : find (is_lock t k) b.locks ≡ None
  pub few : length b.locks < lock_limit

-- a buffer that lies in memory
pub record BufferFits (b : Base) (ptr len : ℕ) : Type 0 where
  pub short : len ≤ buffer_limit
  pub inside : ptr + len ≤ b.pages * page_size

-- at most so many bytes are held after a buffer
abbrev pub held_after : ℕ → Access → ℕ
held_after n (reads at m left copy) = m
held_after n (writes left bytes) = n

module _ (j : Invocation) (b : Base) where
  -- with these places seen present by then, and at most so many bytes held
  abbrev pub ActsFit : List ℕ → ℕ → List Act → Type 0
  ActsFit ps n [] = Unit {0}
  ActsFit ps n (presence k ∷ xs) = IsGranted j k × ActsFit (k ∷ ps) n xs
  ActsFit ps n (fill k ∷ xs) = IsGranted j k × ActsFit (k ∷ ps) n xs
  ActsFit ps n (buffer_in ptr len ∷ xs) = BufferFits b ptr len × ActsFit ps len xs
  ActsFit ps n (buffer_out ptr len ∷ xs) = BufferFits b ptr len × ActsFit ps n xs
  ActsFit ps n (passing a ∷ xs) = AccessFits a × ActsFit ps (held_after n a) xs
  ActsFit ps n (local_read k off len ∷ xs) = InKey j k off len × ((m : ℕ) → ActsFit ps m xs)
  ActsFit ps n (local_write k off ∷ xs) = ((len : ℕ) × InKey j k off len) × (n ≤ buffer_limit) × ActsFit ps n xs
  ActsFit ps n (push k off len ∷ xs) = InKey j k off len × ActsFit ps n xs
  ActsFit ps n (pull k off len ∷ xs) = InKey j k off len × ActsFit ps n xs
  ActsFit ps n (used k ∷ xs) = ActsFit ps n xs
  ActsFit ps n (append k ∷ xs) = (n ≤ buffer_limit) × ActsFit ps n xs
  ActsFit ps n (map k ∷ xs) = IsGranted j k × MapFits b (key_pages (key_size j k)) k × (has ps k ≡ true) × (xs ≡ [])
  ActsFit ps n (lock_read t k ∷ xs) = LockFits j b t k × (xs ≡ [])
  ActsFit ps n (lock_write t k ∷ xs) = LockFits j b t k × (xs ≡ [])
  ActsFit ps n (unlock t k ∷ xs) = (held_lock b.locks t k ≡ true) × (xs ≡ [])
  ActsFit ps n (take_input off len ∷ xs) = (m : ℕ) → ActsFit ps m xs
  ActsFit ps n (give_output ∷ xs) = (b.put + n ≤ j.room) × (xs ≡ [])
  ActsFit ps n (submit f ∷ xs) = (n ≤ buffer_limit) × (xs ≡ [])
  ActsFit ps n (await c ∷ xs) = (c < b.children) × (xs ≡ [])
  ActsFit ps n (look c off len ∷ xs) = (c < b.children) × ((m : ℕ) → ActsFit ps m xs)
  ActsFit ps n (gives v ∷ xs) = ActsFit ps n xs

  -- more may have been seen
  pub seen_more : (xs : List Act) (ps qs : List ℕ) (n : ℕ) → ((m : ℕ) → has ps m ≡ true → has qs m ≡ true) → ActsFit ps n xs → ActsFit qs n xs
  seen_more [] ps qs n k h = tt
  seen_more (presence m ∷ xs) ps qs n k h = (h.0, seen_more xs (m ∷ ps) (m ∷ qs) n (both m) h.1)
    where
      both : (m i : ℕ) → has (m ∷ ps) i ≡ true → has (m ∷ qs) i ≡ true
      both m i = by (m == i)
        where
          by : (b : Bool) → is_some (cond b (Some m) (find (λ p. p == i) ps)) ≡ true → is_some (cond b (Some m) (find (λ p. p == i) qs)) ≡ true
          by true e = refl
          by false e = k i e
  seen_more (fill m ∷ xs) ps qs n k h = (h.0, seen_more xs (m ∷ ps) (m ∷ qs) n (both m) h.1)
    where
      both : (m i : ℕ) → has (m ∷ ps) i ≡ true → has (m ∷ qs) i ≡ true
      both m i = by (m == i)
        where
          by : (b : Bool) → is_some (cond b (Some m) (find (λ p. p == i) ps)) ≡ true → is_some (cond b (Some m) (find (λ p. p == i) qs)) ≡ true
          by true e = refl
          by false e = k i e
  seen_more (buffer_in ptr len ∷ xs) ps qs n k h = (h.0, seen_more xs ps qs len k h.1)
  seen_more (buffer_out ptr len ∷ xs) ps qs n k h = (h.0, seen_more xs ps qs n k h.1)
  seen_more (passing a ∷ xs) ps qs n k h = (h.0, seen_more xs ps qs (held_after n a) k h.1)
  seen_more (local_read m off len ∷ xs) ps qs n k h = (h.0, λ i. seen_more xs ps qs i k (h.1 i))
  seen_more (local_write m off ∷ xs) ps qs n k h = (h.0, h.1, seen_more xs ps qs n k h.2)
  seen_more (push m off len ∷ xs) ps qs n k h = (h.0, seen_more xs ps qs n k h.1)
  seen_more (pull m off len ∷ xs) ps qs n k h = (h.0, seen_more xs ps qs n k h.1)
  seen_more (used m ∷ xs) ps qs n k h = seen_more xs ps qs n k h
  seen_more (append m ∷ xs) ps qs n k h = (h.0, seen_more xs ps qs n k h.1)
  seen_more (map m ∷ xs) ps qs n k h = (h.0, h.1, k m h.2, h.3)
  seen_more (lock_read t m ∷ xs) ps qs n k h = h
  seen_more (lock_write t m ∷ xs) ps qs n k h = h
  seen_more (unlock t m ∷ xs) ps qs n k h = h
  seen_more (take_input off len ∷ xs) ps qs n k h = λ i. seen_more xs ps qs i k (h i)
  seen_more (give_output ∷ xs) ps qs n k h = h
  seen_more (submit f ∷ xs) ps qs n k h = h
  seen_more (await c ∷ xs) ps qs n k h = h
  seen_more (look c off len ∷ xs) ps qs n k h = (h.0, λ i. seen_more xs ps qs i k (h.1 i))
  seen_more (gives v ∷ xs) ps qs n k h = seen_more xs ps qs n k h

-- ---- The checks

abbrev pub AllPass : Invocation → State → List Check → Type 0
AllPass j s [] = Unit {0}
AllPass j s (c ∷ cs) = IsTrue (passes j s c) × AllPass j s cs

pub all_pass : (j : Invocation) (s : State) (cs : List Check) → first_trap j s cs ≡ None → AllPass j s cs
all_pass j s [] e = tt
all_pass j s (c ∷ cs) e = by (passes j s c) e (λ f. all_pass j s cs f)
  where
    by : (b : Bool) → cond b (first_trap j s cs) (Some (trap_of c)) ≡ None → (first_trap j s cs ≡ None → AllPass j s cs) → IsTrue b × AllPass j s cs
    by true f r = (refl, r f)
    by false f r = absurd (cc)

-- a place that has a grant is within the list
pub granted_within : (j : Invocation) (k : ℕ) → IsTrue (is_some (grant_at j k)) → IsGranted j k
granted_within j k e = by (grant_at j k) refl e
  where
    by : (o : Option Grant) → grant_at j k ≡ o → IsTrue (is_some o) → IsGranted j k
    by None g h = absurd (cc)
    by (Some x) g h = slice_get_within j.program.grants k x g

-- the whole of a key lies in it
pub whole_key : (j : Invocation) (k : ℕ) → IsTrue (is_some (grant_at j k)) → InKey j k 0 (key_size j k)
whole_key j k e = by (grant_at j k) e
  where
    by : (o : Option Grant) → IsTrue (is_some o) → IsTrue (fits_in 0 (unwrap_or (elim o as (λ _. Option ℕ) [ None ↦ None | Some g ↦ Some g.size ]) 0) (elim o as (λ _. Option ℕ) [ None ↦ None | Some g ↦ Some g.size ]))
    by None h = absurd (cc)
    by (Some g) h = le-leb (0 + g.size) g.size (omega arith)

-- ---- What each host call does rests on what its checks say

none_held : (locks : List Lock) (t : Tier) (k : ℕ) → IsTrue (not (is_some (find (is_lock t k) locks))) → find (is_lock t k) locks ≡ None
none_held locks t k e = by (find (is_lock t k) locks) e
  where
    by : (o : Option Lock) → IsTrue (not (is_some o)) → o ≡ None
    by None h = refl
    by (Some l) h = absurd (cc)

has_first : (k : ℕ) (ps : List ℕ) → has (k ∷ ps) k ≡ true
has_first k ps = ap (λ b. is_some (cond b (Some k) (find (λ p. p == k) ps))) (from_test (k == k) (eqb_refl k))

module _ (j : Invocation) (s : State) where
  lock_fits : (t : Tier) (k : ℕ) → IsTrue (is_some (grant_at j k)) → IsTrue (not (held_lock s.locks t k)) → IsTrue (nat_lt (length s.locks) lock_limit) → LockFits j (base s) t k
  lock_fits t k g n l = record { granted = granted_within j k g; new = none_held s.locks t k n; few = ltb-true (length s.locks) lock_limit l }

  buffer_fits : (ptr len : ℕ) → IsTrue (lies_in s.config.memory ptr len) → len ≤ buffer_limit → BufferFits (base s) ptr len
  buffer_fits ptr len e l = record { short = l; inside = leb-true (ptr + len) (size_of s.config.memory) e }

  no_address : (k : ℕ) → address_of s k ≡ None → find (λ m. m.0 == k) s.mapped ≡ None
  no_address k e = by (find (λ m. m.0 == k) s.mapped) e
    where
      by : (o : Option (ℕ × ℕ)) → option_map (λ m. m.1) o ≡ None → o ≡ None
      by None h = refl
      by (Some m) h = absurd (cc)

  map_fits : (k : ℕ) (o : Option ℕ) → address_of s k ≡ o → IsTrue (is_some (grant_at j k)) → IsTrue (is_some o || nat_lt (length s.mapped) mapping_limit) → IsTrue (is_some o || may_map s.config.memory (key_pages (key_size j k))) → ActsFit j (base s) s.present 0 (address_or_map k o)
  map_fits k (Some a) e g l m = tt
  map_fits k None e g l m =
      let granted = granted_within j k g in
      (granted, (granted, record { new = no_address k e; few = ltb-true (length s.mapped) mapping_limit l; pages = leb-true (pages_of s.config.memory.segments + key_pages (key_size j k)) page_limit m }, has_first k s.present, refl))

  pub operations_fit : (h : HostCall) → AllPass j s (checks h) → IsShort (buffer_of h) → ActsFit j (base s) s.present 0 (operations j s h)
  operations_fit (state_size k) h l = tt
  operations_fit (state_used k) h l = tt
  operations_fit (get_state k) h l = map_fits k (address_of s k) refl h.0 h.1.1.0 h.1.1.1.0
  operations_fit (read_state k off ptr len) h l = (granted_within j k h.0, (h.1.1.0, λ m. (buffer_fits ptr len h.1.1.1.0 l, tt)))
  operations_fit (set_state k off ptr len) h l = (buffer_fits ptr len h.1.1.1.0 l, (granted_within j k h.0, ((len, h.1.1.0), l, tt)))
  operations_fit (push_state k) h l = (granted_within j k h.0, (whole_key j k h.0, tt))
  operations_fit (pull_state k) h l = (granted_within j k h.0, (whole_key j k h.0, tt))
  operations_fit (push_state_offset k off len) h l = (granted_within j k h.0, (h.1.1.0, tt))
  operations_fit (pull_state_offset k off len) h l = (granted_within j k h.0, (h.1.1.0, tt))
  operations_fit (append_state k ptr len) h l = (buffer_fits ptr len h.1.1.0 l, (l, tt))
  operations_fit (lock_state_read k) h l = (lock_fits local k h.0 h.1.1.0 h.1.1.1.0, refl)
  operations_fit (lock_state_write k) h l = (lock_fits local k h.0 h.1.1.0 h.1.1.1.0, refl)
  operations_fit (unlock_state k) h l = (h.1.1.0, refl)
  operations_fit (lock_global_read k) h l = (lock_fits global k h.0 h.1.1.0 h.1.1.1.0, refl)
  operations_fit (lock_global_write k) h l = (lock_fits global k h.0 h.1.1.0 h.1.1.1.0, refl)
  operations_fit (unlock_global k) h l = (h.1.1.0, refl)
  operations_fit input_size h l = tt
  operations_fit (read_input off ptr len) h l = λ m. (buffer_fits ptr len h.1.0 l, tt)
  operations_fit (write_output ptr len) h l = (buffer_fits ptr len h.1.0 l, (leb-true (length s.output + len) j.room h.0, refl))
  operations_fit (chain_call f ptr len) h l = (buffer_fits ptr len h.1.0 l, (l, refl))
  operations_fit (await_call c) h l = (ltb-true c (length s.children) h.0, refl)
  operations_fit (output_size c) h l = tt
  operations_fit (read_output c off ptr len) h l = (ltb-true c (length s.children) h.0, λ m. (buffer_fits ptr len h.1.1.1.0 l, tt))
