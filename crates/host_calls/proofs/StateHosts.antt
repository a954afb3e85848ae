-- The host calls on state with their arguments, and the order of their checks.
use Rattle.std.proofs.Common.{◌≡◌, ℕ, ◌<◌, ◌≤◌, Bool, true, false, not, List, [], ◌∷◌, Option, Some, None, length, refl, ap, arith, ◌∙◌, sym, subst}
use Rattle.std.specs.Prelude.{if◌then◌else◌, is_some, nat_lt, slice_get, ◌||◌}
use Rattle.std.proofs.lemmas.Bool.{ltb-true}
use Rattle.std.proofs.lemmas.Option.{slice_get_within}
use Rattle.faaslet_meaning.specs.declared.grant.Grant.{Grant}
use Rattle.faaslet_meaning.specs.declared.grant.Mode.{Mode}
use Rattle.faaslet_meaning.specs.declared.grant.Mode.TheVariants as mode
use Rattle.faaslet_meaning.specs.declared.outcome.Trap.{Trap}
use Rattle.faaslet_meaning.specs.declared.outcome.Trap.TheVariants.{BadKey, Denied, StateRange, LockMisuse, TooManyLocks, TooManyMappings, MapFull}
use Rattle.faaslet_meaning.specs.HostCalls.{HostCall}
use Rattle.faaslet_meaning.specs.Fine.{has_result}
use Rattle.faaslet_meaning.specs.Memory.{Memory, grant_limit, mapping_limit, may_map, key_pages}
use Rattle.faaslet_meaning.specs.MemoryRules.{granted, includes}
use Rattle.faaslet_meaning.specs.CallState.{Invocation, State, address_of}
use Rattle.faaslet_meaning.specs.Checks.{checks, first_trap, limit_checks, memory_checks, few_mappings, in_key, not_held, is_held as held_so, few_locks, holds, fits_in, key_size, lock_limit}
use Rattle.faaslet_meaning.specs.Operations.{operations, address_or_map}
use Rattle.host_calls.specs.declared.state_act.Put.{Put}
use Rattle.host_calls.specs.declared.state_act.Put.TheVariants as put
use Rattle.host_calls.specs.declared.state_host.StateHost.{StateHost}
use Rattle.host_calls.specs.declared.state_host.StateKind.{StateKind}
use Rattle.host_calls.specs.declared.state_host.StateKind.TheVariants as kind
use Rattle.host_calls.specs.declared.state_known.Known.{Known}
use Rattle.host_calls.specs.declared.state_known.PlaceKnown.{PlaceKnown}
use Rattle.host_calls.specs.declared.state_known.Tier.{Tier}
use Rattle.host_calls.specs.declared.state_known.Tier.TheVariants as tier
use Rattle.host_calls.specs.Acts.{act_put}
use Rattle.host_calls.specs.CallHosts.{HasShort}
use Rattle.host_calls.specs.Known.{kept, is_held, tier_of, place_of, KeepsOf}
use Rattle.host_calls.specs.Reads.{size_of}
use Rattle.host_calls.specs.StateHosts.{host_at, host_of, needs_of, range_trap, limit_of, refusal_of}
use Rattle.host_calls.specs.States.{acts_at, trap_at, stage_by, stage_of, IsFresh, IsBegun, act_gives, put_gives, gives_result}
use Rattle.host_calls.proofs.Hosts.{trap_first}
use Rattle.host_calls.proofs.Keeping.{held_is}

-- ---- place and mode

abbrev keyed : List Grant → ℕ → Mode → (ℕ → Option Trap) → Option Trap
keyed grants k m f = elim (slice_get grants k) as (λ _. Option Trap) [ None ↦ Some BadKey | Some g ↦ if includes g.mode m then f g.size else Some Denied ]

key_first : (grants : List Grant) (k : ℕ) (m : Mode) (rest : Option Trap) (f : ℕ → Option Trap) → ((g : Grant) → slice_get grants k ≡ Some g → rest ≡ f g.size) → (if is_some (slice_get grants k) then (if granted m (slice_get grants k) then rest else Some Denied) else Some BadKey) ≡ keyed grants k m f
key_first grants k m rest f h = by (slice_get grants k) refl
  where
    by : (o : Option Grant) → slice_get grants k ≡ o → (if is_some o then (if granted m o then rest else Some Denied) else Some BadKey) ≡ (elim o as (λ _. Option Trap) [ None ↦ Some BadKey | Some g ↦ if includes g.mode m then f g.size else Some Denied ])
    by None e = refl
    by (Some g) e = ap (λ r. if includes g.mode m then r else Some Denied) (h g e)

-- ---- ranges and limits

-- what is kept of a place that was granted
at_place : (j : Invocation) (s : State) (known : Known) (k : ℕ) (g : Grant) → KeepsOf known s → length j.program.grants ≤ grant_limit → slice_get j.program.grants k ≡ Some g → kept known k ≡ place_of s.present s.mapped s.locks k
at_place j s known k g h few e = let l = slice_get_within j.program.grants k g e in h.places k (omega (arith, l, few))

range_is : (j : Invocation) (s : State) (k off len : ℕ) (g : Grant) → slice_get j.program.grants k ≡ Some g → first_trap j s (in_key k off len ∷ []) ≡ range_trap off len g.size
range_is j s k off len g e = ap (λ (o : Option Grant). if fits_in off len (elim o as (λ _. Option ℕ) [ None ↦ None | Some x ↦ Some x.size ]) then None else Some StateRange) e

turned : (b : Bool) (x y : Option Trap) → (if not b then x else y) ≡ (if b then y else x)
turned true x y = refl
turned false x y = refl

lock_is : (j : Invocation) (s : State) (known : Known) (k : ℕ) (t : Tier) (g : Grant) → KeepsOf known s → length j.program.grants ≤ grant_limit → slice_get j.program.grants k ≡ Some g → first_trap j s (not_held (tier_of t) k ∷ few_locks ∷ []) ≡ (if is_held (kept known k) t then Some LockMisuse else (if nat_lt known.locks lock_limit then None else Some TooManyLocks))
lock_is j s known k t g h few e =
    turned (holds s (tier_of t) k) (if nat_lt (length s.locks) lock_limit then None else Some TooManyLocks) (Some LockMisuse)
    ∙ ap (λ (b : Bool). if b then Some LockMisuse else (if nat_lt (length s.locks) lock_limit then None else Some TooManyLocks)) (sym (ap (λ p. is_held p t) (at_place j s known k g h few e) ∙ held_is s.present s.mapped s.locks t k))
    ∙ ap (λ (n : ℕ). if is_held (kept known k) t then Some LockMisuse else (if nat_lt n lock_limit then None else Some TooManyLocks)) (sym h.locks)

unlock_is : (j : Invocation) (s : State) (known : Known) (k : ℕ) (t : Tier) (g : Grant) → KeepsOf known s → length j.program.grants ≤ grant_limit → slice_get j.program.grants k ≡ Some g → first_trap j s (held_so (tier_of t) k ∷ []) ≡ (if is_held (kept known k) t then None else Some LockMisuse)
unlock_is j s known k t g h few e =
    ap (λ (b : Bool). if b then None else Some LockMisuse) (sym (ap (λ p. is_held p t) (at_place j s known k g h few e) ∙ held_is s.present s.mapped s.locks t k))

map_is : (j : Invocation) (s : State) (known : Known) (k : ℕ) (g : Grant) → KeepsOf known s → length j.program.grants ≤ grant_limit → slice_get j.program.grants k ≡ Some g → first_trap j s (few_mappings k ∷ []) ≡ (if is_some (kept known k).address || nat_lt known.mappings mapping_limit then None else Some TooManyMappings)
map_is j s known k g h few e =
    ap (λ (p : PlaceKnown). if is_some p.address || nat_lt (length s.mapped) mapping_limit then None else Some TooManyMappings) (sym (at_place j s known k g h few e))
    ∙ ap (λ (n : ℕ). if is_some (kept known k).address || nat_lt n mapping_limit then None else Some TooManyMappings) (sym h.mappings)

pub refused : (j : Invocation) (s : State) (known : Known) (k : ℕ) (x : StateKind) → KeepsOf known s → length j.program.grants ≤ grant_limit → first_trap j s (limit_checks (host_at k x)) ≡ refusal_of j.program.grants known (record { place = k; kind = x })
refused j s known k x h few = by x
  where
    at : (m : Mode) (rest : Option Trap) (f : ℕ → Option Trap) → ((g : Grant) → slice_get j.program.grants k ≡ Some g → rest ≡ f g.size) → (if is_some (slice_get j.program.grants k) then (if granted m (slice_get j.program.grants k) then rest else Some Denied) else Some BadKey) ≡ keyed j.program.grants k m f
    at m rest f r = key_first j.program.grants k m rest f r

    by : (x : StateKind) → first_trap j s (limit_checks (host_at k x)) ≡ refusal_of j.program.grants known (record { place = k; kind = x })
    by kind.Size = at mode.Read None (λ n. limit_of known k n kind.Size) (λ g e. refl)
    by kind.Used = at mode.Read None (λ n. limit_of known k n kind.Used) (λ g e. refl)
    by kind.Get = at mode.Read _ (λ n. limit_of known k n kind.Get) (λ g e. map_is j s known k g h few e)
    by (kind.Read off ptr len) = at mode.Read _ (λ n. limit_of known k n (kind.Read off ptr len)) (λ g e. range_is j s k off len g e)
    by (kind.Set off ptr len) = at mode.Write _ (λ n. limit_of known k n (kind.Set off ptr len)) (λ g e. range_is j s k off len g e)
    by kind.Push = at mode.Write None (λ n. limit_of known k n kind.Push) (λ g e. refl)
    by kind.Pull = at mode.Write None (λ n. limit_of known k n kind.Pull) (λ g e. refl)
    by (kind.PushPart off len) = at mode.Write _ (λ n. limit_of known k n (kind.PushPart off len)) (λ g e. range_is j s k off len g e)
    by (kind.PullPart off len) = at mode.Write _ (λ n. limit_of known k n (kind.PullPart off len)) (λ g e. range_is j s k off len g e)
    by (kind.Append ptr len) = at mode.Write None (λ n. limit_of known k n (kind.Append ptr len)) (λ g e. refl)
    by (kind.Lock tier.Local mode.Read) = at mode.Read _ (λ n. limit_of known k n (kind.Lock tier.Local mode.Read)) (λ g e. lock_is j s known k tier.Local g h few e)
    by (kind.Lock tier.Local mode.Write) = at mode.Write _ (λ n. limit_of known k n (kind.Lock tier.Local mode.Write)) (λ g e. lock_is j s known k tier.Local g h few e)
    by (kind.Lock tier.Global mode.Read) = at mode.Read _ (λ n. limit_of known k n (kind.Lock tier.Global mode.Read)) (λ g e. lock_is j s known k tier.Global g h few e)
    by (kind.Lock tier.Global mode.Write) = at mode.Write _ (λ n. limit_of known k n (kind.Lock tier.Global mode.Write)) (λ g e. lock_is j s known k tier.Global g h few e)
    by (kind.Unlock tier.Local) = at mode.Read _ (λ n. limit_of known k n (kind.Unlock tier.Local)) (λ g e. unlock_is j s known k tier.Local g h few e)
    by (kind.Unlock tier.Global) = at mode.Read _ (λ n. limit_of known k n (kind.Unlock tier.Global)) (λ g e. unlock_is j s known k tier.Global g h few e)

pub refuses : (j : Invocation) (s : State) (grants : List Grant) (known : Known) (x : StateHost) (h : HostCall) (t : Trap) → KeepsOf known s → j.program.grants ≡ grants → length grants ≤ grant_limit → h ≡ host_of x → refusal_of grants known x ≡ Some t → first_trap j s (checks h) ≡ Some t
refuses j s grants known x h t k g few e r =
    ap (λ y. first_trap j s (checks y)) e
    ∙ trap_first j s (limit_checks (host_of x)) (memory_checks (host_of x)) t (refused j s known x.place x.kind k (omega (arith, few, ap length g)) ∙ ap (λ gs. refusal_of gs known x) g ∙ r)

-- ---- where nothing is refused

pub record Passed (grants : List Grant) (known : Known) (k : ℕ) (x : StateKind) : Type 0 where
  pub grant : Grant
  pub found : slice_get grants k ≡ Some grant
  pub limit : limit_of known k grant.size x ≡ None

pub passed : (grants : List Grant) (known : Known) (k : ℕ) (x : StateKind) → refusal_of grants known (record { place = k; kind = x }) ≡ None → Passed grants known k x
passed grants known k x r = by (slice_get grants k) refl r
  where
    inner : (g : Grant) → slice_get grants k ≡ Some g → (b : Bool) → (if b then limit_of known k g.size x else Some Denied) ≡ None → Passed grants known k x
    inner g e true r = record { grant = g; found = e; limit = r }
    inner g e false r = absurd (cc)

    by : (o : Option Grant) → slice_get grants k ≡ o → (elim o as (λ _. Option Trap) [ None ↦ Some BadKey | Some g ↦ if includes g.mode (needs_of x) then limit_of known k g.size x else Some Denied ]) ≡ None → Passed grants known k x
    by None e r = absurd (cc)
    by (Some g) e r = inner g e (includes g.mode (needs_of x)) r

address_acts : (k n : ℕ) (o : Option ℕ) → address_or_map k o ≡ acts_at (stage_by k n o kind.Get)
address_acts k n None = refl
address_acts k n (Some a) = refl

acts_are : (j : Invocation) (s : State) (known : Known) (k : ℕ) (x : StateKind) → (kept known k).address ≡ address_of s k → operations j s (host_at k x) ≡ acts_at (stage_by k (key_size j k) (kept known k).address x)
acts_are j s known k kind.Size e = refl
acts_are j s known k kind.Used e = refl
acts_are j s known k kind.Get e = ap (address_or_map k) (sym e) ∙ address_acts k (key_size j k) (kept known k).address
acts_are j s known k (kind.Read off ptr len) e = refl
acts_are j s known k (kind.Set off ptr len) e = refl
acts_are j s known k kind.Push e = refl
acts_are j s known k kind.Pull e = refl
acts_are j s known k (kind.PushPart off len) e = refl
acts_are j s known k (kind.PullPart off len) e = refl
acts_are j s known k (kind.Append ptr len) e = refl
acts_are j s known k (kind.Lock tier.Local mode.Read) e = refl
acts_are j s known k (kind.Lock tier.Local mode.Write) e = refl
acts_are j s known k (kind.Lock tier.Global mode.Read) e = refl
acts_are j s known k (kind.Lock tier.Global mode.Write) e = refl
acts_are j s known k (kind.Unlock tier.Local) e = refl
acts_are j s known k (kind.Unlock tier.Global) e = refl

pages_trap : (grants : List Grant) (m : Memory) (k n : ℕ) (o : Option ℕ) → n ≡ size_of grants k → (if is_some o || may_map m (key_pages n) then None else Some MapFull) ≡ trap_at (stage_by k n o kind.Get) grants m
pages_trap grants m k n None e = ap (λ i. if may_map m (key_pages i) then None else Some MapFull) e
pages_trap grants m k n (Some a) e = refl

traps_are : (j : Invocation) (s : State) (known : Known) (k : ℕ) (x : StateKind) → (kept known k).address ≡ address_of s k → first_trap j s (memory_checks (host_at k x)) ≡ trap_at (stage_by k (key_size j k) (kept known k).address x) j.program.grants s.config.memory
traps_are j s known k kind.Size e = refl
traps_are j s known k kind.Used e = refl
traps_are j s known k kind.Get e =
    ap (λ (o : Option ℕ). if is_some o || may_map s.config.memory (key_pages (key_size j k)) then None else Some MapFull) (sym e)
    ∙ pages_trap j.program.grants s.config.memory k (key_size j k) (kept known k).address refl
traps_are j s known k (kind.Read off ptr len) e = refl
traps_are j s known k (kind.Set off ptr len) e = refl
traps_are j s known k kind.Push e = refl
traps_are j s known k kind.Pull e = refl
traps_are j s known k (kind.PushPart off len) e = refl
traps_are j s known k (kind.PullPart off len) e = refl
traps_are j s known k (kind.Append ptr len) e = refl
traps_are j s known k (kind.Lock tier.Local mode.Read) e = refl
traps_are j s known k (kind.Lock tier.Local mode.Write) e = refl
traps_are j s known k (kind.Lock tier.Global mode.Read) e = refl
traps_are j s known k (kind.Lock tier.Global mode.Write) e = refl
traps_are j s known k (kind.Unlock tier.Local) e = refl
traps_are j s known k (kind.Unlock tier.Global) e = refl

pub begins : (j : Invocation) (s : State) (grants : List Grant) (known : Known) (x : StateHost) (h : HostCall) → KeepsOf known s → j.program.grants ≡ grants → length grants ≤ grant_limit → h ≡ host_of x → refusal_of grants known x ≡ None → IsBegun (stage_of grants known x) j s h
begins j s grants known x h k g few e r =
    let here = subst (λ gs. refusal_of gs known x ≡ None) (sym g) r in
    let own : length j.program.grants ≤ grant_limit = omega (arith, few, ap length g) in
    let p = passed j.program.grants known x.place x.kind here in
    let a : (kept known x.place).address ≡ address_of s x.place = ap (λ (y : PlaceKnown). y.address) (at_place j s known x.place p.grant k own p.found) in
    subst (IsBegun (stage_of grants known x) j s) (sym e)
    (subst (λ gs. IsBegun (stage_of gs known x) j s (host_of x)) g (record {
      acts = acts_are j s known x.place x.kind a;
      passed = refused j s known x.place x.kind k own ∙ here;
      memory = traps_are j s known x.place x.kind a;
    }))

few_is : (b : Bool) (t : Trap) → (if b then None else Some t) ≡ None → b ≡ true
few_is true t e = refl
few_is false t e = absurd (cc)

lock_free : (b c : Bool) → (if b then Some LockMisuse else (if c then None else Some TooManyLocks)) ≡ None → (b ≡ false) × (c ≡ true)
lock_free true c e = absurd (cc)
lock_free false true e = (refl, refl)
lock_free false false e = absurd (cc)

fresh_get : (known : Known) (k n count : ℕ) (o : Option ℕ) → k < count → (if is_some o || nat_lt known.mappings mapping_limit then None else Some TooManyMappings) ≡ None → IsFresh (stage_by k n o kind.Get) count known
fresh_get known k n count None l e = (l, ltb-true _ _ (few_is (nat_lt known.mappings mapping_limit) TooManyMappings e))
fresh_get known k n count (Some a) l e = tt

pub is_fresh : (grants : List Grant) (known : Known) (k n : ℕ) (x : StateKind) → HasShort (host_at k x) → Passed grants known k x → IsFresh (stage_by k n (kept known k).address x) (length grants) known
is_fresh grants known k n x short p = by x short p.limit
  where
    below : k < length grants
    below = slice_get_within grants k p.grant p.found

    by : (x : StateKind) → HasShort (host_at k x) → limit_of known k p.grant.size x ≡ None → IsFresh (stage_by k n (kept known k).address x) (length grants) known
    by kind.Size s e = tt
    by kind.Used s e = (below, tt)
    by kind.Get s e = fresh_get known k n (length grants) (kept known k).address below e
    by (kind.Read off ptr len) s e = (below, record { none = refl; short = s })
    by (kind.Set off ptr len) s e = (below, record { none = refl; short = s })
    by kind.Push s e = (below, tt)
    by kind.Pull s e = (below, tt)
    by (kind.PushPart off len) s e = (below, tt)
    by (kind.PullPart off len) s e = (below, tt)
    by (kind.Append ptr len) s e = (below, record { none = refl; short = s })
    by (kind.Lock t m) s e = let f = lock_free (is_held (kept known k) t) (nat_lt known.locks lock_limit) e in (below, (f.0, ltb-true _ _ f.1))
    by (kind.Unlock t) s e = (below, few_is (is_held (kept known k) t) LockMisuse e)

-- ---- results

got_gives : (k n : ℕ) (address : Option ℕ) → gives_result (stage_by k n address kind.Get) ≡ true
got_gives k n None = refl
got_gives k n (Some a) = refl

lock_gives : (t : Tier) (m : Mode) (k : ℕ) → false ≡ has_result (host_at k (kind.Lock t m))
lock_gives tier.Local mode.Read k = refl
lock_gives tier.Local mode.Write k = refl
lock_gives tier.Global mode.Read k = refl
lock_gives tier.Global mode.Write k = refl

unlock_gives : (t : Tier) (k : ℕ) → false ≡ has_result (host_at k (kind.Unlock t))
unlock_gives tier.Local k = refl
unlock_gives tier.Global k = refl

-- it ends with a result where its type has one
pub gives_is : (k n : ℕ) (address : Option ℕ) (x : StateKind) → gives_result (stage_by k n address x) ≡ has_result (host_at k x)
gives_is k n address kind.Size = refl
gives_is k n address kind.Used = refl
gives_is k n address kind.Get = got_gives k n address
gives_is k n address (kind.Read off ptr len) = refl
gives_is k n address (kind.Set off ptr len) = refl
gives_is k n address kind.Push = refl
gives_is k n address kind.Pull = refl
gives_is k n address (kind.PushPart off len) = refl
gives_is k n address (kind.PullPart off len) = refl
gives_is k n address (kind.Append ptr len) = refl
gives_is k n address (kind.Lock t m) = lock_gives t m k
gives_is k n address (kind.Unlock t) = unlock_gives t k

pub put_gives_is : (p : Put) (len : ℕ) → act_gives (act_put p len) ≡ put_gives p
put_gives_is (put.At off) len = refl
put_gives_is put.Behind len = refl
