-- What a call keeps of its keys and its locks, place by place, and when that is what the definition's state has. This project's
-- own.
use Rattle.std.specs.Prelude.{◌≡◌, ℕ, ◌+◌, ◌-◌, ◌<◌, Bool, true, false, List, [], ◌∷◌, ◌++◌, Option, Some, None, length, find, is_some, option_map, replicate, slice_index_or, slice_set, ◌==◌, if◌then◌else◌}
use Rattle.faaslet_meaning.specs.CallState as definition
use Rattle.faaslet_meaning.specs.CallState.{Lock, State, local, global, is_lock}
use Rattle.faaslet_meaning.specs.Memory.{grant_limit}
use Rattle.faaslet_meaning.specs.Formed.{AllDiffer, same_lock}
use Rattle.host_calls.specs.declared.state_known.Known.{Known}
use Rattle.host_calls.specs.declared.state_known.PlaceKnown.{PlaceKnown}
use Rattle.host_calls.specs.declared.state_known.Tier.{Tier}
use Rattle.host_calls.specs.declared.state_known.Tier.TheVariants as tier

-- ---- what is kept

abbrev pub unknown : PlaceKnown
unknown = record { present = false; address = None; local = false; global = false }

abbrev pub nothing_known : Known
nothing_known = record { places = replicate grant_limit unknown; mappings = 0; locks = 0 }

-- what is kept of a place
abbrev pub kept : Known → ℕ → PlaceKnown
kept known k = slice_index_or known.places k unknown

abbrev pub is_held : PlaceKnown → Tier → Bool
is_held p tier.Local = p.local
is_held p tier.Global = p.global

abbrev pub with_lock : Tier → Bool → PlaceKnown → PlaceKnown
with_lock tier.Local held p = record p { local = held }
with_lock tier.Global held p = record p { global = held }

-- the same, with this of a place
abbrev pub put_at : Known → ℕ → PlaceKnown → Known
put_at known k p = record known { places = slice_set known.places k p }

abbrev pub seen_at : Known → ℕ → Known
seen_at known k = put_at known k (record (kept known k) { present = true })

abbrev pub mapped_at : Known → ℕ → ℕ → Known
mapped_at known k address = record (put_at known k (record (kept known k) { address = Some address })) { mappings = known.mappings + 1 }

abbrev pub locked_at : Known → ℕ → Tier → Known
locked_at known k t = record (put_at known k (with_lock t true (kept known k))) { locks = known.locks + 1 }

abbrev pub unlocked_at : Known → ℕ → Tier → Known
unlocked_at known k t = record (put_at known k (with_lock t false (kept known k))) { locks = known.locks - 1 }

-- ---- its locks in the order in which they are released

abbrev pub lock_kept : Bool → definition.Tier → ℕ → List Lock
lock_kept held t k = if held then record { tier = t; place = k } ∷ [] else []

-- by rising place, the local one first; the first of these places is k
abbrev pub locks_kept : List PlaceKnown → ℕ → List Lock
locks_kept [] k = []
locks_kept (p ∷ ps) k = lock_kept p.local local k ++ (lock_kept p.global global k ++ locks_kept ps (k + 1))

abbrev pub is_local : definition.Tier → Bool
is_local local = true
is_local global = false

-- the place of the first, and whether it is the local one
abbrev pub first_lock : List Lock → Option (ℕ × Bool)
first_lock [] = None
first_lock (l ∷ ls) = Some (l.place, is_local l.tier)

abbrev pub tier_named : Bool → Tier
tier_named is_so = if is_so then tier.Local else tier.Global

abbrev pub tier_of : Tier → definition.Tier
tier_of tier.Local = local
tier_of tier.Global = global

abbrev pub lock_of : Tier → ℕ → Lock
lock_of t k = record { tier = tier_of t; place = k }

-- ---- what the definition has

-- of a place, where these keys were seen present, these are mapped, and these locks are held
abbrev pub place_of : List ℕ → List (ℕ × ℕ) → List Lock → ℕ → PlaceKnown
place_of present mapped held k =
    record {
      present = is_some (find (λ p. p == k) present);
      address = option_map (λ m. m.1) (find (λ m. m.0 == k) mapped);
      local = is_some (find (is_lock local k) held);
      global = is_some (find (is_lock global k) held);
    }

pub record Keeps (known : Known) (present : List ℕ) (mapped : List (ℕ × ℕ)) (held : List Lock) : Type 0 where
  pub long : length known.places ≡ grant_limit
  pub places : (k : ℕ) → k < grant_limit → kept known k ≡ place_of present mapped held k
  pub mappings : known.mappings ≡ length mapped
  pub locks : known.locks ≡ length held
  pub once : AllDiffer same_lock held

-- what is kept is what the state has
abbrev pub KeepsOf : Known → State → Type 0
KeepsOf known s = Keeps known s.present s.mapped s.locks
