-- What a call asks lies in a plan: on keys that there are and that it is granted, within their sizes, of functions that it may
-- call, and of children that it has. This project's own.
use Rattle.std.specs.Prelude.{◌≡◌, ℕ, ◌+◌, ◌*◌, ◌<◌, ◌≤◌, List, Some, length, slice_get}
use Rattle.faaslet_meaning.specs.declared.grant.Channel.TheVariants.{Local, Global, Table}
use Rattle.faaslet_meaning.specs.declared.grant.Grant.{Grant}
use Rattle.faaslet_meaning.specs.Memory.{key_pages, page_size}
use Rattle.faaslet_meaning.specs.ControlRules.{buffer_limit}
use Rattle.faaslet_meaning.specs.Channels.{RegionOperation, probe, read, write, size, append, lock_read, lock_write, unlock, on_region, submit, look, Question, ask, fills, pulls, pushes}
use Rattle.faaslet_meaning.specs.CallState.{State}
use Rattle.faaslet_meaning.specs.Fresh.{Function}
use Rattle.session_meaning.specs.SessionLimits.{input_limit}
use Rattle.session_meaning.specs.Plan.{Key, Plan}

-- The plan has this key, a grant of the function names it, and the key is so.
pub record OfKey (plan : Plan) (f : Function) (key : ℕ) (IsSo : Key → Type 0) : Type 0 where
  pub k : Key
  pub is_there : slice_get plan.keys key ≡ Some k
  pub place : ℕ
  pub grant : Grant
  pub is_granted : slice_get f.grants place ≡ Some grant
  pub names_it : grant.key ≡ key
  pub is_so : IsSo k

-- the bytes of a replica, which has whole pages
abbrev pub replica_size : Key → ℕ
replica_size k = key_pages k.size * page_size

-- so many bytes from off on lie in the replica, and are no more than a buffer may have
pub record InReplica (off len : ℕ) (k : Key) : Type 0 where
  pub inside : off + len ≤ replica_size k
  pub short : len ≤ buffer_limit

-- what is asked of the replica of a key; nothing else is
abbrev pub OnReplica : RegionOperation → Key → Type 0
OnReplica probe k = Unit {0}
OnReplica (read off len) k = InReplica off len k
OnReplica (write off bytes) k = InReplica off (length bytes) k
OnReplica lock_read k = Unit {0}
OnReplica lock_write k = Unit {0}
OnReplica unlock k = Unit {0}
OnReplica _ k = ⊥

-- what is asked of its global value; nothing else is
abbrev pub OnGlobal : RegionOperation → Key → Type 0
OnGlobal size k = Unit {0}
OnGlobal (append bytes) k = length bytes ≤ buffer_limit
OnGlobal lock_read k = Unit {0}
OnGlobal lock_write k = Unit {0}
OnGlobal unlock k = Unit {0}
OnGlobal _ k = ⊥

-- the whole of a key
abbrev pub IsWhole : ℕ → Key → Type 0
IsWhole n k = n ≡ k.size

-- so many bytes from off on lie in the key
abbrev pub InKey : ℕ → ℕ → Key → Type 0
InKey off len k = off + len ≤ k.size

-- The plan has this function, the list of those that may be called names it, and its input is no longer than an input may be.
pub record OfCallee (plan : Plan) (f : Function) (function : ℕ) (input : List ℕ) : Type 0 where
  pub place : ℕ
  pub is_callee : slice_get f.callees place ≡ Some function
  pub is_there : function < length plan.functions
  pub short : length input ≤ input_limit

-- What a call of this function, in this state, asks lies in the plan. Fills, pulls and pushes are asked as such, and never as the
-- operations that they are on each of their channels.
abbrev pub LiesIn : Plan → Function → State → Question → Type 0
LiesIn plan f s (ask (Local key) (on_region op)) = OfKey plan f key (OnReplica op)
LiesIn plan f s (ask (Global key) (on_region op)) = OfKey plan f key (OnGlobal op)
LiesIn plan f s (ask Table (submit function input)) = OfCallee plan f function input
LiesIn plan f s (ask Table (look child)) = child < length s.children
LiesIn plan f s (ask _ _) = ⊥
LiesIn plan f s (fills key n) = OfKey plan f key (IsWhole n)
LiesIn plan f s (pulls key off len) = OfKey plan f key (InKey off len)
LiesIn plan f s (pushes key off len) = OfKey plan f key (InKey off len)
