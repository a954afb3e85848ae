-- What a session is asked to run, and which of its functions have nothing to do with the others. This project's own.
use Rattle.std.specs.Prelude.{◌≡◌, ℕ, Bool, List, All, length, map}
use Rattle.faaslet_meaning.specs.declared.call.Callable.{Callable}
use Rattle.faaslet_meaning.specs.Lists.{passes_at}
use Rattle.faaslet_meaning.specs.Channels.{channels}
use Rattle.faaslet_meaning.specs.Fresh.{Function}

-- a key, with the bytes at the front of its global value; the others are zero
pub record Key : Type 0 where
  pub name : List ℕ
  pub size : ℕ
  pub init : List ℕ

pub record NamedFunction : Type 0 where
  pub name : List ℕ
  pub function : Function

-- a call that is submitted at first, from a host
pub record Request : Type 0 where
  pub label : List ℕ
  pub function : ℕ
  pub host : ℕ
  pub input : List ℕ

-- Keys, functions and requests are numbered from 0 in their order. A grant names its key, and a list of callable functions its
-- functions, by these numbers.
pub record Plan : Type 0 where
  pub hosts : ℕ
  pub workers : ℕ
  pub keys : List Key
  pub functions : List NamedFunction
  pub requests : List Request

-- what the call table knows of the functions
abbrev pub callable_of : NamedFunction → Callable
callable_of f = record { fuel = f.function.fuel; room = f.function.room; channels = length (channels f.function.grants) }

abbrev pub callables : Plan → List Callable
callables plan = map callable_of plan.functions

-- a set of names
abbrev pub Names : Type 0
Names = List ℕ → Bool

-- the function, or the key, with this number has its name in the set
abbrev pub is_function_of : Plan → Names → ℕ → Bool
is_function_of plan set f = passes_at (λ g. set g.name) plan.functions f

abbrev pub is_key_of : Plan → Names → ℕ → Bool
is_key_of plan set k = passes_at (λ g. set g.name) plan.keys k

-- A function of these functions is granted these keys alone and may call these functions alone, and no other function is
-- granted any of these keys or may call any of these functions.
pub record ClosedAt (plan : Plan) (functions keys : Names) (f : NamedFunction) : Type 0 where
  pub grants : All (λ g. is_key_of plan keys g.key ≡ functions f.name) f.function.grants
  pub callees : All (λ g. is_function_of plan functions g ≡ functions f.name) f.function.callees

abbrev pub Closed : Plan → Names → Names → Type 0
Closed plan functions keys = All (ClosedAt plan functions keys) plan.functions
