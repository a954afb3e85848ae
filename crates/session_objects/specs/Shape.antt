-- The numbers of a session's benches and workers, and what is opened for its keys and functions. Of the draft of a plan they
-- are those of the plan. This project's own.
use Rattle.std.specs.Prelude.{ℕ, ◌+◌, ◌*◌, ◌/◌, List, length, map}
use Rattle.faaslet_meaning.specs.declared.call.Callable.{Callable}
use Rattle.faaslet_meaning.specs.Channels.{channels}
use Rattle.session_meaning.specs.Draft.{Draft, DraftFunction}

-- each worker has eight benches
abbrev pub benches : Draft → ℕ
benches d = 8 * d.hosts * d.workers

abbrev pub workers : Draft → ℕ
workers d = d.hosts * d.workers

-- the makers on the call table: the benches, then the workers, then the session
abbrev pub makers : Draft → ℕ
makers d = benches d + workers d + 1

-- the benches of one host
abbrev pub each : Draft → ℕ
each d = 8 * d.workers

-- the host of a bench: the workers of a host have one number after the other
abbrev pub host_of : Draft → ℕ → ℕ
host_of d bench = bench / 8 / d.workers

abbrev pub sizes : Draft → List ℕ
sizes d = map (λ k. k.size) d.keys

abbrev pub values : Draft → List (ℕ × List ℕ)
values d = map (λ k. (k.size, k.init)) d.keys

-- what the call table knows of a function
abbrev pub callable_in : DraftFunction → Callable
callable_in f = record { fuel = f.fuel; room = f.room; channels = length (channels f.grants) }

abbrev pub callables_in : Draft → List Callable
callables_in d = map callable_in d.functions
