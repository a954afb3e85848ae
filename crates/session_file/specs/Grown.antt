-- How many keys, functions and requests a draft has more than another. This project's own.
use Rattle.std.specs.Prelude.{◌≡◌, ℕ, ◌+◌, length}
use Rattle.session_meaning.specs.Draft.{Draft}

pub record Grown (keys functions requests : ℕ) (d e : Draft) : Type 0 where
  pub more_keys : length e.keys ≡ length d.keys + keys
  pub more_functions : length e.functions ≡ length d.functions + functions
  pub more_requests : length e.requests ≡ length d.requests + requests
