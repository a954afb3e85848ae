-- How large a session may be. This project's own.
use Rattle.std.specs.Prelude.{ℕ, ◌≤◌}

-- hosts, and the workers of each
abbrev pub host_limit : ℕ
host_limit = 16

abbrev pub worker_limit : ℕ
worker_limit = 8

abbrev pub key_limit : ℕ
key_limit = 64

abbrev pub function_limit : ℕ
function_limit = 256

abbrev pub request_limit : ℕ
request_limit = 1024

-- of one function
abbrev pub grant_limit : ℕ
grant_limit = 32

abbrev pub callee_limit : ℕ
callee_limit = 256

-- the bytes of a key
abbrev pub size_limit : ℕ
size_limit = 16777216

-- the pages that a call may have of its own
abbrev pub quota_limit : ℕ
quota_limit = 1024

abbrev pub fuel_limit : ℕ
fuel_limit = 1099511627776

-- the bytes of an output and of an input
abbrev pub room_limit : ℕ
room_limit = 65536

abbrev pub input_limit : ℕ
input_limit = 65536

-- the characters of a name
abbrev pub name_limit : ℕ
name_limit = 64

-- pages of all replicas and global values, and pages that calls may have of their own
abbrev pub state_budget : ℕ
state_budget = 8192

abbrev pub page_budget : ℕ
page_budget = 16384

-- the bytes of a session file
abbrev pub file_limit : ℕ
file_limit = 8388608

-- the bytes of all module files of a session together
abbrev pub modules_limit : ℕ
modules_limit = 16777216

-- from the one number to the other, both included
abbrev pub Within : ℕ → ℕ → ℕ → Type 0
Within low high n = (low ≤ n) × (n ≤ high)
