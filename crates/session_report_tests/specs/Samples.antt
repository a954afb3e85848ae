-- The plan of a sample: its labels and its keys. This project's own.
use Rattle.std.specs.Prelude.{ℕ, List, [], map}
use Rattle.session_meaning.specs.Plan.{Key, Request, Plan}

abbrev pub request_of : List ℕ → Request
request_of label = record { label = label; function = 0; host = 0; input = [] }

abbrev pub key_of : List ℕ → Key
key_of name = record { name = name; size = 0; init = [] }

abbrev pub plan_of : List (List ℕ) → List (List ℕ) → Plan
plan_of labels names = record { hosts = 1; workers = 1; keys = map key_of names; functions = []; requests = map request_of labels }
