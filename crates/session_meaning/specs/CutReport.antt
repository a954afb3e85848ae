-- A report line by line, and the lines that some functions and some keys have in it. This project's own.
use Rattle.std.specs.Prelude.{ℕ, suc, Bool, List, [], ◌∷◌, ◌++◌, map, filter}
use Rattle.std.specs.List.{concat}
use Rattle.faaslet_meaning.specs.Lists.{passes_at}
use Rattle.session_meaning.specs.Plan.{Key, Plan, Names, is_function_of, is_key_of}
use Rattle.session_meaning.specs.World.{World}
use Rattle.session_meaning.specs.Schedule.{open_calls}
use Rattle.session_meaning.specs.SessionReport.{request_line, state_line, blocked_line, values}
use Rattle.session_meaning.specs.Cut.{kept, calls_of}

-- what is said of each item by its number
abbrev pub numbered : {A B : Type 0} → (ℕ → A → B) → List A → List B
numbered f [] = []
numbered f (x ∷ xs) = f 0 x ∷ numbered (λ n. f (suc n)) xs

abbrev pub each_state : List Key → List (List ℕ) → List (List ℕ)
each_state (k ∷ ks) (v ∷ vs) = state_line k v ∷ each_state ks vs
each_state _ _ = []

-- A line for each request, for each open call and for each key. An open call that is not blocked has an empty one.
pub record Lines : Type 0 where
  pub requests : List (List ℕ)
  pub blocked : List (List ℕ)
  pub states : List (List ℕ)

abbrev pub joined : Lines → List ℕ
joined lines = concat lines.requests ++ concat lines.blocked ++ concat lines.states

abbrev pub all_lines : Plan → World → Lines
all_lines plan w =
    record {
      requests = numbered (request_line w.table.records) plan.requests;
      blocked = map (blocked_line plan w) (open_calls w);
      states = each_state plan.keys (values w);
    }

abbrev pub is_request_of : Plan → Names → ℕ → Bool
is_request_of plan functions n = passes_at (λ r. is_function_of plan functions r.function) plan.requests n

-- the lines of the requests of these functions, of their open calls and of these keys, in their order
abbrev pub lines_of : Plan → Names → Names → World → Lines
lines_of plan functions keys w =
    record {
      requests = kept (is_request_of plan functions) (numbered (request_line w.table.records) plan.requests);
      blocked = map (blocked_line plan w) (filter (calls_of plan functions w) (open_calls w));
      states = kept (is_key_of plan keys) (each_state plan.keys (values w));
    }
