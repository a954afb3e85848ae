-- The loads that are kept beside the records. This project's own.
use Rattle.std.specs.Prelude.{ℕ, ◌≡◌, ◌+◌, ◌<◌, ◌≤◌, ◌++◌, ◌∷◌, true, List, [], All, length, map, vec_capacity}
use Rattle.std.specs.List.{range_with_len}
use Rattle.faaslet_meaning.specs.declared.call.CallRecord.{CallRecord}
use Rattle.faaslet_meaning.specs.Placement.{is_warm}
use Rattle.faaslet_meaning.specs.Records.{queue, warm, takes}
use Rattle.call_table.specs.declared.loads.Loads.{Loads}

-- The lengths of the queues; the pairs that are warm, each at a host that there is; and room for one pair more for each call
-- that is queued.
pub record LoadsFit (hosts : ℕ) (records : List CallRecord) (l : Loads) : Type 0 where
  pub queued : l.queued.items ≡ map (λ host. length (queue records host)) (range_with_len 0 hosts)
  pub warm : (function host : ℕ) → is_warm l.warm.items function host ≡ is_warm (warm records) function host
  pub within : All (λ w. w.1 < hosts) l.warm.items
  pub room : length l.warm.items + length records ≤ vec_capacity l.warm + takes records

-- the pair was warm, or is put behind the others
pub data WarmWith (before : List (ℕ × ℕ)) (function host : ℕ) (after : List (ℕ × ℕ)) : Type 0 where
  stays : is_warm before function host ≡ true → after ≡ before → WarmWith before function host after
  added : after ≡ before ++ (function, host) ∷ [] → WarmWith before function host after
