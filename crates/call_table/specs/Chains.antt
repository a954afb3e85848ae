-- How much each request has taken, kept beside the records. This project's own.
use Rattle.std.specs.Prelude.{ℕ, ◌≡◌, ◌≤◌, List, length, slice_index_or}
use Rattle.faaslet_meaning.specs.declared.call.CallRecord.{CallRecord}
use Rattle.faaslet_meaning.specs.Records.{calls_of, bytes_of}
use Rattle.faaslet_meaning.specs.Table.{byte_limit}
use Rattle.call_table.specs.Session.{came}
use Rattle.call_table.specs.declared.chains.Chain.{Chain}
use Rattle.call_table.specs.declared.chains.Chains.{Chains}

-- what is kept of a request, and nothing of one that did not come
abbrev pub chain_at : List Chain → ℕ → Chain
chain_at kept request = slice_index_or kept request (record { calls = 0; bytes = 0 })

-- how many calls a request has, and the bytes of their inputs and rooms, which are within the limit
pub record ChainIs (records : List CallRecord) (request : ℕ) (k : Chain) : Type 0 where
  pub calls_so : k.calls ≡ length (calls_of records request)
  pub bytes_so : k.bytes ≡ bytes_of records request
  pub within : k.bytes ≤ byte_limit

-- each request that came has its chain
pub record ChainsFit (records : List CallRecord) (c : Chains) : Type 0 where
  pub many : length c.kept.items ≡ came records
  pub each : (request : ℕ) → ChainIs records request (chain_at c.kept.items request)
