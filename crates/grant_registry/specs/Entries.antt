-- What the registry's entries stand for, and what holds of them. This project's own.
use Rattle.std.specs.Prelude.{ℕ, ◌≤◌, List, String, string_bytes, length, map}
use Rattle.std.specs.declared.alloc.Global.{Global}
use Rattle.session_meaning.specs.Plan.{Key, Request}
use Rattle.session_meaning.specs.Draft.{DraftFunction, Draft}
use Rattle.session_meaning.specs.WellFormed.{KeepsLimits}
use Rattle.grant_registry.specs.declared.entries.KeyEntry.{KeyEntry}
use Rattle.grant_registry.specs.declared.entries.FunctionEntry.{FunctionEntry}
use Rattle.grant_registry.specs.declared.entries.RequestEntry.{RequestEntry}

abbrev pub key_of : String Global × KeyEntry → Key
key_of e = record { name = string_bytes e.0; size = e.1.size; init = e.1.init }

abbrev pub function_of : String Global × FunctionEntry → DraftFunction
function_of e =
    record { name = string_bytes e.0; code = e.1.«module»; quota = e.1.quota; fuel = e.1.fuel; room = e.1.room; grants = e.1.grants; callees = e.1.callees.items }

abbrev pub request_of : String Global × RequestEntry → Request
request_of e = record { label = string_bytes e.0; function = e.1.function; host = e.1.host; input = e.1.input }

abbrev pub draft : ℕ → ℕ → List (String Global × KeyEntry) → List (String Global × FunctionEntry) → List (String Global × RequestEntry) → Draft
draft hosts workers keys functions requests =
    record { hosts = hosts; workers = workers; keys = map key_of keys; functions = map function_of functions; requests = map request_of requests }

-- what is kept keeps the limits, and so its numbers are small
pub record Kept (hosts workers : ℕ) (keys : List (String Global × KeyEntry)) (functions : List (String Global × FunctionEntry)) (requests : List (String Global × RequestEntry)) : Type 0 where
  pub limits : KeepsLimits (draft hosts workers keys functions requests)
  pub few_hosts : hosts ≤ 16
  pub few_workers : workers ≤ 8
  pub few_keys : length keys ≤ 64
  pub few_functions : length functions ≤ 256
  pub few_requests : length requests ≤ 1024
