-- Places before which no call is queued. This project's own.
use Rattle.std.specs.Prelude.{ℕ, ◌≡◌, ◌<◌, ◌≤◌, Bool, true, false, List, length, slice_index_or, ◌==◌, ◌&&◌}
use Rattle.faaslet_meaning.specs.declared.call.CallRecord.{CallRecord}
use Rattle.faaslet_meaning.specs.Lists.{passes_at}
use Rattle.faaslet_meaning.specs.Records.{is_queued}
use Rattle.call_table.specs.declared.heads.Heads.{Heads}

-- the call is queued at a host, or at any
abbrev pub at_host : ℕ → CallRecord → Bool
at_host host r = is_queued r.state && (r.placed == host)

abbrev pub anywhere : CallRecord → Bool
anywhere r = is_queued r.state

-- a place in the records, or their end, before which none passes the test
pub record NoneBefore (test : CallRecord → Bool) (place : ℕ) (records : List CallRecord) : Type 0 where
  pub within : place ≤ length records
  pub none : (n : ℕ) → n < place → passes_at test records n ≡ false

-- and where there is a record it passes
pub record StopsAt (test : CallRecord → Bool) (place : ℕ) (records : List CallRecord) : Type 0 where
  pub before : NoneBefore test place records
  pub here : place < length records → passes_at test records place ≡ true

pub record HeadsFit (records : List CallRecord) (heads : Heads) : Type 0 where
  pub each : (host : ℕ) → NoneBefore (at_host host) (slice_index_or heads.at.items host 0) records
  pub all : NoneBefore anywhere heads.any records
