-- So far no record waits at this host.
use Rattle.std.proofs.Common.{◌-◌, length}
use Rattle.call_table.specs.Heads.{NoneBefore, at_host}
use Rattle.call_table.proofs.heads.seek_at.Given as goal

-- none so far
abbrev pub invariant-loop-place : goal.invariant-loop-place
invariant-loop-place l = NoneBefore (at_host l.host) l.place l.records

abbrev pub decreases-loop-place : goal.decreases-loop-place
decreases-loop-place l = length l.records - l.place
