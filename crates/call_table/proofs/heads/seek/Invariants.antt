-- So far no record waits.
use Rattle.std.proofs.Common.{◌-◌, length}
use Rattle.call_table.specs.Heads.{NoneBefore, anywhere}
use Rattle.call_table.proofs.heads.seek.Given as goal

-- none so far
abbrev pub invariant-loop-place : goal.invariant-loop-place
invariant-loop-place l = NoneBefore anywhere l.place l.records

abbrev pub decreases-loop-place : goal.decreases-loop-place
decreases-loop-place l = length l.records - l.place
