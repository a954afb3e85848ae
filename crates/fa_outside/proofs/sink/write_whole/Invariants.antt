use Rattle.std.proofs.Common.{◌≡◌, length, ◌-◌, ◌≤◌, take}
use Rattle.fa_outside.specs.Appended.{Appends}
use Rattle.fa_outside.proofs.sink.write_whole.Given as goal

abbrev pub invariant-pieces : goal.invariant-pieces
invariant-pieces g l = record {
  within : l.done ≤ length l.bytes;
  written : Appends (g.O.Sink.written l.initial.sink) (g.O.Sink.written l.sink) (take l.done l.bytes);
  quiet : g.O.Sink.faults l.sink ≡ g.O.Sink.faults l.initial.sink;
}

abbrev pub decreases-pieces : goal.decreases-pieces
decreases-pieces g l = length l.bytes - l.done
