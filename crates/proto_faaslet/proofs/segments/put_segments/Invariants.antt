use Rattle.std.proofs.Common.{◌≡◌, map, take}
use Rattle.faaslet_meaning.specs.Fresh.{all_over}
use Rattle.proto_faaslet.specs.Instances.{segment_of}
use Rattle.proto_faaslet.proofs.segments.put_segments.Given as goal

abbrev pub invariant-loop-segment : goal.invariant-loop-segment
invariant-loop-segment g l = g.M.Linear.memory l.memory ≡ record (g.M.Linear.memory l.initial.memory) { bytes = all_over (g.M.Linear.memory l.initial.memory).bytes (map (segment_of l.globals) (take l.segment-index l.segments)) }
