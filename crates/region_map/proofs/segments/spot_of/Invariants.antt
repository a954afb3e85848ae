use Rattle.std.proofs.Common.{◌≡◌, ◌+◌, ◌≤◌, drop}
use Rattle.region_map.specs.Segments.{segments_of, all_segments, spot_of}
use Rattle.region_map.proofs.segments.spot_of.Given as goal

abbrev pub invariant-segments : goal.invariant-segments
invariant-segments l = record {
  rest : spot_of (segments_of (drop l.mapping-index l.mappings)) l.before l.at ≡ spot_of (all_segments l.fn.first l.mappings) 0 l.fn.addr;
  within : l.before + l.at ≤ l.fn.addr;
}
