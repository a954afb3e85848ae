use Rattle.std.proofs.Common.{◌<◌, length, arith}
use Rattle.wasm_validate.proofs.Groups.{sum_more, one_end_more}
use Rattle.wasm_validate.proofs.locals.Locals.of.Goals as goal

pub groups-preserved : goal.groups-preserved
groups-preserved c =
    let v = c.groups.invariant in
    let within : c.groups.group-index < length c.args.groups.now = omega arith in
    record {
      end = sum_more c.args.groups.now c.groups.group-index _ c.groups.end within v.end;
      ends = one_end_more c.args.groups.now c.groups.group-index _ c.push.new.self.items c.groups.ends.items c.groups.end within v.end v.ends c.in_ok-push.ensures.items;
    }
