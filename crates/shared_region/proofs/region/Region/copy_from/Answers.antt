-- The bytes find room.
use Rattle.std.proofs.Common.{◌≡◌, ◌+◌, ◌-◌, arith, ap, length, take, drop}
use Rattle.std.proofs.lemmas.List.{length-take-le, length-drop}
use Rattle.shared_region.specs.Shared.{Shared}
use Rattle.shared_region.proofs.region.Region.copy_from.Goals as goal

pub write_at-requires : goal.write_at-requires
write_at-requires c =
    let rest = drop c.args.off c.bytes.result.now in
    let d = length-drop c.args.off c.bytes.result.now in
    let t : length (take (c.args.off + c.args.len - c.args.off) rest) ≡ c.args.off + c.args.len - c.args.off = length-take-le (c.args.off + c.args.len - c.args.off) rest (omega arith) in
    omega (arith, ap (λ (s : Shared). s.region.size) c.self.view_is, c.deref_mut.ensures.len)
