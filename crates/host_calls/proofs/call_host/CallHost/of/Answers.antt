use Rattle.std.proofs.Common.{◌≡◌, refl, arith}
use Rattle.host_calls.proofs.Hosts.{asked_is}
use Rattle.host_calls.proofs.call_host.CallHost.of.Goals as goal

pub returns-in_default : goal.returns-in_default
returns-in_default c h a =
    let n : c.args.ask.call ≡ 22 = omega (arith, c.requires.low, c.requires.high) in
    asked_is c.args.ask h 22 _ a n refl
