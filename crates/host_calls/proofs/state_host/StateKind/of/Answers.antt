use Rattle.std.proofs.Common.{◌≡◌, refl, arith}
use Rattle.host_calls.proofs.Hosts.{asked_is}
use Rattle.host_calls.proofs.state_host.StateKind.of.Goals as goal

pub returns-in_default : goal.returns-in_default
returns-in_default c h a =
    let n : c.args.ask.call ≡ 15 = omega (arith, c.requires.high) in
    asked_is c.args.ask h 15 _ a n refl
