use Rattle.std.proofs.Common.{arith, sym}
use Rattle.std.specs.Prelude.{nat_lt}
use Rattle.std.proofs.lemmas.Grind.{common_steps}
use Rattle.world_core.proofs.Finding.{found_first, found_none}
use Rattle.world_core.proofs.running.Running.place_for.Goals as goal

pub returns-in-Some-clause-place : goal.returns-in-Some-clause-place
returns-in-Some-clause-place c = (found_first (λ p. nat_lt c.args.call p.call) c.args.self.now.players.items c.in-Some.place (sym c.in-Some.ensures)).0

pub returns-in-Some-clause-within : goal.returns-in-Some-clause-within
returns-in-Some-clause-within c =
    let l = (found_first (λ p. nat_lt c.args.call p.call) c.args.self.now.players.items c.in-Some.place (sym c.in-Some.ensures)).1 in
    omega (arith, l)

pub returns-in-None-clause-place : goal.returns-in-None-clause-place
returns-in-None-clause-place c =
    let last = found_none (λ p. nat_lt c.args.call p.call) c.args.self.now.players.items (sym c.in-None.ensures) in
    grind (arith, common_steps, last)
