use Rattle.std.proofs.Common.{ap, arith, length}
use Rattle.std.proofs.lemmas.List.{length-map}
use Rattle.world_core.proofs.running.Running.seat.Goals as goal

pub add_seat-requires-clause-within : goal.add_seat-requires-clause-within
add_seat-requires-clause-within c =
    let same = ap length c.requires.same in
    let players = length-map c.args.self.now.players.items (λ p. p.call) in
    let seats = length-map c.args.self.now.floor.open.items (λ s. s.call) in
    let few = c.place_for-at.ensures.within in
    omega (arith, same, players, seats, few)
