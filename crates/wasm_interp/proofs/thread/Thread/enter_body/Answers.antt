-- Entering a body puts its zeros and its frame where there is room.
use Rattle.std.proofs.Common.{◌≡◌, ◌-◌, sym, refl, arith, length}
use Rattle.std.proofs.lemmas.Bool.{both_ways}
use Rattle.wasm_interp.proofs.Entering.{call_traps, call_enters}
use Rattle.wasm_interp.proofs.thread.Thread.enter_body.Goals as goal

pub returns-then-not-has_room-clause-done : goal.returns-then-not-has_room-clause-done
returns-then-not-has_room-clause-done c memory d t body s params results few whole fit ok =
    call_traps memory c.args.self.now d s t c.args.extra body ok (λ r. both_ways _ c.if-not-has_room.true (c.has_room.ensures.1 r))

pub returns-clause-done : goal.returns-clause-done
returns-clause-done c memory d t body s params results few whole fit ok =
    let base : c.len.result - c.args.params ≡ length c.args.self.now.values - length t.params = omega (arith, params, c.len.ensures) in
    call_enters memory c.args.self.now d s t c.args.extra body ok _ c.put_zeros.new.self c.push.new.self (c.has_room.ensures.0 c.if-not-has_room.false) c.push.ensures c.put_zeros.ensures refl refl base c.len-height.ensures (sym results) few whole fit
