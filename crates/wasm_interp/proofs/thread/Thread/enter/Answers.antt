-- A label is entered where there is room for it.
use Rattle.std.proofs.Common.{◌+◌, ◌≤◌, length, ⊎_elim}
use Rattle.std.proofs.lemmas.Bool.{both_ways, cases_lt}
use Rattle.wasm_interp.proofs.Labels.{enter_follows, full_follows}
use Rattle.wasm_interp.specs.declared.thread.Label.{Label}
use Rattle.wasm_interp.proofs.thread.Thread.enter.Goals as goal

pub returns-then-has_label_room-clause-done : goal.returns-then-has_label_room-clause-done
returns-then-has_label_room-clause-done c memory d body again s o =
    let mark : Label = record { target = c.args.target; height = c.len-height.result; arity = c.args.arity; again = c.args.again } in
    rw c.push.ensures (enter_follows memory c.args.self.now d c.args.pc mark again body c.len-height.ensures c.requires.few (c.has_label_room.ensures.0 c.if-has_label_room.true) s o)

pub returns-else-has_label_room-clause-done : goal.returns-else-has_label_room-clause-done
returns-else-has_label_room-clause-done c memory d body again s o =
    let t = c.args.self.now in
    let full : 65535 ≤ length t.labels + length t.frames =
    ⊎_elim (λ lt. absurd (both_ways _ c.if-has_label_room.false (c.has_label_room.ensures.1 lt))) (λ le. le) (cases_lt (length t.labels + length t.frames) 65535) in
    full_follows memory t d c.args.arity again body full s
