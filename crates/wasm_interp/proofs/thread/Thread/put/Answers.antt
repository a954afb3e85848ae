-- A push that finds no room is the trap of the definition.
use Rattle.std.proofs.Common.{arith}
use Rattle.wasm_interp.proofs.Values.{room_follows, full_follows}
use Rattle.wasm_interp.proofs.thread.Thread.put.Goals as goal

pub returns-then-len-lt-VALUES-clause-done : goal.returns-then-len-lt-VALUES-clause-done
returns-then-len-lt-VALUES-clause-done c memory d s = room_follows memory c.args.self.now d c.args.v c.push.new.self c.push.ensures (omega arith) s

pub returns-else-len-lt-VALUES-clause-done : goal.returns-else-len-lt-VALUES-clause-done
returns-else-len-lt-VALUES-clause-done c memory d s = full_follows memory c.args.self.now d c.args.v (omega arith) s
