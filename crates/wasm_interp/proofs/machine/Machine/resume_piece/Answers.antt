-- The reply to a piece is what the definition goes on with.
use Rattle.std.proofs.Common.{◌≡◌, ◌+◌, ◌-◌, ◌*◌, ◌^◌, ◌<◌, ◌≤◌, ◌∙◌, length, take, ap, sym, subst, arith, true, false}
use Rattle.std.proofs.lemmas.List.{length-take-le}
use Rattle.faaslet_meaning.specs.Configuration.{Begun}
use Rattle.faaslet_meaning.specs.LoadStore.{number}
use Rattle.faaslet_meaning.specs.Memory.{over}
use Rattle.faaslet_meaning.specs.MemoryRules.{resumed, load_on, stored}
use Rattle.wasm_interp.specs.StandsFor.{StageStands, reply_size}
use Rattle.wasm_interp.proofs.ResumeSteps.{pending_of, write_pending, read_pending, piece_fits, within_more, written_answer, read_reply, read_answer, resumed_stands, so_far_over}
use Rattle.wasm_interp.proofs.machine.Machine.resume_piece.Goals as goal

pub write_rest-requires-clause-range : goal.write_rest-requires-clause-range
write_rest-requires-clause-range g c =
    let (code, grants, given, d, b, s) = c.requires in
    let memory = g.M.Linear.memory c.args.self.now.memory in
    let q = c.in-Piece.q in
    let p = (pending_of memory c.args.self.now.thread c.args.self.now.stage d b q s.stage c.in-Piece.is).1 in
    let w = (write_pending memory q d.frame.values b p c.if-q.true).is in
    within_more memory q.addr q.size q.done c.from-len.result true q.ask w.range w.piece c.from-len.ensures

pub slice_bounds-number_of-end : goal.slice_bounds-number_of-end
slice_bounds-number_of-end g c =
    let (code, grants, given, d, b, s) = c.requires in
    let memory = g.M.Linear.memory c.args.self.now.memory in
    let q = c.in-Piece.q in
    let p = (pending_of memory c.args.self.now.thread c.args.self.now.stage d b q s.stage c.in-Piece.is).1 in
    let r = (read_pending memory q d.frame.values b p c.if-q.false).is in
    let f = piece_fits memory (q.addr + q.done) (q.size - q.done) false q.ask r.piece in
    let long = ap length c.as_slice.ensures.bytes in
    sym (length-take-le q.ask.len c.as_slice.result.now (omega (arith, f.1, r.range.few, c.as_slice.ensures.long)))

pub number_of-part-requires : goal.number_of-part-requires
number_of-part-requires g c =
    let (code, grants, given, d, b, s) = c.requires in
    let memory = g.M.Linear.memory c.args.self.now.memory in
    let q = c.in-Piece.q in
    let p = (pending_of memory c.args.self.now.thread c.args.self.now.stage d b q s.stage c.in-Piece.is).1 in
    let r = (read_pending memory q d.frame.values b p c.if-q.false).is in
    let f = piece_fits memory (q.addr + q.done) (q.size - q.done) false q.ask r.piece in
    let long = ap length c.as_slice.ensures.bytes in
    omega (arith, length-take-le q.ask.len c.as_slice.result.now (omega (arith, f.1, r.range.few, c.as_slice.ensures.long)), f.1, r.range.few)

pub joined-value-requires-clause-some : goal.joined-value-requires-clause-some
joined-value-requires-clause-some g c =
    let (code, grants, given, d, b, s) = c.requires in
    let memory = g.M.Linear.memory c.args.self.now.memory in
    let q = c.in-Piece.q in
    let p = (pending_of memory c.args.self.now.thread c.args.self.now.stage d b q s.stage c.in-Piece.is).1 in
    let r = (read_pending memory q d.frame.values b p c.if-q.false).is in
    omega (arith, c.from-len.ensures, (piece_fits memory (q.addr + q.done) (q.size - q.done) false q.ask r.piece).0)

pub joined-value-requires-clause-few : goal.joined-value-requires-clause-few
joined-value-requires-clause-few g c =
    let (code, grants, given, d, b, s) = c.requires in
    let memory = g.M.Linear.memory c.args.self.now.memory in
    let q = c.in-Piece.q in
    let p = (pending_of memory c.args.self.now.thread c.args.self.now.stage d b q s.stage c.in-Piece.is).1 in
    let r = (read_pending memory q d.frame.values b p c.if-q.false).is in
    omega (arith, c.from-len.ensures, (piece_fits memory (q.addr + q.done) (q.size - q.done) false q.ask r.piece).1, r.range.few, r.range.most)

pub joined-value-requires-clause-part : goal.joined-value-requires-clause-part
joined-value-requires-clause-part g c =
    let (code, grants, given, d, b, s) = c.requires in
    let memory = g.M.Linear.memory c.args.self.now.memory in
    let q = c.in-Piece.q in
    let p = (pending_of memory c.args.self.now.thread c.args.self.now.stage d b q s.stage c.in-Piece.is).1 in
    let r = (read_pending memory q d.frame.values b p c.if-q.false).is in
    let f = piece_fits memory (q.addr + q.done) (q.size - q.done) false q.ask r.piece in
    let long = ap length c.as_slice.ensures.bytes in
    let l : length (take q.ask.len c.as_slice.result.now) ≡ c.from-len.result = length-take-le q.ask.len c.as_slice.result.now (omega (arith, f.1, r.range.few, c.as_slice.ensures.long)) ∙ sym c.from-len.ensures in
    subst (λ n. c.number_of-part.result < 2 ^ (8 * n)) l c.number_of-part.ensures.small

pub read_rest-requires-clause-range : goal.read_rest-requires-clause-range
read_rest-requires-clause-range g c =
    let (code, grants, given, d, b, s) = c.requires in
    let memory = g.M.Linear.memory c.args.self.now.memory in
    let q = c.in-Piece.q in
    let p = (pending_of memory c.args.self.now.thread c.args.self.now.stage d b q s.stage c.in-Piece.is).1 in
    let r = (read_pending memory q d.frame.values b p c.if-q.false).is in
    within_more memory q.addr q.size q.done c.from-len.result false q.ask r.range r.piece c.from-len.ensures

pub returns-then-q-clause-done : goal.returns-then-q-clause-done
returns-then-q-clause-done g c code grants given d b s =
    let m = c.args.self.now in
    let memory = g.M.Linear.memory m.memory in
    let new = c.write_rest.new.self in
    let q = c.in-Piece.q in
    let reply = take (reply_size b) m.scratch in
    let both = pending_of memory m.thread m.stage d b q s.stage c.in-Piece.is in
    let w = write_pending memory q d.frame.values b both.1 c.if-q.true in
    let e = ap (λ (x : Begun). resumed d x reply) w.begun ∙ ap (stored d) (written_answer memory d q w.left w.bytes reply c.from-len.result both.0.kept.memory_is w.is c.from-len.ensures) in
    resumed_stands g.M.Linear.memory m new code grants given d b reply s c.write_rest.ensures.same
    (subst (StageStands (g.M.Linear.memory new.memory) new.thread new.stage) (sym e) (c.write_rest.ensures.done d both.0 w.there))

pub returns-else-q-clause-done : goal.returns-else-q-clause-done
returns-else-q-clause-done g c code grants given d b s =
    let m = c.args.self.now in
    let memory = g.M.Linear.memory m.memory in
    let new = c.read_rest.new.self in
    let q = c.in-Piece.q in
    let len = c.from-len.result in
    let reply = take (reply_size b) m.scratch in
    let both = pending_of memory m.thread m.stage d b q s.stage c.in-Piece.is in
    let w = read_pending memory q d.frame.values b both.1 c.if-q.false in
    let r = w.is in
    let f = piece_fits memory (q.addr + q.done) (q.size - q.done) false q.ask r.piece in
    let z : reply_size b ≡ q.ask.len = ap reply_size w.begun ∙ read_reply memory q w.row w.at w.size w.left w.copy r in
    let there : reply ≡ take q.ask.len c.as_slice.result.now = ap (λ n. take n m.scratch) z ∙ ap (take q.ask.len) (sym c.as_slice.ensures.bytes) in
    let long = ap length c.as_slice.ensures.bytes in
    let l : length reply ≡ len = ap length there ∙ length-take-le q.ask.len c.as_slice.result.now (omega (arith, f.1, r.range.few, c.as_slice.ensures.long)) ∙ sym c.from-len.ensures in
    let v : c.joined-value.result ≡ q.value + 2 ^ (8 * q.done) * number reply = c.joined-value.ensures.value ∙ ap (λ n. q.value + 2 ^ (8 * q.done) * n) (c.number_of-part.ensures.value ∙ ap number (sym there)) in
    let inside : q.addr + (q.done + len) ≤ length memory.bytes = omega (arith, r.long, f.1, c.from-len.ensures, r.range.most) in
    let far = so_far_over memory.bytes w.copy reply q.addr q.done q.value len c.joined-value.result r.so_far inside l v in
    let e = ap (λ (x : Begun). resumed d x reply) w.begun ∙ ap (load_on d w.row) (read_answer memory d q w.row w.at w.size w.left w.copy reply len r c.from-len.ensures) in
    resumed_stands g.M.Linear.memory m new code grants given d b reply s c.read_rest.ensures.same
    (subst (StageStands (g.M.Linear.memory new.memory) new.thread new.stage) (sym e) (c.read_rest.ensures.done d w.row (over w.copy (q.addr + q.done) reply) r.row r.bytes_are both.0 w.there r.long far))
