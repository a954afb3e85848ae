use Rattle.std.proofs.Common.{[], ◌∷◌, arith, refl, sym, subst}
use Rattle.faaslet_meaning.specs.CallState.{give_output, submit}
use Rattle.host_calls.specs.declared.call_call.CallStage.TheVariants as stage
use Rattle.host_calls.specs.Buffers.{IsWithin}
use Rattle.host_calls.specs.Calls.{here, IsAllowed, sends, writes, chains}
use Rattle.host_calls.proofs.CallReplies.{at_sends, at_writes, at_chains, at_looks, writes_bytes, chains_bytes, looks_finished, piece_room, piece_passed, amid, sends_replied, reads_replied, looks_replied}
use Rattle.host_calls.proofs.call_call.CallCall.after.Goals as goal

pub passed-requires : goal.passed-requires
passed-requires g c =
    let m = g.M.Linear.memory c.args.machine.now.memory in
    let w = c.in-SendsOut-Done in
    omega (arith, piece_room m w.span (at_sends c.args.self.now.stage m w.span c.requires.at w.is-0))

pub send_on-requires : goal.send_on-requires
send_on-requires g c =
    let m = g.M.Linear.memory c.args.machine.now.memory in
    let w = c.in-SendsOut-Done in
    let p = piece_passed m w.span c.passed.result (at_sends c.args.self.now.stage m w.span c.requires.at w.is-0) c.passed.ensures in
    record { within = subst (λ z. IsWithin (g.M.Linear.memory z.memory) c.passed.result) (sym c.sized.ensures.same) p }

pub put_aside-requires : goal.put_aside-requires
put_aside-requires g c =
    let m = g.M.Linear.memory c.args.machine.now.memory in
    let w = c.in-Writes-Bytes in
    omega (arith, piece_room m w.span (at_writes c.args.self.now.stage m w.span c.requires.at w.is-0), writes_bytes c.args.self.now.stage c.args.known.now c.args.reply w.span w.len c.requires.reply w.is-0 w.is-1)

pub passed-requires-in-Writes-Bytes : goal.passed-requires-in-Writes-Bytes
passed-requires-in-Writes-Bytes g c =
    let m = g.M.Linear.memory c.args.machine.now.memory in
    let w = c.in-Writes-Bytes in
    omega (arith, piece_room m w.span (at_writes c.args.self.now.stage m w.span c.requires.at w.is-0))

pub write_on-requires : goal.write_on-requires
write_on-requires g c =
    let m = g.M.Linear.memory c.args.machine.now.memory in
    let w = c.in-Writes-Bytes in
    let q = c.passed-in-Writes-Bytes in
    let p = piece_passed m w.span q.result (at_writes c.args.self.now.stage m w.span c.requires.at w.is-0) q.ensures in
    let e = subst (λ z. IsWithin (g.M.Linear.memory z.memory) q.result) (sym c.sized.ensures.same) p in
    record { within = subst (λ z. IsWithin (g.M.Linear.memory z.memory) q.result) (sym c.put_aside.ensures) e }

pub put_aside-requires-in-Chains-Bytes : goal.put_aside-requires-in-Chains-Bytes
put_aside-requires-in-Chains-Bytes g c =
    let m = g.M.Linear.memory c.args.machine.now.memory in
    let w = c.in-Chains-Bytes in
    omega (arith, piece_room m w.span (at_chains c.args.self.now.stage m w.function w.span c.requires.at w.is-0), chains_bytes c.args.self.now.stage c.args.known.now c.args.reply w.function w.span w.len c.requires.reply w.is-0 w.is-1)

pub passed-requires-in-Chains-Bytes : goal.passed-requires-in-Chains-Bytes
passed-requires-in-Chains-Bytes g c =
    let m = g.M.Linear.memory c.args.machine.now.memory in
    let w = c.in-Chains-Bytes in
    omega (arith, piece_room m w.span (at_chains c.args.self.now.stage m w.function w.span c.requires.at w.is-0))

pub chain_on-requires : goal.chain_on-requires
chain_on-requires g c =
    let m = g.M.Linear.memory c.args.machine.now.memory in
    let w = c.in-Chains-Bytes in
    let q = c.passed-in-Chains-Bytes in
    let p = piece_passed m w.span q.result (at_chains c.args.self.now.stage m w.function w.span c.requires.at w.is-0) q.ensures in
    let e = subst (λ z. IsWithin (g.M.Linear.memory z.memory) q.result) (sym c.sized.ensures.same) p in
    record { within = subst (λ z. IsWithin (g.M.Linear.memory z.memory) q.result) (sym c.put_aside-in-Chains-Bytes.ensures) e }

pub returns-in-SendsOut-Done-clause-comes : goal.returns-in-SendsOut-Done-clause-comes
returns-in-SendsOut-Done-clause-comes g c j s answer grants i a ae =
    let shape = g.M.Linear.memory in
    let m = shape c.args.machine.now.memory in
    let w = c.in-SendsOut-Done in
    let cs = c.args.known.now in
    let p = at_sends c.args.self.now.stage m w.span c.requires.at w.is-0 in
    let (span, stage_is) = c.send_on.ensures.sends in
    record {
      at = sends j s (here shape c.sized.new.machine cs) c.passed.result;
      comes = sends_replied shape c.args.machine.now c.sized.new.machine j s cs c.args.self.now.stage c.args.reply answer w.span c.passed.result c.sized.ensures.same w.is-0 w.is-1 c.passed.ensures p i a ae;
      shows = c.send_on.ensures.shows j s cs grants;
      allowed = subst (IsAllowed j cs) (sym stage_is) tt;
    }

pub returns-in-Writes-Bytes-clause-comes : goal.returns-in-Writes-Bytes-clause-comes
returns-in-Writes-Bytes-clause-comes g c j s answer grants i a ae =
    let shape = g.M.Linear.memory in
    let m = shape c.args.machine.now.memory in
    let w = c.in-Writes-Bytes in
    let cs = c.args.known.now in
    let t = c.args.self.now.stage in
    let p = at_writes t m w.span c.requires.at w.is-0 in
    let ne = writes_bytes t cs c.args.reply w.span w.len c.requires.reply w.is-0 w.is-1 in
    let q = c.passed-in-Writes-Bytes in
    let z = c.sized in
    let (span, stage_is) = c.write_on.ensures.writes in
    record {
      at = writes j s (here shape c.put_aside.new.self cs) q.result;
      comes = reads_replied shape c.args.machine.now z.new.machine c.put_aside.new.self (give_output ∷ []) j s cs (stage.Writes w.span) c.args.reply answer w.span q.result w.len z.ensures.same c.put_aside.ensures refl w.is-1 ne q.ensures p z.ensures.sound z.ensures.aside z.ensures.scratch i (amid t (stage.Writes w.span) (here shape c.args.machine.now cs) j s a w.is-0) ae;
      shows = c.write_on.ensures.shows j s cs grants;
      allowed = subst (IsAllowed j cs) (sym stage_is) tt;
    }

pub returns-in-Chains-Bytes-clause-comes : goal.returns-in-Chains-Bytes-clause-comes
returns-in-Chains-Bytes-clause-comes g c j s answer grants i a ae =
    let shape = g.M.Linear.memory in
    let m = shape c.args.machine.now.memory in
    let w = c.in-Chains-Bytes in
    let cs = c.args.known.now in
    let t = c.args.self.now.stage in
    let p = at_chains t m w.function w.span c.requires.at w.is-0 in
    let ne = chains_bytes t cs c.args.reply w.function w.span w.len c.requires.reply w.is-0 w.is-1 in
    let q = c.passed-in-Chains-Bytes in
    let put = c.put_aside-in-Chains-Bytes in
    let z = c.sized in
    let callee = subst (IsAllowed j cs) w.is-0 a.allowed in
    let r = c.chain_on.ensures.shows j s cs grants callee in
    record {
      at = chains j s (here shape put.new.self cs) w.function q.result;
      comes = reads_replied shape c.args.machine.now z.new.machine put.new.self (submit w.function ∷ []) j s cs (stage.Chains w.function w.span) c.args.reply answer w.span q.result w.len z.ensures.same put.ensures refl w.is-1 ne q.ensures p z.ensures.sound z.ensures.aside z.ensures.scratch i (amid t (stage.Chains w.function w.span) (here shape c.args.machine.now cs) j s a w.is-0) ae;
      shows = r.0;
      allowed = r.1;
    }

pub returns-in-Looks-Finished-clause-comes : goal.returns-in-Looks-Finished-clause-comes
returns-in-Looks-Finished-clause-comes g c j s answer grants i a ae =
    let shape = g.M.Linear.memory in
    let m = shape c.args.machine.now.memory in
    let w = c.in-Looks-Finished in
    let cs = c.args.known.now in
    let t = c.args.self.now.stage in
    let ds = c.note-in-Looks-Finished.new.self in
    let d = c.take_output in
    let q = at_looks t m w.child w.off w.span c.requires.at w.is-0 in
    let few = looks_finished t cs c.args.reply w.child w.off w.span _ w.len c.requires.reply w.is-0 w.is-1 in
    let (span, stage_is) = c.send_on-in-Looks-Finished.ensures.sends in
    record {
      at = sends j s (here shape d.new.machine ds) w.span;
      comes = looks_replied shape c.args.machine.now c.sized.new.machine d.new.machine j s cs ds t c.args.reply answer w.child w.off w.span _ w.len c.sized.ensures.same d.ensures.only d.ensures.held d.ensures.long c.sized.ensures.scratch c.note-in-Looks-Finished.ensures w.is-0 w.is-1 few q.0 i a ae;
      shows = c.send_on-in-Looks-Finished.ensures.shows j s ds grants;
      allowed = subst (IsAllowed j ds) (sym stage_is) tt;
    }
