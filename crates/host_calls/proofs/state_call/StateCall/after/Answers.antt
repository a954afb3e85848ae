use Rattle.std.proofs.Common.{ap, arith, sym, subst, ◌∙◌, length}
use Rattle.faaslet_meaning.specs.declared.ask.Reply.TheVariants as reply
use Rattle.faaslet_meaning.specs.Asks.{RepliesAs}
use Rattle.faaslet_meaning.specs.Call.{served}
use Rattle.host_calls.specs.declared.state_call.StateStage.TheVariants as stage
use Rattle.faaslet_meaning.specs.Memory.{IsMemory}
use Rattle.host_calls.specs.Buffers.{IsWithin}
use Rattle.host_calls.specs.Calls.{AtPiece}
use Rattle.host_calls.specs.States.{Here, here, IsOf, IsAct, IsAmid, Belongs, collecting, sends, sees, probed, acted}
use Rattle.host_calls.proofs.CallReplies.{piece_room, piece_passed}
use Rattle.host_calls.proofs.StateReplies.{amid, at_stage, belongs_at, collects_replied, sends_replied, probe_replied, fill_seen, act_replied, question_of_act}
use Rattle.host_calls.proofs.StateSteps.{of_with}
use Rattle.host_calls.proofs.state_call.StateCall.after.Goals as goal

pub put_aside-requires : goal.put_aside-requires
put_aside-requires g c =
    let m = g.M.Linear.memory c.args.machine.now.memory in
    let w = c.in-Collects-Bytes in
    let t = c.args.self.now.stage in
    let at = at_stage t (stage.Collects w.place w.put w.span) c.args.grants.now c.args.known.now m c.requires.at w.is-0 in
    let n = belongs_at t (stage.Collects w.place w.put w.span) c.args.reply (reply.Bytes w.len) c.requires.reply w.is-0 w.is-1 in
    omega (arith, piece_room m w.span at.1, n)

pub passed-requires : goal.passed-requires
passed-requires g c =
    let m = g.M.Linear.memory c.args.machine.now.memory in
    let w = c.in-Collects-Bytes in
    let at = at_stage c.args.self.now.stage (stage.Collects w.place w.put w.span) c.args.grants.now c.args.known.now m c.requires.at w.is-0 in
    omega (arith, piece_room m w.span at.1)

pub collect_on-requires-clause-within : goal.collect_on-requires-clause-within
collect_on-requires-clause-within g c =
    let shape = g.M.Linear.memory in
    let m = shape c.args.machine.now.memory in
    let w = c.in-Collects-Bytes in
    let at = at_stage c.args.self.now.stage (stage.Collects w.place w.put w.span) c.args.grants.now c.args.known.now m c.requires.at w.is-0 in
    let p = piece_passed m w.span c.passed.result at.1 c.passed.ensures in
    subst (λ z. IsWithin (shape z.memory) c.passed.result) (sym c.put_aside.ensures) (subst (λ z. IsWithin (shape z.memory) c.passed.result) (sym c.sized.ensures.same) p)

pub collect_on-requires-clause-place : goal.collect_on-requires-clause-place
collect_on-requires-clause-place g c =
    let w = c.in-Collects-Bytes in
    (at_stage c.args.self.now.stage (stage.Collects w.place w.put w.span) c.args.grants.now c.args.known.now _ c.requires.at w.is-0).0

pub probed-requires-clause-act : goal.probed-requires-clause-act
probed-requires-clause-act g c =
    let shape = g.M.Linear.memory in
    let w = c.in-Probes-Present in
    let at = at_stage c.args.self.now.stage (stage.Probes w.place w.act) c.args.grants.now c.args.known.now (shape c.args.machine.now.memory) c.requires.at w.is-0 in
    subst (λ z. IsAct w.act w.place c.args.grants.now c.args.known.now (shape z.memory)) (sym c.sized.ensures.same) at.1

pub probed-requires-clause-needs : goal.probed-requires-clause-needs
probed-requires-clause-needs g c =
    let w = c.in-Probes-Present in
    (at_stage c.args.self.now.stage (stage.Probes w.place w.act) c.args.grants.now c.args.known.now _ c.requires.at w.is-0).0

pub saw-requires-clause-act : goal.saw-requires-clause-act
saw-requires-clause-act g c =
    let shape = g.M.Linear.memory in
    let w = c.in-Fills-Done in
    let at = at_stage c.args.self.now.stage (stage.Fills w.place w.act) c.args.grants.now c.args.known.now (shape c.args.machine.now.memory) c.requires.at w.is-0 in
    subst (λ z. IsAct w.act w.place c.args.grants.now c.args.known.now (shape z.memory)) (sym c.sized.ensures.same) at.1

pub saw-requires-clause-needs : goal.saw-requires-clause-needs
saw-requires-clause-needs g c =
    let w = c.in-Fills-Done in
    (at_stage c.args.self.now.stage (stage.Fills w.place w.act) c.args.grants.now c.args.known.now _ c.requires.at w.is-0).0

pub acted-requires-clause-act : goal.acted-requires-clause-act
acted-requires-clause-act g c =
    let shape = g.M.Linear.memory in
    let w = c.in-Acts-default in
    let at = at_stage c.args.self.now.stage (stage.Acts w.place w.act) c.args.grants.now c.args.known.now (shape c.args.machine.now.memory) c.requires.at w.is-0 in
    subst (λ z. IsAct w.act w.place c.args.grants.now c.args.known.now (shape z.memory)) (sym c.sized.ensures.same) at

pub acted-requires-clause-reply : goal.acted-requires-clause-reply
acted-requires-clause-reply g c =
    let w = c.in-Acts-default in
    subst (λ t. Belongs t c.args.reply) w.is-0 c.requires.reply

pub send_on-requires : goal.send_on-requires
send_on-requires g c =
    let shape = g.M.Linear.memory in
    let m = shape c.args.machine.now.memory in
    let w = c.in-Sends-Done in
    let q = c.passed-in-Sends-Done in
    let at = at_stage c.args.self.now.stage (stage.Sends w.span) c.args.grants.now c.args.known.now m c.requires.at w.is-0 in
    record { within = subst (λ z. IsWithin (shape z.memory) q.result) (sym c.sized.ensures.same) (piece_passed m w.span q.result at q.ensures) }

pub passed-requires-in-Sends-Done : goal.passed-requires-in-Sends-Done
passed-requires-in-Sends-Done g c =
    let m = g.M.Linear.memory c.args.machine.now.memory in
    let w = c.in-Sends-Done in
    let at = at_stage c.args.self.now.stage (stage.Sends w.span) c.args.grants.now c.args.known.now m c.requires.at w.is-0 in
    omega (arith, piece_room m w.span at)

pub returns-in-Collects-Bytes-clause-comes : goal.returns-in-Collects-Bytes-clause-comes
returns-in-Collects-Bytes-clause-comes g c j s q answer same d i a qe r =
    let shape = g.M.Linear.memory in
    let m = c.args.machine.now in
    let known = c.args.known.now in
    let grants = c.args.grants.now in
    let t = c.args.self.now.stage in
    let z = c.sized.new.machine in
    let ze = c.sized.ensures.same in
    let h = here shape z known in
    let own = subst (λ y. IsOf (here shape y known) s) (sym ze) i in
    let w = c.in-Collects-Bytes in
    let x = stage.Collects w.place w.put w.span in
    let at = subst (λ y. AtPiece (shape y.memory) w.span) (sym ze) (at_stage t x grants known (shape m.memory) c.requires.at w.is-0).1 in
    let n = belongs_at t x c.args.reply (reply.Bytes w.len) c.requires.reply w.is-0 w.is-1 in
    let e = amid t x h s (subst (λ y. IsAmid t (here shape y known) s) (sym ze) a) w.is-0 in
    let said = subst (λ y. RepliesAs q y z.scratch answer) w.is-1 (subst (λ y. RepliesAs q c.args.reply y.scratch answer) (sym ze) r) in
    let sound = subst (λ y. IsMemory (shape y.memory)) (sym ze) c.sized.ensures.sound in
    let la = ap (λ y. length y.aside) ze ∙ c.sized.ensures.aside in
    let ls = ap (λ y. length y.scratch) ze ∙ c.sized.ensures.scratch in
    let v = collects_replied j s h w.place w.put w.span c.passed.result w.len q answer e qe said n c.passed.ensures at sound la ls own in
    let put = c.put_aside.new.self in
    let new = ap (λ y. here shape y known) c.put_aside.ensures in
    record {
      at = collecting j s (here shape put known) w.place w.put c.passed.result;
      comes = v ∙ ap (λ (y : Here). served j (collecting j s y w.place w.put c.passed.result)) (sym new);
      shows = c.collect_on.ensures.shows j s same (subst (λ (y : Here). IsOf y s) (sym new) (of_with h s _ z.scratch own));
    }

pub returns-in-Probes-Present-clause-comes : goal.returns-in-Probes-Present-clause-comes
returns-in-Probes-Present-clause-comes g c j s q answer same d i a qe r =
    let shape = g.M.Linear.memory in
    let m = c.args.machine.now in
    let known = c.args.known.now in
    let grants = c.args.grants.now in
    let t = c.args.self.now.stage in
    let z = c.sized.new.machine in
    let ze = c.sized.ensures.same in
    let h = here shape z known in
    let own = subst (λ y. IsOf (here shape y known) s) (sym ze) i in
    let w = c.in-Probes-Present in
    let e = amid t (stage.Probes w.place w.act) h s (subst (λ y. IsAmid t (here shape y known) s) (sym ze) a) w.is-0 in
    let said = subst (λ y. RepliesAs q y z.scratch answer) w.is-1 (subst (λ y. RepliesAs q c.args.reply y.scratch answer) (sym ze) r) in
    record {
      at = probed j s h w.place w.act w.is_so;
      comes = probe_replied j s h w.place w.act w.is_so q answer e qe said;
      shows = c.probed.ensures.shows j s same d own;
    }

pub returns-in-Fills-Done-clause-comes : goal.returns-in-Fills-Done-clause-comes
returns-in-Fills-Done-clause-comes g c j s q answer same d i a qe r =
    let shape = g.M.Linear.memory in
    let m = c.args.machine.now in
    let known = c.args.known.now in
    let grants = c.args.grants.now in
    let t = c.args.self.now.stage in
    let z = c.sized.new.machine in
    let ze = c.sized.ensures.same in
    let h = here shape z known in
    let own = subst (λ y. IsOf (here shape y known) s) (sym ze) i in
    let w = c.in-Fills-Done in
    let e = amid t (stage.Fills w.place w.act) h s (subst (λ y. IsAmid t (here shape y known) s) (sym ze) a) w.is-0 in
    let said = subst (λ y. RepliesAs q y z.scratch answer) w.is-1 (subst (λ y. RepliesAs q c.args.reply y.scratch answer) (sym ze) r) in
    record {
      at = sees j s h w.place w.act;
      comes = fill_seen j s h w.place w.act q answer e qe said;
      shows = c.saw.ensures.shows j s same own;
    }

pub returns-in-Acts-default-clause-comes : goal.returns-in-Acts-default-clause-comes
returns-in-Acts-default-clause-comes g c j s q answer same d i a qe r =
    let shape = g.M.Linear.memory in
    let m = c.args.machine.now in
    let known = c.args.known.now in
    let grants = c.args.grants.now in
    let t = c.args.self.now.stage in
    let z = c.sized.new.machine in
    let ze = c.sized.ensures.same in
    let h = here shape z known in
    let own = subst (λ y. IsOf (here shape y known) s) (sym ze) i in
    let w = c.in-Acts-default in
    let e = amid t (stage.Acts w.place w.act) h s (subst (λ y. IsAmid t (here shape y known) s) (sym ze) a) w.is-0 in
    let said = subst (λ y. RepliesAs q c.args.reply y.scratch answer) (sym ze) r in
    record {
      at = acted j s h w.place w.act answer;
      comes = act_replied j s h w.place w.act answer e;
      shows = c.acted.ensures.shows j s q answer same own (question_of_act j s h w.place w.act q e qe) said;
    }

pub returns-in-Sends-Done-clause-comes : goal.returns-in-Sends-Done-clause-comes
returns-in-Sends-Done-clause-comes g c j s q answer same d i a qe r =
    let shape = g.M.Linear.memory in
    let m = c.args.machine.now in
    let known = c.args.known.now in
    let grants = c.args.grants.now in
    let t = c.args.self.now.stage in
    let z = c.sized.new.machine in
    let ze = c.sized.ensures.same in
    let h = here shape z known in
    let own = subst (λ y. IsOf (here shape y known) s) (sym ze) i in
    let w = c.in-Sends-Done in
    let x = stage.Sends w.span in
    let at = subst (λ y. AtPiece (shape y.memory) w.span) (sym ze) (at_stage t x grants known (shape m.memory) c.requires.at w.is-0) in
    let p = c.passed-in-Sends-Done in
    let e = amid t x h s (subst (λ y. IsAmid t (here shape y known) s) (sym ze) a) w.is-0 in
    let said = subst (λ y. RepliesAs q y z.scratch answer) w.is-1 (subst (λ y. RepliesAs q c.args.reply y.scratch answer) (sym ze) r) in
    record {
      at = sends j s h p.result;
      comes = sends_replied j s h w.span p.result q answer e qe said p.ensures at own;
      shows = c.send_on.ensures.shows j s known same own;
    }
