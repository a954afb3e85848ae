use Rattle.std.proofs.Common.{[], ◌∷◌, None, ap, refl, sym, subst, ◌∙◌}
use Rattle.faaslet_meaning.specs.CallState.{give_output, submit}
use Rattle.faaslet_meaning.specs.Serve.{go_on}
use Rattle.faaslet_meaning.specs.Call.{served}
use Rattle.faaslet_meaning.specs.declared.ask.Ask.TheVariants as an_ask
use Rattle.host_calls.specs.declared.call_call.CallStage.TheVariants as stage
use Rattle.host_calls.specs.Calls.{here, AsksIt, carried, acts_at, trap_at, IsOf, IsAllowed, sends, writes, chains}
use Rattle.host_calls.proofs.CallReplies.{begun_allowed, first_goes, takes_first, reads_first, looks_first, awaits_first, fresh_takes, fresh_writes, fresh_chains, fresh_looks}
use Rattle.host_calls.proofs.call_call.CallCall.first.Goals as goal

pub returns-in-TakesInput-clause-comes : goal.returns-in-TakesInput-clause-comes
returns-in-TakesInput-clause-comes g c j s k cs grants input i b =
    let shape = g.M.Linear.memory in
    let t = c.args.self.now.stage in
    let z = c.sized.new.machine in
    let e = c.sized.ensures.same ∙ c.refusal.ensures.same in
    let own = subst (λ y. IsOf (here shape y cs) s) (sym e) i in
    let to = c.refusal.ensures.trap ∙ ap (λ y. trap_at t c.args.grants.now (shape y.memory)) (sym e) in
    let w = c.in-TakesInput in
    let d = c.take_input in
    let fresh = fresh_takes t w.off w.span c.requires.fresh w.is in
    let (span, stage_is) = c.send_on.ensures.sends in
    record {
      at = sends j s (here shape d.new.machine cs) w.span;
      comes = first_goes t (stage.TakesInput w.off w.span) j s k (here shape z cs) c.args.grants.now c.refusal.result b own grants w.is to c.in_default.is ∙ ap (served j) (takes_first shape z z d.new.machine j s cs w.off w.span c.args.input.now refl d.ensures.only d.ensures.held d.ensures.long input fresh);
      shows = c.send_on.ensures.shows j s cs grants;
      allowed = subst (IsAllowed j cs) (sym stage_is) tt;
    }

pub returns-in-Writes-clause-comes : goal.returns-in-Writes-clause-comes
returns-in-Writes-clause-comes g c j s k cs grants input i b =
    let shape = g.M.Linear.memory in
    let t = c.args.self.now.stage in
    let z = c.sized.new.machine in
    let e = c.sized.ensures.same ∙ c.refusal.ensures.same in
    let own = subst (λ y. IsOf (here shape y cs) s) (sym e) i in
    let to = c.refusal.ensures.trap ∙ ap (λ y. trap_at t c.args.grants.now (shape y.memory)) (sym e) in
    let w = c.in-Writes in
    let fresh = fresh_writes t w.span c.requires.fresh w.is in
    let (span, stage_is) = c.write_on.ensures.writes in
    record {
      at = writes j s (here shape z cs) w.span;
      comes = first_goes t (stage.Writes w.span) j s k (here shape z cs) c.args.grants.now c.refusal.result b own grants w.is to c.in_default.is ∙ ap (served j) (reads_first shape z z (give_output ∷ []) j s cs w.span refl fresh.none);
      shows = c.write_on.ensures.shows j s cs grants;
      allowed = subst (IsAllowed j cs) (sym stage_is) tt;
    }

pub returns-in-Chains-clause-comes : goal.returns-in-Chains-clause-comes
returns-in-Chains-clause-comes g c j s k cs grants input i b =
    let shape = g.M.Linear.memory in
    let t = c.args.self.now.stage in
    let z = c.sized.new.machine in
    let e = c.sized.ensures.same ∙ c.refusal.ensures.same in
    let own = subst (λ y. IsOf (here shape y cs) s) (sym e) i in
    let to = c.refusal.ensures.trap ∙ ap (λ y. trap_at t c.args.grants.now (shape y.memory)) (sym e) in
    let w = c.in-Chains in
    let fresh = fresh_chains t w.function w.span c.requires.fresh w.is in
    let r = c.chain_on.ensures.shows j s cs grants (begun_allowed t (stage.Chains w.function w.span) j s k (here shape z cs) b own w.is) in
    record {
      at = chains j s (here shape z cs) w.function w.span;
      comes = first_goes t (stage.Chains w.function w.span) j s k (here shape z cs) c.args.grants.now c.refusal.result b own grants w.is to c.in_default.is ∙ ap (served j) (reads_first shape z z (submit w.function ∷ []) j s cs w.span refl fresh.none);
      shows = r.0;
      allowed = r.1;
    }

pub returns-in-Awaits-clause-comes : goal.returns-in-Awaits-clause-comes
returns-in-Awaits-clause-comes g c j s k cs grants input i b =
    let shape = g.M.Linear.memory in
    let t = c.args.self.now.stage in
    let z = c.sized.new.machine in
    let e = c.sized.ensures.same ∙ c.refusal.ensures.same in
    let own = subst (λ y. IsOf (here shape y cs) s) (sym e) i in
    let to = c.refusal.ensures.trap ∙ ap (λ y. trap_at t c.args.grants.now (shape y.memory)) (sym e) in
    let w = c.in-Awaits in
    record {
      at = go_on j (acts_at (stage.Awaits w.child)) (carried s (here shape z cs) [] None);
      comes = first_goes t (stage.Awaits w.child) j s k (here shape z cs) c.args.grants.now c.refusal.result b own grants w.is to c.in_default.is;
      shows = subst (λ y. AsksIt j s (go_on j (acts_at (stage.Awaits w.child)) (carried s (here shape z cs) [] None)) (an_ask.Look w.child) y (here shape z cs)) (sym w.is) (awaits_first j s (here shape z cs) w.child);
      allowed = subst (IsAllowed j cs) (sym w.is) tt;
    }

pub returns-in-Looks-clause-comes : goal.returns-in-Looks-clause-comes
returns-in-Looks-clause-comes g c j s k cs grants input i b =
    let shape = g.M.Linear.memory in
    let t = c.args.self.now.stage in
    let z = c.sized.new.machine in
    let e = c.sized.ensures.same ∙ c.refusal.ensures.same in
    let own = subst (λ y. IsOf (here shape y cs) s) (sym e) i in
    let to = c.refusal.ensures.trap ∙ ap (λ y. trap_at t c.args.grants.now (shape y.memory)) (sym e) in
    let w = c.in-Looks in
    let fresh = fresh_looks t w.child w.off w.span c.requires.fresh w.is in
    let x = stage.Looks w.child w.off w.span in
    record {
      at = go_on j (acts_at x) (carried s (here shape z cs) [] None);
      comes = first_goes t (x) j s k (here shape z cs) c.args.grants.now c.refusal.result b own grants w.is to c.in_default.is;
      shows = subst (λ y. AsksIt j s (go_on j (acts_at x) (carried s (here shape z cs) [] None)) (an_ask.Look w.child) y (here shape z cs)) (sym w.is) (looks_first t j s (here shape z cs) c.args.grants.now c.refusal.result w.child w.off w.span to c.in_default.is w.is fresh);
      allowed = subst (IsAllowed j cs) (sym w.is) (begun_allowed t x j s k (here shape z cs) b own w.is);
    }
