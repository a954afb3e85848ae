use Rattle.std.proofs.Common.{◌≡◌, ap, refl, sym, subst, ◌∙◌, length}
use Rattle.std.specs.Prelude.{Ok, Err, Some, true}
use Rattle.faaslet_meaning.specs.declared.grant.Mode.TheVariants as mode
use Rattle.faaslet_meaning.specs.Call.{served}
use Rattle.faaslet_meaning.specs.Serve.{through}
use Rattle.host_calls.specs.declared.state_call.StateStage.TheVariants as stage
use Rattle.host_calls.specs.Acts.{whole_acts}
use Rattle.host_calls.specs.Buffers.{IsWithin}
use Rattle.faaslet_meaning.specs.Memory.{mappings}
use Rattle.host_calls.specs.States.{here, trap_at, IsOf, IsAct, IsFresh, maps, goes, collecting}
use Rattle.host_calls.proofs.StateMachines.{short_stage, fresh_within, ready_at}
use Rattle.host_calls.proofs.StateReplies.{first_goes, first_traps, collects_first, acts_first}
use Rattle.host_calls.proofs.StateSteps.{is_now}
use Rattle.host_calls.proofs.state_call.StateCall.first.Goals as goal

pub refusal-requires : goal.refusal-requires
refusal-requires g c = short_stage c.args.self.now.stage (length c.args.grants.now) c.args.known.now c.requires.fresh

pub collect_on-requires-clause-within : goal.collect_on-requires-clause-within
collect_on-requires-clause-within g c =
    let shape = g.M.Linear.memory in
    let w = c.in-Collects in
    let known = c.args.known.now in
    let grants = c.args.grants.now in
    let f = subst (λ t. IsFresh t (length grants) known) w.is c.requires.fresh in
    let e = ap (λ t. trap_at t grants (shape c.args.machine.now.memory)) (sym w.is) ∙ sym c.refusal.ensures.trap ∙ c.in_default.is in
    subst (λ y. IsWithin (shape y.memory) w.span) (sym c.refusal.ensures.same) (fresh_within grants (shape c.args.machine.now.memory) mode.Read w.span e f.1)

pub collect_on-requires-clause-place : goal.collect_on-requires-clause-place
collect_on-requires-clause-place g c = (subst (λ t. IsFresh t (length c.args.grants.now) c.args.known.now) c.in-Collects.is c.requires.fresh).0

pub set_out-requires-clause-act : goal.set_out-requires-clause-act
set_out-requires-clause-act g c =
    let shape = g.M.Linear.memory in
    let w = c.in-Acts in
    let known = c.args.known.now in
    let grants = c.args.grants.now in
    let m = shape c.args.machine.now.memory in
    let f = subst (λ t. IsFresh t (length grants) known) w.is c.requires.fresh in
    let e = ap (λ t. trap_at t grants m) (sym w.is) ∙ sym c.refusal.ensures.trap ∙ c.in_default.is in
    let tied = subst (λ t. maps t ≡ true → known.mappings ≡ mappings m) w.is c.requires.tied in
    subst (λ y. IsAct w.act w.place grants known (shape y.memory)) (sym c.refusal.ensures.same) (ready_at w.act w.place grants known m c.requires.sizes f.0 f.1 tied e)

pub returns-in-Some-clause-comes : goal.returns-in-Some-clause-comes
returns-in-Some-clause-comes g c j s k same i b =
    let shape = g.M.Linear.memory in
    let t = c.args.self.now.stage in
    let m = shape c.args.machine.now.memory in
    let e = c.refusal.ensures.same in
    let own = subst (λ y. IsOf (here shape y c.args.known.now) s) (sym e) i in
    record {
      at = through s (Err c.in-Some.trap);
      comes = first_traps t j s k m c.args.grants.now c.refusal.result c.in-Some.trap b i.memory same c.refusal.ensures.trap c.in-Some.is;
      shows = record { state = s; comes = refl; now = is_now s (here shape c.refusal.new.machine c.args.known.now) own };
    }

pub returns-in-Gives-clause-comes : goal.returns-in-Gives-clause-comes
returns-in-Gives-clause-comes g c j s k same i b =
    let shape = g.M.Linear.memory in
    let t = c.args.self.now.stage in
    let m = shape c.args.machine.now.memory in
    let own = subst (λ y. IsOf (here shape y c.args.known.now) s) (sym c.refusal.ensures.same) i in
    let w = c.in-Gives in
    record {
      at = through s (Ok (Some c.from.result));
      comes = first_goes t (stage.Gives w.number) j s k m c.args.grants.now c.refusal.result b i.memory same w.is c.refusal.ensures.trap c.in_default.is ∙ ap (λ n. served j (through s (Ok (Some n)))) (sym c.from.ensures);
      shows = record { state = s; comes = refl; now = is_now s (here shape c.refusal.new.machine c.args.known.now) own };
    }

pub returns-in-Collects-clause-comes : goal.returns-in-Collects-clause-comes
returns-in-Collects-clause-comes g c j s k same i b =
    let shape = g.M.Linear.memory in
    let t = c.args.self.now.stage in
    let m = shape c.args.machine.now.memory in
    let known = c.args.known.now in
    let h = here shape c.refusal.new.machine known in
    let own = subst (λ y. IsOf (here shape y known) s) (sym c.refusal.ensures.same) i in
    let w = c.in-Collects in
    let f = subst (λ y. IsFresh y (length c.args.grants.now) known) w.is c.requires.fresh in
    record {
      at = collecting j s h w.place w.put w.span;
      comes = first_goes t (stage.Collects w.place w.put w.span) j s k m c.args.grants.now c.refusal.result b i.memory same w.is c.refusal.ensures.trap c.in_default.is
          ∙ ap (served j) (collects_first j s h w.place w.put w.span own f.1.none);
      shows = c.collect_on.ensures.shows j s same own;
    }

pub returns-in-Acts-clause-comes : goal.returns-in-Acts-clause-comes
returns-in-Acts-clause-comes g c j s k same i b =
    let shape = g.M.Linear.memory in
    let t = c.args.self.now.stage in
    let m = shape c.args.machine.now.memory in
    let known = c.args.known.now in
    let h = here shape c.refusal.new.machine known in
    let own = subst (λ y. IsOf (here shape y known) s) (sym c.refusal.ensures.same) i in
    let w = c.in-Acts in
    let f = subst (λ y. IsFresh y (length c.args.grants.now) known) w.is c.requires.fresh in
    record {
      at = goes j s h (whole_acts w.place w.act) w.act;
      comes = first_goes t (stage.Acts w.place w.act) j s k m c.args.grants.now c.refusal.result b i.memory same w.is c.refusal.ensures.trap c.in_default.is
          ∙ ap (served j) (acts_first j s h w.place w.act known f.1);
      shows = c.set_out.ensures.shows j s same own;
    }
