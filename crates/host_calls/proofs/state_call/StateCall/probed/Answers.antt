use Rattle.std.proofs.Common.{◌∷◌, ap, ◌∙◌, sym, subst}
use Rattle.host_calls.specs.States.{here, IsAct, AsksIt, goes, probed}
use Rattle.faaslet_meaning.specs.CallState.{fill}
use Rattle.host_calls.specs.Acts.{acts_of, fill_of}
use Rattle.host_calls.specs.Reads.{key_of}
use Rattle.host_calls.specs.declared.state_call.StateStage.TheVariants as stage
use Rattle.host_calls.proofs.StateSteps.{fills_it}
use Rattle.host_calls.proofs.state_call.StateCall.probed.Goals as goal

pub returns-clause-shows : goal.returns-clause-shows
returns-clause-shows g c j s same d i =
    let h = here g.M.Linear.memory c.args.machine.now c.args.known.now in
    let k = c.args.place in
    let a = c.args.act in
    let at = subst (λ gs. IsAct a k gs c.args.known.now h.memory) (sym same) c.requires.act in
    let r = fills_it j s h k a i d c.requires.needs at in
    let told = subst (λ x. AsksIt j s (goes j s h (fill k ∷ acts_of k a) a) x (stage.Fills k a) h) (ap (λ gs. fill_of (key_of gs k)) same ∙ sym c.fill_ask.ensures) r in
    subst (λ b. AsksIt j s (probed j s h k a b) c.fill_ask.result (stage.Fills k a) h) (sym c.if-is_present.false) told
