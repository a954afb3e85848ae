use Rattle.std.proofs.Common.{List, ℕ, ◌+◌, ◌*◌, [], Some, length, take, ap, subst, refl, ◌∙◌}
use Rattle.std.specs.Prelude.{replicate}
use Rattle.faaslet_meaning.specs.declared.grant.Grant.{Grant}
use Rattle.faaslet_meaning.specs.CallState.{fresh_state, runs}
use Rattle.faaslet_meaning.specs.Runs.{invocation}
use Rattle.faaslet_run.specs.declared.faaslet.Called.{Called}
use Rattle.faaslet_run.specs.declared.faaslet.Faaslet.{Faaslet}
use Rattle.faaslet_run.specs.declared.faaslet.Stage.TheVariants.{Runs}
use Rattle.faaslet_run.specs.Places.{StandsAt}
use Rattle.faaslet_run.specs.Begun.{IsBegun}
use Rattle.faaslet_run.proofs.Beginning.{started}
use Rattle.faaslet_run.proofs.faaslet.Faaslet.start.Goals as goal

pub returns-clause-started : goal.returns-clause-started
returns-clause-started c = λ g cfg for grants callees room made.
    let called : Called = record { grants = c.args.grants; callees = c.args.callees; len = c.args.job.len; room = c.args.job.room } in
    let f : Faaslet = record c.restore.new.self { known = c.clear.new.self; keys = c.clear-2.new.self; output = c.clear-3.new.self; counts = c.restart.new.self; called = Some called; stage = Runs } in
    let at = started f called c.args.proto.now g cfg c.args.job.fuel refl c.clear.ensures c.clear-2.ensures.keeps c.clear-3.ensures (c.restart.ensures ∙ ap (λ (gs : List Grant). replicate (2 * length gs + 1) 0) c.as_slice-list.ensures) refl c.as_slice-input.ensures.long (subst (λ (gs : List Grant). IsBegun c.restore.new.self.machine c.args.proto.now gs c.args.job.fuel) c.as_slice-list.ensures c.restore.ensures.stands) c.requires.grants c.requires.callees c.requires.output c.requires.input for grants callees room made in
    let Stands : List ℕ → Type 0 = λ bytes. StandsAt f (invocation g (take c.args.job.len bytes)) (fresh_state cfg) [] (runs (fresh_state cfg)) in
    subst Stands (ap (λ (x : Faaslet). x.input) c.restore.ensures.only) at
