use Rattle.std.proofs.Common.{rules, sym, ◌∙◌, map}
use Rattle.session_meaning.specs.SessionFile as file
use Rattle.session_file.specs.Texts.{grant_text_of}
use Rattle.session_file.specs.Told.{Tells}
use Rattle.session_file.proofs.Turns.{goes_on, stops}
use Rattle.session_file.proofs.fill.grant_all.Goals as goal

pub loop-one-preserved : goal.loop-one-preserved
loop-one-preserved c =
    record {
      sizes = search rules;
      rest = sym (goes_on (file.grant c.args.f) grant_text_of c.args.grants.now c.loop-one.one-index _ c.loop-one.registry c.loop-one-test.true c.grant.new.registry c.in_ok-grant.ensures.ok) ∙ c.loop-one.invariant.rest;
    }

pub returns-in_err-grant-clause-refused : goal.returns-in_err-grant-clause-refused
returns-in_err-grant-clause-refused c =
    let told : Tells c.in_err-grant.field-0.0 (file.in_turn 0 (file.grant c.args.f) c.args.registry.now (map grant_text_of c.args.grants.now)) =
    λ r some. sym c.loop-one.invariant.rest ∙ stops (file.grant c.args.f) grant_text_of c.args.grants.now c.loop-one.one-index _ c.loop-one.registry c.loop-one-test.true r (c.in_err-grant.ensures.refused r some) in
    search rules
