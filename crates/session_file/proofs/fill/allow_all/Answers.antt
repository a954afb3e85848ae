use Rattle.std.proofs.Common.{rules, sym, ◌∙◌, map, List, ℕ}
use denote.Bor.{Bor}
use Rattle.session_meaning.specs.SessionFile as file
use Rattle.session_file.specs.Told.{Tells}
use Rattle.session_file.proofs.Turns.{goes_on, stops}
use Rattle.session_file.proofs.fill.allow_all.Goals as goal

pub loop-callee-preserved : goal.loop-callee-preserved
loop-callee-preserved c =
    record {
      sizes = search rules;
      rest = sym (goes_on (file.allow c.args.f) (λ (s : Bor (List ℕ)). s.now) c.args.calls.now c.loop-callee.callee-index _ c.loop-callee.registry c.loop-callee-test.true c.allow.new.registry c.in_ok-allow.ensures.ok) ∙ c.loop-callee.invariant.rest;
    }

pub returns-in_err-allow-clause-refused : goal.returns-in_err-allow-clause-refused
returns-in_err-allow-clause-refused c =
    let told : Tells c.in_err-allow.field-0.0 (file.in_turn 0 (file.allow c.args.f) c.args.registry.now (map (λ (s : Bor (List ℕ)). s.now) c.args.calls.now)) =
    λ r some. sym c.loop-callee.invariant.rest ∙ stops (file.allow c.args.f) (λ (s : Bor (List ℕ)). s.now) c.args.calls.now c.loop-callee.callee-index _ c.loop-callee.registry c.loop-callee-test.true r (c.in_err-allow.ensures.refused r some) in
    search rules
