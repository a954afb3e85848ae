-- One more global value is written.
use Rattle.std.proofs.Common.{◌≡◌, ◌<◌, ◌++◌, ℕ, List, [], Some, None, length, sym, ap, ◌∙◌, arith}
use Rattle.std.specs.String.{string_bytes}
use Rattle.session_meaning.specs.SessionReport.{state_lines}
use Rattle.session_report.proofs.Folds.{one_value, there}
use Rattle.session_report.proofs.whole.push_values.Goals as goal

pub loop-key-preserved : goal.loop-key-preserved
loop-key-preserved g c =
    let ks = (g.S.Reported.plan c.args.session.now).keys in
    let vs = g.S.Reported.values c.args.session.now in
    let within : c.loop-key.key < length ks = omega (arith, c.loop-key-test.true, c.keys-key-end.ensures) in
    let k = there ks c.loop-key.key within in
    let name : k.0.name ≡ c.key_name.result.now = sym (c.key_name.ensures ∙ ap (λ o. elim o as (λ _. List ℕ) [ None ↦ [] | Some x ↦ x.name ]) k.1) in
    one_value ks vs c.loop-key.key k.0 c.value.result.now (string_bytes c.loop-key.out) (string_bytes c.push_value.new.out) (string_bytes c.args.out.now ++ state_lines ks vs) k.1 c.value.ensures
    (c.in_ok-push_value.ensures k.0 name) c.loop-key.invariant
