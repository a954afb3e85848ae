-- One more global value is written, or what stops it.
use Rattle.std.proofs.Common.{◌≡◌, ◌<◌, ◌++◌, ◌+◌, ℕ, List, [], Some, None, length, drop, sym, ap, subst, ◌∙◌, arith}
use Rattle.fa_outside.specs.Appended.{Appends, AppendsPart}
use Rattle.session_meaning.specs.SessionReport.{state_line, state_lines}
use Rattle.session_report.proofs.Folds.{there, values_left}
use Rattle.session_report.proofs.Fronts.{in_part, none_of_it, one_more, stopped, value_some}
use Rattle.session_report.proofs.writing.write_values.Goals as goal

pub returns-in_err-push_value-clause-written : goal.returns-in_err-push_value-clause-written
returns-in_err-push_value-clause-written g c =
    let ks = (g.S.Reported.plan c.args.session.now).keys in
    let vs = g.S.Reported.values c.args.session.now in
    let i = c.loop-key.key in
    let within : i < length ks = omega (arith, c.loop-key-test.true, c.keys-key-end.ensures) in
    let k = there ks i within in
    let v = c.value.result.now in
    let left = values_left ks vs i k.0 v k.1 c.value.ensures in
    in_part c.from_residual.result _ _ _ c.from_residual.ensures.0
    (stopped _ _ _ (state_lines ks vs) _ (state_line k.0 v) (state_lines (drop (i + 1) ks) (drop (i + 1) vs)) left
    (none_of_it _ (state_line k.0 v) (value_some k.0 v)) c.loop-key.invariant.written)

pub returns-in_err-write_whole-clause-written : goal.returns-in_err-write_whole-clause-written
returns-in_err-write_whole-clause-written g c =
    let ks = (g.S.Reported.plan c.args.session.now).keys in
    let vs = g.S.Reported.values c.args.session.now in
    let i = c.loop-key.key in
    let within : i < length ks = omega (arith, c.loop-key-test.true, c.keys-key-end.ensures) in
    let k = there ks i within in
    let v = c.value.result.now in
    let left = values_left ks vs i k.0 v k.1 c.value.ensures in
    let name : k.0.name ≡ c.key_name.result.now = sym (c.key_name.ensures ∙ ap (λ o. elim o as (λ _. List ℕ) [ None ↦ [] | Some x ↦ x.name ]) k.1) in
    let text : c.as_bytes.result.now ≡ state_line k.0 v = c.as_bytes.ensures.value ∙ (c.in_ok-push_value.ensures k.0 name) ∙ ap (λ t. t ++ state_line k.0 v) c.clear.ensures.bytes in
    in_part c.from_residual-in_err-write_whole.result _ _ _ c.from_residual-in_err-write_whole.ensures.0
    (stopped _ _ _ (state_lines ks vs) _ (state_line k.0 v) (state_lines (drop (i + 1) ks) (drop (i + 1) vs)) left
    (subst (AppendsPart _ _) text c.in_err-write_whole.ensures.part) c.loop-key.invariant.written)

pub loop-key-preserved : goal.loop-key-preserved
loop-key-preserved g c =
    let ks = (g.S.Reported.plan c.args.session.now).keys in
    let vs = g.S.Reported.values c.args.session.now in
    let i = c.loop-key.key in
    let within : i < length ks = omega (arith, c.loop-key-test.true, c.keys-key-end.ensures) in
    let k = there ks i within in
    let v = c.value.result.now in
    let left = values_left ks vs i k.0 v k.1 c.value.ensures in
    let name : k.0.name ≡ c.key_name.result.now = sym (c.key_name.ensures ∙ ap (λ o. elim o as (λ _. List ℕ) [ None ↦ [] | Some x ↦ x.name ]) k.1) in
    let text : c.as_bytes.result.now ≡ state_line k.0 v = c.as_bytes.ensures.value ∙ (c.in_ok-push_value.ensures k.0 name) ∙ ap (λ t. t ++ state_line k.0 v) c.clear.ensures.bytes in
    record {
      written = one_more _ _ _ (state_lines ks vs) _ (state_line k.0 v) (state_lines (drop (i + 1) ks) (drop (i + 1) vs)) left
          (subst (Appends _ _) text c.in_ok-write_whole.ensures.whole) c.loop-key.invariant.written;
      quiet = c.in_ok-write_whole.ensures.quiet ∙ c.loop-key.invariant.quiet;
    }
