use Rattle.std.proofs.Common.{length, sym, ap, ◌∙◌}
use Rattle.std.proofs.lemmas.Bool.{eqb-true, eqb-false}
use Rattle.std.proofs.lemmas.List.{nil_from_length}
use Rattle.std.proofs.lemmas.Result.{err_from_is_err_and}
use Rattle.wasm_code.proofs.Loop.{passed_none}
use Rattle.wasm_decode.proofs.Modules.{refused_unread, refused_section, refused_counts, built_more}
use Rattle.wasm_decode.proofs.SectionLists.{section_shorter}
use Rattle.wasm_decode.proofs.sections.read_module.Goals as goal

pub returns-in_err-id-clause-malformed : goal.returns-in_err-id-clause-malformed
returns-in_err-id-clause-malformed c =
    let p = err_from_is_err_and c.from_residual.result c.from_residual.ensures.1 in
    λ of. refused_unread _ _ _ _ c.in-Some.ensures c.loop-rest.invariant (λ e. eqb-false (length c.loop-rest.rest.now) 0 (sym c.is_empty.ensures ∙ c.loop-rest-test.true) (ap length e)) (passed_none c.from_residual.result p.0 _ _ p.1 p.2 c.in_err-id.ensures of)

pub returns-in_err-so_far-clause-malformed : goal.returns-in_err-so_far-clause-malformed
returns-in_err-so_far-clause-malformed c =
    let p = err_from_is_err_and c.from_residual-in_err-so_far.result c.from_residual-in_err-so_far.ensures.1 in
    λ of. refused_section _ _ _ _ _ _ _ c.in-Some.ensures c.loop-rest.invariant c.in_ok-id.ensures (passed_none c.from_residual-in_err-so_far.result p.0 _ _ p.1 p.2 c.in_err-so_far.ensures of)

pub loop-rest-smaller : goal.loop-rest-smaller
loop-rest-smaller c = section_shorter _ _ _ c.in_ok-id.ensures

pub loop-rest-preserved : goal.loop-rest-preserved
loop-rest-preserved c = built_more _ _ _ _ _ _ _ c.loop-rest.invariant c.in_ok-id.ensures c.in_ok-so_far.ensures

pub returns-then-as_slice-clause-malformed : goal.returns-then-as_slice-clause-malformed
returns-then-as_slice-clause-malformed c = λ of. refused_counts _ _ _ _ c.in-Some.ensures c.loop-rest.invariant (nil_from_length c.loop-rest.rest.now (eqb-true (length c.loop-rest.rest.now) 0 (sym c.is_empty.ensures ∙ c.loop-rest-test.false))) (λ e. c.if-as_slice.true (ap length c.as_slice.ensures ∙ e ∙ sym (ap length c.as_slice-2.ensures)))
