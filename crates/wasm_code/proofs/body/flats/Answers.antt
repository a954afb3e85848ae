use Rattle.std.proofs.Common.{refl, Some, ap, ◌∙◌}
use Rattle.std.proofs.lemmas.Result.{err_from_is_err_and}
use Rattle.faaslet_meaning.proofs.Expressions.{run_more, grows, ended, stuck_unread, stuck_here, shorter}
use Rattle.wasm_code.proofs.Loop.{passed_none}
use Rattle.wasm_code.proofs.Stack.{passed_on}
use Rattle.wasm_code.proofs.body.flats.Goals as goal

pub returns-in_err-instr-clause-malformed : goal.returns-in_err-instr-clause-malformed
returns-in_err-instr-clause-malformed c =
    let p = err_from_is_err_and c.from_residual-in_err-instr.result c.from_residual-in_err-instr.ensures.1 in
    λ of. stuck_unread _ _ _ _ c.instrs.invariant.read c.instrs.invariant.nested (λ e. let h = c.instrs-test.ensures.1 e in cc) (passed_none c.from_residual-in_err-instr.result p.0 _ _ p.1 p.2 c.in_err-instr.ensures of)

pub returns-in_err-step-clause-malformed : goal.returns-in_err-step-clause-malformed
returns-in_err-step-clause-malformed c =
    let p = err_from_is_err_and c.from_residual-in_err-step.result c.from_residual-in_err-step.ensures.1 in
    λ is. stuck_here _ _ _ _ _ _ c.instrs.invariant.read c.instrs.invariant.nested (λ e. let h = c.instrs-test.ensures.1 e in cc) c.in_ok-instr.ensures (c.in_err-step.ensures.malformed (passed_on c.from_residual-in_err-step.result p.0 _ _ p.1 p.2 is))

pub instrs-smaller : goal.instrs-smaller
instrs-smaller c = shorter _ _ _ c.in_ok-instr.ensures

pub instrs-preserved : goal.instrs-preserved
instrs-preserved c = record {
  read = rw c.in_ok-push.ensures.items (grows _ _ _ _ _ c.instrs.invariant.read c.in_ok-instr.ensures);
  nested = rw c.in_ok-push.ensures.items (run_more c.instrs.code.items c.in_ok-instr.instr _ _ c.instrs.invariant.nested c.in_ok-step.ensures.kept);
}

pub returns-clause-found : goal.returns-clause-found
returns-clause-found c = rw c.of.ensures (ended _ _ _ c.instrs.invariant.read (c.instrs.invariant.nested ∙ ap (λ ms. Some ms) (c.instrs-test.ensures.0 refl)))
