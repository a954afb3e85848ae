use Rattle.std.proofs.Common.{◌≡◌, drop}
use Rattle.wasm_validate.specs.Steps.{run_at}
use Rattle.wasm_validate.proofs.instrs.run.Given as goal

abbrev pub invariant-loop-instr : goal.invariant-loop-instr
invariant-loop-instr l = run_at l.scope (drop l.instr-index l.code) l.blocks ≡ run_at l.scope l.code l.initial.blocks
