-- So far the machine stands for what the steps of the definition came to.
use Rattle.std.proofs.Common.{ℕ, List}
use Rattle.faaslet_meaning.specs.declared.grant.Grant.{Grant}
use Rattle.faaslet_meaning.specs.declared.module.Module.{Module}
use Rattle.faaslet_meaning.specs.Configuration.{Next}
use Rattle.faaslet_meaning.specs.Program.{program_of}
use Rattle.wasm_interp.specs.Goes.{SameRun}
use Rattle.wasm_interp.specs.StandsFor.{StandsFor, Comes}
use Rattle.wasm_interp.proofs.Runs.{left_of, left}
use Rattle.wasm_interp.proofs.machine.Machine.run.Given as goal

abbrev pub invariant-turns : goal.invariant-turns
invariant-turns g l = record {
  stands : (code : Module) × (grants : List Grant) × (given : ℕ) × (n : Next) × StandsFor g.M.Linear.memory l.self code grants given n;
  came : (code : Module) (grants : List Grant) (given : ℕ) (n : Next) → StandsFor g.M.Linear.memory l.initial.self code grants given n → (next : Next) × Comes (program_of code grants) n next × StandsFor g.M.Linear.memory l.self code grants given next;
  same : SameRun g.M.Linear.backing l.initial.self l.self;
}

abbrev pub decreases-turns : goal.decreases-turns
decreases-turns g l = left_of l.self.stage (left l.self.thread)
