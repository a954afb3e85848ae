-- An instruction of the thread alone, of the whole machine.
use Rattle.std.proofs.Common.{subst, sym}
use Rattle.faaslet_meaning.specs.declared.instr.Instr.{Instr}
use Rattle.wasm_interp.specs.Goes.{Done, instruction}
use Rattle.wasm_interp.proofs.Settling.{settled_stands, settled_same}
use Rattle.wasm_interp.proofs.machine.Machine.plain.Goals as goal

pub returns-in-Load-clause-done : goal.returns-in-Load-clause-done
returns-in-Load-clause-done g c = subst (λ (i : Instr). Done g.M.Linear.memory c.args.self.now c.load.new.self (instruction i)) (sym c.in-Load.is) c.load.ensures.done

pub returns-in-MemorySize-clause-done : goal.returns-in-MemorySize-clause-done
returns-in-MemorySize-clause-done g c = subst (λ (i : Instr). Done g.M.Linear.memory c.args.self.now c.memory_size.new.self (instruction i)) (sym c.in-MemorySize.is) c.memory_size.ensures.done

pub returns-in_default : goal.returns-in_default
returns-in_default g c =
    let m = c.args.self.now in
    record {
      done = λ p d l s ok. settled_stands g.M.Linear.memory m c.settle.new.self c.own-result.new.self (instruction c.args.instr.now p d) c.own-result.result c.settle.ensures c.requires.able.runs (c.own-result.ensures.done p (g.M.Linear.memory m.memory) d s ok);
      same = settled_same g.M.Linear.backing m c.settle.new.self c.own-result.new.self _ c.settle.ensures c.own-result.ensures.rooms;
    }
