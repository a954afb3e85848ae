-- Each instruction of the thread alone does what its rule says.
use Rattle.wasm_interp.proofs.Settling.{does_as}
use Rattle.wasm_interp.proofs.thread.Thread.own.Goals as goal

pub returns-in-BrIf-clause-done : goal.returns-in-BrIf-clause-done
returns-in-BrIf-clause-done c = does_as c.args.self.now c.br_if.new.self c.args.instr.now _ c.br_if.result c.in-BrIf.is c.br_if.ensures.done

pub returns-in-BrTable-clause-done : goal.returns-in-BrTable-clause-done
returns-in-BrTable-clause-done c = does_as c.args.self.now c.br_table.new.self c.args.instr.now _ c.br_table.result c.in-BrTable.is c.br_table.ensures.done

pub returns-in-Drop-clause-done : goal.returns-in-Drop-clause-done
returns-in-Drop-clause-done c = does_as c.args.self.now c.drop_top.new.self c.args.instr.now _ c.drop_top.result c.in-Drop.is c.drop_top.ensures.done

pub returns-in-Select-clause-done : goal.returns-in-Select-clause-done
returns-in-Select-clause-done c = does_as c.args.self.now c.select.new.self c.args.instr.now _ c.select.result c.in-Select.is c.select.ensures.done

pub returns-in-LocalGet-clause-done : goal.returns-in-LocalGet-clause-done
returns-in-LocalGet-clause-done c = does_as c.args.self.now c.local_get.new.self c.args.instr.now _ c.local_get.result c.in-LocalGet.is c.local_get.ensures.done

pub returns-in-LocalSet-clause-done : goal.returns-in-LocalSet-clause-done
returns-in-LocalSet-clause-done c = does_as c.args.self.now c.local_set.new.self c.args.instr.now _ c.local_set.result c.in-LocalSet.is c.local_set.ensures.done

pub returns-in-LocalTee-clause-done : goal.returns-in-LocalTee-clause-done
returns-in-LocalTee-clause-done c = does_as c.args.self.now c.local_tee.new.self c.args.instr.now _ c.local_tee.result c.in-LocalTee.is c.local_tee.ensures.done

pub returns-in-GlobalGet-clause-done : goal.returns-in-GlobalGet-clause-done
returns-in-GlobalGet-clause-done c = does_as c.args.self.now c.global_get.new.self c.args.instr.now _ c.global_get.result c.in-GlobalGet.is c.global_get.ensures.done

pub returns-in-GlobalSet-clause-done : goal.returns-in-GlobalSet-clause-done
returns-in-GlobalSet-clause-done c = does_as c.args.self.now c.global_set.new.self c.args.instr.now _ c.global_set.result c.in-GlobalSet.is c.global_set.ensures.done

pub returns-in-I32Const-clause-done : goal.returns-in-I32Const-clause-done
returns-in-I32Const-clause-done c = does_as c.args.self.now c.i32_const.new.self c.args.instr.now _ c.i32_const.result c.in-I32Const.is c.i32_const.ensures.done

pub returns-in-I64Const-clause-done : goal.returns-in-I64Const-clause-done
returns-in-I64Const-clause-done c = does_as c.args.self.now c.i64_const.new.self c.args.instr.now _ c.i64_const.result c.in-I64Const.is c.i64_const.ensures.done

pub returns-in-Num-clause-done : goal.returns-in-Num-clause-done
returns-in-Num-clause-done c = does_as c.args.self.now c.numeric.new.self c.args.instr.now _ c.numeric.result c.in-Num.is c.numeric.ensures.done
