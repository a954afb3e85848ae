-- The type that a signature stands for. This project's own.
use Rattle.std.specs.Prelude.{replicate}
use Rattle.faaslet_meaning.specs.declared.instr.ValType.TheVariants.{I32}
use Rattle.faaslet_meaning.specs.declared.module.FuncType.{FuncType}
use Rattle.faaslet_meaning.specs.Tree.{types_of}
use Rattle.function_rules.specs.declared.signature.Signature.{Signature}

abbrev pub func_type : Signature → FuncType
func_type s = record { params = replicate s.params I32; results = types_of s.result }
