-- The module that the tests run. This project's own.
use Rattle.std.specs.Prelude.{List, [], ◌∷◌, None}
use Rattle.faaslet_meaning.specs.declared.instr.Instr.{Instr}
use Rattle.faaslet_meaning.specs.declared.instr.ValType.TheVariants.{I32}
use Rattle.faaslet_meaning.specs.declared.module.Module.{Module}

abbrev pub trial : List Instr → Module
trial code =
    record {
      types = record { params = []; results = I32 ∷ [] } ∷ record { params = []; results = [] } ∷ [];
      imports = [];
      functions = 0 ∷ [];
      tables = record { min = 2; max = None } ∷ [];
      memories = record { min = 0; max = None } ∷ [];
      globals = [];
      exports = [];
      start = None;
      elements = [];
      bodies = record { locals = record { count = 2; kind = I32 } ∷ []; code = code } ∷ [];
      segments = [];
    }
