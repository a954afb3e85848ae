-- The session of `load`: each request adds one to a counter that all of them share. This project's own.
use Rattle.std.specs.Prelude.{ℕ, ◌+◌, ◌%◌, List, [], ◌∷◌, ◌++◌, None, pos, codes, suc, zero}
use Rattle.std.specs.Fmt.{decimal}
use Rattle.faaslet_meaning.specs.declared.instr.ValType.TheVariants.{I32}
use Rattle.faaslet_meaning.specs.declared.instr.Instr.{Instr}
use Rattle.faaslet_meaning.specs.declared.instr.Instr.TheVariants.{Call, LocalGet, LocalTee, Load, Store, I32Const, Num, End}
use Rattle.faaslet_meaning.specs.declared.module.Module.{Module}
use Rattle.faaslet_meaning.specs.declared.module.FuncType.{FuncType}
use Rattle.faaslet_meaning.specs.declared.module.Import.{Import}
use Rattle.faaslet_meaning.specs.declared.module.ImportKind.TheVariants as import
use Rattle.faaslet_meaning.specs.declared.module.ExportKind.TheVariants as export
use Rattle.faaslet_meaning.specs.declared.grant.Mode.TheVariants.{Write}
use Rattle.faaslet_meaning.specs.HostCalls.{host_module}
use Rattle.session_meaning.specs.Plan.{Key, NamedFunction, Request, Plan}

-- ---- The module: under the lock of the global value it pulls the counter, adds one, and pushes it.

-- of `main`, of a host call without a result, and of one with a result
abbrev pub bump_types : List FuncType
bump_types = record { params = []; results = I32 ∷ [] } ∷ record { params = I32 ∷ []; results = [] } ∷ record { params = I32 ∷ []; results = I32 ∷ [] } ∷ []

abbrev pub imported : List ℕ → ℕ → Import
imported name t = record { «module» = host_module; name = name; kind = import.Function t }

abbrev pub bump_imports : List Import
bump_imports =
    imported (codes "lock_global_write") 1
    ∷ imported (codes "pull_state") 1
    ∷ imported (codes "get_state") 2
    ∷ imported (codes "push_state") 1
    ∷ imported (codes "unlock_global") 1
    ∷ []

abbrev pub c : ℕ → Instr
c n = I32Const (pos n)

-- 0x28 is i32.load, 0x6A i32.add and 0x36 i32.store
abbrev pub bump_code : List Instr
bump_code =
    c 0 ∷ Call 0
    ∷ c 0 ∷ Call 1
    ∷ c 0 ∷ Call 2 ∷ LocalTee 0
    ∷ LocalGet 0 ∷ Load 0x28 2 0 ∷ c 1 ∷ Num 0x6A ∷ Store 0x36 2 0
    ∷ c 0 ∷ Call 3
    ∷ c 0 ∷ Call 4
    ∷ c 0 ∷ End ∷ []

abbrev pub bump : Module
bump =
    record {
      types = bump_types;
      imports = bump_imports;
      functions = 0 ∷ [];
      tables = [];
      memories = record { min = 1; max = None } ∷ [];
      globals = [];
      exports = record { name = codes "main"; kind = export.Function; index = 5 } ∷ [];
      start = None;
      elements = [];
      bodies = record { locals = record { count = 1; kind = I32 } ∷ []; code = bump_code } ∷ [];
      segments = [];
    }

-- ---- The plan of n requests.

abbrev pub counter : Key
counter = record { name = codes "counter"; size = 4; init = 0 ∷ 0 ∷ 0 ∷ 0 ∷ [] }

-- quota, fuel and output room are those of a session file that gives none
abbrev pub bumps : NamedFunction
bumps =
    record {
      name = codes "bump";
      function = record { code = bump; quota = 64; fuel = 100000000; room = 1024; grants = record { key = 0; size = 4; mode = Write } ∷ []; callees = [] };
    }

abbrev pub load_request : ℕ → Request
load_request i = record { label = codes "r" ++ decimal i; function = 0; host = i % 4; input = [] }

-- so many, of which the first has the number i
abbrev pub load_requests : ℕ → ℕ → List Request
load_requests i zero = []
load_requests i (suc n) = load_request i ∷ load_requests (i + 1) n

abbrev pub load_plan : ℕ → Plan
load_plan n = record { hosts = 4; workers = 2; keys = counter ∷ []; functions = bumps ∷ []; requests = load_requests 0 n }
