use Rattle.std.proofs.Common.{◌≡◌, ◌++◌, map, take}
use Rattle.wasm_validate.proofs.spaces.add_globals.Given as goal

abbrev pub invariant-loop-global : goal.invariant-loop-global
invariant-loop-global l = l.globals.items ≡ l.initial.globals.items ++ map (λ d. d.kind) (take l.global-index l.defined)
