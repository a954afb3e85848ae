use Rattle.std.proofs.Common.{◌≡◌, take, map, string_bytes}
use Rattle.session_file.specs.Texts.{function_text_of}
use Rattle.session_file.proofs.plan.paths_of.Given as goal

-- the paths so far
abbrev pub invariant-loop-function : goal.invariant-loop-function
invariant-loop-function l = map (λ s. string_bytes s) l.paths.items ≡ map (λ f. f.path) (map function_text_of (take l.function-index l.functions))
