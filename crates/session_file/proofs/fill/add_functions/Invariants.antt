use Rattle.std.proofs.Common.{◌≡◌, drop, length, map}
use Rattle.session_meaning.specs.SessionFile as file
use Rattle.session_file.specs.Grown.{Grown}
use Rattle.session_file.specs.Texts.{function_text_of}
use Rattle.session_file.proofs.fill.add_functions.Given as goal

-- the rest decides, and places are those of the registry
abbrev pub invariant-loop-function : goal.invariant-loop-function
invariant-loop-function l = record {
  place : l.function-index ≡ length l.registry.functions;
  sizes : Grown 0 l.function-index 0 l.initial.registry l.registry;
  rest :
      file.in_turn l.function-index file.add_function l.registry (map function_text_of (drop l.function-index l.functions))
      ≡ file.in_turn 0 file.add_function l.initial.registry (map function_text_of l.functions);
}
