use Rattle.std.proofs.Common.{◌≡◌, drop, map}
use Rattle.session_meaning.specs.SessionFile as file
use Rattle.session_file.specs.Grown.{Grown}
use Rattle.session_file.specs.Texts.{function_text_of}
use Rattle.session_file.proofs.fill.entitle_all.Given as goal

-- the rest decides
abbrev pub invariant-loop-f : goal.invariant-loop-f
invariant-loop-f l = record {
  sizes : Grown 0 0 0 l.initial.registry l.registry;
  rest :
      file.in_turn l.f file.entitle l.registry (map function_text_of (drop l.f l.functions))
      ≡ file.in_turn 0 file.entitle l.initial.registry (map function_text_of l.functions);
}
