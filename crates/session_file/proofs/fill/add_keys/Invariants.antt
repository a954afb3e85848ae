use Rattle.std.proofs.Common.{◌≡◌, drop, length, map}
use Rattle.session_meaning.specs.SessionFile as file
use Rattle.session_file.specs.Grown.{Grown}
use Rattle.session_file.specs.Texts.{key_text_of}
use Rattle.session_file.proofs.fill.add_keys.Given as goal

-- the rest decides, and places are those of the registry
abbrev pub invariant-loop-key : goal.invariant-loop-key
invariant-loop-key l = record {
  place : l.key-index ≡ length l.registry.keys;
  sizes : Grown l.key-index 0 0 l.initial.registry l.registry;
  rest :
      file.in_turn l.key-index file.add_key l.registry (map key_text_of (drop l.key-index l.keys))
      ≡ file.in_turn 0 file.add_key l.initial.registry (map key_text_of l.keys);
}
