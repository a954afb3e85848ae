use Rattle.std.proofs.Common.{◌≡◌, drop, map}
use Rattle.session_meaning.specs.SessionFile as file
use Rattle.session_file.specs.Grown.{Grown}
use Rattle.session_file.specs.Texts.{grant_text_of}
use Rattle.session_file.proofs.fill.grant_all.Given as goal

-- the rest decides
abbrev pub invariant-loop-one : goal.invariant-loop-one
invariant-loop-one l = record {
  sizes : Grown 0 0 0 l.initial.registry l.registry;
  rest :
      file.in_turn l.one-index (file.grant l.f) l.registry (map grant_text_of (drop l.one-index l.grants))
      ≡ file.in_turn 0 (file.grant l.f) l.initial.registry (map grant_text_of l.grants);
}
