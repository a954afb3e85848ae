use Rattle.std.proofs.Common.{◌≡◌, drop, map}
use Rattle.session_meaning.specs.SessionFile as file
use Rattle.session_file.specs.Grown.{Grown}
use Rattle.session_file.proofs.fill.allow_all.Given as goal

-- the rest decides
abbrev pub invariant-loop-callee : goal.invariant-loop-callee
invariant-loop-callee l = record {
  sizes : Grown 0 0 0 l.initial.registry l.registry;
  rest :
      file.in_turn l.callee-index (file.allow l.f) l.registry (map (λ s. s.now) (drop l.callee-index l.calls))
      ≡ file.in_turn 0 (file.allow l.f) l.initial.registry (map (λ s. s.now) l.calls);
}
