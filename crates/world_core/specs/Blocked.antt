-- The calls that are kept back among the first so many that are open. This project's own.
use Rattle.std.specs.Prelude.{◌≡◌, ℕ, List, filter_map, map, take}
use Rattle.session_meaning.specs.World.{World}
use Rattle.session_report.specs.Told.{blocked_at, told_of}
use Rattle.session_report.specs.declared.reported.Blocked.{Blocked}
use Rattle.world_core.specs.declared.player.Player.{Player}

abbrev pub BlockedTo : World → List Player → ℕ → List Blocked → Type 0
BlockedTo w players n all = map told_of all ≡ filter_map (blocked_at w) (map (λ (p : Player). p.call) (take n players))
