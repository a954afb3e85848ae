use Rattle.std.proofs.Common.{◌≡◌, drop}
use Rattle.std.specs.Prelude.{◌==◌}
use Rattle.std.specs.List.{position_from}
use Rattle.faaslet_run.specs.Counted.{place_of}
use Rattle.faaslet_run.proofs.grants.place_of.Given as goal

abbrev pub invariant-grants : goal.invariant-grants
invariant-grants l = position_from (λ g. g.key == l.key) l.place (drop l.place l.grants) ≡ place_of l.grants l.key
