-- Where a piece is in its replica fits 32 bits. This project's own.
use Rattle.std.specs.Prelude.{◌<◌, ◌^◌}
use Rattle.faaslet_meaning.specs.declared.linear.Home.{Home}
use Rattle.faaslet_meaning.specs.declared.linear.Home.TheVariants.{Private, Shared}

abbrev pub IsNear : Home → Type 0
IsNear Private = Unit {0}
IsNear (Shared place off) = off < 2 ^ 32
