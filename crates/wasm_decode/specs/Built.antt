-- What has been read of the sections of a module. This project's own.
use Rattle.std.specs.Prelude.{◌≡◌, ℕ, List}
use Rattle.faaslet_meaning.specs.Productions.{IsMany, Fronts}
use Rattle.faaslet_meaning.specs.Grammar.{Section, IsSection, IsRising, Holds}
use Rattle.wasm_decode.specs.declared.sections.SoFar.{SoFar}
use Rattle.wasm_decode.specs.Sections.{end_of}

-- the body begins with sections that stand in order and hold what is built, and the rest is behind them
pub record Built (body rest : List ℕ) (s : SoFar) : Type 0 where
  pub sections : List Section
  pub read : Fronts (IsMany IsSection sections) body rest
  pub rising : IsRising 0 sections
  pub last : end_of 0 sections ≡ s.last
  pub holds : Holds sections s.built
