use Rattle.std.proofs.Common.{◌≡◌, ◌≤◌, [], IsTrue, length}
use Rattle.std.specs.Prelude.{IsSome}
use Rattle.session_meaning.specs.WellFormed.{WellFormedDraft, function_names}
use Rattle.faasm_top.specs.Commands.{texts}
use Rattle.faasm_top.proofs.Modules.{Filled}
use Rattle.faasm_top.proofs.Sessions.{SoFar}
use Rattle.faasm_top.proofs.session_modules.take_modules.Given as goal

abbrev pub invariant-functions : goal.invariant-functions
invariant-functions g l = record {
  open_still : IsTrue (g.F.Shelf.is_open l.shelf);
  ended : IsSome (g.F.Shelf.told l.initial.shelf) → g.F.Shelf.rest l.shelf ≡ [];
  told : g.F.Shelf.told l.shelf ≡ g.F.Shelf.told l.initial.shelf;
  counted : g.F.Shelf.faults l.initial.shelf ≤ g.F.Shelf.faults l.shelf;
  names : function_names l.registry ≡ function_names l.initial.registry;
  count : length l.registry.functions ≡ length l.initial.registry.functions;
  few : l.before ≤ 16777216;
  so_far : SoFar (g.F.Shelf.told l.initial.shelf) (function_names l.initial.registry) (texts l.paths) l.f l.before;
  formed : WellFormedDraft l.registry;
  filled : Filled (g.F.Shelf.told l.initial.shelf) (texts l.paths) l.f l.initial.registry l.registry;
}
