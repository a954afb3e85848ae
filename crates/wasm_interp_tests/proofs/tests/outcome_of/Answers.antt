use Rattle.std.proofs.Common.{[], sym, ◌∙◌}
use Rattle.faaslet_meaning.specs.Parse.{tree_of}
use Rattle.wasm_interp.proofs.Granting.{agrees_none}
use Rattle.wasm_interp_tests.proofs.Trying.{first_type, indices, entry_is}
use Rattle.wasm_interp_tests.proofs.tests.outcome_of.Goals as goal

pub begin-requires-clause-indices : goal.begin-requires-clause-indices
begin-requires-clause-indices c = indices c.in_ok-code.code c.args.code.items c.in_ok-code.ensures

pub begin-requires-clause-entry : goal.begin-requires-clause-entry
begin-requires-clause-entry c = (first_type, 2, tree_of c.args.code.items, entry_is c.in_ok-code.code c.args.code.items c.in_ok-code.ensures)

pub run-event-requires : goal.run-event-requires
run-event-requires c = (c.in_ok-code.code, [], c.args.fuel, _, c.begin.ensures.begun [] first_type 2 (tree_of c.args.code.items) (agrees_none c.in-Ok.machine.writable c.in-Ok.ensures.none) (entry_is c.in_ok-code.code c.args.code.items c.in_ok-code.ensures))
