use Rattle.std.proofs.Common.{arith}
use Rattle.faaslet_meaning.specs.Parse.{tree_of}
use Rattle.wasm_interp_tests.proofs.Trying.{first_type, entry_is}
use Rattle.wasm_interp_tests.proofs.Borders.{roomy, agrees_now}
use Rattle.wasm_interp_tests.proofs.piece_tests.machine_at.Goals as goal

pub begin-requires-clause-room : goal.begin-requires-clause-room
begin-requires-clause-room c = (omega arith, roomy c.in-Ok.machine c.allow.new.self c.args.writable c.allow.ensures.only c.in-Ok.ensures.made.2)

pub begin-requires-clause-entry : goal.begin-requires-clause-entry
begin-requires-clause-entry c = let (items, is) = c.requires in (first_type, 2, tree_of items, entry_is c.args.code.now items is)

pub returns-in-Ok : goal.returns-in-Ok
returns-in-Ok c =
    let (items, is) = c.requires in
    λ grants agrees. (_, c.begin.ensures.begun grants first_type 2 (tree_of items) (agrees_now c.in-Ok.machine c.allow.new.self c.args.writable c.allow.ensures.only grants agrees) (entry_is c.args.code.now items is))
