use Rattle.std.proofs.Common.{[], sym, ◌∙◌}
use Rattle.faaslet_meaning.specs.Parse.{tree_of}
use Rattle.wasm_interp.proofs.Granting.{agrees_none}
use Rattle.wasm_interp_tests.proofs.Trying.{first_type, indices, entry_is, piece_stands}
use Rattle.wasm_interp_tests.proofs.tests.piece_of.Goals as goal

pub begin-requires-clause-indices : goal.begin-requires-clause-indices
begin-requires-clause-indices c = indices c.in_ok-code.code c.args.code.items c.in_ok-code.ensures

pub begin-requires-clause-entry : goal.begin-requires-clause-entry
begin-requires-clause-entry c = (first_type, 2, tree_of c.args.code.items, entry_is c.in_ok-code.code c.args.code.items c.in_ok-code.ensures)

pub run-requires : goal.run-requires
run-requires c = (c.in_ok-code.code, [], 9, _, c.begin.ensures.begun [] first_type 2 (tree_of c.args.code.items) (agrees_none c.in-Ok.machine.writable c.in-Ok.ensures.none) (entry_is c.in_ok-code.code c.args.code.items c.in_ok-code.ensures))

pub resume_piece-requires : goal.resume_piece-requires
resume_piece-requires c =
    let s = c.begin.ensures.begun [] first_type 2 (tree_of c.args.code.items) (agrees_none c.in-Ok.machine.writable c.in-Ok.ensures.none) (entry_is c.in_ok-code.code c.args.code.items c.in_ok-code.ensures) in
    let p = piece_stands _ _ c.in_ok-code.code [] 9 _ c.run.result c.in-Piece.ask c.in-Piece.is (c.run.ensures.ran c.in_ok-code.code [] 9 _ s) in
    (c.in_ok-code.code, [], 9, p.0, p.1, p.2)

pub run-requires-in-Piece : goal.run-requires-in-Piece
run-requires-in-Piece c =
    let s = c.begin.ensures.begun [] first_type 2 (tree_of c.args.code.items) (agrees_none c.in-Ok.machine.writable c.in-Ok.ensures.none) (entry_is c.in_ok-code.code c.args.code.items c.in_ok-code.ensures) in
    let p = piece_stands _ _ c.in_ok-code.code [] 9 _ c.run.result c.in-Piece.ask c.in-Piece.is (c.run.ensures.ran c.in_ok-code.code [] 9 _ s) in
    (c.in_ok-code.code, [], 9, _, c.resume_piece.ensures.done c.in_ok-code.code [] 9 p.0 p.1 p.2)
