use Rattle.faaslet_meaning.specs.Configuration.{goes}
use Rattle.wasm_interp_tests.proofs.Trying.{piece_stands}
use Rattle.wasm_interp_tests.proofs.piece_tests.after_the_piece.Goals as goal

pub machine_at-requires : goal.machine_at-requires
machine_at-requires c = (c.args.code.items, c.in_ok-code.ensures)

pub run-requires : goal.run-requires
run-requires c =
    let (grants, agrees) = c.requires in
    let s = c.in_ok-machine.ensures grants agrees in
    (c.in_ok-code.code, grants, 10, goes s.0, s.1)

pub resume_piece-requires : goal.resume_piece-requires
resume_piece-requires c =
    let (grants, agrees) = c.requires in
    let s = c.in_ok-machine.ensures grants agrees in
    let p = piece_stands _ _ c.in_ok-code.code grants 10 _ c.run.result _ c.in-Piece.is (c.run.ensures.ran c.in_ok-code.code grants 10 (goes s.0) s.1) in
    (c.in_ok-code.code, grants, 10, p.0, p.1, p.2)

pub run-event-requires : goal.run-event-requires
run-event-requires c =
    let (grants, agrees) = c.requires in
    let s = c.in_ok-machine.ensures grants agrees in
    let p = piece_stands _ _ c.in_ok-code.code grants 10 _ c.run.result _ c.in-Piece.is (c.run.ensures.ran c.in_ok-code.code grants 10 (goes s.0) s.1) in
    (c.in_ok-code.code, grants, 10, _, c.resume_piece.ensures.done c.in_ok-code.code grants 10 p.0 p.1 p.2)
