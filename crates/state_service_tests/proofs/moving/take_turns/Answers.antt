-- Each call finds its passes, and what stands in the end.
use Rattle.std.proofs.Common.{arith}
use Rattle.faaslet_meaning.specs.declared.ask.Move.TheVariants as move
use Rattle.region_tier.specs.Tiers.{cells_of, slots_of}
use Rattle.state_service_tests.proofs.OneKey.{has}
use Rattle.state_service_tests.proofs.Moved.{may_move, may_write, filled, pushed, written, tells, hears}
use Rattle.state_service_tests.proofs.Turns.{went, ends_in_order}
use Rattle.state_service_tests.proofs.moving.take_turns.Goals as goal

pub move_two-requires : goal.move_two-requires
move_two-requires g c = may_move _ _ _ _ 0 _ _ move.Fill c.requires.locals c.requires.globals c.requires.first.0 c.requires.first.1 (omega arith) tt

pub tell-requires-clause-from : goal.tell-requires-clause-from
tell-requires-clause-from g c =
    let d = c.move_two.ensures in
    let f = filled _ _ _ _ _ _ 0 _ _ d.0 d.1 c.requires.locals c.requires.first.0 c.requires.first.1 d.2 in
    has _ _ _ 0 _ _ c.requires.locals f.here.sees (omega arith) (λ t p a b e. tt)

pub tell-requires-clause-to : goal.tell-requires-clause-to
tell-requires-clause-to g c = has _ _ _ 1 _ _ c.requires.locals c.requires.second.0 (omega arith) (λ t p a b e. tt)

pub write_nine-requires : goal.write_nine-requires
write_nine-requires g c =
    let d = c.move_two.ensures in
    let f = filled _ _ _ _ _ _ 0 _ _ d.0 d.1 c.requires.locals c.requires.first.0 c.requires.first.1 d.2 in
    let h = hears _ _ _ _ 1 0 _ _ c.requires.second.0 f.here.sees c.tell.ensures.to in
    may_write _ (cells_of c.args.globals.now) _ (slots_of c.args.second.now.global) 1 _ c.requires.locals h.sees (omega arith)

pub tell-requires-2-clause-from : goal.tell-requires-2-clause-from
tell-requires-2-clause-from g c =
    let d = c.move_two.ensures in
    let e = c.write_nine.ensures in
    let f = filled _ _ _ _ _ _ 0 _ _ d.0 d.1 c.requires.locals c.requires.first.0 c.requires.first.1 d.2 in
    let h = hears _ _ _ _ 1 0 _ _ c.requires.second.0 f.here.sees c.tell.ensures.to in
    let w = written _ _ _ _ _ _ 1 _ _ e.0 e.1 h.sees c.requires.second.1 e.2 in
    has _ _ _ 1 _ _ c.requires.locals w.here.sees (omega arith) (λ t p a b x. tt)

pub tell-requires-2-clause-to : goal.tell-requires-2-clause-to
tell-requires-2-clause-to g c =
    let d = c.move_two.ensures in
    let f = filled _ _ _ _ _ _ 0 _ _ d.0 d.1 c.requires.locals c.requires.first.0 c.requires.first.1 d.2 in
    has _ _ _ 0 _ _ c.requires.locals (tells _ _ _ 0 _ f.here.sees c.tell.ensures.from) (omega arith) (λ t p a b e. tt)

pub move_two-requires-2 : goal.move_two-requires-2
move_two-requires-2 g c =
    let d = c.move_two.ensures in
    let e = c.write_nine.ensures in
    let x = went _ _ _ _ _ _ _ _ _ _ _ _ _ d.0 e.0 d.1 e.1 c.requires.locals c.requires.first.0 c.requires.first.1 c.requires.second.0 c.requires.second.1 d.2 c.tell.ensures.from c.tell.ensures.to e.2 c.tell-2.ensures.to in
    may_move _ _ _ _ 0 _ _ (move.Push 0 2) c.requires.locals c.requires.globals x.back.sees x.first.there.sees (omega arith) (omega arith)

pub returns-clause-first : goal.returns-clause-first
returns-clause-first g c =
    let d = c.move_two.ensures in
    let e = c.write_nine.ensures in
    let m = c.move_two-2.ensures in
    let x = went _ _ _ _ _ _ _ _ _ _ _ _ _ d.0 e.0 d.1 e.1 c.requires.locals c.requires.first.0 c.requires.first.1 c.requires.second.0 c.requires.second.1 d.2 c.tell.ensures.from c.tell.ensures.to e.2 c.tell-2.ensures.to in
    let z = pushed _ _ _ _ _ _ 0 _ _ _ m.0 m.1 x.back.sees x.first.there.sees m.2 in
    ((z.here.list, z.here.sees), (z.there.list, z.there.sees))

pub returns-clause-second : goal.returns-clause-second
returns-clause-second g c =
    let d = c.move_two.ensures in
    let e = c.write_nine.ensures in
    let x = went _ _ _ _ _ _ _ _ _ _ _ _ _ d.0 e.0 d.1 e.1 c.requires.locals c.requires.first.0 c.requires.first.1 c.requires.second.0 c.requires.second.1 d.2 c.tell.ensures.from c.tell.ensures.to e.2 c.tell-2.ensures.to in
    ((x.second.here.list, tells _ _ _ 1 _ x.second.here.sees c.tell-2.ensures.from), (_, x.second.there))

pub returns-clause-in_order : goal.returns-clause-in_order
returns-clause-in_order g c =
    let d = c.move_two.ensures in
    let e = c.write_nine.ensures in
    let m = c.move_two-2.ensures in
    let x = went _ _ _ _ _ _ _ _ _ _ _ _ _ d.0 e.0 d.1 e.1 c.requires.locals c.requires.first.0 c.requires.first.1 c.requires.second.0 c.requires.second.1 d.2 c.tell.ensures.from c.tell.ensures.to e.2 c.tell-2.ensures.to in
    let z = pushed _ _ _ _ _ _ 0 _ _ _ m.0 m.1 x.back.sees x.first.there.sees m.2 in
    ends_in_order _ _ _ _ _ _ _ _ _ _ _ _ _ _ _ _ c.requires.locals c.requires.globals x c.tell-2.ensures.from z
