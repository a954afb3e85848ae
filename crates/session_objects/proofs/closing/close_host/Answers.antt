-- All passes of the host's tier are back.
use Rattle.session_objects.proofs.Back.{ends_so, refilled, rows_are_back}
use Rattle.session_objects.proofs.closing.close_host.Goals as goal

pub close-requires-clause-passes : goal.close-requires-clause-passes
close-requires-clause-passes c =
    let k = c.requires.rest in
    let r = refilled c.args.from c.args.locals.now.items c.shift.new.from.items c.args.rest.behind.items c.shift.new.to.items c.shift-2.new.from.items c.args.rest.front.items c.shift-2.new.to.items k.rows_behind k.behind_so c.shift.ensures.moves c.shift-2.ensures.moves in
    rows_are_back c.args.tier c.args.from c.args.rest c.args.locals.now.items c.shift.new.from.items c.shift-2.new.to.items k r c.requires.rows

pub returns : goal.returns
returns c =
    let k = c.requires.rest in
    let r = refilled c.args.from c.args.locals.now.items c.shift.new.from.items c.args.rest.behind.items c.shift.new.to.items c.shift-2.new.from.items c.args.rest.front.items c.shift-2.new.to.items k.rows_behind k.behind_so c.shift.ensures.moves c.shift-2.ensures.moves in
    record { locals = (r.own, r.whole, r.kept, ends_so c.args.tier c.args.from c.args.rest c.args.locals.now.items c.shift.new.from.items c.shift-2.new.to.items c.close.result.items k r c.close.ensures) }
