use Rattle.std.proofs.Common.{arith, refl, subst, sym}
use Rattle.proto_faaslet.specs.Entries.{HasRoom}
use Rattle.faaslet_run_tests.proofs.Beginning.{begins_at}
use Rattle.faaslet_run_tests.proofs.calls.begin.Goals as goal

pub start-requires-clause-room : goal.start-requires-clause-room
start-requires-clause-room c = (let (code, is, room) = c.requires.snapshot in subst (HasRoom c.args.faaslet.now.machine) (sym is.code) room)

pub start-requires-clause-pages : goal.start-requires-clause-pages
start-requires-clause-pages c = (let (code, is, room) = c.requires.snapshot in let few = c.requires.pages in let same = is.quota_is in omega (arith, few, same))

pub start-requires-clause-grants : goal.start-requires-clause-grants
start-requires-clause-grants c = c.requires.grants

pub returns : goal.returns
returns c = (let (code, is, room) = c.requires.snapshot in begins_at code 1 c.args.fuel c.args.proto.now is c.start.new.self c.args.fuel 5 64 _ _ c.args.faaslet.now.input refl c.start.ensures.started)
