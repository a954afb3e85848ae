-- What is served leaves objects of the same key.
use Rattle.std.proofs.Common.{◌≡◌, true, length, arith}
use Rattle.world_objects.specs.Served.{question_at}
use Rattle.world_objects_tests.specs.Ready as ready
use Rattle.world_objects_tests.proofs.Stays.{served}
use Rattle.world_objects_tests.proofs.Suited.{is_asked}
use Rattle.world_objects_tests.proofs.steps.answer.Goals as goal

pub returns-in-Ok : goal.returns-in-Ok
returns-in-Ok c =
    let o = c.args.objects.now in
    let told = c.suits.ensures in
    let test = c.if-not-suits.false in
    let so : ready.suits c.args.host c.args.ask.now (length c.args.scratch.now) ≡ true = grind (arith, told, test) in
    served o c.serve.new.self c.args.call c.args.host (question_at o c.args.ask.now c.args.scratch.now) c.requires (is_asked o c.args.host c.args.ask.now (length c.args.scratch.now) c.args.scratch.now so) c.in-Ok.ensures.after
