use Rattle.faaslet_meaning.specs.Configuration.{goes}
use Rattle.faaslet_meaning.specs.HostCalls.{input_size}
use Rattle.faasm_top_tests.proofs.Lengths.{length_stands, has_length}
use Rattle.faasm_top_tests.proofs.host_tests.answered.Goals as goal

pub resume_host-requires : goal.resume_host-requires
resume_host-requires c =
    let (grants, config, stands) = c.restore.ensures.restored.ready in
    let code = c.in-Ok.proto.code in
    let s = length_stands _ _ code grants 10 _ c.run.result _ c.in-Host.is c.if-ask-ne-INPUT_SIZE.false (c.run.ensures.ran code grants 10 (goes config) stands) in
    (code, grants, 10, s.0, input_size, s.1, has_length c.args.length c.map.result c.map.ensures.cases)

pub run-event-requires : goal.run-event-requires
run-event-requires c =
    let (grants, config, stands) = c.restore.ensures.restored.ready in
    let code = c.in-Ok.proto.code in
    let s = length_stands _ _ code grants 10 _ c.run.result _ c.in-Host.is c.if-ask-ne-INPUT_SIZE.false (c.run.ensures.ran code grants 10 (goes config) stands) in
    (code, grants, 10, _, c.resume_host.ensures.done code grants 10 s.0 input_size s.1 (has_length c.args.length c.map.result c.map.ensures.cases))
