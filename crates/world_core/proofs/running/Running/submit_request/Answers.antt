-- The request is one of the plan, and its call comes behind the others.
use Rattle.world_core.proofs.Requests.{one_request, request_shown}
use Rattle.world_core.proofs.running.Running.submit_request.Goals as goal

pub submit_request-requires-clause-function : goal.submit_request-requires-clause-function
submit_request-requires-clause-function c = (request_shown c.args.self.now.protos.now c.args.request c.args.self.now c.requires.so_far c.requires.within c.registry.result.now c.request_plan-plan.result c.registry.ensures.plan c.request_plan-plan.ensures).function

pub submit_request-requires-clause-host : goal.submit_request-requires-clause-host
submit_request-requires-clause-host c = (request_shown c.args.self.now.protos.now c.args.request c.args.self.now c.requires.so_far c.requires.within c.registry.result.now c.request_plan-plan.result c.registry.ensures.plan c.request_plan-plan.ensures).host

pub submit_request-requires-clause-input : goal.submit_request-requires-clause-input
submit_request-requires-clause-input c = (request_shown c.args.self.now.protos.now c.args.request c.args.self.now c.requires.so_far c.requires.within c.registry.result.now c.request_plan-plan.result c.registry.ensures.plan c.request_plan-plan.ensures).input

pub returns-clause-one_more : goal.returns-clause-one_more
returns-clause-one_more c =
    one_request c.args.self.now.protos.now c.args.request c.args.self.now c.requires.so_far c.requires.within c.registry.result.now c.request_plan-plan.result c.registry.ensures.plan c.request_plan-plan.ensures
    c.submit_request.new.self c.make_place.new.self c.add_waiting.new.self c.in_ok-call.call c.in_ok-call.ensures.ok c.make_place.ensures.same c.make_place.ensures.rest c.add_waiting.ensures.queued c.add_waiting.ensures.rest
