use Rattle.std.proofs.Common.{◌≡◌, ◌<◌, [], ◌∷◌, ◌++◌, Some, ap, arith, length, refl, rules, slice_get, subst, ◌∙◌}
use Rattle.std.proofs.lemmas.Option.{slice_get_within}
use Rattle.session_meaning.specs.declared.event.Event.TheVariants.{Take}
use Rattle.session_meaning.specs.OpenCall.{opened}
use Rattle.world_core.specs.Living.{world_of}
use Rattle.world_core.specs.Played.{IsAt}
use Rattle.world_core.proofs.Entering.{entered, made_of}
use Rattle.world_core.proofs.Standing.{take_step}
use Rattle.world_core.proofs.Takes.{comes_by, function_taken, job_fits, keeps_taken, queued_so_far}
use Rattle.world_core.proofs.Whys.{says_free}
use Rattle.world_core.proofs.running.Running.enter.Goals as goal

pub hand_out-job-requires-clause-queued : goal.hand_out-job-requires-clause-queued
hand_out-job-requires-clause-queued c = queued_so_far c.args.self.now.protos.now (world_of c.args.self.now) c.args.self.now c.args.call c.args.place c.requires.lives.settling.keeps c.requires.place

pub begin-at-requires-clause-function : goal.begin-at-requires-clause-function
begin-at-requires-clause-function c =
    let r = c.args.self.now in
    let settling = c.requires.lives.settling in
    let h = c.hand_out-job.ensures in
    let g = function_taken r.protos.now r.events.items (world_of r) r c.args.call c.args.host c.args.faaslet c.hand_out-job.result c.hand_out-job.new.self c.hand_out-job.new.faaslet settling.formed (made_of r settling) settling.keeps h in
    let many = ap (λ s. length s.protos.now.functions) h.rest in
    let number = h.function in
    let l = slice_get_within r.protos.now.functions h.r.function g.1 g.2 in
    omega (arith, many, number, l)

pub begin-at-requires-clause-job : goal.begin-at-requires-clause-job
begin-at-requires-clause-job c =
    let r = c.args.self.now in
    let settling = c.requires.lives.settling in
    let h = c.hand_out-job.ensures in
    job_fits r.protos.now r.events.items (world_of r) r c.args.call c.args.host c.args.faaslet c.hand_out-job.result c.hand_out-job.new.self c.hand_out-job.new.faaslet settling.formed (made_of r settling) settling.keeps h c.hand_out-job.new.self.protos.now (ap (λ s. s.protos.now) h.rest)

pub returns : goal.returns
returns c =
    let r = c.args.self.now in
    let plan = r.protos.now in
    let w = world_of r in
    let settling = c.requires.lives.settling in
    let h = c.hand_out-job.ensures in
    let g = function_taken plan r.events.items w r c.args.call c.args.host c.args.faaslet c.hand_out-job.result c.hand_out-job.new.self c.hand_out-job.new.faaslet settling.formed (made_of r settling) settling.keeps h in
    let many = ap (λ t. length t.records) settling.keeps.table in
    let hosts = ap (λ t. t.hosts) settling.keeps.table in
    let call_there : c.args.call < length w.table.records = omega (arith, many) in
    let host_there : c.args.host < w.table.hosts = omega (arith, hosts) in
    let free = says_free w (λ q. q.call) r.floor.queued.items settling.keeps.floor.queued c.args.call c.args.host c.args.place call_there host_there c.requires.place in
    let function_at : slice_get c.hand_out-job.new.self.protos.now.functions c.hand_out-job.result.function ≡ Some g.1 = ap (λ s. slice_get s.protos.now.functions c.hand_out-job.result.function) h.rest ∙ ap (slice_get plan.functions) h.function ∙ g.2 in
    let is_at = subst (λ input. IsAt (opened g.1.function input c.args.host) c.begin-at.new.faaslet c.begin-at.result) h.input (c.begin-at.ensures g.1 c.args.host function_at) in
    let comes = comes_by r c.hand_out-job.new.self c.seat.new.self c.remove_waiting.new.self c.push.new.self c.args.call c.args.place _ h.rest c.remove_waiting.ensures.queued c.remove_waiting.ensures.rest c.seat.ensures.seats c.seat.ensures.players c.seat.ensures.rest in
    let keeps = keeps_taken plan r.events.items w settling.formed (made_of r settling) r settling.keeps c.args.call c.args.host c.args.place c.requires.place free h.r g.0 g.1 g.2 _ _ refl refl is_at (ap (λ t. t.table) c.seat.ensures.rest.table ∙ h.table) comes in
    let pushed : c.push.new.self.items ≡ c.seat.new.self.events.items ++ Take c.args.call c.args.host ∷ [] = search rules in
    entered _ r _ _ settling free (c.seat.ensures.rest.protos ∙ ap (λ s. s.protos) h.rest) (pushed ∙ ap (λ v. v.items ++ Take c.args.call c.args.host ∷ []) (c.seat.ensures.rest.events ∙ ap (λ s. s.events) h.rest)) (take_step plan w c.args.call c.args.host h.r g.0) keeps
