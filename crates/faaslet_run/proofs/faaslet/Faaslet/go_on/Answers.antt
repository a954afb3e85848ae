use Rattle.std.proofs.Common.{◌≤◌, ◌+◌, ◌++◌, length, take, sym, ap, ◌∙◌, subst}
use Rattle.region_map.specs.Segments.{Segmented}
use Rattle.wasm_interp.specs.declared.machine.Machine.{Machine}
use Rattle.faaslet_run.specs.Hosts.{HasResult}
use Rattle.faaslet_run.specs.declared.faaslet.Faaslet.{Faaslet}
use Rattle.faaslet_run.proofs.Placing.{done_fits, done_result}
use Rattle.faaslet_run.proofs.faaslet.Faaslet.go_on.Goals as goal

pub append_front-requires : goal.append_front-requires
append_front-requires c =
    let (j, start, t, p, h) = c.requires in
    let fits = done_fits c.args.self.now j start t p c.args.call.stage c.args.value h in
    subst (λ n. length c.args.self.now.output + length (take n c.args.self.now.machine.scratch) ≤ 65536) (sym c.added.ensures) fits

pub resume-requires : goal.resume-requires
resume-requires c =
    let (j, start, t, p, h) = c.requires in
    let f = c.args.self.now in
    let r = done_result f j start t p c.args.call.stage c.args.value h c.append_front.new.output (c.append_front.ensures.output ∙ ap (λ n. f.output ++ take n f.machine.scratch) c.added.ensures) in
    (j, start, t, p, subst (λ (m : Machine Segmented). (let x : Faaslet = record f { output = c.append_front.new.output; machine = m } in HasResult x j start t p c.args.value)) (sym c.append_front.ensures.machine) r)

pub returns-clause-goes : goal.returns-clause-goes
returns-clause-goes c = λ j start t p h.
    let f = c.args.self.now in
    let r = done_result f j start t p c.args.call.stage c.args.value h c.append_front.new.output (c.append_front.ensures.output ∙ ap (λ n. f.output ++ take n f.machine.scratch) c.added.ensures) in
    c.resume.ensures.goes j start t p (subst (λ (m : Machine Segmented). (let x : Faaslet = record f { output = c.append_front.new.output; machine = m } in HasResult x j start t p c.args.value)) (sym c.append_front.ensures.machine) r)
