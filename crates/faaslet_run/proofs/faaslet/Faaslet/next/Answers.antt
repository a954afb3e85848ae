use Rattle.std.proofs.Common.{ℕ, List, refl, sym, subst}
use Rattle.faaslet_run.specs.Turns.{Tells}
use Rattle.faaslet_run.specs.declared.faaslet.Faaslet.{Faaslet}
use Rattle.region_map.specs.Segments.{Segmented}
use Rattle.wasm_interp.specs.declared.machine.Machine.{Machine}
use Rattle.faaslet_run.proofs.Standing.{same_rooms, rooms_then}
use Rattle.faaslet_run.proofs.Telling.{told_at, not_told, told_again}
use Rattle.faaslet_run.proofs.faaslet.Faaslet.next.Goals as goal

pub turns-init : goal.turns-init
turns-init c = record {
  some = c.requires;
  goes = λ j start t p a ready. record { progress = p; at = a; ready = ready };
  again = λ turn e. refl;
  rooms = same_rooms c.args.self.now;
}

pub run_on-requires-clause-at : goal.run_on-requires-clause-at
run_on-requires-clause-at c = c.turns.invariant.some

pub turns-preserved : goal.turns-preserved
turns-preserved c = record {
  some =
      let (j, start, t, p, a) = c.turns.invariant.some in
      let g = c.run_on.ensures.goes j start t p a in
      (j, start, t, g.progress, g.at);
  goes = λ j start t p a ready. (let g = c.turns.invariant.goes j start t p a ready in c.run_on.ensures.goes j start t g.progress g.at);
  again = λ turn e. absurd (not_told c.turns.self c.args.self.now turn (c.turns.invariant.again turn e) e (c.runs.ensures.0 c.turns-test.true));
  rooms = rooms_then _ _ _ c.turns.invariant.rooms c.run_on.ensures.rooms;
}

pub returns-clause-tells : goal.returns-clause-tells
returns-clause-tells c = λ j start t p a ready.
    let f = c.turns.self in
    let g = told_at f j start t c.told.result c.told.ensures (c.turns.invariant.goes j start t p a ready) in
    let b = subst (λ (bytes : List ℕ). (let x : Faaslet = record f { scratch = bytes } in Tells c.told.result x j start t)) (sym c.take_scratch.ensures.scratch) g in
    subst (λ (m : Machine Segmented). (let x : Faaslet = record f { machine = m; scratch = c.take_scratch.new.scratch } in Tells c.told.result x j start t)) (sym c.take_scratch.ensures.machine) b

pub returns-clause-again : goal.returns-clause-again
returns-clause-again c = λ turn e. told_again c.turns.self c.args.self.now turn c.told.result c.take_scratch.new.machine c.take_scratch.new.scratch (c.turns.invariant.again turn e) e c.told.ensures c.take_scratch.ensures.machine c.take_scratch.ensures.scratch
