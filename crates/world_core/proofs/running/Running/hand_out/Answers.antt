use Rattle.std.proofs.Common.{◌≡◌, ◌≤◌, ap, arith, length, refl, sym, ◌∙◌}
use Rattle.world_core.proofs.Finding.{front_of, some_same}
use Rattle.world_core.proofs.running.Running.hand_out.Goals as goal

pub returns : goal.returns
returns c =
    let made = c.in-Some.ensures.0 in
    let h = c.in-Some.ensures.1 in
    let held = c.record_of-known.ensures in
    let same : c.record_of-known.result.now ≡ h.of = some_same (sym held.there ∙ h.there) in
    let short = held.held.small.input in
    let len = ap (λ r. length r.input) same in
    let number = h.len_so in
    let few : c.in-Some.job.len ≤ 65536 = omega (arith, short, len, number) in
    let long = c.input_mut.ensures.long in
    let bytes = ap length c.input_mut.ensures.bytes in
    let known = held.held.function in
    let function = ap (λ r. r.function) same in
    record {
      r = h.of;
      there = h.there;
      function = h.function_so;
      known = omega (arith, known, function);
      fuel = h.fuel_so;
      room = h.room_so;
      few = few;
      input = front_of c.in-Some.job.len (length c.args.faaslet.now.input) h.of.input _ _ c.take_this.new.input h.len_so (omega (arith, few, long, bytes)) h.input_so;
      machine = refl;
      table = made.did.after_so 0;
      rest = refl;
    }
