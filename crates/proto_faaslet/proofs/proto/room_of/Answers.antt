use Rattle.std.proofs.Common.{◌≡◌, None, length, sym, ap, ◌∙◌, arith}
use Rattle.faaslet_meaning.specs.declared.module.Module.{Module}
use Rattle.faaslet_meaning.specs.Decoding.{first_passed}
use Rattle.proto_faaslet.proofs.Rooms.{own_globals, few_globals}
use Rattle.proto_faaslet.proofs.proto.room_of.Goals as goal

pub overflow_cast-result : goal.overflow_cast-result
overflow_cast-result c =
    let m = c.module-module.result.now in
    let limits : first_passed m ≡ None = ap first_passed c.module-module.ensures.same ∙ c.requires.limits in
    omega (arith, few_globals m limits, ap length c.as_slice.ensures)

pub returns-clause-globals : goal.returns-clause-globals
returns-clause-globals c = ap length c.as_slice.ensures ∙ ap (λ (m : Module). length m.globals) c.module-module.ensures.same ∙ sym (own_globals c.args.module.now c.requires.imports)
