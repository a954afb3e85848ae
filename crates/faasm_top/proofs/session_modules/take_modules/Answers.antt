use Rattle.std.proofs.Common.{◌∙◌, ◌<◌, arith, length, subst, sym}
use Rattle.std.specs.Prelude.{IsSome}
use Rattle.faasm_top.specs.Commands.{texts}
use Rattle.faasm_top.proofs.Modules.{formed_still, one_filled}
use Rattle.faasm_top.proofs.Sessions.{handed_on, stops_later, refused_module, next_module, moved_given, moved_refusal, moved_taken, text_at}
use Rattle.faasm_top.proofs.session_modules.take_modules.Goals as goal

pub returns-in_err-before-clause-stopped : goal.returns-in_err-before-clause-stopped
returns-in_err-before-clause-stopped g c =
    let inv = c.functions.invariant in
    let within : c.functions.f < length c.args.paths.now = omega (arith, c.functions-test.true, c.functions-f-end.ensures.value, c.requires.each) in
    handed_on c.from_residual.result c.in_err-before.field-0.0 _ c.from_residual.ensures.1
    (stops_later c.in_err-before.field-0.0 _ _ _ _ _ _ inv.counted
    (λ line refuses. refused_module _ _ c.args.paths.now c.functions.f c.functions.before c.index-paths-f.result line within c.index-paths-f.is inv.so_far
    (moved_refusal _ _ _ _ c.functions.f c.functions.before _ _ line inv.told inv.names c.as_str-path.ensures.value refuses))
    c.in_err-before.ensures.stopped)

pub functions-preserved : goal.functions-preserved
functions-preserved g c =
    let inv = c.functions.invariant in
    let within : c.functions.f < length c.args.paths.now = omega (arith, c.functions-test.true, c.functions-f-end.ensures.value, c.requires.each) in
    record {
      open_still = c.in_ok-before.ensures.open;
      told = c.take_module.ensures.told ∙ inv.told;
      counted = omega (arith, inv.counted, c.take_module.ensures.counted);
      names = c.take_module.ensures.names ∙ inv.names;
      count = c.take_module.ensures.functions ∙ inv.count;
      few = c.in_ok-before.ensures.few;
      so_far = next_module _ _ c.args.paths.now c.functions.f c.functions.before c.in_ok-before.field-0 c.index-paths-f.result within c.index-paths-f.is inv.so_far
          (moved_taken _ _ c.functions.before c.in_ok-before.field-0 _ _ inv.told c.as_str-path.ensures.value c.in_ok-before.ensures.taken);
      ended = λ some. c.in_ok-before.ensures.ended (subst IsSome (sym inv.told) some);
      formed = formed_still _ c.functions.f c.functions.registry c.take_module.new.registry c.in_ok-before.ensures.given.gives inv.formed;
      filled = one_filled _ (texts c.args.paths.now) c.functions.f _ c.functions.registry c.take_module.new.registry _ (omega (arith, within, c.requires.each))
          (text_at c.args.paths.now c.functions.f c.index-paths-f.result within c.index-paths-f.is)
          (moved_given _ _ c.functions.f c.functions.registry c.take_module.new.registry _ _ inv.told c.as_str-path.ensures.value c.in_ok-before.ensures.given) inv.filled;
    }
